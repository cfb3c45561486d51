-- Sheets add up: the sheet of two runs of roles, one after another, is the sum of their sheets; and while the roles are a 32-bit number, no sum is refused.
-- Assumes nothing.
use Rattle.std.proofs.Common.{ℕ, zero, suc, ◌+◌, ◌*◌, ◌≤◌, ◌<◌, ◌≡◌, sym, ap, ◌∙◌, List, ◌++◌, arith, add-mul, length, get_or, take, drop, length-append, length-drop}
use lib.Seq.{take-append-le, drop-append-le, drop-append-add}
use Rattle.table.specs.Privilege.{privileges}
use Rattle.table.specs.Check.{Accepted}
use Rattle.table.proofs.HowMany.{many_as, many_behind, many_most}
use Rattle.policy.specs.Roles.{stretch}
use Rattle.policy.proofs.Stretches.{stretch_within}
use Rattle.policy.proofs.Roles.{no_roles_number}
use Rattle.verdict.specs.Conditions.{Clean}
use Rattle.verdict.specs.declared.Condition.TheVariants.{InsertDelete, Chain, Cycle}
use Rattle.broken.specs.Breaks.{Breaks}
use Rattle.sheet.specs.Sheets.{RefusedRole, Has, RolesWith, mark_at, SheetOf}
use Rattle.sheet.specs.Answers.{Kept, MonthAnswer, refused as no-month, done as month-done}
use Rattle.sheet.specs.declared.Sheet.{Sheet}
use Rattle.adding.specs.Sums.{SumOf}
use Rattle.adding.specs.Answers.{DoneAt, AddAnswer, refused, done}
use Rattle.adding.specs.Steps.Checking.{Summable}
use Rattle.adding.proofs.Answers.{summable_not, no_sum_number}

module _ (ws : List ℕ) (a b : ℕ) (marks other : List ℕ) (size : length marks ≡ a * privileges ws) where
  abbrev v : ℕ
  v = privileges ws

  -- the roles of the first run, and those of the second
  stretch_first : (r : ℕ) → r < a → stretch ws r (marks ++ other) ≡ stretch ws r marks
  stretch_first r l =
      let w = stretch_within r a v l in
      rw (drop-append-le (r * v) marks other (omega arith)) (take-append-le v (drop (r * v) marks) other (omega (arith, length-drop (r * v) marks)))

  stretch_second : (r : ℕ) → stretch ws (a + r) (marks ++ other) ≡ stretch ws r other
  stretch_second r = rw (add-mul a r v, ← size) (ap (λ (t : List ℕ). take v t) (drop-append-add marks other (r * v)))

  -- how many have something adds up
  pub roles_add : (P : List ℕ → Type 0) {c k : ℕ} → RolesWith ws a marks P c → RolesWith ws b other P k → RolesWith ws (a + b) (marks ++ other) P (c + k)
  roles_add P h k =
      many_behind a (λ r l p. rw (stretch_second r) at p) (λ r l p. rw (stretch_second r) p)
      (many_as (λ r l p. rw (stretch_first r l) p) (λ r l p. rw (stretch_first r l) at p) h) k

  -- sheets add up
  pub sheets_add : {s t r : Sheet} {x y z : List ℕ} → SheetOf ws a marks s x → SheetOf ws b other t y → SumOf ws s x t y r z → SheetOf ws (a + b) (marks ++ other) r z
  sheets_add {z = z} f g o = record {
    figures = rw o.figures (record {
      clean = roles_add (Has ws (Clean ws)) f.figures.clean g.figures.clean;
      insert_delete = roles_add (Has ws (Breaks ws InsertDelete)) f.figures.insert_delete g.figures.insert_delete;
      chain = roles_add (Has ws (Breaks ws Chain)) f.figures.chain g.figures.chain;
      cycle = roles_add (Has ws (Breaks ws Cycle)) f.figures.cycle g.figures.cycle;
      refused = roles_add (RefusedRole ws) f.figures.refused g.figures.refused;
    });
    numbers = record { each = λ p k l i. rw (o.numbers.each (3 * p + k) (omega arith)) (roles_add (Has ws (λ m. get_or m p 0 ≡ mark_at k)) (f.numbers.each p k l i) (g.numbers.each p k l i)) };
    leaders = o.leaders;
  }

-- a month's call that was done
record Done (ws : List ℕ) (roles : ℕ) (marks counts : List ℕ) (s : Sheet) (after : List ℕ) : Type 0 where
  accepted : Accepted ws
  size : length marks ≡ roles * privileges ws
  room : 3 * privileges ws ≤ length counts
  sheet : SheetOf ws roles marks s after
  kept : Kept (3 * privileges ws) counts after

month : {ws : List ℕ} {roles : ℕ} {marks counts : List ℕ} {s : Sheet} {after : List ℕ} → MonthAnswer ws roles marks counts s after → s.number ≡ 0
    → Done ws roles marks counts s after
month (no-month n e h) z = absurd (no_roles_number n (sym (ap (λ (s : Sheet). s.number) e) ∙ z))
month (month-done a s r n p c k) z = record { accepted = a; size = s; room = r; sheet = c; kept = k }

-- both sheets were done
both_done : (s t : Sheet) → s.number ≡ 0 → t.number ≡ 0 → (k : ℕ) → k < 2 → DoneAt s t k
both_done s t e f zero l = e
both_done s t e f (suc zero) l = f
both_done s t e f (suc (suc k)) l = absurd (omega arith)

-- two months' calls that were done, and the sum of their sheets
module _ {ws : List ℕ} {a b : ℕ} {marks other counts lent : List ℕ} {s t r : Sheet} {x y z : List ℕ} (f : MonthAnswer ws a marks counts s x) (e : s.number ≡ 0)
    (g : MonthAnswer ws b other lent t y) (h : t.number ≡ 0) (o : AddAnswer ws s x t y r z) where
  one : Done ws a marks counts s x
  one = month f e

  two : Done ws b other lent t y
  two = month g h

  summable : a + b < 4294967296 → Summable ws s x t y
  summable l = record {
    accepted = one.accepted;
    whole = record { own = omega (arith, one.room, one.kept.size); other = omega (arith, two.room, two.kept.size) };
    done = both_done s t e h;
    held = λ p i. record {
      numbers = λ j k m. omega (arith, many_most (one.sheet.numbers.each p k j m), many_most (two.sheet.numbers.each p k j m));
      figures = λ j. record {
        clean = omega (arith, many_most one.sheet.figures.clean, many_most two.sheet.figures.clean);
        insert_delete = omega (arith, many_most one.sheet.figures.insert_delete, many_most two.sheet.figures.insert_delete);
        chain = omega (arith, many_most one.sheet.figures.chain, many_most two.sheet.figures.chain);
        cycle = omega (arith, many_most one.sheet.figures.cycle, many_most two.sheet.figures.cycle);
        refused = omega (arith, many_most one.sheet.figures.refused, many_most two.sheet.figures.refused);
      };
    };
  }

  -- if both runs together are a 32-bit number of roles, their sheets can be added
  pub never_over : a + b < 4294967296 → r.number ≡ 0
  never_over l = go o
    where
      go : AddAnswer ws s x t y r z → r.number ≡ 0
      go (refused n i j) = absurd (summable_not (summable l) n)
      go (done c w d m i j q) = i

  -- the sum is what one call on both runs, one after another, answers, and the counts hold what that call leaves there
  pub month_adds : r.number ≡ 0 → MonthAnswer ws (a + b) (marks ++ other) counts r z
  month_adds i = go o
    where
      go : AddAnswer ws s x t y r z → MonthAnswer ws (a + b) (marks ++ other) counts r z
      go (refused n j k) = absurd (no_sum_number n (sym (ap (λ (s : Sheet). s.number) j) ∙ i))
      go (done c w d m n p q) =
          let k = q.numbers.kept in
          month-done c (length-append marks other ∙ omega (arith, one.size, two.size, add-mul a b (privileges ws))) one.room n p
          (sheets_add ws a b marks other one.size one.sheet two.sheet q) (record { size = k.size ∙ one.kept.size; rest = k.rest ∙ one.kept.rest })
