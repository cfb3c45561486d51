-- Counting the roles of a month has one outcome: the sheet, and what the counts hold. Assumes nothing.
use Rattle.std.proofs.Common.{ℕ, ◌+◌, ◌-◌, ◌*◌, ◌/◌, ◌%◌, ◌≤◌, ◌<◌, ◌≡◌, sym, ◌∙◌, ◌⊎◌, inl, inr, List, arith, get_or, ext_get_or, get_or-drop}
use Rattle.table.specs.Privilege.{privileges}
use Rattle.table.proofs.HowMany.{many_one}
use Rattle.table.proofs.Lists.{le_or_lt}
use Rattle.policy.proofs.Roles.{no_roles_one, roles_not}
use Rattle.leaders.proofs.Leading.{leaders_one, leaders_as}
use Rattle.sheet.specs.Sheets.{FiguresOf, CountsOf, SheetOf}
use Rattle.sheet.specs.Answers.{refusal, Kept, MonthAnswer, refused, done}
use Rattle.sheet.specs.declared.Figures.{Figures}
use Rattle.sheet.specs.declared.Sheet.{Sheet}

pub refusal_one : {n p m q : ℕ} → (n ≡ m) × (p ≡ q) → refusal n p ≡ refusal m q
refusal_one (e, f) = rw (e, f)

-- a sheet is known by its parts
pub sheet_same : {s t : Sheet} → s.number ≡ t.number → s.place ≡ t.place → s.figures ≡ t.figures → s.leader_count ≡ t.leader_count → s.leaders ≡ t.leaders
    → s ≡ t
sheet_same n p f c l = λ d. record { number = n d; place = p d; figures = f d; leader_count = c d; leaders = l d }

-- runs that are alike in the first n places, and behind them
pub kept_one : {n : ℕ} {run x y : List ℕ} → Kept n run x → Kept n run y → ((a : ℕ) → a < n → get_or x a 0 ≡ get_or y a 0) → x ≡ y
kept_one {n} {run} {x} {y} k l front = ext_get_or 0 x y (k.size ∙ sym l.size) (λ a h. go a (le_or_lt n a))
  where
    go : (a : ℕ) → (n ≤ a) ⊎ (a < n) → get_or x a 0 ≡ get_or y a 0
    go a (inl h) =
        let e : n + (a - n) ≡ a = omega arith in
        rw (← e, ← get_or-drop n x (a - n) 0, ← get_or-drop n y (a - n) 0, k.rest, l.rest)
    go a (inr h) = front a h

-- a number of the run is one of a privilege's three
pub in_threes : (Q : ℕ → Type 0) (v a : ℕ) → a < 3 * v → ((p k : ℕ) → p < v → k < 3 → Q (3 * p + k)) → Q a
in_threes Q v a l each =
    let e : 3 * (a / 3) + a % 3 ≡ a = omega arith in
    rw e at (each (a / 3) (a % 3) (omega arith) (omega arith))

module _ {ws : List ℕ} {roles : ℕ} {marks : List ℕ} where
  figures_one : {f g : Figures} → FiguresOf ws roles marks f → FiguresOf ws roles marks g → f ≡ g
  figures_one f g = λ d. record {
    clean = many_one f.clean g.clean d;
    insert_delete = many_one f.insert_delete g.insert_delete d;
    chain = many_one f.chain g.chain d;
    cycle = many_one f.cycle g.cycle d;
    refused = many_one f.refused g.refused d;
  }

  pub counts_one : {x y : List ℕ} → CountsOf ws roles marks x → CountsOf ws roles marks y → (a : ℕ) → a < 3 * privileges ws → get_or x a 0 ≡ get_or y a 0
  counts_one {x} {y} c d a l = in_threes (λ b. get_or x b 0 ≡ get_or y b 0) (privileges ws) a l (λ p k h i. many_one (c.each p k h i) (d.each p k h i))

  -- the roles have one sheet, and the first three numbers for each privilege are determined
  pub sheet_one : {s t : Sheet} {x y : List ℕ} → SheetOf ws roles marks s x → SheetOf ws roles marks t y
      → (s.figures ≡ t.figures) × (s.leader_count ≡ t.leader_count) × (s.leaders ≡ t.leaders)
  sheet_one {x = x} {y = y} a b =
      let same = leaders_as (λ p l. counts_one a.numbers b.numbers (3 * p) (omega arith)) a.leaders in
      let led = leaders_one same b.leaders in
      (figures_one a.figures b.figures, led.0, led.1)

  -- a call has one outcome: its sheet, and what the lent counts hold
  pub month_one : {counts : List ℕ} {s t : Sheet} {x y : List ℕ} → MonthAnswer ws roles marks counts s x → MonthAnswer ws roles marks counts t y → (s ≡ t) × (x ≡ y)
  month_one (refused n e h) (refused o f k) = (e ∙ refusal_one (no_roles_one n o) ∙ sym f, h ∙ sym k)
  month_one (refused n e h) (done b u w m q c l) = absurd (roles_not b u w n)
  month_one (done a s r n p c k) (refused o f h) = absurd (roles_not a s r o)
  month_one (done a s r n p c k) (done b u w m q d l) =
      let one = sheet_one c d in
      (sheet_same (n ∙ sym m) (p ∙ sym q) one.0 one.1 one.2, kept_one k l (counts_one c.numbers d.numbers))
