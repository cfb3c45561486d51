-- The figures and the counts of so many roles, and of one more. Assumes nothing.
use Rattle.std.proofs.Common.{ℕ, ◌+◌, ◌-◌, ◌*◌, ◌<◌, ◌≡◌, sym, ◌∙◌, Bool, true, false, not, ◌||◌, List, [], arith, get_or, take, drop, replicate}
use lib.ListN.{length-replicate, get_or-replicate}
use Rattle.table.specs.HowMany.{HowMany, none}
use Rattle.table.specs.Privilege.{privileges}
use Rattle.table.specs.Steps.Found.{Tells}
use Rattle.table.proofs.HowMany.{many_most, many_next, many_skip, many_none, many_all}
use Rattle.policy.specs.Marks.{Fit}
use Rattle.policy.specs.Roles.{stretch}
use Rattle.verdict.specs.Conditions.{Clean}
use Rattle.verdict.specs.declared.Condition.TheVariants.{InsertDelete, Chain, Cycle}
use Rattle.broken.specs.Breaks.{Breaks}
use Rattle.broken.specs.Steps.Asking.{BrokenIn}
use Rattle.broken.specs.declared.Broken.{Broken}
use Rattle.broken.proofs.Breaks.{clean_unbroken, unbroken_clean}
use Rattle.sheet.specs.Sheets.{Has, mark_at}
use Rattle.sheet.specs.Answers.{no_figures}
use Rattle.sheet.specs.Steps.Counting.{up, Room, FiguresRoom, unbroken, Adds, one, same, RoleCounted, bent, counted, Counted}
use Rattle.sheet.specs.declared.Figures.{Figures}

-- the next number is looked at, by a flag
pub many_up : {P : ℕ → Type 0} {n c : ℕ} (so : Bool) → HowMany P n c → Tells (P n) so → HowMany P (n + 1) (up c so)
many_up true h p = many_next h p
many_up false h d = many_skip h d

-- the same by a number that is one more where it has P
many_adds : {P : ℕ → Type 0} {n c d : ℕ} → HowMany P n c → Adds (P n) c d → HowMany P (n + 1) d
many_adds h (one p e) = rw e (many_next h p)
many_adds h (same d e) = rw e (many_skip h d)

-- whether a role that is not refused has P
has_told : (ws : List ℕ) (P : List ℕ → Type 0) {m : List ℕ} (so : Bool) → Fit (privileges ws) m → Tells (P m) so → Tells (Has ws P m) so
has_told ws P true f h = record { fit = f; has = h }
has_told ws P false f d = λ h. d h.has

has_adds : (ws : List ℕ) (P : List ℕ → Type 0) {m : List ℕ} {c d : ℕ} → Fit (privileges ws) m → Adds (P m) c d → Adds (Has ws P m) c d
has_adds ws P f (one h e) = one (record { fit = f; has = h }) e
has_adds ws P f (same n e) = same (λ h. n h.has) e

-- a policy is clean exactly if it breaks no condition
clean_told : {ws m : List ℕ} (b : Broken) → BrokenIn ws m b → Tells (Clean ws m) (unbroken b)
clean_told {ws} {m} b told = go b.insert_delete b.chain b.cycle told.insert_delete told.chain told.cycle
  where
    go : (x y z : Bool) → Tells (Breaks ws InsertDelete m) x → Tells (Breaks ws Chain m) y → Tells (Breaks ws Cycle m) z → Tells (Clean ws m) (not (x || y || z))
    go true y z s c k = λ q. clean_unbroken q InsertDelete s
    go false true z s c k = λ q. clean_unbroken q Chain c
    go false false true s c k = λ q. clean_unbroken q Cycle k
    go false false false s c k = unbroken_clean s c k

-- before the first role
pub counted_start : (ws marks : List ℕ) → Counted ws 0 marks no_figures (replicate (3 * privileges ws) 0)
counted_start ws marks = record {
  size = length-replicate (3 * privileges ws) 0;
  figures = record { clean = none; insert_delete = none; chain = none; cycle = none; refused = none };
  numbers = record { each = λ p k l i. rw (get_or-replicate {A = ℕ} (3 * privileges ws) (3 * p + k) 0 0 (omega arith)) none };
}

module _ {ws marks : List ℕ} {n : ℕ} {f : Figures} {counts : List ℕ} (c : Counted ws n marks f counts) where
  -- no number is above the number of roles
  pub figures_room : n < 4294967295 → FiguresRoom f
  figures_room l = record {
    clean = omega (arith, many_most c.figures.clean);
    insert_delete = omega (arith, many_most c.figures.insert_delete);
    chain = omega (arith, many_most c.figures.chain);
    cycle = omega (arith, many_most c.figures.cycle);
    refused = omega (arith, many_most c.figures.refused);
  }

  pub counts_room : n < 4294967295 → (p k : ℕ) → p < privileges ws → k < 3 → Room (get_or counts (3 * p + k) 0)
  counts_room l p k h i = omega (arith, many_most (c.numbers.each p k h i))

  -- one role more
  pub counted_next : {g : Figures} {after : List ℕ} → RoleCounted ws (stretch ws n marks) f counts g after → Counted ws (n + 1) marks g after
  counted_next (bent d e k) = rw (e, k) (record {
    size = c.size;
    figures = record {
      clean = many_skip c.figures.clean (λ h. d h.fit);
      insert_delete = many_skip c.figures.insert_delete (λ h. d h.fit);
      chain = many_skip c.figures.chain (λ h. d h.fit);
      cycle = many_skip c.figures.cycle (λ h. d h.fit);
      refused = many_next c.figures.refused d;
    };
    numbers = record { each = λ p k l i. many_skip (c.numbers.each p k l i) (λ h. d h.fit) };
  })
  counted_next (counted b f told e m) = rw e (record {
    size = m.size ∙ c.size;
    figures = record {
      clean = many_up (unbroken b) c.figures.clean (has_told ws (Clean ws) (unbroken b) f (clean_told b told));
      insert_delete = many_up b.insert_delete c.figures.insert_delete (has_told ws (Breaks ws InsertDelete) b.insert_delete f told.insert_delete);
      chain = many_up b.chain c.figures.chain (has_told ws (Breaks ws Chain) b.chain f told.chain);
      cycle = many_up b.cycle c.figures.cycle (has_told ws (Breaks ws Cycle) b.cycle f told.cycle);
      refused = many_skip c.figures.refused (λ d. d f);
    };
    numbers = record { each = λ p k l i. many_adds (c.numbers.each p k l i) (has_adds ws (λ m. get_or m p 0 ≡ mark_at k) f (m.each p k (omega (arith, f.size)) i)) };
  })

  -- the same by a length that is V, with the bounds of the stretch as they are lent
  pub counted_part : (v : ℕ) → v ≡ privileges ws → {g : Figures} {after : List ℕ} → RoleCounted ws (take (n * v + v - n * v) (drop (n * v) marks)) f counts g after
      → Counted ws (n + 1) marks g after
  counted_part v e a = let over : n * v + v - n * v ≡ v = omega arith in counted_next (rw (over, e) at a)

-- without privileges every role is the same empty policy, and clean
pub counted_empty : {ws marks : List ℕ} (roles : ℕ) → privileges ws ≡ 0
    → Counted ws roles marks (record { clean = roles; insert_delete = 0; chain = 0; cycle = 0; refused = 0 }) (replicate (3 * privileges ws) 0)
counted_empty {ws} {marks} roles z = record {
  size = length-replicate (3 * privileges ws) 0;
  figures = record {
    clean = many_all roles (λ r l. record { fit = fits r; has = clean r });
    insert_delete = many_none roles (λ r l h. clean_unbroken (clean r) InsertDelete h.has);
    chain = many_none roles (λ r l h. clean_unbroken (clean r) Chain h.has);
    cycle = many_none roles (λ r l h. clean_unbroken (clean r) Cycle h.has);
    refused = many_none roles (λ r l d. d (fits r));
  };
  numbers = record { each = λ p k l i. absurd (omega arith) };
}
  where
    empty : (r : ℕ) → stretch ws r marks ≡ []
    empty r = rw z

    fits : (r : ℕ) → Fit (privileges ws) (stretch ws r marks)
    fits r = rw (empty r) (record { size = sym z; legal = λ p l. absurd (omega arith) })

    clean : (r : ℕ) → Clean ws (stretch ws r marks)
    clean r = rw (empty r) (record {
      exchange = λ x c b f. omega arith;
      renewal = λ x p s r w f. omega arith;
      chain = λ x i j s r c f. omega arith;
      cycle = λ x i p s r w f. omega arith;
    })
