-- Tests of what specs/ says of a monthly sheet: which conditions marks break, how many roles have something, and who leads. They hold of every run of words
-- and of marks. Assumes nothing.
use Prim.Native.Nat.{ℕ, suc, ◌+◌, ◌*◌, ◌≤◌, ◌<◌, min}
use mathlib.Core.Path.{◌≡◌, refl, subst}
use mathlib.Core.Logic.{inl, inr}
use mathlib.Core.List.{List}
use native.Mathlib.Omega.{arith}
use lib.ListN.{length, get_or, get_or-eq_default}
use Rattle.table.specs.Words.{types}
use Rattle.table.specs.Rule.{count_of}
use Rattle.table.specs.Privilege.{privileges}
use Rattle.table.proofs.Lists.{le_or_lt}
use Rattle.table.proofs.Test.{Test, is_less, is_at_most, is_equal, both, either, fails, implies, means, some, every}
use Rattle.table.proofs.HowMany.{how_many}
use Rattle.policy.specs.Roles.{stretch}
use Rattle.policy.proofs.Reaches.{reached_from}
use Rattle.verdict.specs.Below.{ForbiddenBelow}
use Rattle.verdict.specs.Conditions.{Clean}
use Rattle.verdict.specs.Breaches.{IsBreach}
use Rattle.verdict.specs.declared.Spot.{Spot}
use Rattle.verdict.specs.declared.Condition.{Condition}
use Rattle.verdict.specs.declared.Condition.TheVariants.{InsertDelete, Chain, Cycle}
use Rattle.verdict.proofs.Firsts.{breach_cases, breach_type}
use Rattle.verdict.proofs.Breakers.{breach_below}
use Rattle.verdict.proofs.PolicyTests.{fit, breach}
use Rattle.broken.specs.Breaks.{Breaks}
use Rattle.broken.proofs.Breaks.{clean_unbroken, unbroken_clean}
use Rattle.leaders.specs.Leaders.{Ahead, more, lower, LeadersOf, often_of}
use Rattle.sheet.specs.Sheets.{RefusedRole, Has, RolesWith, FiguresOf, mark_at, CountsOf, SheetOf}
use Rattle.sheet.specs.declared.Figures.{Figures}
use Rattle.sheet.specs.declared.Sheet.{Sheet}

abbrev spot_at : Condition → ℕ → ℕ → ℕ → Spot
spot_at c x i j = record { condition = c; element = x; i = i; j = j }

-- the positions of a broken spot are those of children, or 0
positions_few : (ws marks : List ℕ) (s : Spot) (p : ℕ) → IsBreach ws marks s p → (s.i ≤ count_of ws s.element) × (s.j ≤ count_of ws s.element)
positions_few ws marks s p b = elim (breach_cases ws marks (ForbiddenBelow ws marks) s p b) [
  | inl h ↦ (omega (arith, h.1.zero_i), omega (arith, h.1.zero_j))
  | inr (inl h) ↦ (omega (arith, h.1.can.from), omega (arith, h.1.can.to))
  | inr (inr h) ↦ let from = reached_from h.1.reached in (omega arith, omega (arith, h.1.same))
]

-- the condition is broken at a spot within these bounds
abbrev pub BreaksAt : List ℕ → Condition → List ℕ → Type 0
BreaksAt ws c marks = (x : ℕ) × (x < types ws) × ((i : ℕ) × (i < suc (count_of ws x)) × ((j : ℕ) × (j < suc (count_of ws x))
    × ((p : ℕ) × (p < privileges ws) × IsBreach ws marks (spot_at c x i j) p)))

pub breaks_at : {ws : List ℕ} {c : Condition} {marks : List ℕ} → Breaks ws c marks → BreaksAt ws c marks
breaks_at {ws} {c} {marks} b =
    let s = b.spot in
    let p = b.privilege in
    let few = positions_few ws marks s p b.breach in
    let type = breach_type ws marks (ForbiddenBelow ws marks) s p b.breach in
    let is : s ≡ spot_at c s.element s.i s.j = λ d. record { condition = b.of d; element = s.element; i = s.i; j = s.j } in
    let there = subst (λ (t : Spot). IsBreach ws marks t p) is b.breach in
    (s.element, type, (s.i, omega (arith, few.0), (s.j, omega (arith, few.1), (p, breach_below ws marks s p b.breach, there))))

module _ (ws : List ℕ) where
  -- a condition that is broken somewhere
  abbrev pub breaks : (c : Condition) (marks : List ℕ) → Test (Breaks ws c marks)
  breaks c marks = means
      (λ h. record { spot = spot_at c h.0 h.2.0 h.2.2.0; privilege = h.2.2.2.0; of = refl; breach = h.2.2.2.2 }) breaks_at
      (some (types ws) (λ x. some (suc (count_of ws x)) (λ i. some (suc (count_of ws x)) (λ j. some (privileges ws) (breach ws marks (spot_at c x i j))))))

  abbrev pub clean : (marks : List ℕ) → Test (Clean ws marks)
  clean marks = means (λ h. unbroken_clean h.0 h.1.0 h.1.1) (λ q. (clean_unbroken q InsertDelete, (clean_unbroken q Chain, clean_unbroken q Cycle)))
      (both (fails (breaks InsertDelete marks)) (both (fails (breaks Chain marks)) (fails (breaks Cycle marks))))

  abbrev pub refused_role : (m : List ℕ) → Test (RefusedRole ws m)
  refused_role m = fails (fit (privileges ws) m)

  abbrev pub has : {P : List ℕ → Type 0} → ((m : List ℕ) → Test (P m)) → (m : List ℕ) → Test (Has ws P m)
  has t m = means (λ h. record { fit = h.0; has = h.1 }) (λ h. (h.fit, h.has)) (both (fit (privileges ws) m) (t m))

  module _ (roles : ℕ) (marks : List ℕ) where
    abbrev roles_with : {P : List ℕ → Type 0} → ((m : List ℕ) → Test (P m)) → (c : ℕ) → Test (RolesWith ws roles marks P c)
    roles_with t c = how_many roles c (λ r. t (stretch ws r marks))

    abbrev pub figures_of : (f : Figures) → Test (FiguresOf ws roles marks f)
    figures_of f = means
        (λ h. record { clean = h.0; insert_delete = h.1.0; chain = h.1.1.0; cycle = h.1.1.1.0; refused = h.1.1.1.1 })
        (λ h. (h.clean, (h.insert_delete, (h.chain, (h.cycle, h.refused)))))
        (both (roles_with (has clean) f.clean) (both (roles_with (has (breaks InsertDelete)) f.insert_delete)
        (both (roles_with (has (breaks Chain)) f.chain) (both (roles_with (has (breaks Cycle)) f.cycle) (roles_with refused_role f.refused)))))

    abbrev pub counts_of : (counts : List ℕ) → Test (CountsOf ws roles marks counts)
    counts_of counts = means (λ h. record { each = λ p k i j. h p i k j }) (λ h p i k j. h.each p k i j)
        (every (privileges ws) (λ p. every 3 (λ k. roles_with (has (λ m. is_equal (get_or m p 0) (mark_at k))) (get_or counts (3 * p + k) 0))))

-- the leaders
abbrev pub ahead : (often : ℕ → ℕ) (p q : ℕ) → Test (Ahead often p q)
ahead often p q = means (λ h. elim h [ inl l ↦ more l | inr (e, l) ↦ lower e l ]) (λ h. elim h [ more l ↦ inl l | lower e l ↦ inr (e, l) ])
    (either (is_less (often q) (often p)) (both (is_equal (often p) (often q)) (is_less p q)))

abbrev pub leaders_of : (v : ℕ) (often : ℕ → ℕ) (count : ℕ) (leaders : List ℕ) → Test (LeadersOf v often count leaders)
leaders_of v often count leaders = means
    (λ h. record {
      size = h.0;
      many = h.1.0;
      inside = h.1.1.0;
      order = λ j k l i. h.1.1.1.0 k i j l;
      others = λ p k l i d. h.1.1.1.1.0 p l k i d;
      unused = λ k l. elim (le_or_lt 3 k) [ inl i ↦ get_or-eq_default leaders 0 (omega (arith, h.0)) | inr i ↦ h.1.1.1.1.1 k i l ];
    })
    (λ h. (h.size, (h.many, (h.inside, (λ k i j l. h.order j k l i, (λ p l k i d. h.others p k l i d, λ k i l. h.unused k l))))))
    (both (is_equal (length leaders) 3) (both (is_equal count (min 3 v)) (both (every count (λ k. is_less (get_or leaders k 0) v))
    (both (every count (λ k. every k (λ j. ahead often (get_or leaders j 0) (get_or leaders k 0))))
    (both (every v (λ p. every count (λ k. implies (every count (λ j. fails (is_equal (get_or leaders j 0) p))) (ahead often (get_or leaders k 0) p))))
    (every 3 (λ k. implies (is_at_most count k) (is_equal (get_or leaders k 0) 0))))))))

abbrev pub sheet_of : (ws : List ℕ) (roles : ℕ) (marks : List ℕ) (s : Sheet) (counts : List ℕ) → Test (SheetOf ws roles marks s counts)
sheet_of ws roles marks s counts = means (λ h. record { figures = h.0; numbers = h.1.0; leaders = h.1.1 }) (λ h. (h.figures, (h.numbers, h.leaders)))
    (both (figures_of ws roles marks s.figures) (both (counts_of ws roles marks counts)
    (leaders_of (privileges ws) (often_of counts) s.leader_count s.leaders)))
