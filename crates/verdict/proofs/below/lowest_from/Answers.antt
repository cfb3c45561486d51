-- The first forbidden mark of those from a number on is there. Assumes nothing.
use Rattle.std.proofs.Common.{◌≡◌, ◌==◌, ℕ, Bool, true, true≢false, List, ◌+◌, ◌-◌, ◌<◌, ◌≤◌, length, get_or, take, take_all, drop, get_or-drop, length-drop, position, Some, IsSome, sym, refl, inl, inr, ◌∙◌, lt-ltb, eq-eqb, eqb-true, arith}
use Rattle.std.specs.List.{position_or_len}
use Rattle.std.proofs.lemmas.List.Sums.{fails_before_first}
use Rattle.std.proofs.lemmas.List.Quantifiers.{position-Some}
use Rattle.table.proofs.Lists.{le_or_lt}
use Rattle.policy.specs.Marks.{Forbidden}
use Rattle.policy.proofs.Policies.{marked_within}
use Rattle.verdict.specs.Steps.Tallies.{LowestFrom}
use Rattle.verdict.proofs.below.lowest_from.Goals as goal

-- where one passes, the first that passes is found
found : (test : ℕ → Bool) (xs : List ℕ) (k : ℕ) → k < length xs → test (get_or xs k 0) ≡ true → IsSome (position test xs)
found test xs k l passes =
    let first = position_or_len test xs in
    elim (le_or_lt first k) [
      | inl h ↦ rw (lt-ltb first (length xs) (omega arith)) refl
      | inr h ↦ absurd (true≢false (sym passes ∙ fails_before_first test xs k 0 h))
    ]

module _ (marks : List ℕ) (from : ℕ) where
  abbrev rest : List ℕ
  rest = take (length marks - from) (drop from marks)

  read : (k : ℕ) → get_or rest k 0 ≡ get_or marks (from + k) 0
  read k = rw (take_all (length marks - from) (drop from marks) (omega (arith, length-drop from marks))) (get_or-drop from marks k 0)

  at : (p : ℕ) → from ≤ p → get_or rest (p - from) 0 ≡ get_or marks p 0
  at p l = let e : from + (p - from) ≡ p = omega arith in rw e at (read (p - from))

  there : (p : ℕ) × (from ≤ p) × Forbidden marks p → IsSome (position (λ m. m == 2) rest)
  there (p, low, f) = found (λ m. m == 2) rest (p - from) (marked_within rest (p - from) (omega (arith, at p low))) (eq-eqb _ _ (at p low ∙ f))

  lowest : {r : ℕ} → position (λ m. m == 2) rest ≡ Some r → LowestFrom marks from (from + r)
  lowest {r} e = let f = position-Some (λ m. m == 2) rest r 0 e in record {
    low = omega arith;
    forbidden = sym (read r) ∙ eqb-true _ _ f.1;
    least = λ q l g. elim (le_or_lt (from + r) q) [
      | inl h ↦ h
      | inr h ↦ absurd (true≢false (sym (eq-eqb _ _ (at q l ∙ g)) ∙ f.2 (q - from) (omega arith)))
    ];
  }

pub unwrap-requires : goal.unwrap-requires
unwrap-requires c = rw c.first_forbidden.ensures (there c.args.marks.now c.args.from c.requires)

pub returns : goal.returns
returns c = lowest c.args.marks.now c.args.from (sym c.first_forbidden.ensures ∙ c.unwrap.ensures)
