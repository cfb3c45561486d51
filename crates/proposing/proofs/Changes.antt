-- The pairs of a policy's and the proposed marks, as they come. Assumes nothing.
use Rattle.std.proofs.Common.{ℕ, ◌≡◌, ◌<◌, ◌⊎◌, Bool, List, length, get_or, take, sym, ◌∙◌, length-take, get_or-take, arith}
use Rattle.table.specs.Steps.Found.{Tells}
use Rattle.proposing.specs.Proposals.{Kept, Changed}

-- a mark of the first v is the mark itself
mark_in : (s : List ℕ) (v k x : ℕ) → k < length (take v s) → x ≡ get_or (take v s) k 0 → x ≡ get_or s k 0
mark_in s v k x h e = e ∙ get_or-take v s k 0 (omega (arith, length-take v s))

module _ (m n : List ℕ) (v : ℕ) {k x y : ℕ}
    (turn : (k < length (take v m)) × (k < length (take v n)) × ((d : ℕ) → x ≡ get_or (take v m) k d) × ((d : ℕ) → y ≡ get_or (take v n) k d)) where
  -- a pair that differs is a change, and one that does not is none
  pub pair_changed : ¬ (y ≡ x) → Changed m n k
  pair_changed d e = d (mark_in n v k y turn.1 (turn.3 0) ∙ e ∙ sym (mark_in m v k x turn.0 (turn.2 0)))

  pub pair_kept : y ≡ x → ¬ Changed m n k
  pair_kept e d = d (sym (mark_in n v k y turn.1 (turn.3 0)) ∙ e ∙ mark_in m v k x turn.0 (turn.2 0))

  -- whether it is kept
  pub pair_told : (r : Bool) → Tells ((y ≡ x) ⊎ ((x ≡ 1) × (y ≡ 2))) r → Tells (Kept m n k) r
  pair_told r t =
      let old : x ≡ get_or m k 0 = mark_in m v k x turn.0 (turn.2 0) in
      let new : y ≡ get_or n k 0 = mark_in n v k y turn.1 (turn.3 0) in
      rw (old, new) at t
