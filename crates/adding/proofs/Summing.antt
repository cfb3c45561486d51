-- The counts are added up number by number. Assumes nothing.
use Rattle.std.proofs.Common.{ℕ, ◌+◌, ◌*◌, ◌≤◌, ◌<◌, ◌≡◌, sym, ◌∙◌, List, arith, length, get_or, drop, length-drop, ext_get_or, get_or-drop}
use Rattle.adding.specs.Sums.{CountsAdded}

-- the first a numbers are added up, and the others are as they were
pub record AddedTo (counts more : List ℕ) (a : ℕ) (after : List ℕ) : Type 0 where
  pub size : length after ≡ length counts
  pub each : (j : ℕ) → j < a → get_or after j 0 ≡ get_or counts j 0 + get_or more j 0
  pub rest : (j : ℕ) → a ≤ j → get_or after j 0 ≡ get_or counts j 0

module _ {counts more after : List ℕ} {a : ℕ} (s : AddedTo counts more a after) where
  pub added_all : (v : ℕ) → a ≡ 3 * v → CountsAdded v counts more after
  added_all v e = record {
    each = λ j l. s.each j (omega arith);
    kept = record {
      size = s.size;
      rest = rw (← e) (ext_get_or 0 (drop a after) (drop a counts) (length-drop a after ∙ omega (arith, s.size) ∙ sym (length-drop a counts))
          (λ i h. get_or-drop a after i 0 ∙ s.rest (a + i) (omega arith) ∙ sym (get_or-drop a counts i 0)));
    };
  }
