-- Passing an operand word by word. Assumes nothing.
use Rattle.std.proofs.Common.{ℕ, ◌+◌, ◌*◌, ◌≤◌, ◌≡◌, refl, sym, ◌∙◌, List, [], ◌∷◌, drop}
use Rattle.write.specs.Steps.Reading.{rest_of, free_of, Numbered, Skipped}

pub rest_none : (ws : List ℕ) → rest_of ws 0 ≡ ws
rest_none [] = refl
rest_none (w ∷ ws) = refl

pub free_none : (ws : List ℕ) (x : ℕ) → free_of ws 0 x ≡ x
free_none [] x = refl
free_none (w ∷ ws) x = refl

-- from the place c with x free the loop has come to `at` with `free` free, and so many operands are to come
pub record Skipping (code : List ℕ) (c x need at free : ℕ) : Type 0 where
  pub there : Numbered code at free
  pub few : need ≤ 1 + 65536 * at
  pub rest : rest_of (drop at code) need ≡ rest_of (drop c code) 1
  pub free_is : free_of (drop at code) need free ≡ free_of (drop c code) 1 x

pub skip_end : {code : List ℕ} {c x need at free : ℕ} → Skipping code c x need at free → need ≡ 0 → Skipped code c x at free
skip_end {code} {at = at} {free = free} s none = record {
  there = s.there;
  rest = sym (rest_none (drop at code)) ∙ (rw none at s.rest);
  free = sym (free_none (drop at code) free) ∙ (rw none at s.free_is);
}
