-- A mend that somebody proposes (document 01, "Completing and mending"): accepted exactly if each mark is equal or went from 1 to 2 and the
-- new policy is clean; the answer is the number of changed marks. Assumes nothing.
use Rattle.std.specs.Prelude.{ℕ, ◌≡◌, ◌≢◌, ◌⊎◌, List, get_or}
use Rattle.policy.specs.Marks.{Allowed, Forbidden}

-- the mark of p is equal, or went from 1 to 2
abbrev pub Kept : List ℕ → List ℕ → ℕ → Type 0
Kept m n p = (get_or n p 0 ≡ get_or m p 0) ⊎ (Allowed m p × Forbidden n p)

-- the mark of p changed
abbrev pub Changed : List ℕ → List ℕ → ℕ → Type 0
Changed m n p = get_or n p 0 ≢ get_or m p 0
