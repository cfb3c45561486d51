-- The paper's operator T (document 000, section 4.1): what is allowed with what that forces. The laws of completing speak of it. Assumes
-- nothing.
use Rattle.std.specs.Prelude.{ℕ, ◌⊎◌, List}
use Rattle.verdict.specs.Forces.{Forces}

-- T: privilege p is allowed, or forced
abbrev pub Granted : List ℕ → (ℕ → Type 0) → ℕ → Type 0
Granted ws S p = S p ⊎ Forces ws S p
