-- What a reader gave. Assumes nothing.
use Rattle.std.specs.Prelude.{ℕ, List, Option}
use Rattle.std.specs.Io.KnownBytes.{Consumes}

-- what is known of a reader's bytes begins with some, and loses them
abbrev pub Advances : Option (List ℕ) → Option (List ℕ) → Type 0
Advances old new = (taken : List ℕ) × Consumes old new taken
