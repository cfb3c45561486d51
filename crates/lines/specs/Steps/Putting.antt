-- Bytes that can be raised. Assumes nothing.
use Rattle.std.specs.Prelude.{ℕ, ◌+◌, ◌<◌, List, length, get_or}

-- each stays a byte if it is raised by a number
abbrev pub Raisable : ℕ → List ℕ → Type 0
Raisable by l = (k : ℕ) → k < length l → get_or l k 0 + by < 256
