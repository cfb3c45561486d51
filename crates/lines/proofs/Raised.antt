-- Raised bytes are as many. Assumes nothing.
use Rattle.std.proofs.Common.{ℕ, ◌+◌, ◌≡◌, List, length}
use Rattle.std.proofs.Math.ListN.{length-map}
use Rattle.lines.specs.Text.{raised}

pub raised_length : (by : ℕ) (l : List ℕ) → length (raised by l) ≡ length l
raised_length by l = length-map l (λ (b : ℕ). b + by)
