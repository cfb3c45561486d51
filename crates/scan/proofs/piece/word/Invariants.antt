-- Bytes of the word that stand there.
use Rattle.std.proofs.Common.{◌≡◌, ℕ, ◌+◌, ◌≤◌, length, drop, Result}
use Rattle.scan.specs.declared.Stop.{Stop}
use Rattle.scan.specs.Steps.Readers.{WordRead}
use Rattle.scan.proofs.piece.word.Given as goal

abbrev pub invariant-loop-b : goal.invariant-loop-b
invariant-loop-b l = (l.i ≡ l.at + l.b-index) × (l.i ≤ length l.s) × ((r : Result ℕ Stop) → WordRead l.s (drop l.b-index l.w) l.i r → WordRead l.s l.w l.at r)
