-- The loop has packed the words passed. Assumes nothing.
use Rattle.std.proofs.Common.{◌≡◌, length}
use Rattle.packing.specs.Bytes.{Packed}
use Rattle.packing.proofs.pack.Given as goal

abbrev pub invariant-loop-k : goal.invariant-loop-k
invariant-loop-k l = record {
  kept : length l.bytes ≡ length l.initial.bytes;
  packed : Packed l.words l.k l.bytes;
}
