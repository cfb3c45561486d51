-- The loop has counted what the words passed make. Assumes nothing.
use Rattle.std.proofs.Common.{◌≤◌, length}
use Rattle.write.proofs.Words.{Counting}
use Rattle.write.proofs.count.Given as goal

abbrev pub invariant-loop-word : goal.invariant-loop-word
invariant-loop-word l = (length l.code ≤ 1280) × Counting l.code l.word-index l.types l.kids
