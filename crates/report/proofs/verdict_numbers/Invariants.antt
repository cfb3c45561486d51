-- The loop has written the positions before k. Assumes nothing.
use Rattle.std.proofs.Common.{take}
use Rattle.report.proofs.Numbers.{Written}
use Rattle.report.proofs.verdict_numbers.Given as goal

abbrev pub invariant-loop-k : goal.invariant-loop-k
invariant-loop-k l = Written (take 5 l.initial.numbers) l.positions l.k l.numbers
