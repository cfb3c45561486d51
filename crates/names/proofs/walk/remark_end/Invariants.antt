-- The loop keeps that a comment from the start on is one from here on. Assumes nothing.
use Rattle.std.proofs.Common.{ℕ, ◌-◌, ◌≤◌, length}
use Rattle.grammar.specs.Grammar.{Remark}
use Rattle.names.proofs.walk.remark_end.Given as goal

abbrev pub invariant-loop-i : goal.invariant-loop-i
invariant-loop-i l = (l.at ≤ l.i) × ((b : ℕ) → Remark l.s l.at b → Remark l.s l.i b)

abbrev pub decreases-loop-i : goal.decreases-loop-i
decreases-loop-i l = length l.s - l.i
