-- Sixteen marks are told at once, or some one by one. Assumes nothing.
use Rattle.std.proofs.Common.{arith}
use Rattle.policy.proofs.RowMarks.{ones_tell, sixteen_tell}
use Rattle.policy.proofs.rows.ones.Goals as goal

pub returns-then-at-marks : goal.returns-then-at-marks
returns-then-at-marks c = let pre = c.requires in
    λ k l. sixteen_tell (ones_tell c.eight.ensures) (ones_tell c.eight-then-at-marks.ensures) c.sixteen.ensures k (omega (arith, l, pre.1))
