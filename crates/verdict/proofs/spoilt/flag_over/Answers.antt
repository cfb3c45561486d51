-- The loop has the flag of the children passed. Assumes nothing.
use Rattle.std.proofs.Common.{◌≡◌, length, ap, get_or, ℕ, arith}
use Rattle.verdict.proofs.Spoils.{joined_take, joined_keep}
use Rattle.verdict.proofs.spoilt.flag_over.Goals as goal
use Rattle.verdict.proofs.spoilt.flag_over.Goals.{then-flags-from-eq1, else-flags-from-eq1}

pub loop-kid-preserved : goal.loop-kid-preserved
loop-kid-preserved c = let read = ap (λ (y : ℕ). get_or c.args.flags.now y 0) c.from.ensures in
    elim c.if-flags-from-eq1.branch [
      | then-flags-from-eq1 w ↦ rw w.flag-is (joined_take c.loop-kid.invariant read w.if-flags-from-eq1.true)
      | else-flags-from-eq1 w ↦ rw w.flag-is (joined_keep c.loop-kid.invariant read w.if-flags-from-eq1.false)
    ]

pub returns : goal.returns
returns c = let end : c.loop-kid.kid-index ≡ length c.args.kids.now = omega arith in rw (← end) c.loop-kid.invariant
