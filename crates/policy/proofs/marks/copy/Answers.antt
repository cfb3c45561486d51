-- The loop has copied the marks passed. Assumes nothing.
use Rattle.std.proofs.Common.{ℕ, ◌≡◌, refl, ◌∙◌, arith, get_or, length-set}
use Rattle.std.proofs.Math.Seq.{ext_get_or}
use Rattle.table.proofs.Lists.{fill_more}
use Rattle.policy.proofs.marks.copy.Goals as goal

pub loop-p-preserved : goal.loop-p-preserved
loop-p-preserved c = let marks = c.args.marks.now in
    (length-set {A = ℕ} c.loop-p.m c.loop-p.p _ ∙ c.loop-p.invariant.0, fill_more (λ j r. r ≡ get_or marks j 0) c.loop-p.m c.loop-p.p _ (omega (arith, c.loop-p.invariant.0, c.loop-p-test.true)) c.loop-p.invariant.1 refl)

pub returns : goal.returns
returns c = ext_get_or 0 c.loop-p.m c.args.marks.now c.loop-p.invariant.0 (λ j l. c.loop-p.invariant.1 j (omega (arith, c.loop-p.invariant.0, c.loop-p-test.false, l)))
