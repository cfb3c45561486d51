-- The loop has put the bytes passed. Assumes nothing.
use Rattle.std.proofs.Common.{ℕ, ◌+◌, sym}
use Rattle.std.proofs.Math.ListN.{get_or-map}
use Rattle.runs.proofs.Texts.{filled_more}
use Rattle.lines.proofs.Raised.{raised_length}
use Rattle.lines.proofs.put.Goals as goal

pub loop-k-preserved : goal.loop-k-preserved
loop-k-preserved c = let by = c.args.by in
    let bytes = c.args.bytes.now in
    let size = raised_length by bytes in
    filled_more (0 + by)
    (rw size c.requires.0)
    (rw size c.loop-k-test.true)
    (sym (get_or-map (λ (b : ℕ). b + by) bytes c.loop-k.k 0))
    c.loop-k.invariant
