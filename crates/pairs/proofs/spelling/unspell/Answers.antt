-- The loop has written k bytes of each map, gathered from eight marks each. Assumes nothing.
use Rattle.std.proofs.Common.{arith}
use Rattle.pairs.proofs.Unspells.{written_more, eight_ones, eight_twos}
use Rattle.pairs.proofs.spelling.unspell.Goals as goal

pub loop-k-preserved : goal.loop-k-preserved
loop-k-preserved c = let at = c.loop-k.invariant in
    let low = c.loop-k-test.true in
    let eight = c.eight-marked.ensures in
    record {
      allowed = written_more at.allowed (omega (arith, low, at.allowed.size)) (eight_ones c.loop-k.k eight c.gathered.ensures);
      forbidden = written_more at.forbidden (omega (arith, low, at.forbidden.size, c.requires.3)) (eight_twos c.loop-k.k eight c.gathered-in-loop-k.ensures);
    }
