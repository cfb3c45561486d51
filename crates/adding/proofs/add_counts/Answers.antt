-- The numbers before the loop's place are added up. Assumes nothing.
use Rattle.std.proofs.Common.{◌+◌, get_or, arith}
use Rattle.sheet.proofs.Answers.{in_threes}
use Rattle.adding.specs.Sums.{Held}
use Rattle.adding.proofs.Summing.{added_all}
use Rattle.adding.proofs.add_counts.Goals as goal

pub overflow_add-counts : goal.overflow_add-counts
overflow_add-counts c =
    let m = c.args.counts.now in
    let n = c.args.more.now in
    let held = in_threes (λ a. Held (get_or m a 0 + get_or n a 0)) c.args.v c.loop-a.a c.loop-a-test.true (λ p k l i. c.requires.1 p l k i) in
    omega (arith, held, c.loop-a.invariant.rest c.loop-a.a (omega arith))

pub returns : goal.returns
returns c = added_all c.loop-a.invariant c.args.v (omega arith)
