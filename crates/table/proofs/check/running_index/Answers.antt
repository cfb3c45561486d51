-- The children of the type before follow on, and end where those of t begin. Assumes nothing.
use Rattle.std.proofs.Common.{◌≡◌, ◌+◌, ◌-◌, arith}
use Rattle.table.proofs.Checks.{running_next}
use Rattle.table.specs.Sum.{sum_below}
use Rattle.table.proofs.check.running_index.Goals as goal

pub returns-then-t-eq0 : goal.returns-then-t-eq0
unfolding sum_below
returns-then-t-eq0 c = rw c.if-t-eq0.true

pub returns : goal.returns
returns c = let a = c.args in
    let prior = a.t - 1 in
    let is : prior + 1 ≡ a.t = omega arith in
    rw (c.record_word.ensures.is, c.record_word-2.ensures.is) (rw is at (running_next _ prior (omega arith) (c.requires.2 prior (omega arith))))
