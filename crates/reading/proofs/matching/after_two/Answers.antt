-- The second part is looked for behind the first. Assumes nothing.
use Rattle.reading.specs.Steps.Matching.{ended}
use Rattle.reading.proofs.Standing.{matched_then, not_first}
use Rattle.reading.proofs.Parting.{two_parts}
use Rattle.reading.proofs.matching.after_two.Goals as goal

pub returns-in_err-next : goal.returns-in_err-next
returns-in_err-next c = let a = c.args in
    rw (c.from_residual.ensures, two_parts a.first.now a.second.now) (not_first (ended a.first.now 32) (ended a.second.now 10) c.in_err-next.ensures)

pub returns : goal.returns
returns c = let a = c.args in
    rw (two_parts a.first.now a.second.now) (matched_then c.after-2.result (ended a.second.now 10) c.in_ok-next.ensures c.after-2.ensures)
