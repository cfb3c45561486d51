-- The second and the third part are looked for behind the first. Assumes nothing.
use Rattle.std.proofs.Common.{[], ◌∷◌}
use Rattle.listing.specs.Line.{spaced}
use Rattle.reading.specs.Steps.Matching.{ended}
use Rattle.reading.proofs.Standing.{matched_then, not_first}
use Rattle.reading.proofs.Parting.{more_parts}
use Rattle.reading.proofs.matching.after_three.Goals as goal

pub returns-in_err-next : goal.returns-in_err-next
returns-in_err-next c = let a = c.args in
    let rest = a.third.now ∷ [] in
    rw (c.from_residual.ensures, more_parts a.first.now a.second.now rest) (not_first (ended a.first.now 32) (spaced a.second.now rest) c.in_err-next.ensures)

pub returns : goal.returns
returns c = let a = c.args in
    let rest = a.third.now ∷ [] in
    rw (more_parts a.first.now a.second.now rest) (matched_then c.after_two.result (spaced a.second.now rest) c.in_ok-next.ensures c.after_two.ensures)
