-- By the condition of the spot. Assumes nothing.
use Rattle.std.proofs.Common.{◌<◌, ◌∙◌}
use Rattle.table.specs.Words.{types}
use Rattle.table.proofs.Facts.{facts, has_children}
use Rattle.table.proofs.Privileges.{replace_in_lem}
use Rattle.policy.proofs.Reaches.{reached_from}
use Rattle.verdict.specs.Steps.Breakers.{Anything, replacement, cycle}
use Rattle.verdict.proofs.Firsts.{breach_type}
use Rattle.verdict.proofs.Breakers.{BrokenAs, broken_as}
use Rattle.verdict.proofs.breaches.breaker_at.Goals as goal

pub child_at-requires : goal.child_at-requires
child_at-requires c = let is_type : c.args.spot.element < types c.args.words.now = let b = c.requires.2 in breach_type c.args.words.now c.args.marks.now Anything c.args.spot b.0 b.1 in
    has_children c.requires.0.accepted is_type

pub returns-in-Chain : goal.returns-in-Chain
returns-in-Chain c = let spot = c.args.spot in
    replacement c.in-Chain.is (c.replacement.ensures ∙ replace_in_lem c.requires.1 spot.i spot.j)

pub returns-in-Cycle : goal.returns-in-Cycle
returns-in-Cycle c = let broken : BrokenAs c.args.words.now c.args.marks.now Anything c.args.spot c.requires.2.0 = broken_as _ _ Anything c.args.spot c.requires.2.0 c.requires.2.1 in
    let h = broken _ c.in-Cycle.is in
    let spot = c.args.spot in
    cycle {y = c.child_at.result} c.in-Cycle.is (rw c.child_at.ensures ((facts c.requires.0.accepted).child_inside spot.element spot.i h.choice.type (reached_from h.reached))) c.child_at.ensures
