use Rattle.std.proofs.Common.{◌+◌, ◌-◌, ◌*◌, ◌≤◌, List, length}
use Rattle.scan.specs.Steps.Claims.{Frame, Closing, RestMarked}
use Rattle.scan.specs.Steps.Moves.{Moves}
use Rattle.scan.proofs.group.+choice_group_inside_particle_row_sequence.Given as goal

abbrev pub decreases-choice : goal.decreases-choice
decreases-choice l = 5 * (length l.s.now - l.at) + 2

abbrev pub decreases-group : goal.decreases-group
decreases-group l = 5 * (length l.s.now - l.at) + 4

abbrev pub decreases-inside : goal.decreases-inside
decreases-inside l = 5 * (length l.s.now - l.at) + 3

abbrev pub decreases-particle : goal.decreases-particle
decreases-particle l = 5 * (length l.s.now - l.at)

abbrev pub decreases-row : goal.decreases-row
decreases-row l = 5 * (length l.s.now - l.at) + 1

abbrev pub decreases-sequence : goal.decreases-sequence
decreases-sequence l = 5 * (length l.s.now - l.at) + 2

abbrev pub invariant-row-loop-i : goal.invariant-row-loop-i
invariant-row-loop-i l = (l.at ≤ l.i) × (l.i ≤ length l.s) × ((fs : List Frame) → Moves (Closing l.separator l.depth (RestMarked fs)) (Closing l.separator l.depth (RestMarked fs)) l.s l.at l.i)

abbrev pub decreases-row-loop-i : goal.decreases-row-loop-i
decreases-row-loop-i l = length l.s - l.i
