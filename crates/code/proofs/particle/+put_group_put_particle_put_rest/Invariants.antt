use Rattle.std.proofs.Common.{ℕ, suc, ◌+◌, ◌-◌, ◌*◌, ◌≤◌, ◌≡◌, List, length}
use Rattle.grammar.specs.Tree.{Particle, Declaration}
use Rattle.code.specs.Steps.Putting.{Known, RowRest, EachShallow}
use Rattle.code.proofs.Rows.{Progress}
use Rattle.code.proofs.particle.+put_group_put_particle_put_rest.Given as goal

abbrev pub decreases-put_group : goal.decreases-put_group
decreases-put_group l = 3 * l.depth + 2

abbrev pub decreases-put_particle : goal.decreases-put_particle
decreases-put_particle l = 3 * l.depth

abbrev pub decreases-put_rest : goal.decreases-put_rest
decreases-put_rest l = 3 * l.depth + 1

abbrev pub invariant-put_rest-loop-i : goal.invariant-put_rest-loop-i
invariant-put_rest-loop-i l =
    (l.at ≤ l.i) × (l.i ≤ length l.s) × (l.n + l.at ≤ suc l.i) × (length l.code.words ≡ 1280)
    × ((ds : List Declaration) → Known l.s l.names.entries l.names.count ds → (qs : List Particle) (e : ℕ) → RowRest l.s l.separator l.at e qs → EachShallow l.depth qs
    → Progress l.s l.names.entries l.depth l.at l.separator l.initial.code.words l.initial.code.size ds qs e l.i l.n l.code.words l.code.size)

abbrev pub decreases-put_rest-loop-i : goal.decreases-put_rest-loop-i
decreases-put_rest-loop-i l = length l.s - l.i
