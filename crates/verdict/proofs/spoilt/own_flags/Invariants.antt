-- The loop keeps the first privilege of the type it stands at. Assumes nothing.
use Rattle.std.proofs.Common.{ℕ, ◌≡◌, ◌≤◌, ◌<◌, length, get_or}
use Rattle.table.specs.Privilege.{first_privilege}
use Rattle.verdict.specs.Steps.Spoils.{Flag, ForbiddenOwn}
use Rattle.verdict.proofs.spoilt.own_flags.Given as goal

abbrev pub invariant-loop-x : goal.invariant-loop-x
invariant-loop-x l = (l.first ≡ first_privilege l.words l.x) × (length l.flags ≡ 256) × ((j : ℕ) → j < l.x → Flag (ForbiddenOwn l.words l.marks j) (get_or l.flags j 0)) × ((j : ℕ) → l.e ≤ j → get_or l.flags j 0 ≡ get_or l.initial.flags j 0)
