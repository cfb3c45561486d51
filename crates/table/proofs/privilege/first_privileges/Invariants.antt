-- The loop keeps the first privilege of the type it stands at, has written those of the types passed, and writes none behind the types. Assumes
-- nothing.
use Rattle.std.proofs.Common.{◌≡◌, ℕ, ◌<◌, ◌≤◌, length, get_or}
use Rattle.table.specs.Privilege.{first_privilege}
use Rattle.table.proofs.privilege.first_privileges.Given as goal

abbrev pub invariant-loop-x : goal.invariant-loop-x
invariant-loop-x l = record {
  first_is : l.first ≡ first_privilege l.words l.x;
  size : length l.firsts ≡ 256;
  written : (j : ℕ) → j < l.x → get_or l.firsts j 0 ≡ first_privilege l.words j;
  rest : (j : ℕ) → l.e ≤ j → get_or l.firsts j 0 ≡ get_or l.initial.firsts j 0;
}
