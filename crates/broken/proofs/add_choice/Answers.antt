-- The rows are read, and closed. Assumes nothing.
use Rattle.policy.proofs.SquareLaws.{policy_readable}
use Rattle.broken.proofs.add_choice.Goals as goal

pub read_rows-requires : goal.read_rows-requires
read_rows-requires c = let v = c.requires.0 in
    policy_readable v.policy c.requires.2 c.requires.1
