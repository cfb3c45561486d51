-- The choice's steps were read. Assumes nothing.
use Rattle.policy.proofs.SquareLaws.{policy_readable}
use Rattle.policy.proofs.reach.reached.Goals as goal

pub allowed_rows-requires : goal.allowed_rows-requires
allowed_rows-requires c = let p = c.requires in policy_readable p.0 p.1 p.2
