-- Where no child is spoilt there is no cycle to add. Assumes nothing.
use Rattle.table.proofs.Lowest.{told_yes}
use Rattle.policy.proofs.SquareLaws.{policy_readable}
use Rattle.broken.proofs.Asking.{no_cycle_added, kids_small, unspoilt_none}
use Rattle.broken.proofs.add_cycle.Goals as goal

pub none_spoilt-requires : goal.none_spoilt-requires
none_spoilt-requires c = kids_small c.requires.0

pub returns-then-none_spoilt : goal.returns-then-none_spoilt
returns-then-none_spoilt c = no_cycle_added _ _ _ _ c.args.known c.requires.2 c.requires.3
    (unspoilt_none c.args.flags.now c.args.kids.now c.requires.0 (told_yes c.none_spoilt.result c.none_spoilt.ensures c.if-none_spoilt.true))

pub allowed_rows-requires : goal.allowed_rows-requires
allowed_rows-requires c = let pre = c.requires in policy_readable pre.0.policy pre.2 pre.1
