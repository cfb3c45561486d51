-- By the condition of the first breach: a chain comes before a cycle. Assumes nothing.
use Rattle.std.proofs.Common.{inr}
use Rattle.broken.proofs.Asking.{flag_kept, cycle_only, choice_added}
use Rattle.broken.proofs.add_reached.Goals as goal

pub returns-in-Cycle : goal.returns-in-Cycle
returns-in-Cycle c = let known = c.args.known in
    let only = cycle_only _ _ _ _ c.requires.2 c.in-Some.ensures c.in-Cycle.is in
    choice_added _ _ _ _ known c.requires.2 (flag_kept _ known.chain only.1) (inr only.0)
