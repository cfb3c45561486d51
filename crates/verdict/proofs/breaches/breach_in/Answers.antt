-- The first chain that is found, or else the first cycle. Assumes nothing.
use Rattle.verdict.proofs.Breached.{chain_first, choice_at}
use Rattle.verdict.proofs.breaches.breach_in.Goals as goal

pub returns-in-Some : goal.returns-in-Some
returns-in-Some c = let p = c.requires in chain_first _ _ _ _ p.2 p.1 p.3 c.in-Some.ensures

pub returns : goal.returns
returns c = let p = c.requires in choice_at _ _ _ _ p.2 p.1 p.3 c.in_default.ensures c.cycle_breach.result c.cycle_breach.ensures
