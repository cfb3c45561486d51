-- What breaks the first spot, and its chain, make the breach. Assumes nothing.
use Rattle.std.proofs.Common.{arith, ◌<◌}
use Rattle.table.specs.Words.{types}
use Rattle.table.proofs.Facts.{accepted_childed}
use Rattle.verdict.specs.Steps.Breakers.{Anything}
use Rattle.verdict.proofs.Firsts.{breach_type}
use Rattle.verdict.proofs.Readings.{read_broken, worked_broken}
use Rattle.verdict.proofs.breaches.breach_of.Goals as goal

pub first_privilege-requires : goal.first_privilege-requires
first_privilege-requires c = let is_type : c.args.spot.element < types c.args.words.now = let b = c.requires.1 in breach_type c.args.words.now c.args.marks.now Anything c.args.spot b.0 b.1 in
    ((accepted_childed c.requires.0.accepted).tiled.laid, omega (arith, is_type))

pub returns : goal.returns
returns c = record {
  worked = λ e. worked_broken _ _ _ c.args.spot c.breaker_at.result e (c.requires.2.worked e) c.breaker_at.ensures c.tally_by-tally.ensures c.breach_with.ensures;
  read = λ d. read_broken _ _ _ c.args.spot c.breaker_at.result d (c.requires.2.read d) c.breaker_at.ensures c.tally_by-tally.ensures c.breach_with.ensures;
}
