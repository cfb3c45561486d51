-- Each child's number is an index of the flags. Assumes nothing.
use Rattle.std.proofs.Common.{◌<◌, rules, arith}
use Rattle.std.proofs.lemmas.Grind.{get_or_default_zero}
use Rattle.std.proofs.lemmas.Iterator.{YieldsList-from_slice}
use Rattle.std.proofs.lemmas.Iterator.Adapters.{serves_from_places}
use Rattle.broken.proofs.none_spoilt.Goals as goal

pub all-requires-clause-callable : goal.all-requires-clause-callable
all-requires-clause-callable c = serves_from_places (YieldsList-from_slice c.args.kids.now cc) (λ x q h. search rules)
    (λ x k l e. let small : x.now < 256 = omega (arith, c.requires k l, get_or_default_zero c.args.kids.now k x.now l) in search rules)
