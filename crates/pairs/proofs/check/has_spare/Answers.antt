-- The spare bits are the last byte's from the privileges' own on. Assumes nothing.
use Rattle.std.proofs.Common.{◌/◌, arith}
use Rattle.table.proofs.Lowest.{tells_ne_as}
use Rattle.pairs.proofs.Paired.{spare_out, spare_into}
use Rattle.pairs.proofs.check.has_spare.Goals as goal

pub returns : goal.returns
returns c = let map = c.args.map.now in
    tells_ne_as _ _ 0 (spare_into {map = map} c.requires.0 (omega (arith, c.type_inv.map (c.args.v / 8)))) (spare_out {map = map} c.requires.0)
