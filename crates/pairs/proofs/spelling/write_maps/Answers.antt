-- The fronts of both are written. Assumes nothing.
use mathlib.Core.Path.{◌∙◌}
use native.Mathlib.Nat.{sub-zero}
use native.Mathlib.Omega.{arith}
use lib.Seq.{length-take-le}
use Rattle.pairs.proofs.Unspells.{maps_before}
use Rattle.pairs.proofs.spelling.write_maps.Goals as goal

pub returns : goal.returns
returns c = λ n s same. let a = c.args in
    let told = c.unspell.ensures in
    let is = c.bytes_for-bytes.ensures in
    maps_before n a.allowed.now a.forbidden.now _ s (sub-zero _ ∙ is)
    (length-take-le _ a.allowed.now (omega (arith, is, c.requires.3.allowed)) ∙ sub-zero _ ∙ is)
    (length-take-le _ a.forbidden.now (omega (arith, is, c.requires.3.forbidden)) ∙ sub-zero _ ∙ is)
    same told.0 told.1
