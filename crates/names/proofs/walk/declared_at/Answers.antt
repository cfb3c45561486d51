-- White space and names end at one place only.
use Rattle.std.proofs.Common.{arith}
use Rattle.names.specs.Steps.Walk.{one_there}
use Rattle.scan.proofs.Agreeing.{span_le}
use Rattle.names.proofs.Items.{element_long, element_at}
use Rattle.names.proofs.walk.declared_at.Goals as goal

pub returns-then-s-at : goal.returns-then-s-at
returns-then-s-at c = record { of = λ b d ds x r. absurd (omega (arith, element_long x)); moved = tt }

pub returns : goal.returns
returns c = let x = c.blanks-name.ensures in
    let y = c.name_end.ensures in
    let z = c.blanks-body.ensures in
    record {
      of = λ b d ds w r. one_there (element_at x y z w r);
      moved = (omega (arith, span_le x.blanks, span_le y.bytes, span_le z.blanks), z.inside);
    }
