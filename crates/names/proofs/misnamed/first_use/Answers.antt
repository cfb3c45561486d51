-- One case for each way in which a content begins.
use Rattle.std.proofs.Common.{add-one, arith}
use Rattle.scan.proofs.Agreeing.{span_le}
use Rattle.names.proofs.Contents.{declared_text, declared_group, declared_unopened}
use Rattle.names.proofs.misnamed.first_use.Goals as goal

pub returns-then-is-2 : goal.returns-then-is-2
returns-then-is-2 c = let w = rw (add-one c.args.body) at c.blanks-b.ensures in
    let y = rw (add-one c.blanks-b.result) at c.name_end.ensures in
    record { of = λ d ds name x. declared_text x c.if-is.ensures w c.if-is-2.ensures y; from = omega (arith, span_le w.blanks, span_le y.bytes) }

pub returns-then-is : goal.returns-then-is
returns-then-is c = record { of = λ d ds name x. declared_group x c.if-is.ensures (rw (add-one c.args.body) at c.blanks-b.ensures) c.if-is-2.ensures; from = omega arith }

pub returns : goal.returns
returns c = let y = c.name_end-2.ensures in
    record { of = λ d ds name x. declared_unopened x c.if-is.ensures y; from = span_le y.bytes }
