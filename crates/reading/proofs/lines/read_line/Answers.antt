-- The sign, the type's name and the edit are found one behind another. Assumes nothing.
use Rattle.std.proofs.Common.{◌<◌, arith}
use Rattle.table.specs.Words.{types}
use Rattle.table.proofs.Facts.{facts}
use Rattle.reading.proofs.OneLine.{line_unsigned, line_untyped, line_typed, line_unedited}
use Rattle.reading.proofs.lines.read_line.Goals as goal

pub returns-in_err-mark : goal.returns-in_err-mark
returns-in_err-mark c = rw c.from_residual.ensures (line_unsigned c.in_err-mark.ensures)

pub find_type-requires : goal.find_type-requires
find_type-requires c = let p = c.requires in
    let e = c.types.ensures.is in
    (c.in_ok-mark.ensures.stands.within, omega (arith, e, (facts p.0.accepted).few), omega (arith, e, p.3))

pub returns-in_err-named : goal.returns-in_err-named
returns-in_err-named c = rw c.from_residual-in_err-named.ensures (line_untyped c.in_ok-mark.ensures (rw c.types.ensures.is at c.in_err-named.ensures))

pub returns-in_err-edit : goal.returns-in_err-edit
returns-in_err-edit c = let named = c.in_ok-named.ensures in
    rw c.from_residual-in_err-edit.ensures
    (line_unedited c.in_ok-mark.ensures c.requires.0.labelled (omega (arith, named.below, c.types.ensures.is)) named.stands c.in_err-edit.ensures)

pub returns : goal.returns
returns c = let named = c.in_ok-named.ensures in
    let low : c.in_ok-named.named.number < types c.args.words.now = omega (arith, named.below, c.types.ensures.is) in
    record { type = low; standing = line_typed c.in_ok-mark.ensures c.requires.0.labelled low named.stands c.in_ok-edit.ensures }
