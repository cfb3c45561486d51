-- The loop stands at a type whose privileges do not all end at or before p, unless it goes on. Assumes nothing.
use Rattle.std.proofs.Common.{◌+◌, arith}
use Rattle.table.proofs.Facts.{facts, has_format, has_record}
use Rattle.table.proofs.Privileges.{first_start, first_next}
use Rattle.editing.proofs.Aboves.{type_more}
use Rattle.editing.proofs.above.type_of.Goals as goal

pub gap_of-gap-requires : goal.gap_of-gap-requires
gap_of-gap-requires c = has_format c.requires.0

pub privileges_in-next-requires : goal.privileges_in-next-requires
privileges_in-next-requires c = let a = c.requires.0 in
    (has_record a (facts a).some, c.gap_of-gap.ensures.is)

pub loop-next-init : goal.loop-next-init
loop-next-init c = let ws = c.args.words.now in
    let zero = first_start ws in
    ((facts c.requires.0).some, omega (arith, c.privileges_in-next.ensures.is, first_next ws 0), omega arith)

pub privileges_in-next-requires-in-loop-next : goal.privileges_in-next-requires-in-loop-next
privileges_in-next-requires-in-loop-next c = let at = c.loop-next.invariant in
    (has_record c.requires.0 (type_more _ c.requires.1 at.0 at.1 c.loop-next-test.true), c.gap_of-gap.ensures.is)

pub overflow_add-next : goal.overflow_add-next
overflow_add-next c = omega (arith, c.loop-next-test.true, c.requires.1, (facts c.requires.0).privileges_few, c.privileges_in-next-in-loop-next.ensures.small)

pub loop-next-preserved : goal.loop-next-preserved
loop-next-preserved c = let at = c.loop-next.invariant in
    let next = first_next c.args.words.now (c.loop-next.x + 1) in (
      type_more _ c.requires.1 at.0 at.1 c.loop-next-test.true,
      omega (arith, at.1, next, c.privileges_in-next-in-loop-next.ensures.is),
      omega (arith, at.1, c.loop-next-test.true),
    )

pub returns : goal.returns
returns c = let at = c.loop-next.invariant in
    record { type = at.0; from = at.2; until = omega (arith, at.1, first_next c.args.words.now c.loop-next.x, c.loop-next-test.false) }
