-- The loop has counted what is forbidden in the types passed. Assumes nothing.
use Rattle.std.proofs.Common.{◌≡◌, ◌<◌, sym, ap, ◌∙◌, arith}
use Rattle.table.specs.Words.{types}
use Rattle.table.specs.Privilege.{first_privilege}
use Rattle.table.proofs.HowMany.{many_most, tallied_many, tallied_start}
use Rattle.table.proofs.Facts.{facts, has_format, has_record}
use Rattle.table.proofs.Privileges.{first_start}
use Rattle.verdict.proofs.Spoils.{own_here}
use Rattle.verdict.proofs.Tallies.{tallied_added, counted_among, among_counted, all_privileges}
use Rattle.verdict.proofs.below.tally_flagged.Goals as goal

pub gap_of-gap-requires : goal.gap_of-gap-requires
gap_of-gap-requires c = has_format c.requires.accepted

pub loop-x-init : goal.loop-x-init
loop-x-init c = (sym (first_start _), tallied_start)

pub privileges_in-requires : goal.privileges_in-requires
privileges_in-requires c = (has_record c.requires.accepted (omega arith), c.gap_of-gap.ensures.is)

pub overflow_add-next : goal.overflow_add-next
overflow_add-next c = omega (arith, (own_here c.requires (omega arith) c.loop-x.invariant.0 c.privileges_in.ensures.is).low)

pub bounds-flags-x : goal.bounds-flags-x
bounds-flags-x c = omega (arith, (facts c.requires.accepted).few)

pub add_stretch-tally-requires : goal.add_stretch-tally-requires
add_stretch-tally-requires c = let own = own_here c.requires (omega arith) c.loop-x.invariant.0 c.privileges_in.ensures.is in
    (omega arith, own.inside, own.low, omega (arith, many_most (tallied_many c.loop-x.invariant.1), own.low))

pub loop-x-preserved : goal.loop-x-preserved
loop-x-preserved c = let type : c.loop-x.x < types c.args.words.now = omega arith in
    let own = own_here c.requires type c.loop-x.invariant.0 c.privileges_in.ensures.is in
    let ws = c.args.words.now in
    let marks = c.args.marks.now in
    let flags = c.args.flags.now in (
      own.next,
      tallied_added (omega arith) (counted_among ws marks flags type c.loop-x.invariant.0 own.next) (among_counted ws marks flags type c.loop-x.invariant.0 own.next)
          c.loop-x.invariant.1 c.add_stretch-tally.ensures,
    )

pub returns : goal.returns
returns c = let ws = c.args.words.now in
    let end : c.loop-x.x ≡ types ws = omega arith in
    rw (c.loop-x.invariant.0 ∙ ap (first_privilege ws) end ∙ all_privileges ws) at c.loop-x.invariant.1
