-- The lines of the types passed are put, and `first` is the first privilege of the next. Assumes nothing.
use Rattle.std.proofs.Common.{◌≡◌, sym, ap, ◌∙◌, arith}
use Rattle.table.specs.Words.{types}
use Rattle.table.specs.Privilege.{first_privilege}
use Rattle.table.proofs.Facts.{facts, has_record}
use Rattle.table.proofs.Privileges.{first_start, first_next, first_within}
use Rattle.mailing.proofs.Continuing.{privileges_are, continues_none, continues_then, continues_few, continues_all}
use Rattle.mailing.proofs.put_lines.Goals as goal

pub loop-x-init : goal.loop-x-init
loop-x-init c = (omega arith, sym (first_start c.args.words.now), continues_none)

pub privileges_at-requires : goal.privileges_at-requires
privileges_at-requires c = has_record c.requires.accepted (omega (arith, c.types-x-end.ensures.is, c.loop-x-test.true))

pub overflow_add-until : goal.overflow_add-until
overflow_add-until c = omega (arith, c.privileges_at.ensures.small, c.loop-x.invariant.1, first_within c.args.words.now c.loop-x.x c.loop-x.invariant.0, (facts c.requires.accepted).privileges_few)

pub put_type-end-requires : goal.put_type-end-requires
put_type-end-requires c = (
  c.requires,
  omega (arith, c.types-x-end.ensures.is, c.loop-x-test.true),
  c.loop-x.invariant.1,
  omega (arith, c.loop-x.invariant.1, c.privileges_at.ensures.is, first_next c.args.words.now c.loop-x.x),
  continues_few (omega arith) c.loop-x.invariant.2,
)

pub loop-x-preserved : goal.loop-x-preserved
loop-x-preserved c = (
  omega (arith, c.types-x-end.ensures.is, c.loop-x-test.true),
  omega (arith, c.loop-x.invariant.1, c.privileges_at.ensures.is, first_next c.args.words.now c.loop-x.x),
  continues_then c.loop-x.invariant.2 c.put_type-end.ensures,
)

pub returns : goal.returns
returns c = let all : c.loop-x.x ≡ types c.args.words.now = omega (arith, c.loop-x.invariant.0, c.types-x-end.ensures.is, c.loop-x-test.false) in
    continues_all (c.loop-x.invariant.1 ∙ ap (first_privilege c.args.words.now) all ∙ privileges_are c.args.words.now) c.loop-x.invariant.2
