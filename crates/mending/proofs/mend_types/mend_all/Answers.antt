-- The loop has mended the types passed, and followed the rule. Assumes nothing.
use Rattle.std.proofs.Common.{◌≡◌, sym, arith}
use Rattle.mending.proofs.Staying.{mending_on, mending_done, mending_few}
use Rattle.mending.specs.Steps.Taking.{start}
use Rattle.verdict.proofs.Firsts.{clean_start}
use Rattle.verdict.proofs.Spoils.{flags_agree}
use Rattle.table.proofs.Facts.{facts, has_format, has_record}
use Rattle.table.proofs.Privileges.{first_start, first_next, first_within}
use Rattle.table.specs.Words.{types}
use Rattle.mending.proofs.mend_types.mend_all.Goals as goal

pub gap_of-gap-requires : goal.gap_of-gap-requires
gap_of-gap-requires c = has_format c.requires.0.accepted

pub loop-x-init : goal.loop-x-init
loop-x-init c = (sym (first_start _), record { follows = start; policy = c.requires.0; spoilt = flags_agree c.flag_spoilt.ensures; clean = clean_start _ _ _ })

pub overflow_add-count : goal.overflow_add-count
overflow_add-count c = omega (arith, mending_few (mending_on c.loop-x.invariant.1 c.mend_type-count.ensures))

pub privileges_in-first-requires : goal.privileges_in-first-requires
privileges_in-first-requires c = (has_record c.requires.0.accepted (omega (arith, c.loop-x-test.true, c.types-e.ensures.is)), c.gap_of-gap.ensures.is)

pub overflow_add-first : goal.overflow_add-first
overflow_add-first c = omega (arith, first_within c.args.words.now c.loop-x.x (omega arith), (facts c.requires.0.accepted).privileges_few)

pub loop-x-preserved : goal.loop-x-preserved
loop-x-preserved c = (
  rw (c.loop-x.invariant.0, c.privileges_in-first.ensures.is) (sym (first_next _ c.loop-x.x)),
  mending_on c.loop-x.invariant.1 c.mend_type-count.ensures,
)

pub returns : goal.returns
returns c = let end : c.loop-x.x ≡ types c.args.words.now = omega arith in
    mending_done (rw end at c.loop-x.invariant.1)
