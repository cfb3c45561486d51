-- The loop has asked each condition of the types that it has passed. Assumes nothing.
use Rattle.std.proofs.Common.{ℕ, ◌+◌, sym, ap, ◌∙◌, arith}
use Rattle.table.proofs.Facts.{facts, has_format, has_record}
use Rattle.table.proofs.Privileges.{first_start, first_next, first_within}
use Rattle.broken.proofs.Asking.{before_start, before_more}
use Rattle.broken.proofs.broken_by.Goals as goal

pub gap_of-gap-requires : goal.gap_of-gap-requires
gap_of-gap-requires c = has_format c.requires.0.accepted

pub loop-x-init : goal.loop-x-init
loop-x-init c = (sym (first_start _), before_start _ _ _)

pub privileges_in-first-requires : goal.privileges_in-first-requires
privileges_in-first-requires c = (has_record c.requires.0.accepted (omega arith), c.gap_of-gap.ensures.is)

pub overflow_add-first : goal.overflow_add-first
overflow_add-first c = omega (arith, first_within c.args.words.now c.loop-x.x (omega arith), (facts c.requires.0.accepted).privileges_few)

pub loop-x-preserved : goal.loop-x-preserved
loop-x-preserved c = (
  ap (λ (p : ℕ). p + c.privileges_in-first.result) c.loop-x.invariant.0 ∙ rw c.privileges_in-first.ensures.is (sym (first_next _ c.loop-x.x)),
  before_more _ _ _ c.loop-x.invariant.1 c.add_spoilt-broken.ensures,
)
