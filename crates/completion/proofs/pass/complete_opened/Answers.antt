-- Everything of an opened type is granted, and it passes opening on to each child. Assumes nothing.
use Rattle.std.proofs.Common.{inl, arith}
use Rattle.table.proofs.Facts.{has_children, has_record}
use Rattle.completion.proofs.Openings.{kids_as}
use Rattle.completion.proofs.Passing.{kids_small, opened_own, visit_end, visit_fits}
use Rattle.completion.proofs.pass.complete_opened.Goals as goal

pub children-requires : goal.children-requires
children-requires c = let visit = c.requires.0 in has_children visit.policy.accepted (omega (arith, visit.type))

pub open_all-requires : goal.open_all-requires
open_all-requires c = let visit = c.requires.0 in
    kids_small visit.policy.accepted c.children.ensures (omega (arith, visit.type))

pub privileges_at-requires : goal.privileges_at-requires
privileges_at-requires c = let visit = c.requires.0 in has_record visit.policy.accepted visit.type

pub overflow_add-first : goal.overflow_add-first
overflow_add-first c = let visit = c.requires.0 in
    omega (arith, visit_fits visit c.privileges_at.ensures.is)

pub write_range-requires : goal.write_range-requires
write_range-requires c = let visit = c.requires.0 in
    visit_end visit c.privileges_at.ensures.is

pub returns : goal.returns
returns c = let pre = c.requires in
    record {
      kids = kids_as (λ i l u. inl pre.1) (λ i l g. tt) (rw c.children.ensures at c.open_all.ensures);
      own = opened_own pre.0 pre.1 c.privileges_at.ensures.is c.write_range.ensures;
    }
