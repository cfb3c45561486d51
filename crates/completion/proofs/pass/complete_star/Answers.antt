-- What is granted of a star that is not opened is what is allowed, and its child is opened where both its marks are. Assumes nothing.
use Rattle.std.proofs.Common.{arith}
use Rattle.table.specs.Rule.{children_at}
use Rattle.table.specs.Steps.Numbering.{NumberedAs}
use Rattle.table.proofs.Facts.{has_children, has_record}
use Rattle.table.proofs.Lowest.{told_yes, told_no}
use Rattle.policy.specs.Marks.{Allowed}
use Rattle.policy.proofs.Renewals.{renewed_out, renewed_into}
use Rattle.completion.specs.Steps.Opens.{PassesOn}
use Rattle.completion.specs.Steps.Writing.{KidsOpened}
use Rattle.completion.proofs.Openings.{kids_none}
use Rattle.completion.proofs.Passing.{star_own, exchange_room, star_passes, star_kids, kids_small, visit_end}
use Rattle.completion.proofs.pass.complete_star.Goals as goal
use Rattle.completion.proofs.pass.complete_star.Goals.{then-is_renewed, else-is_renewed}

pub children-requires : goal.children-requires
children-requires c = let visit = c.requires.0 in has_children visit.policy.accepted (omega (arith, visit.type))

pub open_all-requires : goal.open_all-requires
open_all-requires c = let visit = c.requires.0 in
    kids_small visit.policy.accepted c.children.ensures (omega (arith, visit.type))

pub write_exchange-requires : goal.write_exchange-requires
write_exchange-requires c = let numbered : let a = c.args in NumberedAs a.words.now a.x c.numbers_at-n.result = c.numbers_at-n.ensures in
    let pre = c.requires in
    (numbered.low, exchange_room pre.0 pre.2 numbered)

pub privileges_at-requires : goal.privileges_at-requires
privileges_at-requires c = let visit = c.requires.0 in
    has_record visit.policy.accepted visit.type

pub write_range-requires : goal.write_range-requires
write_range-requires c = let visit = c.requires.0 in
    omega (arith, visit_end visit c.privileges_at.ensures.is)

pub returns : goal.returns
returns c = let numbered : let a = c.args in NumberedAs a.words.now a.x c.numbers_at-n.result = c.numbers_at-n.ensures in
    let opened : let a = c.args in KidsOpened (PassesOn a.words.now (Allowed a.m.now) a.x) (children_at a.words.now a.x) a.opened.now c.if-is_renewed.opened = let pre = c.requires in
    elim c.if-is_renewed.branch [
      | then-is_renewed w ↦ rw w.opened-is (star_kids pre.0.policy.accepted pre.2 (renewed_out numbered pre.2 (told_yes c.is_renewed.result c.is_renewed.ensures w.if-is_renewed.true)) (rw w.children.ensures at w.open_all.ensures))
      | else-is_renewed w ↦ rw w.opened-is (kids_none pre.0.size (λ i l g. told_no c.is_renewed.result c.is_renewed.ensures w.if-is_renewed.false (renewed_into numbered (star_passes pre.1 pre.2 g))))
    ] in
    let pre = c.requires in
    record {
      kids = opened;
      own = star_own pre.0 pre.1 pre.2 numbered c.privileges_at.ensures.is c.write_exchange.ensures c.write_range.ensures;
    }
