-- What is granted of a choice that is not opened is what is reached, which the square tells. Assumes nothing.
use Rattle.table.proofs.Facts.{has_children}
use Rattle.table.specs.Steps.Numbering.{NumberedAs}
use Rattle.policy.proofs.SquareLaws.{policy_room}
use Rattle.completion.proofs.Passing.{choice_kids, choice_own, kids_few, kids_small}
use Rattle.completion.proofs.pass.complete_choice.Goals as goal

pub children-requires : goal.children-requires
children-requires c = let visit = c.requires.0 in has_children visit.policy.accepted visit.type

pub open_cycles-requires : goal.open_cycles-requires
open_cycles-requires c = let visit = c.requires.0 in
    let kids = c.children.ensures in
    let accepted = visit.policy.accepted in
    (kids_few accepted kids visit.type, kids_small accepted kids visit.type)

pub write_choice-requires : goal.write_choice-requires
write_choice-requires c = let numbered : let a = c.args in NumberedAs a.words.now a.x c.numbers_at-n.result = c.numbers_at-n.ensures in
    let pre = c.requires in
    policy_room pre.0.policy pre.2 numbered

pub returns : goal.returns
returns c = let numbered : let a = c.args in NumberedAs a.words.now a.x c.numbers_at-n.result = c.numbers_at-n.ensures in
    let pre = c.requires in
    record {
      kids = choice_kids pre.1 pre.2 c.reached-square.ensures pre.0.policy.accepted (rw c.children.ensures at c.open_cycles.ensures);
      own = choice_own pre.1 pre.2 c.reached-square.ensures numbered c.write_choice.ensures;
    }
