-- Where either is no text nothing is moved, else one pair. Assumes nothing.
use Rattle.std.proofs.Common.{arith}
use Rattle.table.specs.Privilege.{text}
use Rattle.table.proofs.Facts.{has_record}
use Rattle.carry.proofs.Moving.{text_none_old, text_none_new, text_moved, room_for}
use Rattle.carry.proofs.Ruled.{is_text, no_text}
use Rattle.carry.proofs.carrying.carry_text.Goals as goal

pub rule_at-requires : goal.rule_at-requires
rule_at-requires c = has_record c.requires.moving.move.policy.accepted c.requires.type

pub returns-in_default : goal.returns-in_default
returns-in_default c = let a = c.args in
    text_none_old a.revision.words.now a.revision.new_words.now a.revision.numbers.now a.site.x a.site.y c.requires.y_is (no_text c.rule_at.ensures c.in_default.not-Text)

pub rule_at-requires-2 : goal.rule_at-requires-2
rule_at-requires-2 c = has_record c.requires.moving.move.accepted c.requires.there

pub returns-in_default-rule_at : goal.returns-in_default-rule_at
returns-in_default-rule_at c = let a = c.args in
    text_none_new a.revision.words.now a.revision.new_words.now a.revision.numbers.now a.site.x a.site.y c.requires.y_is (no_text c.rule_at-2.ensures c.in_default-rule_at.not-Text)

pub move_mark-requires : goal.move_mark-requires
move_mark-requires c = let a = c.args in
    let w = c.requires in
    let room = room_for w.moving (text a.site.x) (text a.site.y) (is_text c.rule_at.ensures w.type c.in-Text.is) (is_text c.rule_at-2.ensures w.there c.in-Text-rule_at.is) in
    (omega (arith, w.first_is, room.0), omega (arith, w.first_is, room.1), omega (arith, w.onto_is, room.2))

pub returns : goal.returns
returns c = let a = c.args in
    let w = c.requires in
    text_moved a.revision.words.now a.revision.new_words.now a.revision.numbers.now a.site.x a.site.y w.y_is (is_text c.rule_at.ensures w.type c.in-Text.is)
    (is_text c.rule_at-2.ensures w.there c.in-Text-rule_at.is) w.first_is w.onto_is c.move_mark.ensures
