-- Where either is no star, or the child another one, nothing is moved, else two pairs. Assumes nothing.
use Rattle.std.proofs.Common.{sym, ap, ◌∙◌, arith}
use Rattle.table.specs.Privilege.{insert, delete}
use Rattle.table.proofs.Facts.{facts, has_record, has_children}
use Rattle.carry.specs.Numbers.{new_number}
use Rattle.carry.proofs.Moving.{ends_none_old, ends_none_new, ends_none_child, ends_moved, room_for}
use Rattle.carry.proofs.Ruled.{is_star, no_star}
use Rattle.carry.proofs.carrying.carry_ends.Goals as goal

pub rule_at-requires : goal.rule_at-requires
rule_at-requires c = has_record c.requires.moving.move.policy.accepted c.requires.type

pub returns-in_default : goal.returns-in_default
returns-in_default c = let a = c.args in
    ends_none_old a.revision.words.now a.revision.new_words.now a.revision.numbers.now a.site.x a.site.y c.requires.y_is (no_star c.rule_at.ensures c.in_default.not-Star)

pub rule_at-requires-2 : goal.rule_at-requires-2
rule_at-requires-2 c = has_record c.requires.moving.move.accepted c.requires.there

pub returns-in_default-rule_at : goal.returns-in_default-rule_at
returns-in_default-rule_at c = let a = c.args in
    ends_none_new a.revision.words.now a.revision.new_words.now a.revision.numbers.now a.site.x a.site.y c.requires.y_is (no_star c.rule_at-2.ensures c.in_default-rule_at.not-Star)

pub child_at-requires : goal.child_at-requires
child_at-requires c = has_children c.requires.moving.move.policy.accepted c.requires.type

pub child_at-requires-2 : goal.child_at-requires-2
child_at-requires-2 c = has_children c.requires.moving.move.accepted c.requires.there

pub returns-then-word_at-child_at : goal.returns-then-word_at-child_at
returns-then-word_at-child_at c = let a = c.args in
    ends_none_child a.revision.words.now a.revision.new_words.now a.revision.numbers.now a.site.x a.site.y c.requires.y_is
    (λ e. c.if-word_at-child_at.true (c.word_at.ensures.is ∙ ap (new_number a.revision.numbers.now) c.child_at.ensures ∙ e ∙ sym c.child_at-2.ensures))

pub move_mark-requires : goal.move_mark-requires
move_mark-requires c = let a = c.args in
    let w = c.requires in
    let room = room_for w.moving (insert a.site.x) (insert a.site.y) (is_star c.rule_at.ensures w.type c.in-Star.is) (is_star c.rule_at-2.ensures w.there c.in-Star-rule_at.is) in
    (omega (arith, w.first_is, room.0), omega (arith, w.first_is, room.1), omega (arith, w.onto_is, room.2))

pub overflow_add-site : goal.overflow_add-site
overflow_add-site c = let a = c.args in
    let w = c.requires in
    let room = room_for w.moving (delete a.site.x) (delete a.site.y) (is_star c.rule_at.ensures w.type c.in-Star.is) (is_star c.rule_at-2.ensures w.there c.in-Star-rule_at.is) in
    omega (arith, w.first_is, room.1, w.moving.lost_size, (facts w.moving.move.policy.accepted).privileges_few)

pub overflow_add-site-2 : goal.overflow_add-site-2
overflow_add-site-2 c = let a = c.args in
    let w = c.requires in
    let room = room_for w.moving (delete a.site.x) (delete a.site.y) (is_star c.rule_at.ensures w.type c.in-Star.is) (is_star c.rule_at-2.ensures w.there c.in-Star-rule_at.is) in
    omega (arith, w.onto_is, room.2, w.moving.out_size, (facts w.moving.move.accepted).privileges_few)

pub move_mark-requires-2 : goal.move_mark-requires-2
move_mark-requires-2 c = let a = c.args in
    let w = c.requires in
    let first = c.move_mark.ensures in
    let room = room_for w.moving (delete a.site.x) (delete a.site.y) (is_star c.rule_at.ensures w.type c.in-Star.is) (is_star c.rule_at-2.ensures w.there c.in-Star-rule_at.is) in (
      omega (arith, w.first_is, room.0),
      omega (arith, w.first_is, room.1, first.lost_size),
      omega (arith, w.onto_is, room.2, first.out_size),
    )

pub returns : goal.returns
returns c = let a = c.args in
    let w = c.requires in
    let same = ap (new_number a.revision.numbers.now) (sym c.child_at.ensures) ∙ sym c.word_at.ensures.is ∙ c.if-word_at-child_at.false ∙ c.child_at-2.ensures in
    ends_moved a.revision.words.now a.revision.new_words.now a.revision.numbers.now a.site.x a.site.y w.y_is (is_star c.rule_at.ensures w.type c.in-Star.is)
    (is_star c.rule_at-2.ensures w.there c.in-Star-rule_at.is) same w.first_is w.onto_is c.move_mark.ensures c.move_mark-2.ensures
