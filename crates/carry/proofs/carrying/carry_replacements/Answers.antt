-- The replacements by their places are those by the kinds they name. Assumes nothing.
use Rattle.table.proofs.Facts.{has_children}
use Rattle.carry.specs.Steps.Placing.{RowsTo, Replaces}
use Rattle.carry.specs.Steps.Moving.{BecomesBy, ReplacesAt}
use Rattle.carry.proofs.Scattering.{scattered_as}
use Rattle.carry.proofs.Placing.{replaces_small, replaces_never, replaces_room, replaces_become, become_replaces}
use Rattle.carry.proofs.carrying.carry_replacements.Goals as goal

pub returns-then-from-eq0 : goal.returns-then-from-eq0
returns-then-from-eq0 c = let a = c.args in
    replaces_never a.revision.words.now a.revision.new_words.now a.revision.numbers.now c.replaces_at-from.ensures c.if-from-eq0.true

pub children-requires : goal.children-requires
children-requires c = let w = c.requires in has_children w.moving.move.policy.accepted w.type

pub children-requires-2 : goal.children-requires-2
children-requires-2 c = let w = c.requires in has_children w.moving.move.accepted w.there

pub places-at-requires : goal.places-at-requires
places-at-requires c = ((replaces_small c.replaces_at-from.ensures).few, (replaces_small c.replaces_at-to.ensures).few)

pub carry_rows-requires : goal.carry_rows-requires
carry_rows-requires c = let w = c.requires.moving in
    let from = c.replaces_at-from.ensures in
    (replaces_room from w.move.policy.fit.size, replaces_room from w.lost_size, replaces_room c.replaces_at-to.ensures w.out_size)

pub returns : goal.returns
returns c = let a = c.args in
    let w = c.requires in
    let old = a.revision.words.now in
    let new = a.revision.new_words.now in
    let numbers = a.revision.numbers.now in
    let at = c.places-at.result in
    let b = w.moving.move.accepted in
    let placed = rw (c.children.ensures, c.children-2.ensures) at c.places-at.ensures in
    scattered_as (Replaces c.replaces_at-from.result c.replaces_at-to.result at (RowsTo c.replaces_at-from.result.count)) (BecomesBy (ReplacesAt a.site.x) old new numbers)
    (replaces_become old new numbers at a.site.x a.site.y w.y_is c.replaces_at-from.result c.replaces_at-to.result b w.there c.replaces_at-from.ensures c.replaces_at-to.ensures placed)
    (become_replaces old new numbers at a.site.x a.site.y w.y_is c.replaces_at-from.result c.replaces_at-to.result b w.there c.replaces_at-from.ensures c.replaces_at-to.ensures placed)
    c.carry_rows.ensures
