-- The types passed are moved, and `first` is the first privilege of the next. Assumes nothing.
use Rattle.std.proofs.Common.{ℕ, ◌+◌, refl, sym, ap, ◌∙◌, arith}
use Rattle.table.proofs.Facts.{facts, has_record}
use Rattle.table.proofs.Privileges.{first_start, first_next, first_within}
use Rattle.carry.proofs.Moving.{types_start, types_more, types_all}
use Rattle.carry.proofs.carrying.carry_all.Goals as goal

pub loop-x-init : goal.loop-x-init
loop-x-init c = let a = c.args in
    record { first = sym (first_start a.revision.words.now); moved = types_start a.revision.words.now a.revision.new_words.now a.revision.numbers.now a.revision.marks.now _ _ }

pub privileges_at-first-requires : goal.privileges_at-first-requires
privileges_at-first-requires c = has_record c.requires.move.policy.accepted (omega (arith, c.types-x-end.ensures.is, c.loop-x-test.true))

pub overflow_add-first : goal.overflow_add-first
overflow_add-first c = let within = first_within c.args.revision.words.now c.loop-x.x (omega (arith, c.types-x-end.ensures.is, c.loop-x-test.true)) in
    omega (arith, c.privileges_at-first.ensures.small, c.loop-x.invariant.first, within, (facts c.requires.move.policy.accepted).privileges_few)

pub loop-x-preserved : goal.loop-x-preserved
loop-x-preserved c = let a = c.args in
    let at = c.loop-x.invariant in
    record {
      first = ap (λ (p : ℕ). p + c.privileges_at-first.result) at.first ∙ rw c.privileges_at-first.ensures.is (sym (first_next a.revision.words.now c.loop-x.x));
      moved = types_more a.revision.words.now a.revision.new_words.now a.revision.numbers.now c.loop-x.x at.moved c.carry_type.ensures;
    }

pub returns : goal.returns
returns c = let a = c.args in
    let w = c.requires in
    let clear = c.fill.ensures in
    let all = c.lose_all.ensures in
    types_all a.revision.words.now a.revision.new_words.now a.revision.numbers.now c.loop-x.x (omega (arith, c.types-x-end.ensures.is)) (omega (arith, clear.len, w.out_size))
    (all.0 ∙ w.lost_size) (λ q l. clear.clones q 0 (omega (arith, w.out_size)) refl) (λ p l. all.1 p (omega (arith, w.lost_size))) c.loop-x.invariant.moved
