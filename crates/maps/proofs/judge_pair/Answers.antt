-- Each change is from allowed to forbidden; then the proposed marks get their verdict. Assumes nothing.
use Rattle.std.proofs.Common.{◌≡◌, ◌-◌, take, refl, arith}
use Rattle.std.proofs.Math.Nat.{sub-zero}
use Rattle.table.proofs.Facts.{facts}
use Rattle.verdict.proofs.Firsts.{verdict_clean, verdict_broken}
use Rattle.proposing.specs.Answers.{changed, broken, accepted}
use Rattle.pairs.specs.Maps.{maps, marks_for}
use Rattle.pairs.proofs.Spells.{paired_fit, spells_policy, spell_room, spelled_front}
use Rattle.maps.proofs.judge_pair.Goals as goal

pub lowest_change-found-requires : goal.lowest_change-found-requires
lowest_change-found-requires c = let pre = c.requires in
    (rw pre.2 pre.0.paired, rw pre.2 pre.1, omega (arith, pre.2, (facts pre.0.accepted).privileges_few))

pub returns-in-Some : goal.returns-in-Some
returns-in-Some c = let pre = c.requires in
    changed (spells_policy pre.0) (paired_fit pre.1) (rw pre.2 at (rw c.in-Some.is at c.lowest_change-found.ensures)) refl

pub spell-requires : goal.spell-requires
spell-requires c = spell_room c.requires.1.sized (facts c.requires.0.accepted).privileges_few

pub slice_bounds-first_breach-end : goal.slice_bounds-first_breach-end
slice_bounds-first_breach-end c = omega (arith, c.requires.2, (facts c.requires.0.accepted).privileges_few, c.spell.ensures.size)

pub returns-in_default-condition : goal.returns-in_default-condition
returns-in_default-condition c = let pre = c.requires in
    let front : let a = c.args in take (a.v - 0) c.spell.new.marks ≡ marks_for a.words.now (maps a.proposed_allowed.now a.proposed_forbidden.now) = rw (pre.2, sub-zero _) (spelled_front pre.1 (facts pre.0.accepted).privileges_few c.spell.ensures) in
    broken (spells_policy pre.0) (paired_fit pre.1) (rw pre.2 at (rw c.in_default.is at c.lowest_change-found.ensures))
    (verdict_broken _ _ (rw front at c.first_breach-breach.ensures) c.in_default-condition.not-None) refl

pub returns : goal.returns
returns c = let pre = c.requires in
    let front : let a = c.args in take (a.v - 0) c.spell.new.marks ≡ marks_for a.words.now (maps a.proposed_allowed.now a.proposed_forbidden.now) = rw (pre.2, sub-zero _) (spelled_front pre.1 (facts pre.0.accepted).privileges_few c.spell.ensures) in
    accepted (spells_policy pre.0) (paired_fit pre.1) (rw pre.2 at (rw c.in_default.is at c.lowest_change-found.ensures))
    (verdict_clean _ _ (rw front at c.first_breach-breach.ensures) c.in-None.is) (rw pre.2 at c.count_changes.ensures) refl
