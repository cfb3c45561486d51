-- The flag of the star's child. Assumes nothing.
use Rattle.std.proofs.Common.{ℕ, List, get_or, ap, ◌∙◌, arith}
use Rattle.table.proofs.Facts.{facts}
use Rattle.verdict.specs.Breaches.{at_below}
use Rattle.verdict.proofs.Breached.{star_first}
use Rattle.verdict.proofs.breaches.renewed_breach.Goals as goal

pub bounds-flags-word_at : goal.bounds-flags-word_at
bounds-flags-word_at c = let v = c.requires.0 in
    let f = facts v.policy.accepted in
    omega (arith, c.word_at.ensures.is ∙ ap (λ (l : List ℕ). get_or l 0 0) v.kids_are, f.few, f.child_inside c.args.x 0 v.type (omega (arith, f.star_one c.args.x c.requires.1)))

pub returns-then-flags-word_at-eq1 : goal.returns-then-flags-word_at-eq1
returns-then-flags-word_at-eq1 c = let child_is = c.word_at.ensures.is ∙ ap (λ (l : List ℕ). get_or l 0 0) c.requires.0.kids_are in
    let pre = c.requires in
    rw c.star_spot.ensures (star_first _ _ _ _ pre.1 {p = 0} (at_below pre.2 pre.3 (rw child_is at c.if-flags-word_at-eq1.true)))
