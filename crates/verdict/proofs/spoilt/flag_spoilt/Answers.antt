-- The pass keeps what the types passed, and those still to come, hold. Assumes nothing.
use Rattle.std.proofs.Common.{ℕ, List, ◌≡◌, ◌<◌, ◌≤◌, length, get_or, take, get_or-take, length-take-le, ◌∙◌, arith}
use Rattle.table.specs.Words.{types}
use Rattle.table.proofs.Facts.{facts, has_children}
use Rattle.verdict.proofs.Spoils.{climb_start, climb_more, climb_all}
use Rattle.verdict.proofs.spoilt.flag_spoilt.Goals as goal

-- one of the first n places of the order, of which there are that many
within : (order : List ℕ) (n k : ℕ) → n ≤ length order → k < length (take n order) → (k < n) × (get_or (take n order) k 0 ≡ get_or order k 0)
within order n k few l = let h : k < n = omega (arith, length-take-le n order few) in (h, get_or-take n order k 0 h)

pub loop-t-init : goal.loop-t-init
loop-t-init c = climb_start c.requires.1 c.own_flags.ensures

pub children-requires : goal.children-requires
children-requires c = let order = c.args.order.now in
    let w = within order c.types-e.result c.loop-t.t-index (omega (arith, (facts c.requires.0.accepted).few)) c.loop-t-test.true in
    has_children c.requires.0.accepted (rw (c.from-x.ensures ∙ w.1) (c.requires.1.inside c.loop-t.t-index (omega (arith, w.0))))

pub flag_over-requires : goal.flag_over-requires
flag_over-requires c = let f = facts c.requires.0.accepted in
    let order = c.args.order.now in
    let w = within order c.types-e.result c.loop-t.t-index (omega (arith, f.few)) c.loop-t-test.true in
    let type : c.from-x.result < types c.args.words.now = rw (c.from-x.ensures ∙ w.1) (c.requires.1.inside c.loop-t.t-index (omega (arith, w.0))) in
    λ i l. rw c.children.ensures (omega (arith, f.few, f.child_inside _ i type (rw (← f.children_here _ type, ← c.children.ensures) l)))

pub loop-t-preserved : goal.loop-t-preserved
loop-t-preserved c = let order = c.args.order.now in
    let w = within order c.types-e.result c.loop-t.t-index (omega (arith, (facts c.requires.0.accepted).few)) c.loop-t-test.true in
    let here = c.from-x.ensures ∙ w.1 in
    rw here (climb_more c.requires.0 c.requires.1 c.loop-t.invariant (omega (arith, w.0)) (rw (c.children.ensures, here) at c.flag_over.ensures))

pub returns : goal.returns
returns c = climb_all c.requires.1 c.own_flags.ensures c.loop-t.invariant (omega (arith, length-take-le c.types-e.result c.args.order.now (omega (arith, (facts c.requires.0.accepted).few))))
