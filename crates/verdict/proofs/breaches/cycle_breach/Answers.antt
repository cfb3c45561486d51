-- The loop has passed no position with a cycle that breaks condition 3. Assumes nothing.
use Rattle.std.proofs.Common.{ℕ, List, ◌≡◌, ◌<◌, length, get_or, ap, ◌∙◌, arith}
use Rattle.table.specs.Rule.{count_of, child_at}
use Rattle.table.proofs.Facts.{facts}
use Rattle.table.proofs.Lowest.{told_yes, told_no}
use Rattle.policy.specs.Steps.Squares.{marked}
use Rattle.policy.proofs.SquareLaws.{told_marked}
use Rattle.verdict.specs.Steps.Visits.{Visited}
use Rattle.verdict.proofs.Breached.{cycles_more, cycles_none, cycle_first}
use Rattle.verdict.proofs.breaches.cycle_breach.Goals as goal

module _ {ws marks : List ℕ} {x : ℕ} {kids : List ℕ} (v : Visited ws marks x kids) where
  all_here : length kids ≡ count_of ws x
  all_here = ap length v.kids_are ∙ (facts v.policy.accepted).children_here x v.type

  child_is : (i : ℕ) → get_or kids i 0 ≡ child_at ws x i
  child_is i = ap (λ (l : List ℕ). get_or l i 0) v.kids_are

pub is_spoilt-requires : goal.is_spoilt-requires
is_spoilt-requires c = let v = c.requires.0 in
    let f = facts v.policy.accepted in
    let i = c.loop-i.i in
    let here : i < count_of c.args.words.now c.args.x = omega (arith, all_here v) in
    (omega (arith, f.children_few c.args.x v.type), c.loop-i-test.true, omega (arith, child_is v i, f.few, f.child_inside c.args.x i v.type here))

pub returns-then-is_spoilt : goal.returns-then-is_spoilt
returns-then-is_spoilt c = let v = c.requires.0 in
    let i = c.loop-i.i in
    let here : i < count_of c.args.words.now c.args.x = omega (arith, all_here v) in
    let h = told_yes c.is_spoilt.result c.is_spoilt.ensures c.if-is_spoilt.true in
    cycle_first _ _ _ _ {p = 0} c.requires.1 c.loop-i.invariant (told_yes (marked c.args.square.now i i) (c.requires.2.tells i i here here) h.0) (rw (child_is v i) at h.1)

pub loop-i-preserved : goal.loop-i-preserved
loop-i-preserved c = let v = c.requires.0 in
    let i = c.loop-i.i in
    let here : i < count_of c.args.words.now c.args.x = omega (arith, all_here v) in
    cycles_more _ _ _ _ c.loop-i.invariant
    (λ p r f. told_no c.is_spoilt.result c.is_spoilt.ensures c.if-is_spoilt.false ((told_marked c.requires.2 i i here here r).is, rw (child_is v i) f))

pub returns : goal.returns
returns c = let end : c.loop-i.i ≡ count_of c.args.words.now c.args.x = omega (arith, all_here c.requires.0) in cycles_none _ _ _ _ (rw end at c.loop-i.invariant)
