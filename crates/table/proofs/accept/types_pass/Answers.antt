-- The loop keeps what the types passed are, and the sums over them. Assumes nothing.
use Rattle.std.proofs.Common.{◌≡◌, ℕ, ◌+◌, ◌*◌, ◌≤◌, List, refl, arith}
use Rattle.table.specs.Check.{RightCount}
use Rattle.table.specs.Words.{kind_at, first_at, count_at}
use Rattle.table.specs.Steps.Reading.{Widened}
use Rattle.table.proofs.Lowest.{told_yes}
use Rattle.table.proofs.Rules.{count_small}
use Rattle.table.proofs.Stamps.{Read, read_children, read_privileges, types_start, types_leaf, types_more, types_all}
use Rattle.table.proofs.accept.types_pass.Goals as goal

-- the record of type n, as it was read
was_read : (ws : List ℕ) (n : ℕ) {kind first index count : ℕ} → Widened (kind_at ws n) kind → Widened (first_at ws n) first → first ≡ index → Widened (count_at ws n) count
    → (kind ≤ 4) × RightCount kind count → Read ws n kind index count
was_read ws n k f same c r = record { kind_is = k; first_is = rw same at f; count_is = c; low = r.0; right = r.1 }

pub loop-t-init : goal.loop-t-init
loop-t-init c = rw c.requires.1 (types_start _ c.told-stamps)

pub loop-t-preserved-then-count-eq0 : goal.loop-t-preserved-then-count-eq0
loop-t-preserved-then-count-eq0 c =
    let first_is : Widened (first_at c.args.words.now c.loop-t.t) c.loop-t.index = rw c.if-record_word-index.false at c.record_word.ensures in
    types_leaf c.loop-t.invariant c.record_word-kind.ensures first_is (rw c.if-count-eq0.true at c.record_word-count.ensures) c.if-kind-gt1.false c.types-e.ensures.is c.loop-t-test.true

pub privileges_of-sum-requires : goal.privileges_of-sum-requires
privileges_of-sum-requires c =
    (rw c.rule_of.ensures (omega (arith, count_small c.record_word-kind.result c.loop-t.index c.record_word-count.result)), c.gap_of-gap.ensures.small)

pub loop-t-preserved : goal.loop-t-preserved
loop-t-preserved c =
    let read = was_read c.args.words.now c.loop-t.t c.record_word-kind.ensures c.record_word.ensures c.if-record_word-index.false c.record_word-count.ensures c.if-not-is_right.ensures in
    let from : ℕ = 8 + 3 * c.types-e.result + c.loop-t.index in
    let e = c.types-e.ensures.is in
    types_more c.loop-t.invariant read e c.loop-t-test.true
    (read_children read from _ (omega arith) refl e refl)
    (c.stamp_children.ensures c.if-not-stamp_children.false)
    (read_privileges read c.rule_of.ensures (rw c.gap_of-gap.ensures.is at c.privileges_of-sum.ensures))

pub returns : goal.returns
returns c = λ q. types_all c.loop-t.invariant (rw (← c.types-e.ensures.is) c.loop-t-test.false) c.requires.0.few (told_yes c.totals_fit.result c.totals_fit.ensures q)
