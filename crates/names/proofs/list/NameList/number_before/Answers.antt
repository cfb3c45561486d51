-- The last entry that stands up to the name is its own, if it does not stand before it. Assumes nothing.
use Rattle.std.proofs.Common.{◌+◌, ◌-◌, ◌*◌, arith, ◌≡◌}
use Rattle.scan.proofs.Told.{yes_told, no_told}
use Rattle.names.proofs.Finding.{before_first, before_hit, before_miss}
use Rattle.names.proofs.list.NameList.number_before.Goals as goal

pub returns-then-k-eq0 : goal.returns-then-k-eq0
returns-then-k-eq0 c = before_first (omega arith)

pub returns-then-upto : goal.returns-then-upto
returns-then-upto c = let k = c.args.k in
    let e : 2 * k - 2 ≡ 2 * (k - 1) = omega arith in
    let f : 2 * k - 1 ≡ 2 * (k - 1) + 1 = omega arith in
    before_hit {i = k - 1} (omega arith) (rw e at c.word_at.ensures.is) (rw f at c.word_at-then-upto.ensures.is) c.word_at-then-upto.ensures.small
    (λ n m p q. yes_told (c.upto.ensures n m p q) c.if-upto.true)

pub returns : goal.returns
returns c = let k = c.args.k in
    let e : 2 * k - 2 ≡ 2 * (k - 1) = omega arith in
    before_miss {i = k - 1} (omega arith) (rw e at c.word_at.ensures.is) (λ n m p q. no_told (c.upto.ensures n m p q) c.if-upto.false)
