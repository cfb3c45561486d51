-- The loop keeps which entries stand up to the name and which do not.
use Rattle.std.proofs.Common.{◌≡◌, ◌+◌, ◌-◌, ◌/◌, add-one, arith}
use Rattle.scan.proofs.Told.{yes_told, no_told}
use Rattle.names.proofs.Finding.{ranked_up, ranked_down}
use Rattle.names.proofs.list.NameList.rank.Goals as goal

pub loop-low-preserved-then-upto : goal.loop-low-preserved-then-upto
loop-low-preserved-then-upto c = let mid = c.loop-low.low + (c.loop-low.high - c.loop-low.low) / 2 in (
  omega (arith, c.loop-low.invariant.0, c.loop-low.invariant.1),
  c.loop-low.invariant.1,
  λ ds n x y.
      rw (add-one mid)
      (ranked_up x {mid = mid} (omega (arith, c.loop-low.invariant.1))
      (λ m p. yes_told (c.upto.ensures m n (rw c.word_at.ensures.is p) y) c.if-upto.true) (c.loop-low.invariant.2 ds n x y)),
)

pub loop-low-preserved : goal.loop-low-preserved
loop-low-preserved c = let mid = c.loop-low.low + (c.loop-low.high - c.loop-low.low) / 2 in (
  omega arith,
  omega (arith, c.loop-low.invariant.1),
  λ ds n x y.
      ranked_down x {mid = mid} (omega (arith, c.loop-low.invariant.1)) (λ m p. no_told (c.upto.ensures m n (rw c.word_at.ensures.is p) y) c.if-upto.false)
      (c.loop-low.invariant.2 ds n x y),
)

pub returns : goal.returns
returns c = let e : c.loop-low.high ≡ c.loop-low.low = omega (arith, c.loop-low.invariant.0) in
    record { within = omega (arith, c.loop-low.invariant.0, c.loop-low.invariant.1); of = λ ds n x y. rw e at (c.loop-low.invariant.2 ds n x y) }
