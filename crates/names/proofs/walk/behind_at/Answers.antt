-- The first '>' ends the declaration, since none stands in a content.
use Rattle.std.proofs.Common.{add-one, arith}
use Rattle.names.proofs.Contents.{declared_ends, never_ends}
use Rattle.names.proofs.Contents.{declared_ends, never_ends}
use Rattle.names.proofs.walk.behind_at.Goals as goal

pub returns-then-s-i-eq62 : goal.returns-then-s-i-eq62
returns-then-s-i-eq62 c = record {
  of = λ d ds name x. rw (add-one c.loop-i.i) (declared_ends c.loop-i.invariant (record { within = omega arith; is = c.if-s-i-eq62.true }) x);
  from = omega (arith, c.loop-i.invariant.le);
  inside = λ h. omega arith;
}

pub returns : goal.returns
returns c = record { of = λ d ds name x. absurd (never_ends c.loop-i.invariant c.loop-i-test.false x); from = omega arith; inside = λ h. omega arith }
