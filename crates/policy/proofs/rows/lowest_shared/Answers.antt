-- By the lowest bit of what they share. Assumes nothing.
use Rattle.std.proofs.Common.{arith}
use Rattle.policy.proofs.Bits.{none_shared, lowest_shared}
use Rattle.policy.proofs.rows.lowest_shared.Goals as goal

pub returns-then-shared-eq0 : goal.returns-then-shared-eq0
returns-then-shared-eq0 c = record {
  within = omega arith;
  free = λ q l. none_shared c.args.a c.args.b c.if-shared-eq0.true q;
  here = λ l. absurd (omega arith);
}

pub returns : goal.returns
returns c = lowest_shared c.args.a c.args.b c.if-shared-eq0.false (omega arith) (omega arith)
