-- The flags of the types passed are right. Assumes nothing.
use Rattle.std.proofs.Common.{ℕ, ◌<◌, ◌∙◌, length-set, get_or-set_other, arith}
use Rattle.table.proofs.Lists.{fill_more}
use Rattle.verdict.specs.Steps.Spoils.{Flag}
use Rattle.verdict.specs.Kept.{KeptBelow}
use Rattle.verdict.proofs.Readings.{kept_flag}
use Rattle.verdict.proofs.kept.flag_kept.Goals as goal

pub loop-t-preserved : goal.loop-t-preserved
loop-t-preserved c = let small : c.loop-t.t < 256 = omega arith in (
  length-set {A = ℕ} c.loop-t.flags c.loop-t.t _ ∙ c.loop-t.invariant.0,
  fill_more (λ j r. Flag (KeptBelow c.args.kept.now j) r) c.loop-t.flags c.loop-t.t _ (omega arith) c.loop-t.invariant.1
      (kept_flag c.args.kept.now c.loop-t.t c.flag_of.ensures),
  λ j l. get_or-set_other c.loop-t.flags c.loop-t.t j _ 0 (λ e. omega arith) ∙ c.loop-t.invariant.2 j l,
)

pub returns : goal.returns
returns c = record {
  size = c.loop-t.invariant.0;
  each = λ x l. c.loop-t.invariant.1 x (omega arith);
  rest = λ x l. c.loop-t.invariant.2 x (omega arith);
}
