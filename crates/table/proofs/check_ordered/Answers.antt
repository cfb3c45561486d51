-- The loop keeps that every check of a lower rank passes. Assumes nothing.
use Rattle.std.proofs.Common.{get_or, refl, ◌∙◌, arith}
use Rattle.table.proofs.Answers.{rank_at, rank_range, number_some}
use Rattle.table.specs.declared.check.TheConstants.{CHECKS}
use Rattle.table.specs.declared.check.Check.{Check}
use Rattle.table.specs.declared.check.Check.TheVariants.{Format, Total}
use Rattle.table.specs.Check.{Passes, refused, accepted}
use Rattle.table.proofs.check_ordered.Goals as goal

pub returns-then-is_accepted : goal.returns-then-is_accepted
returns-then-is_accepted c = let told = c.is_accepted.ensures in
    let all = told.accepted c.if-is_accepted.true in
    record { answer = accepted refl (c.word_at.ensures.is ∙ (all.passes Total 0 (omega arith)).stated) all; up = λ e. told.up c.if-is_accepted.true }

pub returns-in-Some : goal.returns-in-Some
returns-in-Some c = let check : Check = get_or CHECKS c.loop-check.check-index Format in
    record {
      answer = refused check refl (record {
        earlier = λ d l. c.loop-check.invariant d (omega (arith, l, rank_at c.loop-check.check-index c.loop-check-test.true));
        lowest = c.in-Some.ensures;
      });
      up = λ e. absurd (omega (arith, number_some check, e));
    }

pub returns : goal.returns
returns c = let all : (d : Check) → Passes c.args.words.now d = λ d. c.loop-check.invariant d (omega (arith, rank_range d, c.loop-check-test.false)) in
    record {
      answer = accepted refl (c.word_at-2.ensures.is ∙ (all Total 0 (omega arith)).stated) (record { passes = all });
      up = λ e. c.bottom_up.ensures;
    }
