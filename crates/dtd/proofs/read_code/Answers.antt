-- The refusals, and else the answer for the table. Assumes nothing.
use Rattle.std.proofs.Common.{refl, arith, inl, inr}
use Rattle.dtd.specs.Answer.{refused}
use Rattle.dtd.specs.Steps.Stages.{declarations}
use Rattle.dtd.proofs.Passing.{too_many_types, too_many_kids, wrong_name, writable, last_answer}
use Rattle.dtd.proofs.read_code.Goals as goal

pub returns-then-counts-gt-MOST_TYPES : goal.returns-then-counts-gt-MOST_TYPES
returns-then-counts-gt-MOST_TYPES c = let a = c.requires.1 in
    let n = c.count-counts.ensures (declarations a.collected.read) a.coded in
    elim c.then-counts-gt-MOST_TYPES.either [
      | inl h ↦ refused (too_many_types a n (omega arith)) refl
      | inr h ↦ refused (too_many_kids a n (omega arith)) refl
    ]

pub returns-in-Some : goal.returns-in-Some
returns-in-Some c = let a = c.requires.1 in
    let known = a.collected.known in
    let ds = declarations a.collected.read in
    let first = c.in-Some.ensures.of ds a.collected.read.text.items known.all known.few known.listed in
    refused (wrong_name a (c.count-counts.ensures ds a.coded) (omega arith) (omega arith) first) refl

pub returns-in-None : goal.returns-in-None
returns-in-None c = let a = c.requires.1 in
    let known = a.collected.known in
    let ds = declarations a.collected.read in
    let n = c.count-counts.ensures ds a.coded in
    let right = c.in-None.ensures.of ds a.collected.read.text.items known.all known.few known.listed in
    last_answer a n (omega arith) (omega arith) right (c.read_table.ensures ds (writable a n (omega arith) (omega arith)))
