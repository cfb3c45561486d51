-- The outcome is that of the answer of what the call gives. Assumes nothing.
use Rattle.std.proofs.Common.{ap, ◌∙◌}
use Rattle.verdict.specs.Results.{judged_answer}
use Rattle.store.specs.Outcomes.{outcome_of}
use Rattle.store.proofs.finnedscarf_edit_mark.Goals as goal

pub returns : goal.returns
returns c = record { answer = judged_answer c.edit_mark.result; promised = c.edit_mark.ensures; is = c.from-2.ensures ∙ ap outcome_of c.from.ensures }
