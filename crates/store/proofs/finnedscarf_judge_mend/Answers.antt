-- The outcome is that of the answer of what the call gives. Assumes nothing.
use Rattle.std.proofs.Common.{ap, ◌∙◌}
use Rattle.verdict.specs.Results.{accepted_answer}
use Rattle.store.specs.Outcomes.{outcome_of}
use Rattle.store.proofs.finnedscarf_judge_mend.Goals as goal

pub returns : goal.returns
returns c = record { answer = accepted_answer c.judge_mend.result; promised = c.judge_mend.ensures; is = c.from-2.ensures ∙ ap outcome_of c.from.ensures }
