-- The two ends were brought within the run. Assumes nothing.
use Rattle.std.proofs.Common.{sym, ◌∙◌}
use Rattle.table.proofs.Lists.{stretch_within}
use Rattle.runs.proofs.Parts.{slice_part}
use Rattle.runs.proofs.part.Goals as goal

pub returns : goal.returns
returns c = let a = c.args in
    stretch_within _ _ _ _ _ c.min-end.ensures c.min-start.ensures ∙ sym (slice_part a.a a.b a.bytes.now)
