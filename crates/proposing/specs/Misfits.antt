-- What is wrong with proposed marks, as a refusal: 13 for their length, 14 for a mark. Assumes nothing.
use Rattle.table.specs.declared.refusal.Refusal.{Refusal}
use Rattle.table.specs.declared.refusal.Refusal.TheVariants.{ProposedLength, ProposedMark}
use Rattle.policy.specs.declared.marks.Misfit.{Misfit}
use Rattle.policy.specs.declared.marks.Misfit.TheVariants.{Length, Mark}

abbrev pub proposed_refusal : Misfit → Refusal
proposed_refusal Length = ProposedLength
proposed_refusal (Mark p) = ProposedMark p
