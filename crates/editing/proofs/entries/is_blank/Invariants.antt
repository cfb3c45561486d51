-- The flag tells of the words passed. Assumes nothing.
use Rattle.table.specs.Steps.Found.{Tells}
use Rattle.editing.specs.Steps.Writing.{Blank}
use Rattle.editing.proofs.entries.is_blank.Given as goal

abbrev pub invariant-loop-word : goal.invariant-loop-word
invariant-loop-word l = Tells (Blank l.word-index l.kept) l.blank
