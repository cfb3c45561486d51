-- The loop has read the words passed. Assumes nothing.
use Rattle.runs.proofs.Texts.{Filled}
use Rattle.report.specs.File.{words_of}
use Rattle.report.proofs.read_words.Given as goal

abbrev pub invariant-loop-k : goal.invariant-loop-k
invariant-loop-k l = Filled l.initial.words 0 (words_of l.file) l.k l.words
