-- A type that is gone moves nothing; else the three kinds of edits are moved one after another. Assumes nothing.
use Rattle.carry.proofs.Moving.{type_moved}
use Rattle.carry.proofs.carrying.carry_type.Goals as goal

pub returns : goal.returns
returns c = let a = c.args in
    type_moved a.revision.words.now a.revision.new_words.now a.revision.numbers.now a.x c.carry_text.ensures c.carry_ends.ensures c.carry_replacements.ensures
