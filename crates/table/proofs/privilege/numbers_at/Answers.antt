-- Read off the record and the format; an accepted table keeps the numbers small. Assumes nothing.
use Rattle.std.proofs.Common.{sym, ◌∙◌, arith}
use Rattle.table.proofs.Facts.{facts, has_record, count_recorded}
use Rattle.table.proofs.Privileges.{first_within}
use Rattle.table.proofs.privilege.numbers_at.Goals as goal

pub record_word-requires : goal.record_word-requires
record_word-requires c = let p = c.requires in (has_record p.0 p.1, omega arith)

pub returns : goal.returns
returns c = let a = c.args in
    let f = facts c.requires.0 in
    let read = c.record_word.ensures.is ∙ sym (count_recorded c.requires.0 c.requires.1) in
    record {
      first = c.requires.2;
      count = read;
      gap = c.gap_of.ensures.is;
      low = omega (arith, c.requires.2, first_within a.words.now a.x (omega (arith, c.requires.1)), f.privileges_few);
      few = omega (arith, read, f.children_few a.x c.requires.1);
      narrow = omega (arith, c.gap_of.ensures.small);
    }
