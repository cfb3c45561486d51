-- Where nothing is forbidden and nothing is kept all is right, else the entries are written along the order. Assumes nothing.
use Rattle.std.proofs.Common.{arith}
use Rattle.table.proofs.Facts.{facts, accepted_childed}
use Rattle.table.proofs.Lowest.{told_yes}
use Rattle.editing.proofs.Writing.{tally_small, renewed_blank, renewed}
use Rattle.editing.proofs.entries.renew_entries.Goals as goal

pub returns-then-is_blank : goal.returns-then-is_blank
returns-then-is_blank c = let blank = told_yes c.is_blank.result c.is_blank.ensures c.if-is_blank.true in
    renewed_blank c.requires.0.accepted c.all_forbidden-all.ensures c.if-all-eq0.true (rw c.types.ensures.is at blank)

pub put_entry-requires : goal.put_entry-requires
put_entry-requires c = let a = c.requires.0.accepted in
    let inside = (accepted_childed a).tiled.laid.root_inside in
    let is = c.word_at.ensures.is in
    let small = tally_small _ _ a c.all_forbidden-all.ensures in
    (omega (arith, c.requires.3, c.write_entries.ensures.size), omega (arith, (facts a).few), small.0, small.1)

pub returns : goal.returns
returns c = let pre = c.requires in
    renewed pre.0.accepted pre.1 c.type_of.ensures c.place_of-place.ensures (rw c.place_of-place.ensures.is at c.flag_above.ensures) c.write_entries.ensures
    c.all_forbidden-all.ensures (rw c.word_at.ensures.is at c.put_entry.ensures)
