-- What is lent is the file's table, and the rest are its marks. Assumes nothing.
use Rattle.std.proofs.Common.{◌≡◌, ◌≤◌, ◌*◌, refl, ap, subst, ◌∙◌, [], ◌∷◌, ◌++◌, arith, length, length-append}
use Rattle.table.specs.Privilege.{privileges}
use Rattle.table.specs.Check.{Accepted}
use Rattle.table.specs.Refusals.{number_of, place_of}
use Rattle.table.proofs.Answers.{refusal_not}
use Rattle.policy.proofs.Policies.{table_accepted}
use Rattle.runs.proofs.Texts.{puts_then}
use Rattle.lines.proofs.Spaced.{line_length}
use Rattle.report.specs.File.{lent_of, table_of}
use Rattle.report.specs.Report.{table_word, answer_line, PolicyLines, refused}
use Rattle.report.specs.Report as report
use Rattle.report.proofs.Files.{table_room, rest_all}
use Rattle.report.proofs.put_report.Goals as goal

pub slice_bounds-put_policy-count : goal.slice_bounds-put_policy-count
slice_bounds-put_policy-count c = let lent_is : c.lent-words.result.now ≡ table_of c.args.file.now = c.lent-words.ensures ∙ ap lent_of c.read_words-n.ensures.1 in
    rw lent_is (table_room c.args.file.now)

pub slice_bounds-put_policy-start : goal.slice_bounds-put_policy-start
slice_bounds-put_policy-start c = let lent_is : c.lent-words.result.now ≡ table_of c.args.file.now = c.lent-words.ensures ∙ ap lent_of c.read_words-n.ensures.1 in
    let start : 2 * length c.lent-words.result.now ≤ length c.args.file.now = rw lent_is (table_room c.args.file.now) in
    start

pub put_policy-requires : goal.put_policy-requires
put_policy-requires c = let line = c.put_answer-second.ensures in (
  (table_accepted refl c.in-Ok.ensures).0,
  omega (arith, c.requires.1, line.end, line_length table_word (0 ∷ c.in-Ok.v ∷ []) []),
)

pub returns-in-Ok : goal.returns-in-Ok
returns-in-Ok c = let lent_is : c.lent-words.result.now ≡ table_of c.args.file.now = c.lent-words.ensures ∙ ap lent_of c.read_words-n.ensures.1 in
    let file = c.args.file.now in
    let policy = c.put_policy.ensures in
    let accepted = table_accepted refl c.in-Ok.ensures in
    let words = c.lent-words.result.now in
    let behind = rw (rest_all (2 * length words) file) at policy.is in
    let v-is : c.in-Ok.v ≡ privileges (table_of file) = accepted.1 ∙ ap privileges lent_is in
    let one = answer_line table_word 0 (privileges (table_of file)) in
    let most = line_length table_word (0 ∷ privileges (table_of file) ∷ []) [] in
    let both = length-append one policy.text in
    record {
      text = one ++ policy.text;
      is = report.accepted c.requires.0 (subst Accepted lent_is accepted.0) (rw lent_is at behind) refl;
      puts = puts_then (omega (arith, c.requires.1, most)) (rw v-is at c.put_answer-second.ensures) policy.puts;
      few = omega (arith, both, most, policy.few);
    }

pub returns-in-Err : goal.returns-in-Err
returns-in-Err c = let lent_is : c.lent-words.result.now ≡ table_of c.args.file.now = c.lent-words.ensures ∙ ap lent_of c.read_words-n.ensures.1 in
    let r = c.in-Err.refusal in
    record {
      text = answer_line table_word (number_of r) (place_of r);
      is = refused c.requires.0 (refusal_not r) (rw lent_is at c.in-Err.ensures) refl;
      puts = rw (c.number.ensures, c.place.ensures) at c.put_answer.ensures;
      few = omega (arith, line_length table_word (number_of r ∷ place_of r ∷ []) []);
    }
