-- What is no schema is refused; else its table stands at the front of the words. Assumes nothing.
use Rattle.std.proofs.Common.{ℕ, subst}
use Rattle.std.proofs.lemmas.Result.{err_from_is_err_and}
use Rattle.table.specs.Refusals.{number_in, no_place_in}
use Rattle.mail.specs.Answers.{ReadAnswer}
use Rattle.mail.proofs.Opening.{schema_refused, words_opened, words_format}
use Rattle.mail.proofs.read_listing.Goals as goal

pub returns-in_err-read_schema : goal.returns-in_err-read_schema
returns-in_err-read_schema c = let p = err_from_is_err_and c.from_residual.result c.from_residual.ensures.1 in
    rw (p.1, p.2) (schema_refused c.in_err-read_schema.field-0.0 c.in_err-read_schema.ensures)

pub read_opened-requires : goal.read_opened-requires
read_opened-requires c = words_opened c.in_ok-read_schema.ensures c.word_at-n.ensures.is

pub returns : goal.returns
returns c = let a = c.args in
    let r = c.read_opened.result in
    subst (λ (f : ℕ). ReadAnswer a.text.now f a.listing.now a.out.now (number_in r) (no_place_in r) c.read_opened.new.out)
    (words_format c.in_ok-read_schema.ensures c.word_at-n.ensures.is) c.read_opened.ensures
