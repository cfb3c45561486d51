-- The format is written, and then V. Assumes nothing.
use Rattle.std.proofs.Common.{List, ℕ, ap, arith, set}
use Rattle.dtd.proofs.Finishing.{untotalled_long, written_long, formatted, formatted_fits, total_fits}
use Rattle.dtd.proofs.Lasting.{too_wide, with_total}
use Rattle.dtd.proofs.finish.finish.Goals as goal

pub bounds-words-0 : goal.bounds-words-0
bounds-words-0 c = let a = c.requires.1 in omega (arith, untotalled_long a.0 a.2)

pub add_up-requires : goal.add_up-requires
add_up-requires c = formatted_fits _ c.requires.1.0 c.requires.1.2

pub overflow_cast-words : goal.overflow_cast-words
overflow_cast-words c = let a = c.requires.1 in
    let told = rw (formatted _ a.0 a.2) at c.in-Ok.ensures in
    omega (arith, total_fits _ a.0 a.1 c.in-Ok.v told)

pub bounds-words-7 : goal.bounds-words-7
bounds-words-7 c = written_long _ c.requires.1.0 c.requires.1.2

pub returns-in-Ok : goal.returns-in-Ok
returns-in-Ok c = λ ds s e.
    (let f = c.args.format in
    let z = formatted f ds e in
    with_total f ds (rw z at c.in-Ok.ensures) (ap (λ (l : List ℕ). set l 7 c.in-Ok.v) z) c.answer.ensures)

pub returns-in-Err : goal.returns-in-Err
returns-in-Err c = λ ds s e.
    (let f = c.args.format in
    too_wide f ds c.requires.0 s (rw (formatted f ds e) at c.in-Err.ensures))
