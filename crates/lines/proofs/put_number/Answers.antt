-- The digits are the fewest that hold the number, and are put as they are. Assumes nothing.
use Rattle.std.proofs.Common.{◌≡◌, ◌∙◌, take, arith}
use Rattle.lines.specs.Text.{raised, decimal}
use Rattle.runs.proofs.Texts.{puts_as}
use Rattle.lines.proofs.Decimals.{raised_none, decimal_digits, fewest_most, digits_bytes}
use Rattle.lines.proofs.put_number.Goals as goal

pub put-requires : goal.put-requires
put-requires c = let d = c.decimal-k.ensures in (
  omega (arith, fewest_most c.args.n c.decimal-k.result (omega arith) d.len),
  λ k l. rw d.digits (omega (arith, digits_bytes c.decimal-k.result c.args.n k)),
)

pub returns : goal.returns
returns c = let d = c.decimal-k.ensures in
    let text : raised 0 (take c.decimal-k.result c.decimal-k.new.out) ≡ decimal c.args.n =
    raised_none (take c.decimal-k.result c.decimal-k.new.out)
    ∙ d.digits
    ∙ decimal_digits 20 c.decimal-k.result c.args.n (fewest_most c.args.n c.decimal-k.result (omega arith) d.len) d.len in
    puts_as text c.put.ensures
