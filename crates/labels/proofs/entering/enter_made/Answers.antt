-- The bytes entered are `#` and the digits of x, by how many there are. Assumes nothing.
use Rattle.std.proofs.Common.{arith}
use Rattle.labels.proofs.Bookings.{entered_as}
use Rattle.labels.proofs.Turns.{made_ones, made_tens, made_hundreds}
use Rattle.labels.proofs.entering.enter_made.Goals as goal

pub returns-then-x-lt10 : goal.returns-then-x-lt10
returns-then-x-lt10 c = entered_as (made_ones c.args.x c.digit_of.result (omega arith) c.digit_of.ensures) c.enter.ensures

pub returns-then-x-lt100 : goal.returns-then-x-lt100
returns-then-x-lt100 c = let x = c.args.x in
    entered_as (made_tens x c.digit_of-then-x-lt100.result c.digit_of-then-x-lt100-2.result (omega arith) (omega arith) c.digit_of-then-x-lt100.ensures c.digit_of-then-x-lt100-2.ensures) c.enter-then-x-lt100.ensures

pub returns : goal.returns
returns c = entered_as
    (made_hundreds c.args.x c.digit_of-2.result c.digit_of-3.result c.digit_of-4.result (omega arith) (omega (arith, c.requires)) c.digit_of-2.ensures c.digit_of-3.ensures c.digit_of-4.ensures)
    c.enter-2.ensures
