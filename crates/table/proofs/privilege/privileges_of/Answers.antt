-- The square of a count is below 2 ^ 32. Assumes nothing.
use Rattle.std.proofs.Common.{◌≡◌, ◌*◌, ◌≤◌, arith}
use Rattle.table.proofs.Privileges.{square_few, choices_few, others_few, summed_one}
use Rattle.table.proofs.privilege.privileges_of.Goals as goal

pub returns : goal.returns
returns c = let gap_one : c.args.gap ≡ 1 = omega (arith, c.if-gap-eq0.false, c.requires.1) in
    let few : c.choices_of-n.result * c.choices_of-n.result ≤ 4294836225 = square_few c.choices_of-n.result (omega (arith, c.choices_of-n.ensures, choices_few c.args.rule, c.requires.0)) in
    let one : c.others_of-2.result ≤ 3 = omega (arith, c.others_of-2.ensures, others_few 2 (omega arith) c.args.rule) in
    record {
      is = rw (gap_one, c.others_of-2.ensures, c.choices_of-n.ensures) (summed_one c.args.rule);
      small = omega (arith, few, one);
    }
