-- A code that is no code is left; else the words before the records are put, and then the rows in two passes. Assumes nothing.
use Rattle.std.proofs.Common.{false, arith}
use Rattle.write.proofs.Passes.{all_rows_few, all_kids_few}
use Rattle.write.proofs.Tables.{all_wrote, table_stands}
use Rattle.write.proofs.write_rules.Goals as goal

pub write_pass-requires : goal.write_pass-requires
write_pass-requires c = let code = c.args.code.now in
    let declared = c.args.declared in (
      omega arith,
      omega arith,
      record {
        base_low = omega arith;
        types_low = omega (arith, c.write_pass-next.ensures.types, all_rows_few false 0 declared code);
        kids_low = omega (arith, c.write_pass-next.ensures.kids, all_kids_few false 0 declared code);
      },
    )

pub returns : goal.returns
returns c = record {
  sized = omega arith;
  table = λ ds h e n few short. table_stands ds n few short c.told-out c.write_header.ensures (all_wrote h e c.write_pass-next.ensures c.write_pass.ensures);
}
