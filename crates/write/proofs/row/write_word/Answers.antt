-- The word's own row, and then that of the type it makes inside. Assumes nothing.
use Rattle.std.proofs.Common.{◌+◌, drop, arith}
use Rattle.write.proofs.Passes.{due_low}
use Rattle.write.proofs.row.write_word.Goals as goal

pub write_row-requires : goal.write_row-requires
write_row-requires c = (
  record { short = c.requires.1.short; within = omega arith; low = omega (arith, c.inner-y.ensures.small) },
  c.extra_form.ensures.small,
  omega (arith, c.extra_form.ensures.extra_is),
  due_low c.own_due.result c.own_form.result.kind c.own_form.result.operands c.own_form.result.extra
      (c.inner-y.result + c.extra.result) (drop (c.args.c + 1) c.args.code.now)
      c.own_form.ensures.small.extra_few c.own_form.ensures.small.operands_few c.write_row-next.ensures c.requires.2,
)
