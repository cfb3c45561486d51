-- The bits of two rows that are joined are those of either. Assumes nothing.
use Rattle.std.proofs.Common.{sym, ◌∙◌}
use Rattle.policy.proofs.Bits.{bit_or_lem}
use Rattle.policy.proofs.rows.joined.Goals as goal

pub returns-then-has : goal.returns-then-has
returns-then-has c = λ b. let a = c.args in
    rw (sym c.has.ensures ∙ c.if-has.true) (bit_or_lem a.old a.row b)
