-- The quotient is that number where the length is the product. Assumes nothing.
use Rattle.std.proofs.Common.{◌*◌, ◌/◌, ◌≡◌, arith}
use Rattle.std.proofs.Math.Nat.{div-eq_of_eq-mul_left}
use Rattle.table.proofs.Lowest.{tells_eq_as}
use Rattle.roles.proofs.is_product.Goals as goal

pub returns-else-length-v : goal.returns-else-length-v
returns-else-length-v c = let a = c.args in
    tells_eq_as (a.length ≡ a.stretches * a.v) (a.length / a.v) a.stretches
    (λ e. absurd (c.if-length-v.false e))
    (div-eq_of_eq-mul_left (omega (arith, c.if-v-eq0.false)))
