-- Below is transitive. Assumes nothing.
use Prim.Native.Nat.{ℕ}
use mathlib.Core.List.{List}
use Rattle.table.specs.Below.{Below, here, down}

pub below_trans : {ws : List ℕ} {x y z : ℕ} → Below ws x y → Below ws y z → Below ws x z
below_trans b here = b
below_trans b (down w c d) = down w c (below_trans b d)
