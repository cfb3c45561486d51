-- By the bits of what they share. Assumes nothing.
use Rattle.std.proofs.Common.{◌≡◌, ℕ, ◌<◌, Bool, true, false, not, refl, bit_and, arith}
use mir.Val.{bool_byte}
use Rattle.table.specs.Steps.Found.{Tells}
use Rattle.table.proofs.Lowest.{tells_eq}
use Rattle.policy.specs.Steps.Squares.{Flags, Shared, on, off}
use Rattle.policy.proofs.Bits.{none_shared, some_shared}
use Rattle.policy.proofs.rows.shared.Goals as goal

by_test : (a b : ℕ) → a < 65536 → (t : Bool) → Tells (bit_and a b ≡ 0) t → Flags (Shared a b) (bool_byte (not t))
by_test a b small true e = off (λ s. none_shared a b e s.at (s.left, s.right)) refl
by_test a b small false d = on (some_shared a b d small) refl

pub returns : goal.returns
returns c = rw c.from.ensures (by_test c.args.a c.args.b (omega arith) _ (tells_eq (bit_and c.args.a c.args.b) 0))
