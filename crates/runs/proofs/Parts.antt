-- A part of a run by its ends. Assumes nothing.
use Rattle.std.proofs.Common.{ℕ, zero, suc, ◌-◌, ◌≡◌, sym, List, [], ◌∷◌, arith, take, drop}
use Rattle.std.proofs.Math.Seq.{slice, take-nil}

-- the part from a to b, as a part of what follows a
pub slice_part : (a b : ℕ) (l : List ℕ) → slice a b l ≡ take (b - a) (drop a l)
slice_part zero b l = let e : b - 0 ≡ b = omega arith in rw e
slice_part (suc a) zero l = let e : 0 - suc a ≡ 0 = omega arith in rw e
slice_part (suc a) (suc b) [] = sym (take-nil (suc b - suc a))
slice_part (suc a) (suc b) (x ∷ l) = let e : suc b - suc a ≡ b - a = omega arith in rw e (slice_part a b l)
