-- Stretches of one length, one after another: what is before one, it itself, what is after it. Assumes nothing.
use Prim.Native.Nat.{ℕ, zero, suc, ◌+◌, ◌-◌, ◌*◌, ◌≤◌, ◌<◌}
use mathlib.Core.Path.{◌≡◌, sym, ap, ◌∙◌}
use mathlib.Core.List.{List, [], ◌++◌, append-nil}
use native.Mathlib.Omega.{arith}
use native.Mathlib.Nat.{suc-mul, zero-mul, mul-le-mul_right}
use native.Mathlib.Numerals.{add-one}
use lib.ListN.{length, take, drop, length-drop, drop_of_length-le}
use lib.Seq.{length-take-le, take_at, drop_at, take-take, take-add}
use borrow.Rule.Slice.PartMut.{put_mid, post_of, take_put, drop_put}

-- where a stretch ends
pub stretch_end : (r v : ℕ) → (r + 1) * v ≡ r * v + v
stretch_end r v = rw (add-one r, suc-mul r v)

pub stretch_within : (r n v : ℕ) → r < n → r * v + v ≤ n * v
stretch_within r n v h = rw (← suc-mul r v) (mul-le-mul_right v h)

module _ (v : ℕ) where
  abbrev pub part : ℕ → List ℕ → List ℕ
  part r l = take v (drop (r * v) l)

  pub part_size : (r : ℕ) (l : List ℕ) → r * v + v ≤ length l → length (part r l) ≡ v
  part_size r l h = length-take-le v (drop (r * v) l) (omega (arith, length-drop (r * v) l))

  part_front : (r : ℕ) (l : List ℕ) → r * v ≤ length l → drop (r * v) (take (r * v + v) l) ≡ part r l
  part_front r l h = rw (take-add (r * v) v l) (drop_at (take (r * v) l) (part r l) (r * v) (length-take-le (r * v) l h))

  -- behind a run of one stretch there is nothing
  pub none_behind : (l m : List ℕ) → length m ≡ v → l ++ drop v m ≡ l
  none_behind l m s = let none : drop v m ≡ [] = drop_of_length-le m {i = v} (omega arith) in rw (none, append-nil l)

  -- runs that are alike before a stretch have the same earlier ones
  pub part_before : (k r : ℕ) (l m : List ℕ) → k < r → r * v ≤ length l → length l ≡ length m → take (r * v) l ≡ take (r * v) m → part k l ≡ part k m
  part_before k r l m h d s e = sym (front l d) ∙ ap (λ (t : List ℕ). drop (k * v) (take (k * v + v) t)) e ∙ front m (omega arith)
    where
      front : (n : List ℕ) → r * v ≤ length n → drop (k * v) (take (k * v + v) (take (r * v) n)) ≡ part k n
      front n b =
          let w = stretch_within k r v h in
          rw (take-take (k * v + v) (r * v) n w) (part_front k n (omega arith))

  -- all stretches alike
  pub parts_one : (n : ℕ) (l m : List ℕ) → ((r : ℕ) → r < n → part r l ≡ part r m) → take (n * v) l ≡ take (n * v) m
  parts_one zero l m h = rw (zero-mul v)
  parts_one (suc n) l m h =
      rw (suc-mul n v, take-add (n * v) v l, take-add (n * v) v m, h n (omega arith), parts_one n l m (λ r b. h r (omega arith)))

  -- a stretch that is put back: what was before it, it itself, what is behind it
  module _ (r : ℕ) (l ys : List ℕ) (h : r * v + v ≤ length l) (s : length ys ≡ v) where
    abbrev put : List ℕ
    put = put_mid (r * v) ((r + 1) * v - r * v) l ys

    pub put_before : take (r * v) put ≡ take (r * v) l
    put_before = take_put (r * v) ((r + 1) * v - r * v) l ys (omega arith)

    pub put_here : part r put ≡ ys
    put_here =
        rw (drop_at (take (r * v) l) (ys ++ post_of (r * v) ((r + 1) * v - r * v) l) (r * v) (length-take-le (r * v) l (omega arith)))
        (take_at ys (post_of (r * v) ((r + 1) * v - r * v) l) v s)

    pub put_after : drop ((r + 1) * v) put ≡ drop ((r + 1) * v) l
    put_after =
        let e = stretch_end r v in
        drop_put (r * v) ((r + 1) * v) l ys (omega arith) (omega arith) (omega arith)
