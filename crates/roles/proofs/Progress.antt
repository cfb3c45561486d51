-- The roles one after another: what is done when the first n are. Assumes nothing.
use Rattle.std.proofs.Common.{ℕ, ◌+◌, ◌-◌, ◌*◌, ◌≤◌, ◌<◌, ◌≡◌, sym, ap, ◌∙◌, List, arith, length, get_or, set, take, drop, length-set, drop-drop}
use borrow.Rule.Slice.PartMut.{put_mid, mid_of, same_len_mid, mid_len}
use Rattle.table.specs.Privilege.{privileges}
use Rattle.table.proofs.Lists.{fill_more}
use Rattle.policy.specs.Roles.{stretch}
use Rattle.roles.specs.Answers.{RoleAnswer}
use Rattle.policy.proofs.Stretches.{stretch_end, stretch_within, part_before, put_before, put_here, put_after}

-- the first n roles have their numbers and their stretches, and from there on the result is as it was
pub record Upto (ws marks numbers out : List ℕ) (n : ℕ) (numbers_after after : List ℕ) : Type 0 where
  pub numbers_size : length numbers_after ≡ length numbers
  pub size : length after ≡ length out
  pub role : (r : ℕ) → r < n → RoleAnswer ws (stretch ws r marks) (stretch ws r out) (get_or numbers_after r 0) (stretch ws r after)
  pub rest : drop (n * privileges ws) after ≡ drop (n * privileges ws) out

module _ {ws marks numbers out : List ℕ} where
  -- one role more, whose stretch comes back
  module _ {now after ys : List ℕ} {n number : ℕ} (u : Upto ws marks numbers out n now after) (l : n < length numbers)
      (room : length numbers * privileges ws ≤ length out) (s : length ys ≡ privileges ws)
      (a : RoleAnswer ws (stretch ws n marks) (stretch ws n after) number ys) where
    abbrev v : ℕ
    v = privileges ws

    abbrev put : List ℕ
    put = put_mid (n * v) ((n + 1) * v - n * v) after ys

    inside : n * v + v ≤ length after
    inside = omega (arith, stretch_within n (length numbers) v l, u.size)

    put_size : length put ≡ length after
    put_size = same_len_mid (n * v) ((n + 1) * v - n * v) after ys
        (s ∙ sym (mid_len (n * v) ((n + 1) * v) after (omega (arith, stretch_end n v, inside)) ∙ over))
      where
        over : (n + 1) * v - n * v ≡ v
        over = omega (arith, stretch_end n v)

    unseen : stretch ws n after ≡ stretch ws n out
    unseen = ap (λ (t : List ℕ). take v t) u.rest

    earlier : (r : ℕ) → r < n → stretch ws r after ≡ stretch ws r put
    earlier r k = part_before v r n after put k (omega (arith, inside)) (sym put_size) (sym (put_before v n after ys inside s))

    here : RoleAnswer ws (stretch ws n marks) (stretch ws n out) number (stretch ws n put)
    here = rw (put_here v n after ys inside s, ← unseen) a

    pub upto_more : Upto ws marks numbers out (n + 1) (set now n number) put
    upto_more = record {
      numbers_size = length-set {A = ℕ} now n number ∙ u.numbers_size;
      size = put_size ∙ u.size;
      role = fill_more (λ r m. RoleAnswer ws (stretch ws r marks) (stretch ws r out) m (stretch ws r put)) now n number (omega (arith, u.numbers_size))
          (λ r k. rw (← earlier r k) (u.role r k)) here;
      rest = put_after v n after ys inside s ∙ further;
    }
      where
        further : drop ((n + 1) * v) after ≡ drop ((n + 1) * v) out
        further = rw (stretch_end n v, ← drop-drop v (n * v) after, ← drop-drop v (n * v) out, u.rest)

  -- the same by a length that is V, with the bounds of the stretch as they are lent
  pub upto_next : (v : ℕ) → v ≡ privileges ws → {now after ys : List ℕ} {n number : ℕ} → Upto ws marks numbers out n now after → n < length numbers
      → length numbers * v ≤ length out → length ys ≡ length (mid_of (n * v) ((n + 1) * v - n * v) after)
      → RoleAnswer ws (mid_of (n * v) ((n + 1) * v - n * v) marks) (mid_of (n * v) ((n + 1) * v - n * v) after) number ys
      → Upto ws marks numbers out (n + 1) (set now n number) (put_mid (n * v) ((n + 1) * v - n * v) after ys)
  upto_next v e {now} {after} {ys} {n} {number} u l room s a =
      let over : (n + 1) * v - n * v ≡ v = omega (arith, stretch_end n v) in
      let inside : (n + 1) * v ≤ length after = omega (arith, stretch_end n v, stretch_within n (length numbers) v l, u.size) in
      rw e (upto_more u l (rw e at room) (s ∙ mid_len (n * v) ((n + 1) * v) after inside ∙ over ∙ e) (rw (over, e) at a))
