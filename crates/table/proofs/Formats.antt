-- HONESTY: the privileges over the gap are those that each format's document has. Assumes nothing.
use Prim.Native.Nat.{ℕ, ◌-◌}
use mathlib.Core.Path.{◌≡◌}
use mathlib.Core.Logic.{inl, inr}
use mathlib.Core.List.{List}
use borrow.Author.Tests.{lt-ltb, le-ltb}
use native.Mathlib.Omega.{arith}
use Rattle.table.specs.Words.{format_of}
use Rattle.table.specs.Rule.{count_of}
use Rattle.table.specs.Privilege.{gap_of, replace_of}
use Rattle.table.specs.Formats.{NumbersOne, NumbersTwo}
use Rattle.table.proofs.Lists.{le_or_lt}
use Rattle.table.proofs.Privileges.{gap_two, gap_else, star_count, choice_count}

pub numbers_one : (ws : List ℕ) → format_of ws ≡ 1 → NumbersOne ws
unfolding replace_of
numbers_one ws one = record {
  star = λ x s. omega (arith, star_count ws s, gap);
  choice = λ x c. rw (← gap) (choice_count ws c);
  before = λ x i j l. rw (le-ltb i j (omega arith), gap) (omega arith);
  behind = λ x i j l. rw (lt-ltb i j l, gap) (omega arith);
}
  where
    gap : gap_of ws ≡ 1
    gap = gap_else ws (λ two. omega arith)

pub numbers_two : (ws : List ℕ) → format_of ws ≡ 2 → NumbersTwo ws
unfolding replace_of
numbers_two ws two = record {
  star = λ x s. omega (arith, star_count ws s, gap);
  choice = λ x c. let e : count_of ws x - 0 ≡ count_of ws x = omega arith in rw (gap, e) at (choice_count ws c);
  replaced = λ x i j. elim (le_or_lt j i) [ inl l ↦ rw (le-ltb i j l, gap, none x) (omega arith) | inr l ↦ rw (lt-ltb i j l, gap, none x) (omega arith) ];
}
  where
    gap : gap_of ws ≡ 0
    gap = gap_two ws two

    none : (x : ℕ) → count_of ws x - 0 ≡ count_of ws x
    none x = omega arith
