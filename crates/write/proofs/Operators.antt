-- What the word of a name tells, and that of an operator. Assumes nothing.
use Rattle.std.proofs.Common.{ℕ, suc, ◌-◌, ◌≤◌, ◌<◌, ◌≡◌, refl, Bool, true, false, not, arith, lt-ltb, le-ltb, ne_eqb}
use Rattle.write.specs.Steps.Code.{word_of}
use Rattle.write.specs.Steps.Reading.{operands_in, own_in, extra_in, star_in, rule_kind_in, own_due, extra_due}

-- which rows are due at an operator
pub own_inner : (later : Bool) (need w : ℕ) → 65536 ≤ w → own_due later (suc need) w ≡ later
unfolding own_due
own_inner true need w h = rw (le-ltb w 65536 h, ne_eqb (suc need) 0 (λ (e : suc need ≡ 0). omega arith))
own_inner false need w h = rw (le-ltb w 65536 h, ne_eqb (suc need) 0 (λ (e : suc need ≡ 0). omega arith))

pub own_root : (later : Bool) (w : ℕ) → 65536 ≤ w → own_due later 0 w ≡ not later
unfolding own_due
own_root true w h = rw (le-ltb w 65536 h)
own_root false w h = rw (le-ltb w 65536 h)

pub extra_plain : (later : Bool) (w : ℕ) → w < 393216 → extra_due later w ≡ false
unfolding extra_due
extra_plain true w h = rw (lt-ltb w 393216 h)
extra_plain false w h = refl

pub extra_marked : (later : Bool) (w : ℕ) → 393216 ≤ w → extra_due later w ≡ later
unfolding extra_due
extra_marked true w h = rw (le-ltb w 393216 h)
extra_marked false w h = refl

-- what the word of a name tells
pub record Named (w : ℕ) : Type 0 where
  pub own_is : own_in w ≡ 0
  pub operands_are : operands_in w ≡ 0
  pub extra_is : extra_in w ≡ 0
  pub own_due_lem : (later : Bool) (need : ℕ) → own_due later need w ≡ false
  pub extra_due_lem : (later : Bool) → extra_due later w ≡ false

pub named_word : (w : ℕ) → w < 65536 → Named w
unfolding own_in operands_in extra_in own_due
named_word w h = record {
  own_is = rw (lt-ltb w 65536 h);
  operands_are = rw (lt-ltb w 65536 h);
  extra_is = rw (lt-ltb w 393216 (omega arith));
  own_due_lem = λ later need. rw (lt-ltb w 65536 h);
  extra_due_lem = λ later. extra_plain later w (omega arith);
}

-- what the word of an operator of n operands tells: plain, or optional or positive
pub record Told (w n kind : ℕ) : Type 0 where
  pub high : 65536 ≤ w
  pub own_is : own_in w ≡ 1
  pub operands_are : operands_in w ≡ n
  pub kind_is : rule_kind_in w ≡ kind

pub record Plain (w n kind : ℕ) : Type 0 where
  pub told : Told w n kind
  pub low : w < 393216
  pub extra_is : extra_in w ≡ 0

pub record Marked (w star : ℕ) : Type 0 where
  pub told : Told w 1 (3 - star)
  pub high : 393216 ≤ w
  pub extra_is : extra_in w ≡ 1
  pub star_is : star_in w ≡ star

pub plain_word : (k n : ℕ) → 1 ≤ k → k < 6 → n < 65536 → Plain (word_of k n) n (k - 1)
unfolding own_in operands_in extra_in rule_kind_in
plain_word k n some plain few =
    let high = le-ltb (word_of k n) 65536 (omega arith) in
    let low = lt-ltb (word_of k n) 393216 (omega arith) in
    record {
      told = record { high = omega arith; own_is = rw high; operands_are = rw high (omega arith); kind_is = rw low (omega arith) };
      low = omega arith;
      extra_is = rw low;
    }

pub optional_word : Marked (word_of 6 1) 0
unfolding own_in operands_in extra_in star_in rule_kind_in
optional_word = record {
  told = record { high = omega arith; own_is = refl; operands_are = refl; kind_is = refl };
  high = omega arith;
  extra_is = refl;
  star_is = refl;
}

pub positive_word : Marked (word_of 7 1) 1
unfolding own_in operands_in extra_in star_in rule_kind_in
positive_word = record {
  told = record { high = omega arith; own_is = refl; operands_are = refl; kind_is = refl };
  high = omega arith;
  extra_is = refl;
  star_is = refl;
}
