-- Laws of rules and children. Assumes nothing.
use Prim.Native.Nat.{ℕ, zero, suc, ◌≤◌}
use mathlib.Core.Path.{◌≡◌, refl}
use mathlib.Core.Logic.{◌≢◌}
use native.Mathlib.Omega.{arith}
use Rattle.table.specs.Steps.Reading.{Widened, ReadAs}
use Rattle.table.specs.Rule.{rule_of, first_in, count_in}
use Rattle.table.specs.declared.rule.Rule.{Rule}
use Rattle.table.specs.declared.rule.Rule.TheVariants.{Empty}

-- a kind that is none of the five counts as empty
pub rule_else : (kind first count : ℕ) → kind ≢ 0 → kind ≢ 1 → kind ≢ 2 → kind ≢ 3 → kind ≢ 4 → Empty ≡ rule_of kind first count
unfolding rule_of
rule_else zero a n n0 n1 n2 n3 n4 = absurd (n0 refl)
rule_else (suc zero) a n n0 n1 n2 n3 n4 = absurd (n1 refl)
rule_else (suc (suc zero)) a n n0 n1 n2 n3 n4 = absurd (n2 refl)
rule_else (suc (suc (suc zero))) a n n0 n1 n2 n3 n4 = absurd (n3 refl)
rule_else (suc (suc (suc (suc zero)))) a n n0 n1 n2 n3 n4 = absurd (n4 refl)
rule_else (suc (suc (suc (suc (suc k))))) a n n0 n1 n2 n3 n4 = refl

-- a rule holds no number that its record does not
pub first_small : (kind first count : ℕ) → first_in (rule_of kind first count) ≤ first
unfolding rule_of
first_small zero a n = omega arith
first_small (suc zero) a n = omega arith
first_small (suc (suc zero)) a n = omega arith
first_small (suc (suc (suc zero))) a n = omega arith
first_small (suc (suc (suc (suc zero)))) a n = omega arith
first_small (suc (suc (suc (suc (suc k))))) a n = omega arith

pub count_small : (kind first count : ℕ) → count_in (rule_of kind first count) ≤ count
unfolding rule_of
count_small zero a n = omega arith
count_small (suc zero) a n = omega arith
count_small (suc (suc zero)) a n = omega arith
count_small (suc (suc (suc zero))) a n = omega arith
count_small (suc (suc (suc (suc zero)))) a n = omega arith
count_small (suc (suc (suc (suc (suc k))))) a n = omega arith

-- the rule of three words that were read
pub rule_small : {k a n kind first count : ℕ} {r : Rule} → r ≡ rule_of kind first count → Widened k kind → Widened a first → Widened n count → ReadAs (rule_of k a n) r
rule_small {k} {a} {n} {kind} {first} {count} {r} e hk ha hn = rw (e, ← hk.is, ← ha.is, ← hn.is) (record {
  is = refl;
  first = omega (arith, first_small kind first count);
  count = omega (arith, count_small kind first count);
})
