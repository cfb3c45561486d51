-- A table that has given rules at given numbers, and the part of them that a model makes. Assumes nothing.
use Prim.Native.Nat.{ℕ, suc, ◌+◌, ◌<◌}
use mathlib.Core.Path.{◌≡◌, refl, ap}
use mathlib.Core.List.{List, [], ◌∷◌, ◌++◌}
use native.Mathlib.Omega.{arith}
use lib.ListN.{length, get_or, length-append}
use Rattle.table.specs.Words.{types}
use Rattle.table.specs.Rule.{rule_at, kind_in, children_at}
use Rattle.grammar.specs.Tree.{Declaration}
use Rattle.model.specs.Model.{Model, Models, Operator, element, made, either, in_order, optional, repeated, positive, single, then}
use Rattle.model.specs.Tables.{Rule, empty, size_of, inside_of, sizes_of, kind_of, kids_of, made_by, made_inside, made_by_each}
use Rattle.model.specs.Tables.{made_in_content, declared_from, made_from, number_of, rules_of}

-- type x of the table has this rule
pub record Has (ws : List ℕ) (x : ℕ) (r : Rule) : Type 0 where
  pub type : x < types ws
  pub kind : kind_in (rule_at ws x) ≡ kind_of r
  pub kids : children_at ws x ≡ kids_of r

-- from x on the types have these rules
abbrev pub Placed : List ℕ → ℕ → List Rule → Type 0
Placed ws x [] = Unit {0}
Placed ws x (r ∷ rs) = Has ws x r × Placed ws (suc x) rs

module _ (ws : List ℕ) where
  pub placed_each : (x : ℕ) (rs : List Rule) → ((i : ℕ) → i < length rs → Has ws (x + i) (get_or rs i empty)) → Placed ws x rs
  placed_each x [] f = tt
  placed_each x (r ∷ rs) f =
      let e : x + 0 ≡ x = omega arith in
      (rw e at (f 0 (omega arith)), placed_each (suc x) rs (λ i l. let n : suc x + i ≡ x + suc i = omega arith in rw n (f (suc i) (omega arith))))

  pub placed_left : (x : ℕ) (rs ss : List Rule) → Placed ws x (rs ++ ss) → Placed ws x rs
  placed_left x [] ss h = tt
  placed_left x (r ∷ rs) ss h = (h.0, placed_left (suc x) rs ss h.1)

  pub placed_right : (x : ℕ) (rs ss : List Rule) (y : ℕ) → y ≡ x + length rs → Placed ws x (rs ++ ss) → Placed ws y ss
  placed_right x [] ss y e h = let q : y ≡ x = omega arith in rw q h
  placed_right x (r ∷ rs) ss y e h = placed_right (suc x) rs ss y (omega arith) h.1

joined_size : (rs ss : List Rule) {m n : ℕ} → length rs ≡ m → length ss ≡ n → length (rs ++ ss) ≡ m + n
joined_size rs ss e f = omega (arith, length-append rs ss)

-- a model makes as many rules as its size says
module _ (number : List ℕ → ℕ) where
  mutual
    made_size : (m : Model) (x : ℕ) → length (made_by number x m) ≡ size_of m
    made_size (element n) x = refl
    made_size (made o) x = ap suc (inside_size o (suc x))

    pub inside_size : (o : Operator) (x : ℕ) → length (made_inside number x o) ≡ inside_of o
    inside_size (either m ms) x = joined_size (made_by number x m) _ (made_size m x) (each_size ms (x + size_of m))
    inside_size (in_order m ms) x = joined_size (made_by number x m) _ (made_size m x) (each_size ms (x + size_of m))
    inside_size (optional m) x = ap suc (made_size m (suc x))
    inside_size (repeated m) x = made_size m x
    inside_size (positive m) x = ap suc (made_size m (suc x))

    each_size : (ms : Models) (x : ℕ) → length (made_by_each number x ms) ≡ sizes_of ms
    each_size (single m) x = made_size m x
    each_size (then m ms) x = joined_size (made_by number x m) _ (made_size m x) (each_size ms (x + size_of m))

pub declared_length : (number : List ℕ → ℕ) (x : ℕ) (ds : List Declaration) → length (declared_from number x ds) ≡ length ds
declared_length number x [] = refl
declared_length number x (d ∷ ds) = ap suc (declared_length number (x + length (made_in_content number x d.content)) ds)

pub rules_length : (ds : List Declaration) → length (rules_of ds) ≡ length ds + length (made_from (number_of ds) (length ds) ds)
unfolding rules_of
rules_length ds = joined_size (declared_from (number_of ds) (length ds) ds) _ (declared_length (number_of ds) (length ds) ds) refl

-- the rules that a model makes, and behind them those of the models that follow it
module _ (ws : List ℕ) (number : List ℕ → ℕ) (m : Model) (ms : Models) (x : ℕ) (h : Placed ws x (made_by_each number x (then m ms))) where
  pub ahead : Placed ws x (made_by number x m)
  ahead = placed_left ws x (made_by number x m) (made_by_each number (x + size_of m) ms) h

  pub behind : Placed ws (x + size_of m) (made_by_each number (x + size_of m) ms)
  behind = placed_right ws x (made_by number x m) (made_by_each number (x + size_of m) ms) (x + size_of m) (omega (arith, made_size number m x)) h
