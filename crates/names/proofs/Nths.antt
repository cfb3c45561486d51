-- Elements of a list by their place, passed and left in a walk along it. Assumes nothing.
use Rattle.std.proofs.Common.{ℕ, suc, ◌+◌, ◌<◌, ◌≡◌, refl, List, ◌∷◌, arith, length}
use Rattle.grammar.specs.Tree.{Nth, first, later}

pub nth_below : {A : Type 0} {l : List A} {i : ℕ} {a : A} → Nth l i a → i < length l
nth_below first = omega arith
nth_below (later n) = omega (arith, nth_below n)

pub nth_same : {A : Type 0} {l : List A} {i : ℕ} {a b : A} → Nth l i a → Nth l i b → a ≡ b
nth_same first first = refl
nth_same (later n) (later m) = nth_same n m

-- n elements of the list passed, these are left
pub data Left {A : Type 0} (l : List A) : ℕ → List A → Type 0 where
  all_left : Left l 0 l
  one_less : {n : ℕ} {a : A} {m : List A} → Left l n (a ∷ m) → Left l (suc n) m

pub left_count : {A : Type 0} {l m : List A} {n : ℕ} → Left l n m → n + length m ≡ length l
left_count all_left = omega arith
left_count (one_less x) = omega (arith, left_count x)

-- an element that is left stands further on in the list
left_nth : {A : Type 0} {l m : List A} {n i : ℕ} {a : A} → Left l n m → Nth m i a → Nth l (n + i) a
left_nth {l = l} {i = i} {a = a} all_left y = let e : 0 + i ≡ i = omega arith in rw e y
left_nth {l = l} {i = i} {a = a} (one_less {n = n} x) y = let e : suc n + i ≡ n + suc i = omega arith in rw e (left_nth x (later y))

pub left_first : {A : Type 0} {l m : List A} {n : ℕ} {a : A} → Left l n (a ∷ m) → Nth l n a
left_first {l = l} {n = n} {a = a} x = let e : n + 0 ≡ n = omega arith in rw e at (left_nth x first)

-- an element of the list was passed, or is left
pub data Where {A : Type 0} (m : List A) (n i : ℕ) (a : A) : Type 0 where
  passed : i < n → Where m n i a
  is_left : {j : ℕ} → i ≡ n + j → Nth m j a → Where m n i a

pub left_where : {A : Type 0} {l m : List A} {n i : ℕ} {a : A} → Left l n m → Nth l i a → Where m n i a
left_where {i = i} all_left y = is_left {j = i} (omega arith) y
left_where (one_less x) y = go (left_where x y)
  where
    go : {A : Type 0} {m : List A} {n i : ℕ} {a b : A} → Where (b ∷ m) n i a → Where m (suc n) i a
    go (passed h) = passed (omega arith)
    go (is_left e first) = passed (omega arith)
    go (is_left e (later {i = k} y)) = is_left {j = k} (omega arith) y
