-- Names stand in a line: of two one stands up to the other, and of two that stand up to each other both are one. Assumes nothing.
use Rattle.std.proofs.Common.{ℕ, ◌≤◌, ◌<◌, ◌≡◌, refl, ap, ◌≢◌, ◌⊎◌, inl, inr, List, [], ◌∷◌, arith}
use Rattle.grammar.proofs.Stopping.{le_or_lt}
use Rattle.names.specs.Steps.Order.{Upto, ends, lower, alike}

pub upto_self : (n : List ℕ) → Upto n n
upto_self [] = ends
upto_self (a ∷ n) = alike (upto_self n)

pub upto_trans : {n m k : List ℕ} → Upto n m → Upto m k → Upto n k
upto_trans ends y = ends
upto_trans (lower {a = a} h) (lower {b = c} g) = let l : a < c = omega arith in lower l
upto_trans (lower h) (alike y) = lower h
upto_trans (alike x) (lower g) = lower g
upto_trans (alike x) (alike y) = alike (upto_trans x y)

-- the same of two that stand up to two others, which they are the other way round
upto_crossed : {n m k l : List ℕ} → Upto n m → Upto k l → n ≡ l → m ≡ k → n ≡ m
upto_crossed ends ends p q = cc
upto_crossed ends (lower g) p q = cc
upto_crossed ends (alike y) p q = cc
upto_crossed (lower h) ends p q = cc
upto_crossed (lower {a = a} {b = b} h) (lower {a = c} {b = d} g) p q = let e : a ≡ d = cc in let f : b ≡ c = cc in absurd (omega arith)
upto_crossed (lower {a = a} {b = b} h) (alike {a = c} y) p q = let e : a ≡ c = cc in let f : b ≡ c = cc in absurd (omega arith)
upto_crossed (alike x) ends p q = cc
upto_crossed (alike {a = a} x) (lower {a = c} {b = d} g) p q = let e : a ≡ d = cc in let f : a ≡ c = cc in absurd (omega arith)
upto_crossed (alike {a = a} {n = n} {m = m} x) (alike {n = k} {m = l} y) p q =
    let e : n ≡ l = cc in let f : m ≡ k = cc in ap (λ (r : List ℕ). a ∷ r) (upto_crossed x y e f)

pub upto_both : {n m : List ℕ} → Upto n m → Upto m n → n ≡ m
upto_both x y = upto_crossed x y refl refl

pub upto_or : (n m : List ℕ) → ¬ Upto n m → Upto m n
upto_or [] m f = absurd (f ends)
upto_or (a ∷ n) [] f = ends
upto_or (a ∷ n) (b ∷ m) f = go (le_or_lt a b) (le_or_lt b a) (upto_or n m)
  where
    go : (a ≤ b) ⊎ (b < a) → (b ≤ a) ⊎ (a < b) → ((¬ Upto n m) → Upto m n) → Upto (b ∷ m) (a ∷ n)
    go (inr h) _ x = lower h
    go (inl h) (inr g) x = absurd (f (lower g))
    go (inl h) (inl g) x = let e : b ≡ a = omega arith in rw e (alike (x (λ u. f (rw e (alike u)))))

-- two names by their first bytes
pub upto_rest : {a b : ℕ} {n m : List ℕ} → b ≡ a → Upto (a ∷ n) (b ∷ m) → Upto n m
upto_rest e (lower h) = absurd (omega arith)
upto_rest e (alike x) = x

pub upto_higher : {a b : ℕ} {n m : List ℕ} → b ≤ a → b ≢ a → ¬ Upto (a ∷ n) (b ∷ m)
upto_higher h f (lower g) = omega arith
upto_higher h f (alike x) = f refl
