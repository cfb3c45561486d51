-- The length of a list that is given by what stands at each place, and what stands there. Assumes nothing.
use Prim.Native.Nat.{ℕ, zero, suc, ◌<◌}
use mathlib.Core.Path.{◌≡◌, refl, sym, ap, ◌∙◌}
use mathlib.Core.List.{List}
use native.Mathlib.Omega.{arith}
use lib.ListN.{length, get_or}
use lib.Seq.{ext_get_or}
use Rattle.policy.specs.Tabulated.{tabulate}

pub tabulate_length : (n : ℕ) (f : ℕ → ℕ) → length (tabulate n f) ≡ n
tabulate_length zero f = refl
tabulate_length (suc n) f = ap suc (tabulate_length n (λ p. f (suc p)))

pub tabulate_at : (n : ℕ) (f : ℕ → ℕ) (p : ℕ) → p < n → get_or (tabulate n f) p 0 ≡ f p
tabulate_at zero f p l = absurd (omega arith)
tabulate_at (suc n) f zero l = refl
tabulate_at (suc n) f (suc p) l = tabulate_at n (λ p. f (suc p)) p (omega arith)

-- a list of n numbers that has f p at each place p
pub tabulate_is : (n : ℕ) (f : ℕ → ℕ) (l : List ℕ) → length l ≡ n → ((p : ℕ) → p < n → get_or l p 0 ≡ f p) → l ≡ tabulate n f
tabulate_is n f l e each = ext_get_or 0 l (tabulate n f) (e ∙ sym (tabulate_length n f)) (λ p h. each p (rw (← e) h) ∙ sym (tabulate_at n f p (rw (← e) h)))
