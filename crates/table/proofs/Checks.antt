-- Laws of the checks' own notions. Assumes nothing.
use Prim.Native.Nat.{ℕ, zero, suc, ◌+◌, ◌≤◌, ◌<◌}
use mathlib.Core.Path.{◌≡◌, refl, sym, ap, ◌∙◌}
use mathlib.Core.Logic.{◌≢◌}
use mathlib.Core.List.{List}
use native.Mathlib.Omega.{arith}
use Rattle.table.specs.Words.{types, count_at, first_at, running}
use Rattle.table.specs.Check.{Follows}
use Rattle.table.proofs.Sum.{sum_more}

-- the running index past a type whose children follow on
pub running_next : (ws : List ℕ) (t : ℕ) → t < types ws → Follows ws t → first_at ws t + count_at ws t ≡ running ws (t + 1)
running_next ws t l f = ap (λ (n : ℕ). n + count_at ws t) (f.first l) ∙ sym (sum_more (count_at ws) t)

-- a rank from 1 to 10 that is none of the first nine
pub last_rank : (n : ℕ) → (1 ≤ n) × (n ≤ 10) → (n ≢ 1) × (n ≢ 2) × (n ≢ 3) × (n ≢ 4) × (n ≢ 5) × (n ≢ 6) × (n ≢ 7) × (n ≢ 8) × (n ≢ 9) → 10 ≡ n
last_rank zero h d = absurd (omega arith)
last_rank (suc zero) h d = absurd (d.0 refl)
last_rank (suc (suc zero)) h d = absurd (d.1 refl)
last_rank (suc (suc (suc zero))) h d = absurd (d.2 refl)
last_rank (suc (suc (suc (suc zero)))) h d = absurd (d.3 refl)
last_rank (suc (suc (suc (suc (suc zero))))) h d = absurd (d.4 refl)
last_rank (suc (suc (suc (suc (suc (suc zero)))))) h d = absurd (d.5 refl)
last_rank (suc (suc (suc (suc (suc (suc (suc zero))))))) h d = absurd (d.6 refl)
last_rank (suc (suc (suc (suc (suc (suc (suc (suc zero)))))))) h d = absurd (d.7 refl)
last_rank (suc (suc (suc (suc (suc (suc (suc (suc (suc zero))))))))) h d = absurd (d.8 refl)
last_rank (suc (suc (suc (suc (suc (suc (suc (suc (suc (suc n)))))))))) h d = omega arith
