-- What the entries passed have used, and what that says of the next. Assumes nothing.
use Prim.Native.Nat.{ℕ, ◌≤◌, ◌<◌}
use mathlib.Core.Path.{◌≡◌, refl}
use mathlib.Core.Logic.{◌⊎◌, inl, inr}
use mathlib.Core.List.{List}
use native.Mathlib.Omega.{arith}
use native.Mathlib.Decide.{ℕ_discrete}
use lib.ListN.{get_or, replicate, get_or-replicate}
use Rattle.carry.specs.Numbers.{new_number, EntryFits}
use Rattle.carry.specs.Steps.Using.{UsedBefore, Usable}

pub used_start : (numbers : List ℕ) → UsedBefore numbers (replicate 256 0) 0
used_start numbers = record {
  size = refl;
  free = λ y l u z k. absurd (omega arith);
  taken = λ y l u. absurd (u (get_or-replicate {A = ℕ} 256 y 0 0 l));
}

module _ {numbers used : List ℕ} {x : ℕ} (h : UsedBefore numbers used x) where
  pub entry_off : (e : ℕ) → e ≤ 256 → ¬ Usable used e (new_number numbers x) → ¬ EntryFits numbers e x
  entry_off e few d f = go f.inside (ℕ_discrete (get_or used (new_number numbers x) 0) 0)
    where
      go : (new_number numbers x ≡ 65535) ⊎ (new_number numbers x < e) → Dec (get_or used (new_number numbers x) 0 ≡ 0) → ⊥
      go (inl q) u = d (inl q)
      go (inr l) (yes u) = d (inr (l, u))
      go (inr l) (no u) = let t = h.taken (new_number numbers x) (omega arith) u in f.once (λ q. d (inl q)) t.0 t.1 t.2
