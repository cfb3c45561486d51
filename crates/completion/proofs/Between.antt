-- What stands between an allowed set and what it grants opens, passes on and grants the same. Assumes nothing.
use Rattle.std.proofs.Common.{ℕ, inl, inr, ◌↔◌, List}
use Rattle.table.specs.Check.{Accepted}
use Rattle.policy.proofs.Reaches.{reached_mono}
use Rattle.policy.proofs.Renewals.{renewed_mono}
use Rattle.verdict.proofs.Forced.{forces_mono}
use Rattle.completion.specs.Granted.{Granted}
use Rattle.completion.specs.Steps.Opens.{OpensAt, star, cycle, Opened, PassesOn}
use Rattle.completion.proofs.Closed.{opens_source, opened_source, granted_closed}

-- more allowed opens more
module _ {ws : List ℕ} {S T : ℕ → Type 0} (more : (p : ℕ) → S p → T p) where
  opens_mono : {x i : ℕ} → OpensAt ws S x i → OpensAt ws T x i
  opens_mono (star s r e) = star s (renewed_mono more r) e
  opens_mono (cycle s r) = cycle s (reached_mono more r)

  opened_mono : {y : ℕ} → Opened ws S y → Opened ws T y
  opened_mono o = record { at = o.at; i = o.i; opens = opens_mono o.opens; below = o.below }

-- T is all of S, and nothing that S does not grant
pub record Between (ws : List ℕ) (S T : ℕ → Type 0) : Type 0 where
  pub more : (p : ℕ) → S p → T p
  pub granted : (p : ℕ) → T p → Granted ws S p

module _ {ws : List ℕ} {S T : ℕ → Type 0} (a : Accepted ws) (b : Between ws S T) where
  pub opened_between : {y : ℕ} → Opened ws S y ↔ Opened ws T y
  opened_between = (opened_mono b.more, λ o. opened_source a (opened_mono b.granted o))

  pub passes_between : {x i : ℕ} → PassesOn ws S x i ↔ PassesOn ws T x i
  passes_between = (
    λ g. elim g [ inl o ↦ inl (opened_between.0 o) | inr o ↦ inr (opens_mono b.more o) ],
    λ g. elim g [ inl o ↦ inl (opened_between.1 o) | inr o ↦ opens_source (opens_mono b.granted o) ],
  )

  pub granted_between : {p : ℕ} → Granted ws S p ↔ Granted ws T p
  granted_between {p} = (
    λ g. elim g [ inl s ↦ inl (b.more p s) | inr f ↦ inr (forces_mono b.more f) ],
    λ g. elim g [ inl t ↦ b.granted p t | inr f ↦ granted_closed a (forces_mono b.granted f) ],
  )
