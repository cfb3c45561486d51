-- The completion that allows exactly what is granted is the least; a policy has one exactly if it is clean; a fuller policy's allows all
-- that the earlier's does (demand 3; theorem 2 of document 000). Assumes nothing.
use Rattle.std.proofs.Common.{ℕ, ◌≤◌, ◌<◌, ◌≡◌, sym, ◌∙◌, ◌⊎◌, inl, inr, List, arith, get_or, ext_get_or}
use Rattle.table.specs.Privilege.{privileges}
use Rattle.table.proofs.Lists.{le_or_lt}
use Rattle.policy.specs.Marks.{Allowed, Forbidden, Keeps, Policy}
use Rattle.verdict.specs.Conditions.{Clean}
use Rattle.policy.proofs.Policies.{marked_within}
use Rattle.verdict.proofs.Forced.{forces_mono, forced_below, clean_forces, forces_clean}
use Rattle.completion.specs.Completions.{Completes, LeastCompletion}
use Rattle.completion.specs.Granted.{Granted}
use Rattle.completion.specs.Steps.Passes.{Filled}
use Rattle.policy.specs.Steps.Writing.{Decision, allow, forbid}
use Rattle.completion.proofs.Closed.{granted_closed}

-- a fully decided policy that keeps m's marks and passes: then m passes, and it allows what m forces
module _ {ws m o : List ℕ} (c : Completes ws m o) where
  keeps_allowed : (p : ℕ) → Allowed m p → Allowed o p
  keeps_allowed p a = c.keeps p (omega arith) ∙ a

  pub completes_clean : Clean ws m
  completes_clean = forces_clean (λ p f g. clean_forces c.clean p (forces_mono keeps_allowed f) (c.keeps p (omega arith) ∙ g))

  pub completes_grants : (p : ℕ) → Granted ws (Allowed m) p → Allowed o p
  completes_grants p (inl a) = keeps_allowed p a
  completes_grants p (inr f) = elim (c.decided p (forced_below f)) [
    | inl a ↦ a
    | inr b ↦ absurd (clean_forces c.clean p (forces_mono keeps_allowed f) b)
  ]

module _ {ws m n : List ℕ} (pol : Policy ws m) (c : Filled ws m n) where
  pub allowed_granted : (p : ℕ) → Allowed n p → Granted ws (Allowed m) p
  allowed_granted p a = go (c.each p (omega (arith, marked_within n p (omega arith), c.size)))
    where
      go : Decision (Granted ws (Allowed m) p) (get_or n p 0) → Granted ws (Allowed m) p
      go (allow g e) = g
      go (forbid d e) = absurd (omega arith)

  granted_allowed : (p : ℕ) → p < privileges ws → Granted ws (Allowed m) p → Allowed n p
  granted_allowed p l g = go (c.each p l)
    where
      go : Decision (Granted ws (Allowed m) p) (get_or n p 0) → Allowed n p
      go (allow h e) = e
      go (forbid d e) = absurd (d g)

  clean_n : Clean ws n
  clean_n = forces_clean (λ p f g. omega (arith, granted_allowed p (forced_below f) (granted_closed pol.accepted (forces_mono allowed_granted f))))

  decided_n : (p : ℕ) → p < privileges ws → Allowed n p ⊎ Forbidden n p
  decided_n p l = go (c.each p l)
    where
      go : Decision (Granted ws (Allowed m) p) (get_or n p 0) → Allowed n p ⊎ Forbidden n p
      go (allow h e) = inl e
      go (forbid d e) = inr e

  keeps_n : Clean ws m → Keeps m n
  keeps_n q p d = go (c.each p low) (le_or_lt (get_or m p 0) 1)
    where
      low : p < privileges ws
      low = omega (arith, marked_within m p d, pol.fit.size)

      go : Decision (Granted ws (Allowed m) p) (get_or n p 0) → (get_or m p 0 ≤ 1) ⊎ (1 < get_or m p 0) → get_or n p 0 ≡ get_or m p 0
      go (allow (inl a) e) k = e ∙ sym a
      go (allow (inr f) e) (inl k) = omega arith
      go (allow (inr f) e) (inr k) = absurd (clean_forces q p f (omega (arith, pol.fit.legal p low)))
      go (forbid g e) (inl k) = absurd (g (inl (omega arith)))
      go (forbid g e) (inr k) = omega (arith, pol.fit.legal p low)

  pub completed_least : Clean ws m → LeastCompletion ws m n
  completed_least q = record {
    completes = record { size = c.size; decided = decided_n; keeps = keeps_n q; clean = clean_n };
    least = λ o h p a. completes_grants h p (allowed_granted p a);
  }

-- there is one least completion
pub least_one : {ws m n o : List ℕ} → LeastCompletion ws m n → LeastCompletion ws m o → n ≡ o
least_one {ws} {m} {n} {o} c d = ext_get_or 0 n o (c.completes.size ∙ sym d.completes.size) (λ p l. each p (omega (arith, c.completes.size)))
  where
    each : (p : ℕ) → p < privileges ws → get_or n p 0 ≡ get_or o p 0
    each p l = elim (c.completes.decided p l) [
      | inl a ↦ a ∙ sym (c.least o d.completes p a)
      | inr b ↦ elim (d.completes.decided p l) [ inl a ↦ d.least n c.completes p a ∙ sym a | inr e ↦ b ∙ sym e ]
    ]

-- a policy that keeps m's marks and a policy that keeps its: the second keeps m's
pub keeps_trans : (m k n : List ℕ) → Keeps m k → Keeps k n → Keeps m n
keeps_trans m k n f g p d = let e = f p d in g p (λ z. d (sym e ∙ z)) ∙ e

pub completes_earlier : {ws m k n : List ℕ} → Keeps m k → Completes ws k n → Completes ws m n
completes_earlier {ws} {m} {k} {n} f c = record { size = c.size; decided = c.decided; keeps = keeps_trans m k n f c.keeps; clean = c.clean }

-- filling one more blank takes nothing back
pub fuller_allows : {ws m k n o : List ℕ} → Keeps m k → LeastCompletion ws m n → LeastCompletion ws k o → (p : ℕ) → Allowed n p → Allowed o p
fuller_allows {o = o} f c d = c.least o (completes_earlier f d.completes)
