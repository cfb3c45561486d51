-- Where no name is used and never declared, each used name has the number of a declared type. Assumes nothing.
use Prim.Native.Nat.{ℕ, suc, ◌≤◌, ◌<◌}
use mathlib.Core.Path.{refl}
use mathlib.Core.Logic.{inl, inr}
use mathlib.Core.List.{List, [], ◌∷◌, ◌++◌}
use native.Mathlib.Omega.{arith}
use lib.ListN.{length}
use Rattle.table.proofs.Lists.{le_or_lt}
use Rattle.grammar.specs.Tree.{Particle, Particles, more, Use, Declaration, Nth, first, later, uses_in, uses_in_all, uses_of}
use Rattle.model.specs.Names.{NeverDeclared}
use Rattle.model.specs.Tables.{number_of}
use Rattle.model.proofs.Numbers.{number_below}

-- the numbers of these names are below `declared`
pub record Known (number : List ℕ → ℕ) (declared : ℕ) (us : List Use) : Type 0 where
  pub below : (j : ℕ) (u : Use) → Nth us j u → number u.bytes < declared

module _ {number : List ℕ → ℕ} {declared : ℕ} where
  pub known_first : (p : Particle) (ps : Particles) → Known number declared (uses_in_all (more p ps)) → Known number declared (uses_in p)
  known_first p ps k = record { below = λ j u n. k.below j u (ahead n) }
    where
      ahead : {us : List Use} {i : ℕ} {u : Use} → Nth us i u → Nth (us ++ uses_in_all ps) i u
      ahead first = first
      ahead (later n) = later (ahead n)

  pub known_rest : (p : Particle) (ps : Particles) → Known number declared (uses_in_all (more p ps)) → Known number declared (uses_in_all ps)
  known_rest p ps k = behind (uses_in p) k
    where
      behind : (us : List Use) → Known number declared (us ++ uses_in_all ps) → Known number declared (uses_in_all ps)
      behind [] k = k
      behind (v ∷ us) k = behind us (record { below = λ j u n. k.below (suc j) u (later n) })

module _ (ds : List Declaration) (f : (k : ℕ) → ¬ NeverDeclared ds k) where
  pub all_known : {i : ℕ} {d : Declaration} → Nth ds i d → Known (number_of ds) (length ds) (uses_of d.content)
  all_known {i} {d} there = record {
    below = λ j u used. elim (le_or_lt (length ds) (number_of ds u.bytes)) [ inl h ↦ absurd (f u.place (never j u used h)) | inr h ↦ h ];
  }
    where
      never : (j : ℕ) (u : Use) → Nth (uses_of d.content) j u → length ds ≤ number_of ds u.bytes → NeverDeclared ds u.place
      never j u used h = record {
        i = i;
        j = j;
        declaration = d;
        used = u;
        at_declaration = there;
        at_used = used;
        never = λ e. let l : number_of ds u.bytes < length ds = rw e.same at (number_below e.there) in omega arith;
        is = refl;
      }
