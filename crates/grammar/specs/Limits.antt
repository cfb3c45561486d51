-- "21 ANY, mixed content with names (its first `|`), a 33rd name byte, byte 65,536, a group too deep (it and ANY at the first byte)"; "names are ASCII, at
-- most 32 bytes", "groups at most 16 deep", "up to 64 KiB" (document 02, order 3). What is passed at byte k is told as soon as some text of the grammar
-- that begins with the bytes so far passes it. Assumes nothing.
use Rattle.std.specs.Prelude.{ℕ, zero, suc, ◌+◌, ◌<◌, ◌≡◌, ◌⊎◌, List, ◌∷◌, length}
use Rattle.grammar.specs.Tree.{Particle, Particles, name, choice, sequence, last, more, Use, is_any, is_mixed, is_children}
use Rattle.grammar.specs.Tree.{Declaration, Nth, uses_of}
use Rattle.grammar.specs.Stops.{Begins}

-- a group of a particle, at this place, stands inside n groups of it or more
abbrev mutual
  pub DeepAt : Particle → ℕ → ℕ → Type 0
  DeepAt (name at x k) n place = ⊥
  DeepAt (choice at ps k) zero place = (at ≡ place) ⊎ DeepIn ps zero place
  DeepAt (choice at ps k) (suc n) place = DeepIn ps n place
  DeepAt (sequence at ps k) zero place = (at ≡ place) ⊎ DeepIn ps zero place
  DeepAt (sequence at ps k) (suc n) place = DeepIn ps n place

  pub DeepIn : Particles → ℕ → ℕ → Type 0
  DeepIn (last p) n place = DeepAt p n place
  DeepIn (more p ps) n place = DeepAt p n place ⊎ DeepIn ps n place

-- a name of a declaration, declared or used, with its place
pub data NameIn (d : Declaration) : ℕ → List ℕ → Type 0 where
  declared_name : NameIn d d.place d.named
  used_name : {i : ℕ} {u : Use} → Nth (uses_of d.content) i u → NameIn d u.place u.bytes

-- a declaration of a text that begins with the first n bytes
pub record Holds (t : List ℕ) (n : ℕ) (d : Declaration) : Type 0 where
  pub head : Declaration
  pub tail : List Declaration
  pub begins : Begins t n head tail
  pub number : ℕ
  pub there : Nth (head ∷ tail) number d

-- 21, at byte k
pub data Over (t : List ℕ) (k : ℕ) : Type 0 where
  any_content : {d : Declaration} → Holds t (3 + k) d → d.content ≡ is_any k → Over t k
  mixed_content : {d : Declaration} {us : List Use} → Holds t (suc k) d → d.content ≡ is_mixed k us → Over t k
  long_name : {d : Declaration} {p : ℕ} {n : List ℕ} → Holds t (suc k) d → NameIn d p n → k ≡ p + 32 → 32 < length n → Over t k
  deep_group : {d : Declaration} {p : Particle} → Holds t (suc k) d → d.content ≡ is_children p → DeepAt p 16 k → Over t k
  long_text : k ≡ 65536 → k < length t → Over t k
