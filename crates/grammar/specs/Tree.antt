-- The tree of a DTD text: its declarations in order, each a name and a content, with the places at which names, groups, ANY and the first `|` of
-- mixed content stand. Assumes nothing.
use Rattle.std.specs.Prelude.{ℕ, suc, List, [], ◌∷◌, ◌++◌}

-- what stands behind a name or a group: nothing, `?`, `*`, `+`
pub data Mark : Type 0 where
  once maybe any several : Mark

-- a name with its place; a choice or a sequence with the place of its `(`
mutual
  pub data Particle : Type 0 where
    name : ℕ → List ℕ → Mark → Particle
    choice sequence : ℕ → Particles → Mark → Particle

  pub data Particles : Type 0 where
    last : Particle → Particles
    more : Particle → Particles → Particles

-- a name that is used, with its place
pub record Use : Type 0 where
  pub place : ℕ
  pub bytes : List ℕ

-- EMPTY; text; ANY with its place; text with names, with the place of its first `|`; particles
pub data Content : Type 0 where
  is-empty is_text : Content
  is_any : ℕ → Content
  is_mixed : ℕ → List Use → Content
  is_children : Particle → Content

pub record Declaration : Type 0 where
  pub place : ℕ
  pub named : List ℕ
  pub content : Content

-- a is the element at i
pub data Nth {A : Type 0} : List A → ℕ → A → Type 0 where
  first : {a : A} {l : List A} → Nth (a ∷ l) 0 a
  later : {a b : A} {l : List A} {i : ℕ} → Nth l i a → Nth (b ∷ l) (suc i) a

-- the names used in a particle, in the order of the text
abbrev mutual
  pub uses_in : Particle → List Use
  uses_in (name at n k) = record { place = at; bytes = n } ∷ []
  uses_in (choice at ps k) = uses_in_all ps
  uses_in (sequence at ps k) = uses_in_all ps

  pub uses_in_all : Particles → List Use
  uses_in_all (last p) = uses_in p
  uses_in_all (more p ps) = uses_in p ++ uses_in_all ps

abbrev pub uses_of : Content → List Use
uses_of is-empty = []
uses_of is_text = []
uses_of (is_any at) = []
uses_of (is_mixed at us) = us
uses_of (is_children p) = uses_in p
