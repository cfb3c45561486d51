-- "Its language, made types replaced by what they hold, is that of the text" (document 02, order 3): the runs of names that a content takes, and the
-- runs of declared types that a type of a table takes. Assumes nothing.
use Rattle.std.specs.Prelude.{ℕ, ◌≤◌, ◌<◌, ◌≡◌, ◌⊎◌, List, [], ◌∷◌, ◌++◌, map, length, get_or}
use Rattle.table.specs.Rule.{OfKind, children_at}
use Rattle.grammar.specs.Tree.{Mark, once, maybe, any, several, Particle, Particles, name, choice, sequence, last, more}
use Rattle.grammar.specs.Tree.{Content, is-empty, is_text, is_any, is_mixed, is_children}

-- a run is one of the first language and then one of the second
pub record Both {A : Type 0} (P Q : List A → Type 0) (w : List A) : Type 0 where
  pub front : List A
  pub back : List A
  pub is : w ≡ front ++ back
  pub first : P front
  pub second : Q back

-- any number of runs of a language, one after another
pub data Many {A : Type 0} (P : List A → Type 0) : List A → Type 0 where
  none : Many P []
  one_more : {u v : List A} → P u → Many P v → Many P (u ++ v)

-- what a mark makes of a language
abbrev pub Times : {A : Type 0} → Mark → (List A → Type 0) → List A → Type 0
Times once P w = P w
Times maybe P w = (w ≡ []) ⊎ P w
Times any P w = Many P w
Times several P w = Both P (Many P) w

-- the runs of names that a particle takes
abbrev mutual
  pub Takes : Particle → List (List ℕ) → Type 0
  Takes (name at n k) = Times k (λ w. w ≡ n ∷ [])
  Takes (choice at ps k) = Times k (TakesOne ps)
  Takes (sequence at ps k) = Times k (TakesAll ps)

  pub TakesOne : Particles → List (List ℕ) → Type 0
  TakesOne (last p) = Takes p
  TakesOne (more p ps) = λ w. Takes p w ⊎ TakesOne ps w

  pub TakesAll : Particles → List (List ℕ) → Type 0
  TakesAll (last p) = Takes p
  TakesAll (more p ps) = Both (Takes p) (TakesAll ps)

-- the runs of names that a content takes; ANY and mixed content, which 21 refuses, have no language here
abbrev pub ContentTakes : Content → List (List ℕ) → Type 0
ContentTakes is-empty = λ w. w ≡ []
ContentTakes is_text = λ w. w ≡ []
ContentTakes (is_any at) = λ w. ⊥
ContentTakes (is_mixed at us) = λ w. ⊥
ContentTakes (is_children p) = Takes p

-- no ANY and no mixed content with names: a content that has a language here
pub data Plain : Content → Type 0 where
  plain_empty : Plain is-empty
  plain_text : Plain is_text
  plain_children : {p : Particle} → Plain (is_children p)

-- the runs of declared types, those below `declared`, that a type of the table takes
mutual
  pub data Runs (ws : List ℕ) (declared : ℕ) : ℕ → List ℕ → Type 0 where
    as_empty : {t : ℕ} → OfKind ws t 0 → Runs ws declared t []
    as_text : {t : ℕ} → OfKind ws t 1 → Runs ws declared t []
    as_sequence : {t : ℕ} {w : List ℕ} → OfKind ws t 2 → InTurn ws declared (children_at ws t) w → Runs ws declared t w
    as_choice : {t : ℕ} {w : List ℕ} (i : ℕ) → OfKind ws t 3 → i < length (children_at ws t) → Holds ws declared (get_or (children_at ws t) i 0) w
        → Runs ws declared t w
    as_star : {t : ℕ} {w : List ℕ} → OfKind ws t 4 → Repeats ws declared (get_or (children_at ws t) 0 0) w → Runs ws declared t w

  -- what a child stands for: itself if it is declared, else what it holds
  pub data Holds (ws : List ℕ) (declared : ℕ) : ℕ → List ℕ → Type 0 where
    itself : {x : ℕ} → x < declared → Holds ws declared x (x ∷ [])
    what_it_holds : {x : ℕ} {w : List ℕ} → declared ≤ x → Runs ws declared x w → Holds ws declared x w

  -- one after another
  pub data InTurn (ws : List ℕ) (declared : ℕ) : List ℕ → List ℕ → Type 0 where
    no_more : InTurn ws declared [] []
    in_turn : {x : ℕ} {xs u v : List ℕ} → Holds ws declared x u → InTurn ws declared xs v → InTurn ws declared (x ∷ xs) (u ++ v)

  -- any number of times
  pub data Repeats (ws : List ℕ) (declared : ℕ) : ℕ → List ℕ → Type 0 where
    not_again : {x : ℕ} → Repeats ws declared x []
    again : {x : ℕ} {u v : List ℕ} → Holds ws declared x u → Repeats ws declared x v → Repeats ws declared x (u ++ v)

-- a run of numbers is that of names that a language takes
pub record Named (number : List ℕ → ℕ) (P : List (List ℕ) → Type 0) (r : List ℕ) : Type 0 where
  pub names : List (List ℕ)
  pub spells : map number names ≡ r
  pub takes : P names

-- type t of the table takes the runs of the declared types whose names its content takes, and no others; and it is text exactly if its content is
pub record SameLanguage (ws : List ℕ) (declared : ℕ) (number : List ℕ → ℕ) (t : ℕ) (c : Content) : Type 0 where
  pub into : (w : List (List ℕ)) → ContentTakes c w → Runs ws declared t (map number w)
  pub out : (r : List ℕ) → Runs ws declared t r → Named number (ContentTakes c) r
  pub text_in : c ≡ is_text → OfKind ws t 1
  pub text_out : OfKind ws t 1 → c ≡ is_text
