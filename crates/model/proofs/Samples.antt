-- Tables of some texts: one list of rows, and one statement, proved by one computation. Every table was worked out by hand from document 02's words.
-- A table does not depend on places, so all are 0 here. Assumes nothing.
use Prim.Native.Nat.{ℕ}
use Prim.Native.String.{String}
use mathlib.Core.Path.{◌≡◌, refl}
use mathlib.Core.List.{List, [], ◌∷◌, map}
use Rattle.table.proofs.Tables.{sample}
use Rattle.grammar.specs.Bytes.{ascii}
use Rattle.grammar.specs.Tree.{Mark, once, maybe, any, several, Particle, Particles, name, choice, sequence, last, more}
use Rattle.grammar.specs.Tree.{Content, is-empty, is_text, is_children, Declaration}
use Rattle.model.specs.Tables.{number_in, rules_of, words_of, table_of}

-- declarations, and the words of their table in format 1
pub record Row : Type 0 where
  pub declarations : List Declaration
  pub words : List ℕ

abbrev element : String → Content → Declaration
element n c = record { place = 0; named = ascii n; content = c }

abbrev item : String → Mark → Particle
item n k = name 0 (ascii n) k

abbrev a : Mark → Particle
a k = item "a" k

abbrev b : Mark → Particle
b k = item "b" k

-- (p), (p, q) and (p | q), with a mark
abbrev group : Particle → Mark → Particle
group p k = sequence 0 (last p) k

abbrev pair : Particle → Particle → Mark → Particle
pair p q k = sequence 0 (more p (last q)) k

abbrev either : Particle → Particle → Mark → Particle
either p q k = choice 0 (more p (last q)) k

abbrev three : String → String → String → Particles
three n m k = more (item n once) (more (item m once) (last (item k once)))

-- r with this content, over a, which is EMPTY; and over two such
abbrev over_a : Particle → List Declaration
over_a p = element "r" (is_children p) ∷ element "a" is-empty ∷ []

abbrev over_a_b : Particle → List Declaration
over_a_b p = element "r" (is_children p) ∷ element "a" is-empty ∷ element "b" is-empty ∷ []

abbrev schema : List Declaration
schema =
    -- (layer)*
    element "job" (is_children (group (item "layer" once) any))
    -- (name, range, state)
    ∷ element "layer" (is_children (sequence 0 (three "name" "range" "state") once))
    ∷ element "name" is_text
    ∷ element "range" is_text
    -- (draft | held | final)
    ∷ element "state" (is_children (choice 0 (three "draft" "held" "final") once))
    ∷ element "draft" is-empty
    ∷ element "held" is-empty
    ∷ element "final" is_text
    ∷ []

-- ((a?)+, b*): 3 is the sequence of (a?)+ and 4 its star, 5 the choice of a? and 6 its empty type, 7 the star of b*
abbrev nested : List ℕ
nested =
    1 ∷ 40 ∷ 8 ∷ 0 ∷ 8 ∷ 8 ∷ 32 ∷ 6
    ∷ 2 ∷ 2 ∷ 0 ∷ 0 ∷ 0 ∷ 2 ∷ 0 ∷ 0 ∷ 2 ∷ 2 ∷ 2 ∷ 2 ∷ 4 ∷ 1 ∷ 4 ∷ 3 ∷ 2 ∷ 5 ∷ 0 ∷ 0 ∷ 7 ∷ 4 ∷ 1 ∷ 7
    ∷ 3 ∷ 7 ∷ 5 ∷ 4 ∷ 5 ∷ 1 ∷ 6 ∷ 2 ∷ []

abbrev pub rows : List Row
rows =
    -- the sample schema
    record { declarations = schema; words = sample }
    -- (a): a sequence of one
    ∷ record { declarations = over_a (group (a once) once); words = 1 ∷ 15 ∷ 2 ∷ 0 ∷ 8 ∷ 1 ∷ 14 ∷ 0 ∷ 2 ∷ 1 ∷ 0 ∷ 0 ∷ 0 ∷ 1 ∷ 1 ∷ [] }
    -- (a*) and (a)*: a star of a
    ∷ record { declarations = over_a (group (a any) once); words = 1 ∷ 15 ∷ 2 ∷ 0 ∷ 8 ∷ 1 ∷ 14 ∷ 2 ∷ 4 ∷ 1 ∷ 0 ∷ 0 ∷ 0 ∷ 1 ∷ 1 ∷ [] }
    ∷ record { declarations = over_a (group (a once) any); words = 1 ∷ 15 ∷ 2 ∷ 0 ∷ 8 ∷ 1 ∷ 14 ∷ 2 ∷ 4 ∷ 1 ∷ 0 ∷ 0 ∷ 0 ∷ 1 ∷ 1 ∷ [] }
    -- (a?): a choice of a and an empty type
    ∷ record {
      declarations = over_a (group (a maybe) once);
      words = 1 ∷ 19 ∷ 3 ∷ 0 ∷ 8 ∷ 2 ∷ 17 ∷ 2 ∷ 3 ∷ 2 ∷ 0 ∷ 0 ∷ 0 ∷ 2 ∷ 0 ∷ 0 ∷ 2 ∷ 1 ∷ 2 ∷ [];
    }
    -- (a+): a sequence of a and a star of a
    ∷ record {
      declarations = over_a (group (a several) once);
      words = 1 ∷ 20 ∷ 3 ∷ 0 ∷ 8 ∷ 3 ∷ 17 ∷ 2 ∷ 2 ∷ 2 ∷ 0 ∷ 0 ∷ 0 ∷ 2 ∷ 4 ∷ 1 ∷ 2 ∷ 1 ∷ 2 ∷ 1 ∷ [];
    }
    -- ((a, b))?: a choice of a sequence, which is type 4, and an empty type, 3
    ∷ record {
      declarations = over_a_b (group (pair (a once) (b once) once) maybe);
      words = 1 ∷ 27 ∷ 5 ∷ 0 ∷ 8 ∷ 4 ∷ 23 ∷ 2 ∷ 3 ∷ 2 ∷ 0 ∷ 0 ∷ 0 ∷ 2 ∷ 0 ∷ 0 ∷ 2 ∷ 0 ∷ 0 ∷ 2 ∷ 2 ∷ 2 ∷ 2 ∷ 4 ∷ 3 ∷ 1 ∷ 2 ∷ [];
    }
    -- (a | b)+: a sequence of a choice, 4, and a star of that choice, 3
    ∷ record {
      declarations = over_a_b (either (a once) (b once) several);
      words = 1 ∷ 28 ∷ 5 ∷ 0 ∷ 8 ∷ 5 ∷ 23 ∷ 4 ∷ 2 ∷ 2 ∷ 0 ∷ 0 ∷ 0 ∷ 2 ∷ 0 ∷ 0 ∷ 2 ∷ 4 ∷ 1 ∷ 2 ∷ 3 ∷ 2 ∷ 3 ∷ 4 ∷ 3 ∷ 4 ∷ 1 ∷ 2 ∷ [];
    }
    -- ((a?)+, b*)
    ∷ record { declarations = over_a_b (pair (group (a maybe) several) (b any) once); words = nested }
    -- (#PCDATA)*: text
    ∷ record { declarations = element "r" is_text ∷ []; words = 1 ∷ 11 ∷ 1 ∷ 0 ∷ 8 ∷ 0 ∷ 11 ∷ 1 ∷ 1 ∷ 0 ∷ 0 ∷ [] }
    ∷ []

pub samples : map (λ r. table_of 1 r.declarations) rows ≡ map (λ r. r.words) rows
unfolding number_in rules_of words_of
samples = refl
