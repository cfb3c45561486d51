-- The tables that samples are made of, and what a computation of all rows of a sample proves. Assumes nothing.
use Prim.Native.Nat.{ℕ, zero, suc, ◌/◌, ◌%◌}
use mathlib.Core.Path.{◌≡◌, subst}
use mathlib.Core.List.{List, [], ◌∷◌, map}
use lib.ListN.{get_or}

-- each row has a property
abbrev pub Each : {A : Type 0} → (A → Type 0) → List A → Type 0
Each P [] = Unit {0}
Each P (a ∷ rest) = P a × Each P rest

each_again : {A : Type 0} (P : A → Type 0) (again : A → A) → ((a : A) → P (again a)) → (rows : List A) → Each P (map again rows)
each_again P again h [] = tt
each_again P again h (a ∷ rest) = (h a, each_again P again h rest)

-- rows that are the same when their answers are computed anew
pub each_computed : {A : Type 0} (P : A → Type 0) (again : A → A) → ((a : A) → P (again a)) → (rows : List A) → map again rows ≡ rows → Each P rows
each_computed P again h rows e = subst (Each P) e (each_again P again h rows)

-- the last k digits of a number, before others
abbrev digits : ℕ → ℕ → List ℕ → List ℕ
digits zero n s = s
digits (suc k) n s = digits k (n / 10) (n % 10 ∷ s)

-- marks are given as V digits, V being word 7
abbrev pub marks_of : List ℕ → ℕ → List ℕ
marks_of words n = digits (get_or words 7 0) n []

-- the sample schema of document 01, with its format and V: 0 and 1 are the insert and delete of a layer, 3 its range, 4 to 9 the replacements at the
-- choice of draft, held and final, 10 the text of final. In format 2 the layer's exchange is 2 and its range 4; 5, 6, 7 replace draft by draft, held,
-- final, 8, 9, 10 held and 11, 12, 13 final; 14 is the text of final
abbrev pub sample_in : ℕ → ℕ → List ℕ
sample_in format v =
    format ∷ 39 ∷ 8 ∷ 0 ∷ 8 ∷ 7 ∷ 32 ∷ v
    ∷ 4 ∷ 1 ∷ 0 ∷ 2 ∷ 3 ∷ 1 ∷ 1 ∷ 0 ∷ 4 ∷ 1 ∷ 0 ∷ 4 ∷ 3 ∷ 3 ∷ 4 ∷ 0 ∷ 0 ∷ 7 ∷ 0 ∷ 0 ∷ 7 ∷ 1 ∷ 0 ∷ 7
    ∷ 1 ∷ 2 ∷ 3 ∷ 4 ∷ 5 ∷ 6 ∷ 7 ∷ []

abbrev pub sample : List ℕ
sample = sample_in 1 11

abbrev pub sample_two : List ℕ
sample_two = sample_in 2 15

-- the same with its types in alphabetical order: draft, final, held, job (the root), layer, name, range, state. 0 is the text of final, 1 and 2 are the
-- insert and delete of a layer, 4 is its range, 5 to 10 are the replacements
abbrev pub alphabetical : List ℕ
alphabetical =
    1 ∷ 39 ∷ 8 ∷ 3 ∷ 8 ∷ 7 ∷ 32 ∷ 11
    ∷ 0 ∷ 0 ∷ 0 ∷ 1 ∷ 0 ∷ 0 ∷ 0 ∷ 0 ∷ 0 ∷ 4 ∷ 1 ∷ 0 ∷ 2 ∷ 3 ∷ 1 ∷ 1 ∷ 0 ∷ 4 ∷ 1 ∷ 0 ∷ 4 ∷ 3 ∷ 3 ∷ 4
    ∷ 4 ∷ 5 ∷ 6 ∷ 7 ∷ 0 ∷ 2 ∷ 1 ∷ []

-- the same in format 2: 0 is the text of final, 1, 2 and 3 are the insert, delete and exchange of a layer, 5 is its range, 6 to 14 are the replacements
abbrev pub alphabetical_two : List ℕ
alphabetical_two =
    2 ∷ 39 ∷ 8 ∷ 3 ∷ 8 ∷ 7 ∷ 32 ∷ 15
    ∷ 0 ∷ 0 ∷ 0 ∷ 1 ∷ 0 ∷ 0 ∷ 0 ∷ 0 ∷ 0 ∷ 4 ∷ 1 ∷ 0 ∷ 2 ∷ 3 ∷ 1 ∷ 1 ∷ 0 ∷ 4 ∷ 1 ∷ 0 ∷ 4 ∷ 3 ∷ 3 ∷ 4
    ∷ 4 ∷ 5 ∷ 6 ∷ 7 ∷ 0 ∷ 2 ∷ 1 ∷ []

-- a lone empty type
abbrev pub lone : List ℕ
lone = 1 ∷ 11 ∷ 1 ∷ 0 ∷ 8 ∷ 0 ∷ 11 ∷ 0 ∷ 0 ∷ 0 ∷ 0 ∷ []

-- a choice of four empty types: replacing 0 by 1, 2, 3 is privilege 0, 1, 2; 1 by 0, 2, 3 is 3, 4, 5; 2 by 0, 1, 3 is 6, 7, 8; 3 is 9, 10, 11
abbrev pub four : List ℕ
four =
    1 ∷ 27 ∷ 5 ∷ 0 ∷ 8 ∷ 4 ∷ 23 ∷ 12
    ∷ 3 ∷ 4 ∷ 0 ∷ 0 ∷ 0 ∷ 4 ∷ 0 ∷ 0 ∷ 4 ∷ 0 ∷ 0 ∷ 4 ∷ 0 ∷ 0 ∷ 4
    ∷ 1 ∷ 2 ∷ 3 ∷ 4 ∷ []

-- document 000, figure 1 and example 1, whose rules are all of our forms; the shared types F and G stand once each. Types, rules, privileges:
--   0 R = A + B + J + K   0 to 11: A by B, J, K; B by A, J, K; J by A, B, K; K by A, B, J
--   1 A = C, D            none
--   2 B = E*              12, 13
--   3 J = G*              14, 15
--   4 K = str             16
--   5 C = F*              17, 18
--   6 D = F*              19, 20
--   7 E = G*              21, 22
--   8 F = str             23
--   9 G = H + I           24: H by I; 25: I by H
--   10 H = str            26
--   11 I = str            27
abbrev pub figure : List ℕ
figure =
    1 ∷ 57 ∷ 12 ∷ 0 ∷ 8 ∷ 13 ∷ 44 ∷ 28
    ∷ 3 ∷ 4 ∷ 0 ∷ 2 ∷ 2 ∷ 4 ∷ 4 ∷ 1 ∷ 6 ∷ 4 ∷ 1 ∷ 7 ∷ 1 ∷ 0 ∷ 8 ∷ 4 ∷ 1 ∷ 8
    ∷ 4 ∷ 1 ∷ 9 ∷ 4 ∷ 1 ∷ 10 ∷ 1 ∷ 0 ∷ 11 ∷ 3 ∷ 2 ∷ 11 ∷ 1 ∷ 0 ∷ 13 ∷ 1 ∷ 0 ∷ 13
    ∷ 1 ∷ 2 ∷ 3 ∷ 4 ∷ 5 ∷ 6 ∷ 7 ∷ 9 ∷ 8 ∷ 8 ∷ 9 ∷ 10 ∷ 11 ∷ []

-- document 003, figure 1, whose rules are all of our forms. Types, rules, privileges:
--   0 hospital = patient*                   0, 1
--   1 patient = name, treatments            none
--   2 name = str                            2
--   3 treatments = treatment*               3, 4
--   4 treatment = drug, diagnosis, date     none
--   5 drug = placebo | presDrug | OTC       5, 6: placebo by presDrug, OTC; 7, 8: presDrug by placebo, OTC; 9, 10: OTC by placebo, presDrug
--   6 diagnosis = str                       11
--   7 date = str                            12
--   8 placebo, empty                        none
--   9 presDrug = str                        13
--   10 OTC = str                            14
abbrev pub hospital : List ℕ
hospital =
    1 ∷ 51 ∷ 11 ∷ 0 ∷ 8 ∷ 10 ∷ 41 ∷ 15
    ∷ 4 ∷ 1 ∷ 0 ∷ 2 ∷ 2 ∷ 1 ∷ 1 ∷ 0 ∷ 3 ∷ 4 ∷ 1 ∷ 3 ∷ 2 ∷ 3 ∷ 4 ∷ 3 ∷ 3 ∷ 7
    ∷ 1 ∷ 0 ∷ 10 ∷ 1 ∷ 0 ∷ 10 ∷ 0 ∷ 0 ∷ 10 ∷ 1 ∷ 0 ∷ 10 ∷ 1 ∷ 0 ∷ 10
    ∷ 1 ∷ 2 ∷ 3 ∷ 4 ∷ 5 ∷ 6 ∷ 7 ∷ 8 ∷ 9 ∷ 10 ∷ []
