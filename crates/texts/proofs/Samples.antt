-- Texts with their tables, and texts with the number and place of their refusal: one list of rows, and one statement, proved by one computation. The
-- answers are the second program's, held against document 02. Assumes nothing.
use Rattle.std.proofs.Common.{ℕ, zero, suc, ◌≡◌, refl, Bool, true, false, ◌&&◌, List, [], ◌∷◌, ◌++◌, Option, Some, None, T, eqb, eqb→eq, length}
use Rattle.table.specs.Sum.{sum_below}
use Rattle.table.specs.Rule.{rule_of, rule_at, children_at}
use Rattle.table.specs.Privilege.{gap_of, privileges_at, first_privilege, privileges}
use Rattle.table.proofs.Test.{and_out}
use Rattle.table.proofs.Tables.{Each, sample}
use Rattle.grammar.specs.Bytes.{ascii}
use Rattle.model.specs.Tables.{same_name, number_in, rules_of, words_of}
use Rattle.model.proofs.Numbers.{same_is}
use Rattle.dtd.specs.Answer.{DtdAnswer}
use Rattle.texts.proofs.Answering.{Right, answer}

-- a text, what is lent, and the answer: number, place and what is lent afterwards
pub record Row : Type 0 where
  pub text : List ℕ
  pub out : List ℕ
  pub number : ℕ
  pub place : ℕ
  pub after : List ℕ

-- so many words
abbrev nines : ℕ → List ℕ
nines zero = []
nines (suc n) = 9 ∷ nines n

-- a text is read, with V, into its table: a word more is lent, and kept
abbrev reads : List ℕ → ℕ → List ℕ → Row
reads t v ws = record { text = t; out = nines (suc (length ws)); number = 0; place = v; after = ws ++ (9 ∷ []) }

abbrev refuses : List ℕ → ℕ → ℕ → Row
refuses t n p = record { text = t; out = nines 40; number = n; place = p; after = nines 40 }

-- with so many words lent
abbrev too_short : List ℕ → ℕ → Row
too_short t n = record { text = t; out = nines n; number = 12; place = 0; after = nines n }

-- samples/show.dtd
abbrev show : List ℕ
show = ascii "<!-- The sample schema of document 01 as text: types 0 to 7 in this order. -->\n<!ELEMENT job (layer)*>\n<!ELEMENT layer (name, range, state)>\n<!ELEMENT name (#PCDATA)>\n<!ELEMENT range (#PCDATA)>\n<!ELEMENT state (draft | held | final)>\n<!ELEMENT draft EMPTY>\n<!ELEMENT held EMPTY>\n<!ELEMENT final (#PCDATA)>\n"

abbrev pub rows : List Row
rows =
    reads show 11 sample
    ∷ too_short show 38
    ∷ too_short show 0
    -- marks, and groups of one
    ∷ reads (ascii "<!ELEMENT r (a?)><!ELEMENT a EMPTY>") 2 (1 ∷ 19 ∷ 3 ∷ 0 ∷ 8 ∷ 2 ∷ 17 ∷ 2 ∷ 3 ∷ 2 ∷ 0 ∷ 0 ∷ 0 ∷ 2 ∷ 0 ∷ 0 ∷ 2 ∷ 1 ∷ 2 ∷ [])
    ∷ reads (ascii "<!ELEMENT r (a)?><!ELEMENT a EMPTY>") 2 (1 ∷ 19 ∷ 3 ∷ 0 ∷ 8 ∷ 2 ∷ 17 ∷ 2 ∷ 3 ∷ 2 ∷ 0 ∷ 0 ∷ 0 ∷ 2 ∷ 0 ∷ 0 ∷ 2 ∷ 1 ∷ 2 ∷ [])
    ∷ reads (ascii "<!ELEMENT r (a+)><!ELEMENT a EMPTY>") 2 (1 ∷ 20 ∷ 3 ∷ 0 ∷ 8 ∷ 3 ∷ 17 ∷ 2 ∷ 2 ∷ 2 ∷ 0 ∷ 0 ∷ 0 ∷ 2 ∷ 4 ∷ 1 ∷ 2 ∷ 1 ∷ 2 ∷ 1 ∷ [])
    ∷ reads (ascii "<!ELEMENT r (a*)><!ELEMENT a EMPTY>") 2 (1 ∷ 15 ∷ 2 ∷ 0 ∷ 8 ∷ 1 ∷ 14 ∷ 2 ∷ 4 ∷ 1 ∷ 0 ∷ 0 ∷ 0 ∷ 1 ∷ 1 ∷ [])
    ∷ reads (ascii "<!ELEMENT r (a)><!ELEMENT a EMPTY>") 0 (1 ∷ 15 ∷ 2 ∷ 0 ∷ 8 ∷ 1 ∷ 14 ∷ 0 ∷ 2 ∷ 1 ∷ 0 ∷ 0 ∷ 0 ∷ 1 ∷ 1 ∷ [])
    ∷ reads (ascii "<!ELEMENT r (a)*><!ELEMENT a EMPTY>") 2 (1 ∷ 15 ∷ 2 ∷ 0 ∷ 8 ∷ 1 ∷ 14 ∷ 2 ∷ 4 ∷ 1 ∷ 0 ∷ 0 ∷ 0 ∷ 1 ∷ 1 ∷ [])
    ∷ reads (ascii "<!ELEMENT r ((a))><!ELEMENT a EMPTY>") 0 (1 ∷ 15 ∷ 2 ∷ 0 ∷ 8 ∷ 1 ∷ 14 ∷ 0 ∷ 2 ∷ 1 ∷ 0 ∷ 0 ∷ 0 ∷ 1 ∷ 1 ∷ [])
    ∷ reads (ascii "<!ELEMENT r (a*)*><!ELEMENT a EMPTY>") 4 (1 ∷ 19 ∷ 3 ∷ 0 ∷ 8 ∷ 2 ∷ 17 ∷ 4 ∷ 4 ∷ 1 ∷ 0 ∷ 0 ∷ 0 ∷ 1 ∷ 4 ∷ 1 ∷ 1 ∷ 2 ∷ 1 ∷ [])
    -- made types
    ∷ reads (ascii "<!ELEMENT r ((a,b))?><!ELEMENT a EMPTY><!ELEMENT b EMPTY>") 2 (1 ∷ 27 ∷ 5 ∷ 0 ∷ 8 ∷ 4 ∷ 23 ∷ 2 ∷ 3 ∷ 2 ∷ 0 ∷ 0 ∷ 0 ∷ 2 ∷ 0 ∷ 0 ∷ 2 ∷ 0 ∷ 0 ∷ 2 ∷ 2 ∷ 2 ∷ 2 ∷ 4 ∷ 3 ∷ 1 ∷ 2 ∷ [])
    ∷ reads (ascii "<!ELEMENT r (a|b)+><!ELEMENT a EMPTY><!ELEMENT b EMPTY>") 4 (1 ∷ 28 ∷ 5 ∷ 0 ∷ 8 ∷ 5 ∷ 23 ∷ 4 ∷ 2 ∷ 2 ∷ 0 ∷ 0 ∷ 0 ∷ 2 ∷ 0 ∷ 0 ∷ 2 ∷ 4 ∷ 1 ∷ 2 ∷ 3 ∷ 2 ∷ 3 ∷ 4 ∷ 3 ∷ 4 ∷ 1 ∷ 2 ∷ [])
    ∷ reads (ascii "<!ELEMENT r ((a?)+,b*)><!ELEMENT a EMPTY><!ELEMENT b EMPTY>") 6 (1 ∷ 40 ∷ 8 ∷ 0 ∷ 8 ∷ 8 ∷ 32 ∷ 6 ∷ 2 ∷ 2 ∷ 0 ∷ 0 ∷ 0 ∷ 2 ∷ 0 ∷ 0 ∷ 2 ∷ 2 ∷ 2 ∷ 2 ∷ 4 ∷ 1 ∷ 4 ∷ 3 ∷ 2 ∷ 5 ∷ 0 ∷ 0 ∷ 7 ∷ 4 ∷ 1 ∷ 7 ∷ 3 ∷ 7 ∷ 5 ∷ 4 ∷ 5 ∷ 1 ∷ 6 ∷ 2 ∷ [])
    ∷ reads (ascii "<!ELEMENT r (a,b?)><!ELEMENT a EMPTY><!ELEMENT b EMPTY>") 2 (1 ∷ 27 ∷ 5 ∷ 0 ∷ 8 ∷ 4 ∷ 23 ∷ 2 ∷ 2 ∷ 2 ∷ 0 ∷ 0 ∷ 0 ∷ 2 ∷ 0 ∷ 0 ∷ 2 ∷ 3 ∷ 2 ∷ 2 ∷ 0 ∷ 0 ∷ 4 ∷ 1 ∷ 3 ∷ 2 ∷ 4 ∷ [])
    ∷ reads (ascii "<!ELEMENT r (b*,a+)><!ELEMENT a EMPTY><!ELEMENT b EMPTY>") 4 (1 ∷ 32 ∷ 6 ∷ 0 ∷ 8 ∷ 6 ∷ 26 ∷ 4 ∷ 2 ∷ 2 ∷ 0 ∷ 0 ∷ 0 ∷ 2 ∷ 0 ∷ 0 ∷ 2 ∷ 4 ∷ 1 ∷ 2 ∷ 2 ∷ 2 ∷ 3 ∷ 4 ∷ 1 ∷ 5 ∷ 3 ∷ 4 ∷ 2 ∷ 1 ∷ 5 ∷ 1 ∷ [])
    -- text and EMPTY
    ∷ reads (ascii "<!ELEMENT r (#PCDATA)>") 1 (1 ∷ 11 ∷ 1 ∷ 0 ∷ 8 ∷ 0 ∷ 11 ∷ 1 ∷ 1 ∷ 0 ∷ 0 ∷ [])
    ∷ reads (ascii "<!ELEMENT r ( #PCDATA )>") 1 (1 ∷ 11 ∷ 1 ∷ 0 ∷ 8 ∷ 0 ∷ 11 ∷ 1 ∷ 1 ∷ 0 ∷ 0 ∷ [])
    ∷ reads (ascii "<!ELEMENT r (#PCDATA)*>") 1 (1 ∷ 11 ∷ 1 ∷ 0 ∷ 8 ∷ 0 ∷ 11 ∷ 1 ∷ 1 ∷ 0 ∷ 0 ∷ [])
    ∷ reads (ascii "<!ELEMENT r EMPTY>") 0 (1 ∷ 11 ∷ 1 ∷ 0 ∷ 8 ∷ 0 ∷ 11 ∷ 0 ∷ 0 ∷ 0 ∷ 0 ∷ [])
    -- white space and comments
    ∷ reads (ascii "<!-- - -->\t<!ELEMENT\nr\r\n( a | b ) ><!ELEMENT a EMPTY> <!ELEMENT b EMPTY>\n") 2 (1 ∷ 19 ∷ 3 ∷ 0 ∷ 8 ∷ 2 ∷ 17 ∷ 2 ∷ 3 ∷ 2 ∷ 0 ∷ 0 ∷ 0 ∷ 2 ∷ 0 ∷ 0 ∷ 2 ∷ 1 ∷ 2 ∷ [])
    -- a name of 32 bytes, and 16 groups
    ∷ reads (ascii "<!ELEMENT aaaaaaaaaaaaaaaaaaaaaaaaaaaaaaaa EMPTY>") 0 (1 ∷ 11 ∷ 1 ∷ 0 ∷ 8 ∷ 0 ∷ 11 ∷ 0 ∷ 0 ∷ 0 ∷ 0 ∷ [])
    ∷ reads (ascii "<!ELEMENT r ((((((((((((((((a))))))))))))))))><!ELEMENT a EMPTY>") 0 (1 ∷ 15 ∷ 2 ∷ 0 ∷ 8 ∷ 1 ∷ 14 ∷ 0 ∷ 2 ∷ 1 ∷ 0 ∷ 0 ∷ 0 ∷ 1 ∷ 1 ∷ [])
    -- 20: no declaration
    ∷ refuses (ascii "") 20 0
    ∷ refuses (ascii " ") 20 1
    ∷ refuses (ascii "<!-- x -->") 20 10
    -- an early end in each token
    ∷ refuses (ascii "<") 20 1
    ∷ refuses (ascii "<!") 20 2
    ∷ refuses (ascii "<!ELEM") 20 6
    ∷ refuses (ascii "<!ELEMENT") 20 9
    ∷ refuses (ascii "<!ELEMENT ") 20 10
    ∷ refuses (ascii "<!ELEMENT r") 20 11
    ∷ refuses (ascii "<!ELEMENT r ") 20 12
    ∷ refuses (ascii "<!ELEMENT r EMP") 20 15
    ∷ refuses (ascii "<!ELEMENT r EMPTY") 20 17
    ∷ refuses (ascii "<!ELEMENT r AN") 20 14
    ∷ refuses (ascii "<!ELEMENT r (") 20 13
    ∷ refuses (ascii "<!ELEMENT r (a") 20 14
    ∷ refuses (ascii "<!ELEMENT r (a,") 20 15
    ∷ refuses (ascii "<!ELEMENT r (a|b") 20 16
    ∷ refuses (ascii "<!ELEMENT r (a)") 20 15
    ∷ refuses (ascii "<!ELEMENT r (a)*") 20 16
    ∷ refuses (ascii "<!ELEMENT r (#PCD") 20 17
    ∷ refuses (ascii "<!ELEMENT r (#PCDATA") 20 20
    ∷ refuses (ascii "<!ELEMENT r (#PCDATA)") 20 21
    ∷ refuses (ascii "<!-") 20 3
    ∷ refuses (ascii "<!--") 20 4
    ∷ refuses (ascii "<!--->") 20 6
    ∷ refuses (ascii "<!-- x") 20 6
    ∷ refuses (ascii "<!-- x -") 20 8
    ∷ refuses (ascii "<!-- x --") 20 9
    -- a byte that cannot stand there
    ∷ refuses (ascii "x") 20 0
    ∷ refuses (ascii "<!ATTLIST r a CDATA #IMPLIED>") 20 2
    ∷ refuses (ascii "<!element r EMPTY>") 20 2
    ∷ refuses (ascii "<!ELEMENTr EMPTY>") 20 9
    ∷ refuses (ascii "<!ELEMENT 1 EMPTY>") 20 10
    ∷ refuses (ascii "<!ELEMENT r(a)>") 20 11
    ∷ refuses (ascii "<!ELEMENT r EMPTYX>") 20 17
    ∷ refuses (ascii "<!ELEMENT r ANX>") 20 14
    ∷ refuses (ascii "<!ELEMENT r ()>") 20 13
    ∷ refuses (ascii "<!ELEMENT r ( )>") 20 14
    ∷ refuses (ascii "<!ELEMENT r (a b)>") 20 15
    ∷ refuses (ascii "<!ELEMENT r (a,)>") 20 15
    ∷ refuses (ascii "<!ELEMENT r (a,b|c)>") 20 16
    ∷ refuses (ascii "<!ELEMENT r (a|b,c)>") 20 16
    ∷ refuses (ascii "<!ELEMENT r (a)**>") 20 16
    ∷ refuses (ascii "<!ELEMENT r ((#PCDATA))>") 20 14
    ∷ refuses (ascii "<!ELEMENT r (#PCDATA)?>") 20 21
    ∷ refuses (ascii "<!-- a -- b -->") 20 9
    -- 21: ANY, mixed content with names, a 33rd byte, a 17th group
    ∷ refuses (ascii "<!ELEMENT r ANY>") 21 12
    ∷ refuses (ascii "<!ELEMENT r ANYX") 21 12
    ∷ refuses (ascii "<!ELEMENT r (#PCDATA|a)*>") 21 20
    ∷ refuses (ascii "<!ELEMENT r ( #PCDATA | ]") 21 22
    ∷ refuses (ascii "<!ELEMENT aaaaaaaaaaaaaaaaaaaaaaaaaaaaaaaaa EMPTY>") 21 42
    ∷ refuses (ascii "<!ELEMENT r (a,bbbbbbbbbbbbbbbbbbbbbbbbbbbbbbbbb") 21 47
    ∷ refuses (ascii "<!ELEMENT r (((((((((((((((((") 21 28
    -- 22: declared before, never declared, and which is first
    ∷ refuses (ascii "<!ELEMENT r EMPTY><!ELEMENT r EMPTY>") 22 28
    ∷ refuses (ascii "<!ELEMENT r (a)>") 22 13
    ∷ refuses (ascii "<!ELEMENT r (a)><!ELEMENT r EMPTY>") 22 13
    ∷ refuses (ascii "<!ELEMENT r (a)><!ELEMENT a EMPTY><!ELEMENT a (b)>") 22 44
    -- the table's own: 17 children, a child twice, a recursion, a declaration that the root does not reach
    ∷ refuses (ascii "<!ELEMENT r (a,a,a,a,a,a,a,a,a,a,a,a,a,a,a,a,a)><!ELEMENT a EMPTY>") 4 0
    ∷ refuses (ascii "<!ELEMENT r (a,a)><!ELEMENT a EMPTY>") 7 0
    ∷ refuses (ascii "<!ELEMENT r (a,r)><!ELEMENT a EMPTY>") 19 0
    ∷ refuses (ascii "<!ELEMENT r EMPTY><!ELEMENT a EMPTY>") 8 1
    -- bytes from 128 on, in a comment and elsewhere
    ∷ reads (ascii "<!--" ++ (128 ∷ 255 ∷ []) ++ ascii "--><!ELEMENT r EMPTY>") 0 (1 ∷ 11 ∷ 1 ∷ 0 ∷ 8 ∷ 0 ∷ 11 ∷ 0 ∷ 0 ∷ 0 ∷ 0 ∷ [])
    ∷ refuses (ascii "<!ELEMENT r" ++ (128 ∷ [])) 20 11
    ∷ refuses (ascii "<!---->" ++ (255 ∷ [])) 20 7
    ∷ []

-- what a row says
abbrev pub Answers : Row → Type 0
Answers r = DtdAnswer r.text r.out 1 r.number r.place r.after

-- the computed answer is the row's
abbrev same : (r : Row) → Option (Right r.text r.out) → Bool
same r None = false
same r (Some x) = eqb x.number r.number && (eqb x.place r.place && same_name x.after r.after)

abbrev all : List Row → Bool
all [] = true
all (r ∷ rs) = same r (answer r.text r.out 1000) && all rs

same_answers : (r : Row) (x : Option (Right r.text r.out)) → T (same r x) → Answers r
same_answers r None h = absurd h
same_answers r (Some x) h =
    let y = and_out (eqb x.number r.number) (eqb x.place r.place && same_name x.after r.after) h in
    let z = and_out (eqb x.place r.place) (same_name x.after r.after) y.1 in
    rw (← (eqb→eq x.number r.number y.0), ← (eqb→eq x.place r.place z.0), ← (same_is x.after r.after (told (same_name x.after r.after) z.1))) x.right
  where
    told : (b : Bool) → T b → b ≡ true
    told true t = refl
    told false t = absurd t

all_answers : (rs : List Row) → T (all rs) → Each Answers rs
all_answers [] h = tt
all_answers (r ∷ rs) h = let y = and_out (same r (answer r.text r.out 1000)) (all rs) h in (same_answers r (answer r.text r.out 1000) y.0, all_answers rs y.1)

computed : all rows ≡ true
unfolding number_in rules_of words_of sum_below rule_of rule_at children_at gap_of privileges_at first_privilege privileges
computed = refl

pub samples : Each Answers rows
samples = all_answers rows (rw computed tt)
