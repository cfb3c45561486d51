-- A line is its sign, its parts with a blank before each, and a newline; and how long it is at most. Assumes nothing.
use Rattle.std.proofs.Common.{ℕ, ◌+◌, ◌≤◌, ◌<◌, ◌≡◌, refl, sym, ap, ◌∙◌, ◌≢◌, Bool, true, false, cond, List, [], ◌∷◌, ◌++◌, append-nil, append_assoc, arith, ne_eqb, eqb, length, length-append}
use Prim.Native.Char.{code}
use Rattle.table.proofs.Named.{Each}
use Rattle.grammar.specs.Bytes.{ascii}
use Rattle.runs.specs.Putting.{Fits}
use Rattle.runs.proofs.Texts.{fits_as, fits_then}
use Rattle.labels.specs.Steps.Booked.{label_in, Labelled}
use Rattle.listing.specs.Line.{sign_of, parts_of, spaced}
use Rattle.mailing.specs.Steps.Naming.{named_by}
use Rattle.mailing.specs.Steps.Wording.{after_blank, blanked, Brief, AllBrief}
use Rattle.mailing.specs.declared.edit.Naming.{Naming}
use Rattle.mailing.specs.declared.edit.Naming.TheVariants.{Text, Insert, Delete, Replace}

-- one part more
blanked_append : (parts : List (List ℕ)) (part : List ℕ) → blanked (parts ++ (part ∷ [])) ≡ blanked parts ++ after_blank part
unfolding blanked
blanked_append [] part = append-nil (after_blank part)
blanked_append (first ∷ rest) part =
    ap (λ (l : List ℕ). after_blank first ++ l) (blanked_append rest part) ∙ sym (append_assoc (after_blank first) (blanked rest) (after_blank part))

pub fits_more : {d e f part : List ℕ} {at r q : ℕ} (parts : List (List ℕ)) → Fits (blanked parts) d at e r → Fits (after_blank part) e r f q → Fits (blanked (parts ++ (part ∷ []))) d at f q
fits_more {part = part} parts a b = fits_as (sym (blanked_append parts part)) (fits_then a b)

pub fits_two : {d e f part other : List ℕ} {at r q : ℕ} → Fits (after_blank part) d at e r → Fits (after_blank other) e r f q → Fits (blanked (part ∷ other ∷ [])) d at f q
unfolding blanked
fits_two {part = part} {other = other} a b = fits_as (ap (λ (l : List ℕ). after_blank part ++ l) (sym (append-nil (after_blank other)))) (fits_then a b)

-- the sign, the parts, the newline
spaced_parts : (first : List ℕ) (parts : List (List ℕ)) → first ++ blanked parts ++ (code "\n" ∷ []) ≡ spaced first parts
unfolding spaced blanked
spaced_parts first [] = ap (λ (l : List ℕ). l ++ (code "\n" ∷ [])) (append-nil first)
spaced_parts first (next ∷ rest) =
    append_assoc first (after_blank next ++ blanked rest) (code "\n" ∷ []) ∙ ap (λ (l : List ℕ). first ++ (code " " ∷ l)) (spaced_parts next rest)

pub fits_line : {d e f g first : List ℕ} {at r s q : ℕ} (parts : List (List ℕ)) → Fits first d at e r → Fits (blanked parts) e r f s → Fits (code "\n" ∷ []) f s g q → Fits (spaced first parts) d at g q
fits_line {first = first} parts a b c = fits_as (spaced_parts first parts) (fits_then (fits_then a b) c)

-- the signs
pub sign_plus : (mark : ℕ) → mark ≡ 1 → ascii "+" ≡ sign_of mark
unfolding sign_of
sign_plus mark e = rw e

pub sign_minus : (mark : ℕ) → mark ≢ 1 → ascii "-" ≡ sign_of mark
unfolding sign_of
sign_minus mark d = rw (ne_eqb mark 1 d)

pub sign_length : (mark : ℕ) → length (sign_of mark) ≡ 1
unfolding sign_of
sign_length mark = go (eqb mark 1)
  where
    go : (b : Bool) → length (cond b (ascii "+") (ascii "-")) ≡ 1
    go true = refl
    go false = refl

-- the parts of each kind
module _ (label : ℕ → List ℕ) {edit : Naming} where
  pub parts_text : {x : ℕ} → edit ≡ Text x → label x ∷ ascii "text" ∷ [] ≡ parts_of label (named_by edit)
  unfolding parts_of
  parts_text e = sym (ap (λ (z : Naming). parts_of label (named_by z)) e)

  pub parts_insert : {x child : ℕ} → edit ≡ Insert x child → label x ∷ ascii "insert" ∷ label child ∷ [] ≡ parts_of label (named_by edit)
  unfolding parts_of
  parts_insert e = sym (ap (λ (z : Naming). parts_of label (named_by z)) e)

  pub parts_delete : {x child : ℕ} → edit ≡ Delete x child → label x ∷ ascii "delete" ∷ label child ∷ [] ≡ parts_of label (named_by edit)
  unfolding parts_of
  parts_delete e = sym (ap (λ (z : Naming). parts_of label (named_by z)) e)

  pub parts_replace : {x from to : ℕ} → edit ≡ Replace x from to → label x ∷ ascii "replace" ∷ label from ∷ label to ∷ [] ≡ parts_of label (named_by edit)
  unfolding parts_of
  parts_replace e = sym (ap (λ (z : Naming). parts_of label (named_by z)) e)

-- how long
pub blanked_length : (part : List ℕ) (rest : List (List ℕ)) → length (blanked (part ∷ rest)) ≡ 1 + length part + length (blanked rest)
unfolding blanked
blanked_length part rest = omega (arith, length-append (after_blank part) (blanked rest))

blanked_nothing : length (blanked []) ≡ 0
unfolding blanked
blanked_nothing = refl

pub two_length : (a b : List ℕ) → length (blanked (a ∷ b ∷ [])) ≡ 2 + length a + length b
two_length a b = omega (arith, blanked_length a (b ∷ []), blanked_length b [], blanked_nothing)

pub three_length : (a b c : List ℕ) → length (blanked (a ∷ b ∷ c ∷ [])) ≡ 3 + length a + length b + length c
three_length a b c = omega (arith, blanked_length a (b ∷ c ∷ []), two_length b c)

four_length : (a b c d : List ℕ) → length (blanked (a ∷ b ∷ c ∷ d ∷ [])) ≡ 4 + length a + length b + length c + length d
four_length a b c d = omega (arith, blanked_length a (b ∷ c ∷ d ∷ []), three_length b c d)

module _ (names starts : List ℕ) where
  abbrev label : ℕ → List ℕ
  label = label_in names starts

  pub parts_few : (edit : Naming) → AllBrief names starts edit → length (blanked (parts_of label (named_by edit))) ≤ 107
  unfolding parts_of
  parts_few (Text x) h = omega (arith, h.short, two_length (label x) (ascii "text"))
  parts_few (Insert x child) h = omega (arith, h.0.short, h.1.short, three_length (label x) (ascii "insert") (label child))
  parts_few (Delete x child) h = omega (arith, h.0.short, h.1.short, three_length (label x) (ascii "delete") (label child))
  parts_few (Replace x from to) h = omega (arith, h.0.short, h.1.short, h.2.short, four_length (label x) (ascii "replace") (label from) (label to))

  -- types of a table have labels that are short
  pub all_brief : {e : ℕ} → e ≤ 256 → Labelled label e → (edit : Naming) → Each (λ t. t < e) (named_by edit) → AllBrief names starts edit
  all_brief {e} few l edit h = go edit h
    where
      one : (x : ℕ) → x < e → Brief names starts x
      one x k = record { type = omega arith; short = l.short x k }

      go : (edit : Naming) → Each (λ t. t < e) (named_by edit) → AllBrief names starts edit
      go (Text x) h = one x h
      go (Insert x child) h = (one x h.0, one child h.1)
      go (Delete x child) h = (one x h.0, one child h.1)
      go (Replace x from to) h = (one x h.0, one from h.1, one to h.2)
