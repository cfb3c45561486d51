-- A line is its sign, its type's name and what stands behind it: each is found in its place, and there is no other way to read it. Assumes nothing.
use Rattle.std.proofs.Common.{None, ℕ, ◌+◌, ◌<◌, ◌≡◌, refl, sym, ap, subst, ◌∙◌, inl, List, ◌∷◌, ◌++◌, arith}
use Rattle.table.specs.Words.{types}
use Rattle.table.specs.Privilege.{Edit, text, insert, delete, exchange, replace, type_of}
use Rattle.table.specs.Named.{name_of}
use Rattle.table.proofs.Privileges.{edit_belongs}
use Rattle.grammar.specs.Bytes.{ascii}
use Rattle.labels.specs.Steps.Booked.{Labelled}
use Rattle.listing.specs.Line.{sign_of, parts_of, spaced, line_of}
use Rattle.listing.proofs.Lines.{sign_plain}
use Rattle.reading.specs.Steps.Matching.{Stands, ended, Sought, Signed, SignRead}
use Rattle.reading.specs.Steps.Edits.{verb_of, EditEnded, EditRead, Standing}
use Rattle.reading.proofs.Standing.{stands_as, stands_join, stands_first, stands_behind, stands_one}
use Rattle.reading.proofs.Parting.{more_parts}

abbrev pub types_by : (ℕ → List ℕ) → ℕ → List ℕ
types_by label x = ended (label x) 32

front_parts : (sign name verb : List ℕ) (rest : List (List ℕ)) → spaced sign (name ∷ verb ∷ rest) ≡ ended sign 32 ++ (ended name 32 ++ spaced verb rest)
front_parts sign name verb rest = more_parts sign name (verb ∷ rest) ∙ ap (λ (l : List ℕ). ended sign 32 ++ l) (more_parts name verb rest)

line_parts : (label : ℕ → List ℕ) (ws : List ℕ) (mark : ℕ) (e : Edit)
    → line_of label mark (name_of ws e) ≡ ended (sign_of mark) 32 ++ (types_by label (type_of e) ++ verb_of label (name_of ws e))
unfolding parts_of
line_parts label ws mark (text x) = front_parts (sign_of mark) (label x) (ascii "text") _
line_parts label ws mark (insert x) = front_parts (sign_of mark) (label x) (ascii "insert") _
line_parts label ws mark (delete x) = front_parts (sign_of mark) (label x) (ascii "delete") _
line_parts label ws mark (exchange x) = front_parts (sign_of mark) (label x) (ascii "replace") _
line_parts label ws mark (replace x i j) = front_parts (sign_of mark) (label x) (ascii "replace") _

module _ {label : ℕ → List ℕ} {ws t : List ℕ} {a : ℕ} where
  standing_parts : {q m b : ℕ} (s : Standing label ws t a q m b)
      → Stands t a (ended (sign_of m) 32 ++ (types_by label (type_of s.edit) ++ verb_of label (name_of ws s.edit))) b
  standing_parts {m = m} s = stands_as (line_parts label ws m s.edit) s.line

  type_below : {q m b : ℕ} (s : Standing label ws t a q m b) → type_of s.edit < types ws
  type_below s = (edit_belongs ws s.edit s.offered).type

  pub line_unsigned : SignRead t a None → (q m b : ℕ) → ¬ Standing label ws t a q m b
  line_unsigned f q m b s = f m _ s.mark_set (stands_first (ended (sign_of m) 32) _ (standing_parts s))

  module _ {sign : ℕ} (front : Signed t a sign) where
    -- behind the sign that is found stands the rest
    behind_sign : {q m b : ℕ} (s : Standing label ws t a q m b) → Stands t (a + 2) (types_by label (type_of s.edit) ++ verb_of label (name_of ws s.edit)) b
    behind_sign {q} {m} {b} s =
        let rest = types_by label (type_of s.edit) ++ verb_of label (name_of ws s.edit) in
        let all = standing_parts s in
        let same : sign_of m ≡ sign_of sign =
        stands_one (sign_of m) (sign_of sign) 32 (inl refl) (sign_plain m) (sign_plain sign) (stands_first (ended (sign_of m) 32) rest all) front.stands in
        stands_behind front.stands (stands_as (ap (λ (l : List ℕ). ended l 32 ++ rest) same) all)

    pub line_untyped : Sought (types_by label) t (a + 2) 0 (types ws) None → (q m b : ℕ) → ¬ Standing label ws t a q m b
    line_untyped f q m b s = f (type_of s.edit) _ (omega arith) (type_below s)
        (stands_first (types_by label (type_of s.edit)) (verb_of label (name_of ws s.edit)) (behind_sign s))

    module _ {x m : ℕ} (l : Labelled label (types ws)) (low : x < types ws) (name : Stands t (a + 2) (types_by label x) m) where
      pub line_typed : {p end : ℕ} → EditEnded label ws x t m p end → Standing label ws t a p sign end
      line_typed e =
          let named : Stands t (a + 2) (types_by label (type_of e.edit)) m = subst (λ (y : ℕ). Stands t (a + 2) (types_by label y) m) (sym e.type) name in
          record {
            edit = e.edit;
            offered = e.offered;
            number = e.number;
            mark_set = front.mark_set;
            line = stands_as (sym (line_parts label ws sign e.edit)) (stands_join front.stands (stands_join named e.stands));
          }

      pub line_unedited : EditRead label ws x t m None → (q n b : ℕ) → ¬ Standing label ws t a q n b
      line_unedited f q n b s =
          let y = type_of s.edit in
          let verb = verb_of label (name_of ws s.edit) in
          let rest = behind_sign s in
          let one : y ≡ x = l.apart y x (type_below s) low
          (stands_one (label y) (label x) 32 (inl refl) (l.plain y (type_below s)) (l.plain x low) (stands_first (types_by label y) verb rest) name) in
          f s.edit s.offered one b (stands_behind name (subst (λ (z : ℕ). Stands t (a + 2) (types_by label z ++ verb) b) one rest))
