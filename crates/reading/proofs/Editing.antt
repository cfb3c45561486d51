-- The edits at a type by what stands behind its name: a text's one, a star's two or three, and those of a choice, whose kids are told apart by their labels.
-- Assumes nothing.
use Rattle.std.proofs.Common.{Option, Some, None, ℕ, ◌<◌, ◌≡◌, refl, sym, ap, subst, ◌∙◌, inl, inr, List, [], ◌∷◌, ◌++◌, arith, get_or}
use Rattle.table.specs.Words.{types}
use Rattle.table.specs.Rule.{rule_at, kind_in, children_at, child_at, IsText, IsChoice, IsStar}
use Rattle.table.specs.Privilege.{first_privilege, Edit, text, insert, delete, exchange, replace, type_of, Offers, Exchangeable, Replaceable}
use Rattle.table.specs.Check.{Accepted}
use Rattle.table.specs.Steps.Numbering.{NumberedAs, replace_in, ReplaceableIn}
use Rattle.table.specs.declared.privilege.Numbering.{Numbering}
use Rattle.table.proofs.Facts.{facts}
use Rattle.table.proofs.Privileges.{kind_for, offers_kind, numbered_small, replaceable_in, in_replaceable, exchangeable_in, in_exchangeable, insert_in_lem, delete_in_lem, exchange_in_lem, replace_in_lem}
use Rattle.grammar.specs.Bytes.{ascii}
use Rattle.labels.specs.Steps.Booked.{Labelled}
use Rattle.listing.specs.Line.{spaced}
use Rattle.reading.specs.Steps.Matching.{Stands, ended, EndedAt, Sought}
use Rattle.reading.specs.declared.matching.Ended.{Ended}
use Rattle.reading.specs.Steps.Edits.{EditEnded, EditRead, StarEnded, inserted, deleted, exchanged, NoStar, StarRead, Kinds, ChoiceEnded, ChoiceRead}
use Rattle.reading.proofs.Standing.{stands_as, stands_join, stands_first, stands_behind, stands_one}
use Rattle.reading.proofs.Parting.{one_part, two_parts, more_parts}

-- the replacement of a choice: its verb, then the kid that goes, then the kid that comes
replace_parts : (u v : List ℕ) → spaced (ascii "replace") (u ∷ v ∷ []) ≡ ended (ascii "replace") 32 ++ (ended u 32 ++ ended v 10)
replace_parts u v = more_parts (ascii "replace") u (v ∷ []) ∙ ap (λ (l : List ℕ). ended (ascii "replace") 32 ++ l) (two_parts u v)

abbrev pub kids_by : (ℕ → List ℕ) → List ℕ → ℕ → ℕ → List ℕ
kids_by label kids stop k = ended (label (get_or kids k 0)) stop

-- no replacement stands there
abbrev NoChoice : (ℕ → List ℕ) → List ℕ → Numbering → List ℕ → ℕ → Type 0
NoChoice label kids n t a = (i j : ℕ) → ReplaceableIn n i j → (b : ℕ) → ¬ Stands t a (spaced (ascii "replace") (label (get_or kids i 0) ∷ label (get_or kids j 0) ∷ [])) b

module _ (label : ℕ → List ℕ) (kids : List ℕ) where
  pub choice_no_verb : {n : Numbering} {t : List ℕ} {a : ℕ} → ((b : ℕ) → ¬ Stands t a (ended (ascii "replace") 32) b) → NoChoice label kids n t a
  choice_no_verb f i j h b s = f _
      (stands_first (ended (ascii "replace") 32) (kids_by label kids 32 i ++ kids_by label kids 10 j) (stands_as (replace_parts (label (get_or kids i 0)) (label (get_or kids j 0))) s))

  module _ {t : List ℕ} {a verb : ℕ} (v : Stands t a (ended (ascii "replace") 32) verb) where
    behind_verb : (i j : ℕ) {b : ℕ} → Stands t a (spaced (ascii "replace") (label (get_or kids i 0) ∷ label (get_or kids j 0) ∷ [])) b
        → Stands t verb (kids_by label kids 32 i ++ kids_by label kids 10 j) b
    behind_verb i j s = stands_behind v (stands_as (replace_parts (label (get_or kids i 0)) (label (get_or kids j 0))) s)

    pub choice_no_from : {n : Numbering} → Sought (kids_by label kids 32) t verb 0 n.count None → NoChoice label kids n t a
    choice_no_from f i j h b s = f i _ (omega arith) h.from (stands_first (kids_by label kids 32 i) (kids_by label kids 10 j) (behind_verb i j s))

    module _ {n : Numbering} (k : Kinds label kids n) {i m : ℕ} (from : EndedAt (kids_by label kids 32) t verb 0 n.count i m) where
      -- the kid that goes is the one found, and behind it stands the one that comes
      from_found : (x y : ℕ) {b : ℕ} → x < n.count → Stands t a (spaced (ascii "replace") (label (get_or kids x 0) ∷ label (get_or kids y 0) ∷ [])) b
          → (x ≡ i) × Stands t m (kids_by label kids 10 y) b
      from_found x y {b} h s =
          let both = behind_verb x y s in
          let first = stands_first (kids_by label kids 32 x) (kids_by label kids 10 y) both in
          let one : x ≡ i = k.apart x i h from.below
          (stands_one (label (get_or kids x 0)) (label (get_or kids i 0)) 32 (inl refl) (k.plain x h) (k.plain i from.below) first from.stands) in
          (one, stands_behind from.stands (subst (λ (z : ℕ). Stands t verb (kids_by label kids 32 z ++ kids_by label kids 10 y) b) one both))

      pub choice_no_to : Sought (kids_by label kids 10) t m 0 n.count None → NoChoice label kids n t a
      choice_no_to f x y h b s = f y b (omega arith) h.to (from_found x y h.from s).1

      pub choice_not : {j end : ℕ} → EndedAt (kids_by label kids 10) t m 0 n.count j end → ¬ ReplaceableIn n i j → NoChoice label kids n t a
      choice_not {j} to f x y h b s =
          let r = from_found x y h.from s in
          let first : x ≡ i = r.0 in
          let second : y ≡ j = k.apart y j h.to to.below
          (stands_one (label (get_or kids y 0)) (label (get_or kids j 0)) 10 (inr refl) (k.plain y h.to) (k.plain j to.below) r.1 to.stands) in
          f (subst (λ (z : ℕ). ReplaceableIn n z j) first (subst (λ (z : ℕ). ReplaceableIn n x z) second h))

      pub choice_yes : {j end p : ℕ} → EndedAt (kids_by label kids 10) t m 0 n.count j end → ReplaceableIn n i j → p ≡ replace_in n i j → ChoiceEnded label kids n t a p end
      choice_yes {j} to h e = record {
        from = i;
        to = j;
        replaceable = h;
        number = e;
        stands = stands_as (sym (replace_parts (label (get_or kids i 0)) (label (get_or kids j 0)))) (stands_join v (stands_join from.stands to.stands));
      }

-- the kind of type that has an edit
kind_for_lem : (ws : List ℕ) {x : ℕ} (e : Edit) → Offers ws e → type_of e ≡ x → kind_for e ≡ kind_in (rule_at ws x)
kind_for_lem ws e h q = sym (offers_kind ws e h) ∙ ap (λ (y : ℕ). kind_in (rule_at ws y)) q

module _ (label : ℕ → List ℕ) {ws : List ℕ} {x : ℕ} (t : List ℕ) (a : ℕ) where
  pub edit_text : {p end : ℕ} → IsText ws x → p ≡ first_privilege ws x → Stands t a (ended (ascii "text") 10) end → EditEnded label ws x t a p end
  edit_text c e s = record { edit = text x; offered = c; type = refl; number = sym e; stands = stands_as (sym (one_part (ascii "text"))) s }

  pub edit_no_text : IsText ws x → ((b : ℕ) → ¬ Stands t a (ended (ascii "text") 10) b) → EditRead label ws x t a None
  edit_no_text c f (text y) h q b s = f b (stands_as (one_part (ascii "text")) s)
  edit_no_text c f (insert y) h q b s = omega (arith, kind_for_lem ws (insert y) h q, c.kind_is)
  edit_no_text c f (delete y) h q b s = omega (arith, kind_for_lem ws (delete y) h q, c.kind_is)
  edit_no_text c f (exchange y) h q b s = omega (arith, kind_for_lem ws (exchange y) h q, c.kind_is)
  edit_no_text c f (replace y i j) h q b s = omega (arith, kind_for_lem ws (replace y i j) h q, c.kind_is)

  star_ended : {n : Numbering} {p end : ℕ} → IsStar ws x → NumberedAs ws x n → StarEnded n (label (child_at ws x 0)) t a p end → EditEnded label ws x t a p end
  star_ended c k (inserted e s) = record { edit = insert x; offered = c; type = refl; number = sym (e ∙ insert_in_lem k); stands = s }
  star_ended c k (deleted e s) = record { edit = delete x; offered = c; type = refl; number = sym (e ∙ delete_in_lem k); stands = s }
  star_ended c k (exchanged o e s) = record { edit = exchange x; offered = in_exchangeable k c o; type = refl; number = sym (e ∙ exchange_in_lem k); stands = s }

  no_star : {n : Numbering} → IsStar ws x → NumberedAs ws x n → NoStar n (label (child_at ws x 0)) t a → EditRead label ws x t a None
  no_star c k f (text y) o q b s = omega (arith, kind_for_lem ws (text y) o q, c.kind_is)
  no_star c k f (insert y) o q b s = f.not_inserted b (rw q at s)
  no_star c k f (delete y) o q b s = f.not_deleted b (rw q at s)
  no_star c k f (exchange y) o q b s = f.not_exchanged (exchangeable_in k (subst (Exchangeable ws) q o)) b (rw q at s)
  no_star c k f (replace y i j) o q b s = omega (arith, kind_for_lem ws (replace y i j) o q, c.kind_is)

  pub edit_star : {n : Numbering} (r : Option Ended) → IsStar ws x → NumberedAs ws x n → StarRead n (label (child_at ws x 0)) t a r → EditRead label ws x t a r
  edit_star None c k f = no_star c k f
  edit_star (Some e) c k s = star_ended c k s

  no_choice : {n : Numbering} → IsChoice ws x → NumberedAs ws x n → NoChoice label (children_at ws x) n t a → EditRead label ws x t a None
  no_choice c k f (text y) o q b s = omega (arith, kind_for_lem ws (text y) o q, c.kind_is)
  no_choice c k f (insert y) o q b s = omega (arith, kind_for_lem ws (insert y) o q, c.kind_is)
  no_choice c k f (delete y) o q b s = omega (arith, kind_for_lem ws (delete y) o q, c.kind_is)
  no_choice c k f (exchange y) o q b s = omega (arith, kind_for_lem ws (exchange y) o q, c.kind_is)
  no_choice c k f (replace y i j) o q b s = f i j (replaceable_in k (subst (λ (z : ℕ). Replaceable ws z i j) q o)) b (rw q at s)

  pub edit_choice : {n : Numbering} (r : Option Ended) → IsChoice ws x → NumberedAs ws x n → ChoiceRead label (children_at ws x) n t a r → EditRead label ws x t a r
  edit_choice None c k f = no_choice c k f
  edit_choice (Some e) c k s = record {
    edit = replace x s.from s.to;
    offered = in_replaceable k c s.replaceable;
    type = refl;
    number = sym (s.number ∙ replace_in_lem k s.from s.to);
    stands = s.stands;
  }

-- the kids of a type are told apart
pub kinds_at : {label : ℕ → List ℕ} {ws : List ℕ} {x : ℕ} {n : Numbering} → Accepted ws → Labelled label (types ws) → x < types ws → NumberedAs ws x n → Kinds label (children_at ws x) n
kinds_at {label} {ws} {x} {n} a l h k = record {
  small = numbered_small k;
  low = λ i g. omega (arith, (facts a).few, inside i g);
  plain = λ i g. l.plain (child_at ws x i) (inside i g);
  apart = λ i j g f e. (facts a).child_once x i j h (omega (arith, k.count)) (omega (arith, k.count)) (l.apart (child_at ws x i) (child_at ws x j) (inside i g) (inside j f) e);
}
  where
    inside : (i : ℕ) → i < n.count → child_at ws x i < types ws
    inside i g = (facts a).child_inside x i h (omega (arith, k.count))

pub star_low : {ws : List ℕ} {x : ℕ} → Accepted ws → IsStar ws x → child_at ws x 0 < 256
star_low {ws} {x} a s = omega (arith, (facts a).few, (facts a).child_inside x 0 s.type (omega (arith, (facts a).star_one x s)))
