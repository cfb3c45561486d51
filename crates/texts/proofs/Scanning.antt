-- A reader that computes, by the moves of the scan: what it answers is what scanning a text answers. Assumes nothing.
use Rattle.std.proofs.Common.{ℕ, zero, suc, ◌≤◌, ◌<◌, ◌≡◌, refl, sym, inl, inr, Bool, true, false, List, [], ◌∷◌, Option, Some, None, arith, eq-or-lt_of_le, length, take_all, Result, Ok, Err}
use Prim.Native.Char.{code}
use Rattle.table.proofs.Test.{is_equal, is_at_most}
use Rattle.grammar.specs.Bytes.{ascii, is_space, is_mark, is_no_dash, Byte, stop, go_on}
use Rattle.grammar.proofs.Unique.{Separator, bar, comma}
use Rattle.scan.specs.Steps.Scanned.{Scanned}
use Rattle.scan.specs.Steps.Claims.{Claim, BlanksThen, LiteralThen, NameThen, ParticleThen, RowThen, InsideThen, Closing, Opening, SpecThen, TextThen, GroupThen}
use Rattle.scan.specs.Steps.Claims.{Frame, first, behind, Rest, RestMarked, FromItems, FromEnd, FromNamed, FromElement, FromRemark, FromOpen, FromItem}
use Rattle.scan.specs.Steps.Moves.{Moves, Reads, got, bad, over}
use Rattle.scan.specs.Steps.Readers.{BlanksRead, SpaceRead, WordRead, place_of}
use Rattle.scan.specs.Steps.Items.{finish_of, Nothing, EndsAt, ItemsRead}
use Rattle.scan.specs.declared.Stop.{Stop}
use Rattle.scan.specs.declared.Stop.TheVariants.{Bad, Over}
use Rattle.scan.proofs.Moving.{moves_on, reads_on, Good, Avoids}
use Rattle.scan.proofs.Pieces.{good_literal, avoids_literal, good_blanks, blanks_moves, word_reads}
use Rattle.scan.proofs.Groups.{good_row, good_inside, good_closing, good_opening, row_tight, inside_tight, avoids_closing, avoids_opening, into_group, too_deep, row_begins, inside_begins, opens_choice, opens_sequence, closes, separates}
use Rattle.scan.proofs.Contents.{content_stuck, good_text, text_tight, text_mixed, text_stuck, good_group, group_tight, group_text, group_children, content_opens}
use Rattle.scan.proofs.Items.{good_end, good_rest, good_marked, good_items, good_open, item_begins, open_comment, open_element, items_blanks}
use Rattle.scan.proofs.Remarks.{remark_stuck}
use Rattle.scan.proofs.Readings.{reads_moves, reads_other, named_reads, marked}
use Rattle.scan.proofs.Declared.{text_starred, text_plain, any_passes, any_stops, empty_reads, named_space, declared_name, element_space, keyword_reads, dashes_read, remark_one, remark_two, remark_ends, finish_told, start}
use Rattle.scan.proofs.Whole.{scanned}
use Rattle.texts.proofs.Tests.{when, of, byte_is, blanks_at, space_at, maybe_at, word_at, name_at}

-- an answer that is right, unless the reader ran out of steps
abbrev pub Try : Claim → Claim → List ℕ → ℕ → Type 0
Try P Q t a = Option ((r : Result ℕ Stop) × Reads P Q t a r)

-- behind a move
abbrev pub on : {P Q R : Claim} {t : List ℕ} {a b : ℕ} → Moves P Q t a b → Try Q R t b → Try P R t a
on m None = None
on m (Some x) = Some (x.0, reads_on m x.1)

-- one reader after another
abbrev go_on_to : {P Q R : Claim} {t : List ℕ} {a : ℕ} (r : Result ℕ Stop) → Reads P Q t a r → ((e : ℕ) → e ≤ length t → Try Q R t e) → Try P R t a
go_on_to (Ok e) x k = on (reads_moves x) (k e (reads_moves x).inside)
go_on_to (Err s) x k = Some (Err s, reads_other x)

abbrev pub and_then : {P Q R : Claim} {t : List ℕ} {a : ℕ} → Try P Q t a → ((e : ℕ) → e ≤ length t → Try Q R t e) → Try P R t a
and_then None k = None
and_then (Some x) k = go_on_to x.0 x.1 k

-- the smallest pieces
abbrev blanks_of : {K R : Claim} {t : List ℕ} {a : ℕ} → Good K → Avoids is_space K → Option ((b : ℕ) × BlanksRead t a b) → ((b : ℕ) → b ≤ length t → Try K R t b)
    → Try (BlanksThen K) R t a
blanks_of g f None k = None
blanks_of g f (Some x) k = on (blanks_moves g f x.1) (k x.0 x.1.inside)

abbrev read_of : {P Q : Claim} {t : List ℕ} {a : ℕ} {F : Result ℕ Stop → Type 0} → Option ((r : Result ℕ Stop) × F r) → ((r : Result ℕ Stop) → F r → Reads P Q t a r) → Try P Q t a
read_of None f = None
read_of (Some x) f = Some (x.0, f x.0 x.1)

abbrev word : {K : Claim} (cs t : List ℕ) (a : ℕ) → a ≤ length t → Good K → Try (LiteralThen cs K) K t a
word cs t a l g = let x = word_at cs t a l in Some (x.0, word_reads g x.0 x.1)

abbrev mark_at : (fs : List Frame) (t : List ℕ) (a : ℕ) → a ≤ length t → Try (RestMarked fs) (Rest fs) t a
mark_at fs t a l = let x = maybe_at is_mark t a in Some (Ok x.0, got (marked fs l x.1))

-- particles, choices and sequences: the readers that read n steps deep, and of them those of one step more
record Readers (t : List ℕ) : Type 0 where
  particle : (depth : ℕ) (fs : List Frame) (a : ℕ) → a ≤ length t → Try (ParticleThen depth (Rest fs)) (Rest fs) t a
  row : (s : ℕ) → Separator s → (depth : ℕ) (fs : List Frame) (a : ℕ) → a ≤ length t → Try (Closing s depth (RestMarked fs)) (Rest fs) t a

module _ (n : ℕ) (t : List ℕ) (rs : Readers t) where
  abbrev opening_at : (depth : ℕ) (fs : List Frame) (a : ℕ) → a ≤ length t → Try (Opening depth (RestMarked fs)) (Rest fs) t a
  opening_at depth fs a l = when (byte_is t a (code "|")) (λ g. on (opens_choice depth (good_marked fs) l g) (rs.row (code "|") bar depth fs a l))
      (λ f. on (opens_sequence depth (good_marked fs) l f) (rs.row (code ",") comma depth fs a l))

  abbrev inside_at : (depth : ℕ) (fs : List Frame) (a : ℕ) → a ≤ length t → Try (InsideThen depth (RestMarked fs)) (Rest fs) t a
  inside_at depth fs a l = on (inside_begins depth (good_marked fs) l) (and_then (rs.particle depth (first depth ∷ fs) a l)
      (λ e i. blanks_of (good_opening depth (good_marked fs)) (avoids_opening depth refl refl refl) (blanks_at n t e i) (λ b j. opening_at depth fs b j)))

  abbrev group_at : (depth : ℕ) (fs : List Frame) (a : ℕ) → Byte t a (code "(") → Try (ParticleThen depth (Rest fs)) (Rest fs) t a
  group_at zero fs a g = Some (Err (Over a), too_deep (good_rest fs) g)
  group_at (suc below) fs a g = on (into_group below (good_rest fs) g)
      (blanks_of (good_inside below (good_marked fs)) (inside_tight below) (blanks_at n t (suc a) g.within) (λ b i. inside_at below fs b i))

  abbrev particle_at : (depth : ℕ) (fs : List Frame) (a : ℕ) → a ≤ length t → Try (ParticleThen depth (Rest fs)) (Rest fs) t a
  particle_at depth fs a l = when (byte_is t a (code "(")) (λ g. group_at depth fs a g)
      (λ f. (let x = name_at t a in go_on_to x.0 (named_reads fs depth l f x.0 x.1) (λ e i. mark_at fs t e i)))

  abbrev next_at : (s : ℕ) → Separator s → (depth : ℕ) (fs : List Frame) (a : ℕ) → a ≤ length t → Try (RowThen s depth (RestMarked fs)) (Rest fs) t a
  next_at s x depth fs a l = on (row_begins s depth (good_marked fs) l) (and_then (rs.particle depth (behind s x depth ∷ fs) a l)
      (λ e i. blanks_of (good_closing s depth (good_marked fs)) (avoids_closing s depth refl x.no_space) (blanks_at n t e i) (λ b j. rs.row s x depth fs b j)))

  abbrev row_at : (s : ℕ) → Separator s → (depth : ℕ) (fs : List Frame) (a : ℕ) → a ≤ length t → Try (Closing s depth (RestMarked fs)) (Rest fs) t a
  row_at s x depth fs a l = when (byte_is t a s)
      (λ g. on (separates depth (good_marked fs) l x g)
      (blanks_of (good_row s depth (good_marked fs)) (row_tight s depth) (blanks_at n t (suc a) g.within) (λ b i. next_at s x depth fs b i)))
      (λ f. on (closes depth (good_marked fs) l s f) (and_then (word (ascii ")") t a l (good_marked fs)) (λ e i. mark_at fs t e i)))

abbrev readers : ℕ → (t : List ℕ) → Readers t
readers zero t = record { particle = λ depth fs a l. None; row = λ s x depth fs a l. None }
readers (suc n) t = record { particle = particle_at n t (readers n t); row = row_at n t (readers n t) }

-- text
abbrev text_at : (t : List ℕ) (a : ℕ) → a ≤ length t → Try (TextThen FromEnd) FromEnd t a
text_at t a l = when (byte_is t a (code ")"))
    (λ g. when (byte_is t (suc a) (code "*")) (λ h. Some (Ok (suc (suc a)), text_starred g h refl)) (λ f. Some (Ok (suc a), text_plain g f refl)))
    (λ f. when (byte_is t a (code "|")) (λ h. Some (Err (Over a), text_mixed good_end h)) (λ h. Some (Err (Bad a), text_stuck good_end l f h)))

abbrev pcdata_at : (n : ℕ) (t : List ℕ) (a : ℕ) → a ≤ length t → Try (LiteralThen (ascii "#PCDATA") (BlanksThen (TextThen FromEnd))) FromEnd t a
pcdata_at n t a l = and_then (word (ascii "#PCDATA") t a l (good_blanks (good_text good_end))) (λ e i. blanks_of (good_text good_end) text_tight (blanks_at n t e i) (λ b j. text_at t b j))

-- contents
abbrev bracket_at : (n : ℕ) (t : List ℕ) (a : ℕ) → a ≤ length t → Try (GroupThen FromEnd) FromEnd t a
bracket_at n t a l = when (byte_is t a (code "#")) (λ h. on (group_text good_end h) (pcdata_at n t a l)) (λ f. on (group_children good_end l f) (inside_at n t (readers n t) 15 [] a l))

abbrev any_of : (t : List ℕ) (a : ℕ) → Byte t a (code "A") → (r : Result ℕ Stop) → WordRead t (ascii "ANY") a r → Try (SpecThen FromEnd) FromEnd t a
any_of t a g (Ok e) x = Some (Err (Over a), any_passes x)
any_of t a g (Err s) x = Some (Err s, any_stops g s x)

abbrev pub content_at : (n : ℕ) (t : List ℕ) (a : ℕ) → a ≤ length t → Try (SpecThen FromEnd) FromEnd t a
content_at n t a l = when (byte_is t a (code "("))
    (λ g. on (content_opens good_end g) (blanks_of (good_group good_end) group_tight (blanks_at n t (suc a) g.within) (λ b i. bracket_at n t b i)))
    (λ o. when (byte_is t a (code "E")) (λ g. (let x = word_at (ascii "EMPTY") t a l in Some (x.0, empty_reads g x.0 x.1)))
    (λ e. when (byte_is t a (code "A")) (λ g. (let x = word_at (ascii "ANY") t a l in any_of t a g x.0 x.1)) (λ f. Some (Err (Bad a), content_stuck good_end l e f o))))

-- declarations, from behind '<!' on
abbrev end_at : (n : ℕ) (t : List ℕ) (a : ℕ) → a ≤ length t → Try FromEnd (FromItems true) t a
end_at n t a l = blanks_of (good_literal (ascii ">") (good_items true)) (avoids_literal refl) (blanks_at n t a l) (λ b i. word (ascii ">") t b i (good_items true))

abbrev named_at : (n : ℕ) (t : List ℕ) (a : ℕ) → a ≤ length t → Try (NameThen FromNamed) (FromItems true) t a
named_at n t a l = let x = name_at t a in
    go_on_to x.0 (declared_name l x.0 x.1) (λ e i. and_then (read_of {F = SpaceRead t e} (space_at n t e) (named_space i))
    (λ b j. and_then (content_at n t b j) (λ c k. end_at n t c k)))

abbrev element_at : (n : ℕ) (t : List ℕ) (a : ℕ) → a ≤ length t → Try (LiteralThen (ascii "ELEMENT") FromElement) (FromItems true) t a
element_at n t a l = let x = word_at (ascii "ELEMENT") t a l in
    go_on_to x.0 (keyword_reads x.0 x.1) (λ e i. and_then (read_of {F = SpaceRead t e} (space_at n t e) (element_space i)) (λ b j. named_at n t b j))

-- comments, from behind '<!--' on
abbrev remark_at : (n : ℕ) (seen : Bool) (t : List ℕ) (a : ℕ) → a ≤ length t → Try (FromRemark seen) (FromItems seen) t a
remark_at zero seen t a l = None
remark_at (suc n) seen t a l = when (of is_no_dash t a) (λ o. on (remark_one seen o refl) (remark_at n seen t (suc a) o.within))
    (λ f. when (byte_is t a (code "-"))
    (λ g. when (of is_no_dash t (suc a)) (λ o. on (remark_two seen g o refl) (remark_at n seen t (suc (suc a)) o.within))
    (λ h. (let x = word_at (ascii "->") t (suc a) g.within in Some (x.0, remark_ends seen g h x.0 x.1))))
    (λ g. Some (Err (Bad a), remark_stuck seen l f g)))

abbrev dashes_at : (n : ℕ) (seen : Bool) (t : List ℕ) (a : ℕ) → a ≤ length t → Try (LiteralThen (ascii "--") (FromRemark seen)) (FromItems seen) t a
dashes_at n seen t a l = let x = word_at (ascii "--") t a l in go_on_to x.0 (dashes_read seen x.0 x.1) (λ e i. remark_at n seen t e i)

-- what stands behind the bytes that were read
abbrev Whole : List ℕ → Type 0
Whole t = Option ((r : Result ℕ Stop) × ItemsRead t r)

abbrev item_read : {P Q : Claim} {t : List ℕ} {a : ℕ} → Moves (FromItems false) P t 0 a → (r : Result ℕ Stop) → Reads P Q t a r
    → ((e : ℕ) → e ≤ length t → Moves (FromItems false) Q t 0 e → Whole t) → Whole t
item_read m (Ok e) x k = k e (reads_moves x).inside (moves_on m (reads_moves x))
item_read m (Err s) x k = Some (Err s, record { read = reads_on m (reads_other x); ends = tt })

abbrev item_of : {P Q : Claim} {t : List ℕ} {a : ℕ} → Moves (FromItems false) P t 0 a → Try P Q t a
    → ((e : ℕ) → e ≤ length t → Moves (FromItems false) Q t 0 e → Whole t) → Whole t
item_of m None k = None
item_of m (Some x) k = item_read m x.0 x.1 k

pub strictly : {a b : ℕ} → a ≤ b → ¬ (a ≡ b) → a < b
strictly l f = elim (eq-or-lt_of_le l) [ inl e ↦ absurd (f e) | inr h ↦ h ]

module _ (n : ℕ) (t : List ℕ) (again : (seen : Bool) (a : ℕ) → a ≤ length t → Moves (FromItems false) (FromItems seen) t 0 a → Whole t) (seen : Bool) where
  abbrev kind_at : (a : ℕ) → a ≤ length t → Moves (FromItems false) (FromOpen seen) t 0 a → Whole t
  kind_at a l m = when (byte_is t a (code "-"))
      (λ g. item_of (moves_on m (open_comment seen t a g)) (dashes_at n seen t a l) (λ e i k. again seen e i k))
      (λ f. item_of (moves_on m (open_element seen t a l f)) (element_at n t a l) (λ e i k. again true e i k))

  abbrev open_at : (a : ℕ) → a ≤ length t → Moves (FromItems false) (FromItem seen) t 0 a → Whole t
  open_at a l m = let x = word_at (ascii "<!") t a l in item_read m x.0 (word_reads (good_open seen) x.0 x.1) kind_at

abbrev items_at : (n : ℕ) (t : List ℕ) (seen : Bool) (a : ℕ) → a ≤ length t → Moves (FromItems false) (FromItems seen) t 0 a → Whole t
items_at zero t seen a l m = None
items_at (suc n) t seen a l m = when (of is_space t a) (λ o. items_at n t seen (suc a) o.within (moves_on m (items_blanks seen o.within (go_on o stop))))
    (λ f. when (is_equal a (length t)) (λ e. Some (finish_of seen a, finish_told seen t a e m))
    (λ g. open_at n t (items_at n t) seen a l (moves_on m (item_begins seen t a (strictly l g) f))))

-- a whole text of at most 64 KiB
abbrev pub Scan : List ℕ → Type 0
Scan t = Option ((r : Result ℕ Stop) × Scanned t r)

within_limit : {t : List ℕ} {r : Result ℕ Stop} → length t ≤ 65536 → ItemsRead t r → place_of r ≤ 65536
within_limit {t} {r} h x = go r x.ends x.read
  where
    go : (r : Result ℕ Stop) → EndsAt t r → Reads (FromItems false) Nothing t 0 r → place_of r ≤ 65536
    go (Ok e) y z = omega arith
    go (Err (Bad k)) y (bad s f) = omega (arith, s.inside)
    go (Err (Over k)) y (over s f) = omega (arith, s.order, s.inside)

pub whole_scanned : {t : List ℕ} {r : Result ℕ Stop} → length t ≤ 65536 → ItemsRead t r → Scanned t r
whole_scanned {t} {r} h x = scanned t t (length t) (omega arith) (sym (take_all (length t) t (omega arith))) r (within_limit h x) x

abbrev scan_of : (t : List ℕ) → length t ≤ 65536 → Whole t → Scan t
scan_of t h None = None
scan_of t h (Some x) = Some (x.0, whole_scanned h x.1)

abbrev pub scan_at : (n : ℕ) (t : List ℕ) → Scan t
scan_at n t = when (is_at_most (length t) 65536) (λ h. scan_of t h (items_at n t false 0 (omega arith) (start t))) (λ f. None)
