-- What the readers answer, one after another. Assumes nothing.
use Rattle.std.proofs.Common.{ℕ, suc, ◌≤◌, ◌≡◌, refl, ap, ◌∙◌, List, [], ◌∷◌, arith, length, Result, Ok, Err, IsErrAnd}
use Prim.Native.Char.{code}
use Rattle.grammar.specs.Bytes.{ascii, is_name_byte, is_mark, Byte, Of}
use Rattle.grammar.proofs.Pieces.{apart, space_no_name, space_no_mark, mark_no_name}
use Rattle.grammar.proofs.Unique.{Separator}
use Rattle.scan.specs.Steps.Claims.{Mode, Claim, Maybe, one, none, Frame, first, behind, Rest, RestMarked, ParticleThen, InsideThen, Closing, ChoiceRest, SequenceRest, Opening}
use Rattle.scan.specs.Steps.Moves.{Moves, Reads, got, bad, over}
use Rattle.scan.specs.Steps.Readers.{BlanksRead, MaybeRead, NameRead, WordRead}
use Rattle.scan.specs.declared.Stop.{Stop}
use Rattle.std.proofs.lemmas.Result.{err_from_is_err_and}
use Rattle.scan.specs.declared.Stop.TheVariants.{Over}
use Rattle.scan.proofs.Moving.{moves_on, reads_on, turn, Avoids}
use Rattle.scan.proofs.Pieces.{avoids_blanks, blanks_moves, maybe_moves, name_reads, word_reads}
use Rattle.scan.proofs.Groups.{good_row, good_inside, good_closing, good_opening, row_tight, inside_tight, avoids_closing, avoids_opening, as_name, into_group, too_deep, row_begins, inside_begins, opens_choice, opens_sequence, closes, separates}
use Rattle.scan.proofs.Items.{end_avoids, good_rest, good_marked}

-- an answer that is no end says nothing of what follows
pub reads_other : {P Q R : Claim} {t : List ℕ} {a : ℕ} {s : Stop} → Reads P Q t a (Err s) → Reads P R t a (Err s)
reads_other (bad s w) = bad s w
reads_other (over x w) = over x w

-- an answer that is an end is a move
pub reads_moves : {P Q : Claim} {t : List ℕ} {a e : ℕ} → Reads P Q t a (Ok e) → Moves P Q t a e
reads_moves (got m) = m

-- what a `?` hands on is the callee's refusal
pub handed_on : {T : Type 0} (r : Result T Stop) {s : Stop} → IsErrAnd r (λ e. e ≡ s) → r ≡ Err s
handed_on r x = let p = err_from_is_err_and r x in p.1 ∙ ap Err p.2

pub reads_refused : {P Q R : Claim} {t : List ℕ} {a : ℕ} (r : Result ℕ Stop) {s : Stop} → IsErrAnd r (λ e. e ≡ s) → Reads P Q t a (Err s) → Reads P R t a r
reads_refused r h x = rw (handed_on r h) (reads_other x)

-- what follows a particle begins with neither a name nor a mark
pub rest_no_name : (fs : List Frame) → Avoids is_name_byte (Rest fs)
rest_no_name [] = end_avoids is_name_byte refl space_no_name
rest_no_name (first depth ∷ fs) = avoids_blanks space_no_name (avoids_opening depth refl refl refl)
rest_no_name (behind s x depth ∷ fs) = avoids_blanks space_no_name (avoids_closing s depth refl x.no_name)

pub rest_no_mark : (fs : List Frame) → Avoids is_mark (Rest fs)
rest_no_mark [] = end_avoids is_mark refl space_no_mark
rest_no_mark (first depth ∷ fs) = avoids_blanks space_no_mark (avoids_opening depth refl refl refl)
rest_no_mark (behind s x depth ∷ fs) = avoids_blanks space_no_mark (avoids_closing s depth refl x.unmarked)

-- what may be marked begins with no byte of a name
marked_no_name : (fs : List Frame) → Avoids is_name_byte (RestMarked fs)
marked_no_name fs = record { free_of = λ a m u p. go m p.piece p.rest }
  where
    go : {a b : ℕ} {u : List ℕ} (m : Mode) → Maybe is_mark u a b → Rest fs b m u → ¬ Of is_name_byte u a
    go m (one o) q = apart mark_no_name o
    go {a} {u = u} m none q = (rest_no_name fs).free_of a m u q

pub marked : (fs : List Frame) {t : List ℕ} {a b : ℕ} → a ≤ length t → MaybeRead is_mark t a b → Moves (RestMarked fs) (Rest fs) t a b
marked fs l x = maybe_moves (good_rest fs) (rest_no_mark fs) l x

-- a particle: its name
module _ (fs : List Frame) {t : List ℕ} {a : ℕ} (depth : ℕ) (l : a ≤ length t) (f : ¬ Byte t a (code "(")) where
  pub named_reads : (r : Result ℕ Stop) → NameRead t a r → Reads (ParticleThen depth (Rest fs)) (RestMarked fs) t a r
  named_reads r x = reads_on (as_name depth (good_rest fs) l f) (name_reads (good_marked fs) (marked_no_name fs) l r x)

-- its group
pub group_reads : (fs : List Frame) {t : List ℕ} {a b : ℕ} {r : Result ℕ Stop} (depth below : ℕ) → depth ≡ suc below → Byte t a (code "(") → BlanksRead t (suc a) b
    → Reads (InsideThen below (RestMarked fs)) (Rest fs) t b r → Reads (ParticleThen depth (Rest fs)) (Rest fs) t a r
group_reads fs depth below e g s x = rw e (reads_on (into_group below (good_rest fs) g) (reads_on (blanks_moves (good_inside below (good_marked fs)) (inside_tight below) s) x))

pub deep_reads : (fs : List Frame) {t : List ℕ} {a : ℕ} (depth : ℕ) → depth ≡ 0 → Byte t a (code "(") → Reads (ParticleThen depth (Rest fs)) (Rest fs) t a (Err (Over a))
deep_reads fs depth e g = rw e (too_deep (good_rest fs) g)

-- the inside of a group: its first particle
module _ (fs : List Frame) {t : List ℕ} {a : ℕ} (depth : ℕ) (l : a ≤ length t) where
  pub inside_reads : {r : Result ℕ Stop} → Reads (ParticleThen depth (Rest (first depth ∷ fs))) (Rest (first depth ∷ fs)) t a r → Reads (InsideThen depth (RestMarked fs)) (Rest (first depth ∷ fs)) t a r
  inside_reads x = reads_on (inside_begins depth (good_marked fs) l) x

  -- and what follows it
  opened : {e b : ℕ} → Moves (ParticleThen depth (Rest (first depth ∷ fs))) (Rest (first depth ∷ fs)) t a e → BlanksRead t e b → Moves (InsideThen depth (RestMarked fs)) (Opening depth (RestMarked fs)) t a b
  opened m s = moves_on (inside_begins depth (good_marked fs) l) (moves_on m (blanks_moves (good_opening depth (good_marked fs)) (avoids_opening depth refl refl refl) s))

  pub choice_reads : {e b : ℕ} {r : Result ℕ Stop} → Moves (ParticleThen depth (Rest (first depth ∷ fs))) (Rest (first depth ∷ fs)) t a e → BlanksRead t e b → Byte t b (code "|")
      → Reads (ChoiceRest depth (RestMarked fs)) (RestMarked fs) t b r → Reads (InsideThen depth (RestMarked fs)) (RestMarked fs) t a r
  choice_reads m s g x = reads_on (opened m s) (reads_on (opens_choice depth (good_marked fs) s.inside g) x)

  pub sequence_reads : {e b : ℕ} {r : Result ℕ Stop} → Moves (ParticleThen depth (Rest (first depth ∷ fs))) (Rest (first depth ∷ fs)) t a e → BlanksRead t e b → ¬ Byte t b (code "|")
      → Reads (SequenceRest depth (RestMarked fs)) (RestMarked fs) t b r → Reads (InsideThen depth (RestMarked fs)) (RestMarked fs) t a r
  sequence_reads m s g x = reads_on (opened m s) (reads_on (opens_sequence depth (good_marked fs) s.inside g) x)

-- a row: from one separator to the next particle
module _ (fs : List Frame) {t : List ℕ} {s : ℕ} (x : Separator s) (depth : ℕ) where
  separated : {i b : ℕ} → Byte t i s → BlanksRead t (suc i) b → Moves (Closing s depth (RestMarked fs)) (ParticleThen depth (Rest (behind s x depth ∷ fs))) t i b
  separated g w = moves_on (separates depth (good_marked fs) (omega (arith, g.within)) x g)
      (moves_on (blanks_moves (good_row s depth (good_marked fs)) (row_tight s depth) w) (row_begins s depth (good_marked fs) w.inside))

  pub row_starts : {i : ℕ} → i ≤ length t → Moves (Closing s depth (RestMarked fs)) (Closing s depth (RestMarked fs)) t i i
  row_starts l = turn (good_closing s depth (good_marked fs)) l (λ m u h q. q) (λ m u h p. p)

  pub row_on : {i b e c : ℕ} → Byte t i s → BlanksRead t (suc i) b → Moves (ParticleThen depth (Rest (behind s x depth ∷ fs))) (Rest (behind s x depth ∷ fs)) t b e → BlanksRead t e c
      → Moves (Closing s depth (RestMarked fs)) (Closing s depth (RestMarked fs)) t i c
  row_on g w m v = moves_on (separated g w) (moves_on m (blanks_moves (good_closing s depth (good_marked fs)) (avoids_closing s depth refl x.no_space) v))

  pub row_refused : {i b : ℕ} {r : Result ℕ Stop} → Byte t i s → BlanksRead t (suc i) b → Reads (ParticleThen depth (Rest (behind s x depth ∷ fs))) (Rest (behind s x depth ∷ fs)) t b r
      → Reads (Closing s depth (RestMarked fs)) (Rest (behind s x depth ∷ fs)) t i r
  row_refused g w m = reads_on (separated g w) m

  pub row_ends : {i : ℕ} → i ≤ length t → ¬ Byte t i s → (r : Result ℕ Stop) → WordRead t (ascii ")") i r → Reads (Closing s depth (RestMarked fs)) (RestMarked fs) t i r
  row_ends l f r w = reads_on (closes depth (good_marked fs) l s f) (word_reads (good_marked fs) r w)
