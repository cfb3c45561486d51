-- From lines that were put or read to what is written or read by a table and its labels. Assumes nothing.
use Rattle.std.proofs.Common.{ℕ, ◌+◌, ◌≤◌, ◌<◌, ◌≡◌, refl, ap, ◌∙◌, subst, inl, inr, List, [], ◌++◌, arith, length, get_or, take, drop, replicate, length-take}
use Rattle.std.proofs.Math.ListN.{length-replicate, get_or-replicate, get_or-eq_default}
use Rattle.std.proofs.Math.Seq.{take-length}
use Rattle.table.specs.declared.check.Check.TheVariants.{Total}
use Rattle.table.specs.Privilege.{privileges}
use Rattle.table.specs.Check.{Accepted}
use Rattle.policy.specs.Marks.{Fit, Unfit}
use Rattle.policy.specs.Steps.Checking.{MarksAnswer}
use Rattle.policy.proofs.Policies as policies
use Rattle.grammar.proofs.Stopping.{le_or_lt}
use Rattle.listing.proofs.Listings.{listing_one}
use Rattle.mailing.specs.Steps.Putting.{Mailable, LinesPut}
use Rattle.reading.specs.Steps.Reading.{Readable, LinesRead, faulty, listed}
use Rattle.mail.specs.Answers.{Listed, Written, no_marks, no_room, written, ReadFrom, no_room_for_marks, marks_read}
use Rattle.mail.specs.Steps.Opened.{Sized}
use Rattle.mail.proofs.One.{fault_number}

pub unset_all : (n p : ℕ) → ◌≡◌ {A = ℕ} (get_or (replicate n 0) p 0) 0
unset_all n p = elim (le_or_lt n p) [
  | inl h ↦ get_or-eq_default {A = ℕ} (replicate n 0) 0 (omega (arith, length-replicate {A = ℕ} n 0))
  | inr h ↦ get_or-replicate {A = ℕ} n p 0 0 h
]

pub mailable : {ws names starts marks : List ℕ} → Readable ws names starts → Fit (privileges ws) marks → Mailable ws names starts marks
mailable r f = record { accepted = r.accepted; labelled = r.labelled; fit = f }

-- word 7 is V
total : {ws : List ℕ} → Accepted ws → get_or ws 7 0 ≡ privileges ws
total a = (a.passes Total 0 (omega arith)).stated

module _ {label : ℕ → List ℕ} {ws : List ℕ} (a : Accepted ws) where
  pub marks_off : {marks out : List ℕ} {v n p : ℕ} → v ≡ get_or ws 7 0 → Unfit 10 v marks n p → Written label ws marks out n p out
  marks_off {marks} {n = n} {p = p} e u = no_marks (subst (λ (w : ℕ). Unfit 10 w marks n p) (e ∙ total a) u) refl

  -- the listing is longer than the result
  pub short_out : {marks out : List ℕ} {size : ℕ} → Fit (privileges ws) marks → Sized label ws marks size → length out < size
      → Written label ws marks out 12 0 out
  short_out f x h = no_room (record { fit = f; lists = x.lists }) (omega (arith, x.size)) refl refl refl

  -- it is not, and was put there
  pub all_put : {marks out after : List ℕ} {size r : ℕ} → Fit (privileges ws) marks → Sized label ws marks size → size ≤ length out
      → LinesPut label ws marks out after r → Written label ws marks out 0 size after
  all_put {out = out} f x h y =
      let same : length x.lines ≡ length y.lines = ap {A = List ℕ} length (listing_one x.lists y.lists) in
      let n = x.size in
      let room : 0 + length y.lines ≤ length out = omega (arith, n, same) in
      written (record { fit = f; lists = y.lists }) (omega (arith, n, same)) refl (omega (arith, n, same)) (y.fits.is room ∙ front y.lines)
    where
      front : (l : List ℕ) → [] ++ take (length l) l ++ drop (0 + length l) out ≡ l ++ drop (length l) out
      front l = let z : 0 + length l ≡ length l = omega arith in rw (z, take-length l)

  -- the lines were read, and are the listing of the marks at the front of the run
  read_listed : {listing marks : List ℕ} {p : ℕ} → LinesRead label ws listing 0 p marks → (p ≡ 0) × Listed label ws (take (privileges ws) marks) listing
  read_listed (faulty f) = absurd (omega (arith, fault_number f.fault))
  read_listed (listed d z f x) = (z, record { fit = f; lists = x })

  pub marks_there : {listing marks : List ℕ} {v p : ℕ} → v ≡ get_or ws 7 0 → LinesRead label ws listing 0 p marks → v ≤ length marks
  marks_there {marks = marks} q x = omega (arith, q, total a, (read_listed x).1.fit.size, length-take (privileges ws) marks)

  pub short_marks : {listing marks out : List ℕ} {v p : ℕ} → v ≡ get_or ws 7 0 → LinesRead label ws listing 0 p marks → length out < v
      → ReadFrom label ws listing out 12 0 out
  short_marks q x h = no_room_for_marks (read_listed x).1 (omega (arith, q, total a)) refl refl refl

  pub marks_put : {listing marks out after : List ℕ} {v : ℕ} → v ≡ get_or ws 7 0 → LinesRead label ws listing 0 0 marks → v ≤ length out
      → after ≡ take v marks ++ drop v out → ReadFrom label ws listing out 0 0 after
  marks_put {marks = marks} {out = out} q x h z =
      let v = q ∙ total a in
      marks_read (read_listed x).1 (omega (arith, v)) refl refl (z ∙ ap (λ (k : ℕ). take k marks ++ drop k out) v)

-- marks that were checked by word 7
pub marks_fit : {ws marks : List ℕ} {v p : ℕ} → Accepted ws → v ≡ get_or ws 7 0 → MarksAnswer 10 v marks 0 p → Fit (privileges ws) marks
marks_fit {marks = marks} a e x = subst (λ (w : ℕ). Fit w marks) (e ∙ total a) (policies.marks_fit (omega arith) refl x)
