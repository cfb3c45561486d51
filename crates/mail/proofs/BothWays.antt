-- "Writing then reading gives the marks back, and reading then writing gives the bytes back" (document 02, order 10), over two calls each. Assumes nothing.
use Rattle.std.proofs.Common.{ℕ, ◌*◌, ◌≤◌, ◌≡◌, refl, sym, ap, ◌∙◌, subst, ◌≢◌, List, ◌∷◌, ◌++◌, arith, length, take, drop, take_at}
use Rattle.table.specs.Words.{types}
use Rattle.table.specs.Privilege.{privileges}
use Rattle.table.specs.Check.{Accepted}
use Rattle.policy.proofs.Policies.{fit_not, unfit_number}
use Rattle.grammar.specs.Tree.{Declaration}
use Rattle.model.specs.Tables.{table_of}
use Rattle.dtd.proofs.OneAnswer.{no_table_number, tabled_one}
use Rattle.labels.specs.Steps.Booked.{Labelled}
use Rattle.listing.proofs.Listings.{listing_one, no_fault, marks_one}
use Rattle.listing.proofs.Appending.{lists_length}
use Rattle.mail.specs.Answers.{Schema, NoSchema, no_format, no_table, labels_of, Listed}
use Rattle.mail.specs.Answers.{Written, no_marks, no_room, written, ReadFrom, no_listing, no_room_for_marks, marks_read, BySchema, no_schema, by_schema, WriteAnswer, ReadAnswer}
use Rattle.mail.proofs.Schemas.{schema_labelled}
use Rattle.mail.proofs.One.{schema_apart, fault_number}

-- a call that is done has a schema, and goes by it
record Went (t : List ℕ) (format : ℕ) (Told : (ℕ → List ℕ) → List ℕ → Type 0) : Type 0 where
  head : Declaration
  tail : List Declaration
  schema : Schema t format head tail
  told : Told (labels_of (head ∷ tail)) (table_of format (head ∷ tail))

refused_number : {t : List ℕ} {format n p : ℕ} → NoSchema t format n p → n ≢ 0
refused_number (no_format k e z) h = omega arith
refused_number (no_table k x) h = (no_table_number x).0 h

went : {t : List ℕ} {format p : ℕ} {Told : (ℕ → List ℕ) → List ℕ → Type 0} {out after : List ℕ} → BySchema t format Told out 0 p after → Went t format Told
went (no_schema x e) = absurd (refused_number x refl)
went (by_schema {d} {ds} s x) = record { head = d; tail = ds; schema = s; told = x }

-- another call goes by the same one
follows : {t : List ℕ} {format n p : ℕ} {Told Other : (ℕ → List ℕ) → List ℕ → Type 0} {out after : List ℕ} (w : Went t format Told)
    → BySchema t format Other out n p after → Other (labels_of (w.head ∷ w.tail)) (table_of format (w.head ∷ w.tail))
follows w (no_schema x e) = absurd (schema_apart x w.schema)
follows {format = format} {Other = Other} w (by_schema s x) =
    subst (λ (l : List Declaration). Other (labels_of l) (table_of format l)) (tabled_one s.tabled w.schema.tabled) x

-- what a done write wrote
record Wrote (label : ℕ → List ℕ) (ws marks out : List ℕ) (place : ℕ) (after : List ℕ) : Type 0 where
  listing : List ℕ
  listed : Listed label ws marks listing
  size : place ≡ length listing
  is : after ≡ listing ++ drop (length listing) out

-- what a done read read
record Took (label : ℕ → List ℕ) (ws listing out after : List ℕ) : Type 0 where
  marks : List ℕ
  listed : Listed label ws marks listing
  is : after ≡ marks ++ drop (length marks) out

module _ {label : ℕ → List ℕ} {ws : List ℕ} where
  wrote : {marks out after : List ℕ} {p : ℕ} → Written label ws marks out 0 p after → Wrote label ws marks out p after
  wrote (no_marks u e) = absurd (omega (arith, unfit_number u))
  wrote (no_room d h i j e) = absurd (omega arith)
  wrote (written {listing} d h i j e) = record { listing = listing; listed = d; size = j; is = e }

  took : {t out after : List ℕ} {p : ℕ} → ReadFrom label ws t out 0 p after → Took label ws t out after
  took (no_listing f e) = absurd (omega (arith, fault_number f.fault))
  took (no_room_for_marks d h i j e) = absurd (omega arith)
  took {out = out} (marks_read {marks} d h i j e) = record { marks = marks; listed = d; is = e ∙ ap (λ (n : ℕ). marks ++ drop n out) (sym d.fit.size) }

  -- the listing of marks is read as these, where there is room
  reads_back : Accepted ws → Labelled label (types ws) → {marks listing out after : List ℕ} {n p : ℕ} → Listed label ws marks listing
      → ReadFrom label ws listing out n p after → length marks ≤ length out → (n ≡ 0) × (after ≡ marks ++ drop (length marks) out)
  reads_back a l c (no_listing f e) r = absurd (no_fault a l c.lists c.fit.legal _ _ f.fault)
  reads_back a l c (no_room_for_marks d h i j e) r = absurd (omega (arith, c.fit.size))
  reads_back a l {marks} {out = out} c (marks_read d h i j e) r = (
    i,
    e
        ∙ ap (λ (m : List ℕ). m ++ drop (privileges ws) out) (marks_one a l d.fit.size d.fit.legal c.fit.size c.fit.legal d.lists c.lists)
        ∙ ap (λ (n : ℕ). marks ++ drop n out) (sym c.fit.size),
  )

  -- and marks are written as their listing
  writes_back : {marks listing out after : List ℕ} {n p : ℕ} → Listed label ws marks listing → Written label ws marks out n p after → length listing ≤ length out
      → (n ≡ 0) × (p ≡ length listing) × (after ≡ listing ++ drop (length listing) out)
  writes_back c (no_marks u e) r = absurd (fit_not c.fit u)
  writes_back c (no_room d h i j e) r = absurd (let z = ap {A = List ℕ} length (listing_one c.lists d.lists) in omega arith)
  writes_back {out = out} c (written d h i j e) r =
      let z = listing_one d.lists c.lists in
      (i, j ∙ ap {A = List ℕ} length z, e ∙ ap (λ (m : List ℕ). m ++ drop (length m) out) z)

-- what a done read leaves: marks, of which every write with room for it gives the bytes back
pub record ReadBack (t : List ℕ) (format : ℕ) (listing out after : List ℕ) : Type 0 where
  pub marks : List ℕ
  pub is : after ≡ marks ++ drop (length marks) out
  pub again : (lent back : List ℕ) (n p : ℕ) → WriteAnswer t format marks lent n p back → length listing ≤ length lent
      → (n ≡ 0) × (p ≡ length listing) × (back ≡ listing ++ drop (length listing) lent)

module _ {t : List ℕ} {format : ℕ} where
  -- writing then reading, with room for the marks, gives the marks back
  pub written_read : {marks out after lent back : List ℕ} {n m p : ℕ} → WriteAnswer t format marks out 0 n after
      → ReadAnswer t format (take n after) lent m p back → length marks ≤ length lent → (m ≡ 0) × (back ≡ marks ++ drop (length marks) lent)
  written_read {lent = lent} {back = back} {n = n} {m = m} {p = p} x y r =
      let w = went x in
      let s = w.schema in
      let done = wrote w.told in
      let front : take n _ ≡ done.listing = ap (take n) done.is ∙ take_at done.listing _ n (sym done.size) in
      reads_back s.tabled.accepted (schema_labelled s) done.listed
      (subst (λ (l : List ℕ). ReadFrom (labels_of (w.head ∷ w.tail)) (table_of format (w.head ∷ w.tail)) l lent m p back) front (follows w y)) r

  pub read_written : {listing out after : List ℕ} {p : ℕ} → ReadAnswer t format listing out 0 p after → ReadBack t format listing out after
  read_written x =
      let w = went x in
      let done = took w.told in
      record { marks = done.marks; is = done.is; again = λ lent back n p y r. writes_back done.listed (follows w y) r }

  -- no listing is longer than 109 bytes for each mark
  pub written_length : {marks out after : List ℕ} {n : ℕ} → WriteAnswer t format marks out 0 n after → n ≤ 109 * length marks
  written_length x =
      let w = went x in
      let s = w.schema in
      let done = wrote w.told in
      let long = lists_length s.tabled.accepted (schema_labelled s) done.listed.lists in
      let e = done.listed.fit.size in
      omega (arith, long, e, done.size)
