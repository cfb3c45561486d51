-- The answers of both calls admit one outcome only. Assumes nothing.
use Rattle.std.proofs.Common.{ℕ, ◌≤◌, ◌≡◌, sym, ap, ◌∙◌, subst, List, ◌∷◌, ◌++◌, arith, length, drop}
use Rattle.table.specs.Words.{types}
use Rattle.table.specs.Privilege.{privileges}
use Rattle.table.specs.Check.{Accepted}
use Rattle.policy.proofs.Policies.{fit_not, unfit_one}
use Rattle.grammar.specs.Tree.{Declaration}
use Rattle.model.specs.Tables.{table_of}
use Rattle.dtd.proofs.OneAnswer.{Same, no_table_one, no_table_apart, tabled_one}
use Rattle.labels.specs.Steps.Booked.{Labelled}
use Rattle.listing.specs.Faults.{Fault, no_line, not_above}
use Rattle.listing.proofs.Listings.{listing_one, no_fault, marks_one, fault_one}
use Rattle.mail.specs.Answers.{Schema, NoSchema, no_format, no_table, labels_of}
use Rattle.mail.specs.Answers.{Written, no_marks, no_room, written, ReadFrom, no_listing, no_room_for_marks, marks_read, BySchema, no_schema, by_schema, WriteAnswer, ReadAnswer}
use Rattle.mail.proofs.Schemas.{schema_labelled}

pub fault_number : {label : ℕ → List ℕ} {ws t : List ℕ} {n p : ℕ} → Fault label ws t n p → 25 ≤ n
fault_number (no_line e x) = omega arith
fault_number (not_above e x) = omega arith

module _ {t : List ℕ} {format : ℕ} where
  no_schema_one : {n m p q : ℕ} → NoSchema t format n p → NoSchema t format m q → (n ≡ m) × (p ≡ q)
  no_schema_one (no_format k e z) (no_format l g y) = (e ∙ sym g, z ∙ sym y)
  no_schema_one (no_format k e z) (no_table l x) = absurd (k l)
  no_schema_one (no_table l x) (no_format k e z) = absurd (k l)
  no_schema_one (no_table k x) (no_table l y) = no_table_one x y

  pub schema_apart : {n p : ℕ} {d : Declaration} {ds : List Declaration} → NoSchema t format n p → Schema t format d ds → ⊥
  schema_apart (no_format k e z) s = k s.known
  schema_apart (no_table k x) s = no_table_apart x s.tabled

  -- one schema, and then one outcome by it
  pub by_schema_one : {Told Other : (ℕ → List ℕ) → List ℕ → Type 0} {out a b : List ℕ} {n m p q : ℕ}
      → ((label : ℕ → List ℕ) (ws : List ℕ) → Accepted ws → Labelled label (types ws) → Told label ws → Other label ws → Same n m p q a b)
      → BySchema t format Told out n p a → BySchema t format Other out m q b → Same n m p q a b
  by_schema_one f (no_schema x e) (no_schema y g) = let z = no_schema_one x y in record { number = z.0; place = z.1; after = e ∙ sym g }
  by_schema_one f (no_schema x e) (by_schema s y) = absurd (schema_apart x s)
  by_schema_one f (by_schema s x) (no_schema y g) = absurd (schema_apart y s)
  by_schema_one {Other = Other} f (by_schema {d} {ds} s x) (by_schema {d = c} {ds = cs} r y) =
      let z : c ∷ cs ≡ d ∷ ds = tabled_one r.tabled s.tabled in
      f (labels_of (d ∷ ds)) (table_of format (d ∷ ds)) s.tabled.accepted (schema_labelled s) x
      (subst (λ (l : List Declaration). Other (labels_of l) (table_of format l)) z y)

module _ {label : ℕ → List ℕ} {ws : List ℕ} (a : Accepted ws) (l : Labelled label (types ws)) where
  written_one : {marks out x y : List ℕ} {n m p q : ℕ} → Written label ws marks out n p x → Written label ws marks out m q y → Same n m p q x y
  written_one (no_marks u e) (no_marks w g) = let z = unfit_one u w in record { number = z.0; place = z.1; after = e ∙ sym g }
  written_one (no_marks u e) (no_room d h i j g) = absurd (fit_not d.fit u)
  written_one (no_marks u e) (written d h i j g) = absurd (fit_not d.fit u)
  written_one (no_room d h i j g) (no_marks u e) = absurd (fit_not d.fit u)
  written_one (no_room d h i j g) (no_room e b c k f) = record { number = i ∙ sym c; place = j ∙ sym k; after = g ∙ sym f }
  written_one (no_room d h i j g) (written e b c k f) = absurd (let z = ap {A = List ℕ} length (listing_one d.lists e.lists) in omega arith)
  written_one (written d h i j g) (no_marks u e) = absurd (fit_not d.fit u)
  written_one (written d h i j g) (no_room e b c k f) = absurd (let z = ap {A = List ℕ} length (listing_one d.lists e.lists) in omega arith)
  written_one {out = out} (written d h i j g) (written e b c k f) =
      let z = listing_one d.lists e.lists in
      record { number = i ∙ sym c; place = j ∙ ap {A = List ℕ} length z ∙ sym k; after = g ∙ ap (λ (r : List ℕ). r ++ drop (length r) out) z ∙ sym f }

  read_from_one : {t out x y : List ℕ} {n m p q : ℕ} → ReadFrom label ws t out n p x → ReadFrom label ws t out m q y → Same n m p q x y
  read_from_one (no_listing f e) (no_listing g h) = let z = fault_one f g in record { number = z.0; place = z.1; after = e ∙ sym h }
  read_from_one (no_listing f e) (no_room_for_marks d h i j g) = absurd (no_fault a l d.lists d.fit.legal _ _ f.fault)
  read_from_one (no_listing f e) (marks_read d h i j g) = absurd (no_fault a l d.lists d.fit.legal _ _ f.fault)
  read_from_one (no_room_for_marks d h i j g) (no_listing f e) = absurd (no_fault a l d.lists d.fit.legal _ _ f.fault)
  read_from_one (no_room_for_marks d h i j g) (no_room_for_marks e b c k f) = record { number = i ∙ sym c; place = j ∙ sym k; after = g ∙ sym f }
  read_from_one (no_room_for_marks d h i j g) (marks_read e b c k f) = absurd (omega arith)
  read_from_one (marks_read d h i j g) (no_listing f e) = absurd (no_fault a l d.lists d.fit.legal _ _ f.fault)
  read_from_one (marks_read d h i j g) (no_room_for_marks e b c k f) = absurd (omega arith)
  read_from_one {out = out} (marks_read d h i j g) (marks_read e b c k f) = record {
    number = i ∙ sym c;
    place = j ∙ sym k;
    after = g ∙ ap (λ (r : List ℕ). r ++ drop (privileges ws) out) (marks_one a l d.fit.size d.fit.legal e.fit.size e.fit.legal d.lists e.lists) ∙ sym f;
  }

pub write_one : {t marks out x y : List ℕ} {format n m p q : ℕ} → WriteAnswer t format marks out n p x → WriteAnswer t format marks out m q y → Same n m p q x y
write_one x y = by_schema_one (λ label ws a l. written_one a l) x y

pub read_one : {t listing out x y : List ℕ} {format n m p q : ℕ} → ReadAnswer t format listing out n p x → ReadAnswer t format listing out m q y → Same n m p q x y
read_one x y = by_schema_one (λ label ws a l. read_from_one a l) x y
