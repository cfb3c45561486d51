-- From a schema that was read to the answers of both calls. Assumes nothing.
use Rattle.std.proofs.Common.{ℕ, ◌≤◌, ◌≡◌, refl, sym, ap, ◌∙◌, subst, ◌≢◌, inl, inr, List, ◌∷◌, ◌++◌, arith, length, get_or, take, drop, length-append}
use Rattle.std.proofs.Math.Seq.{take-append_seam}
use Rattle.table.specs.Words.{format_of, types}
use Rattle.table.specs.Privilege.{privileges}
use Rattle.table.specs.Check.{Accepted}
use Rattle.table.specs.Refusals.{number_of, place_of}
use Rattle.table.specs.declared.refusal.Refusal.{Refusal}
use Rattle.table.proofs.Answers.{refusal_not}
use Rattle.model.specs.Tables.{rules_of, kids_of_all, words_of, table_of}
use Rattle.model.proofs.Words.{types_are}
use Rattle.model.proofs.Shape.{table_length, format_is}
use Rattle.model.proofs.Counts.{declared_few}
use Rattle.grammar.specs.Tree.{Declaration}
use Rattle.grammar.proofs.Stopping.{le_or_lt}
use Rattle.dtd.specs.Answer.{KnownFormat, Read, many_children, DtdAnswer, refused, too_short, done}
use Rattle.dtd.proofs.OneAnswer.{no_table_number}
use Rattle.labels.specs.Steps.Booked.{label_in, Labelled, Alike, LabelsRead}
use Rattle.labels.proofs.Labelling.{alike_labelled}
use Rattle.listing.proofs.Relabelled.{lists_as, fault_as}
use Rattle.reading.specs.Steps.Reading.{Readable}
use Rattle.mail.specs.Answers.{no_format, no_table, labels_of, Listed, Written, ReadFrom, no_marks, no_room, written, no_listing, no_room_for_marks, marks_read}
use Rattle.mail.specs.Answers.{BySchema, no_schema, by_schema, WriteAnswer, ReadAnswer}
use Rattle.mail.specs.Steps.Opened as steps
use Rattle.mail.specs.Steps.Opened.{Opened, SchemaRead}
use Rattle.mail.proofs.Schemas.{names_short, types_few, schema_labelled}

-- reading the text
kids_few : {t : List ℕ} {d : Declaration} {ds : List Declaration} → Read t d ds → length (kids_of_all (rules_of (d ∷ ds))) ≤ 1024
kids_few {t} {d} {ds} r =
    elim (le_or_lt (length (kids_of_all (rules_of (d ∷ ds)))) 1024) [ inl h ↦ h | inr h ↦ absurd (r.small (length t) (inr (many_children refl r.text h))) ]

-- a table has at most 1,800 words, and says how many
table_few : {t : List ℕ} {d : Declaration} {ds : List Declaration} (format : ℕ) → Read t d ds → length (table_of format (d ∷ ds)) ≤ 1800
table_few {d = d} {ds = ds} format r = omega (arith, table_length format (d ∷ ds), types_few r, kids_few r)

first_word : (format : ℕ) (ds : List Declaration) (rest : List ℕ) → get_or (table_of format ds ++ rest) 1 0 ≡ length (table_of format ds)
unfolding words_of
first_word format ds rest = sym (table_length format ds)

pub schema_read : {t out after : List ℕ} {format n p : ℕ} → KnownFormat format → 1800 ≤ length out → DtdAnswer t out format n p after → SchemaRead t format n p after
schema_read k l (refused x e) = steps.refused (no_table_number x).0 (no_table k x)
schema_read {format = format} k l (too_short e z x h q) = absurd (omega (arith, table_few format x.named.read))
schema_read {out = out} {after = after} {format = format} k l (done {d} {ds} e z x h q) =
    let ws = table_of format (d ∷ ds) in
    let n : get_or after 1 0 ≡ length ws = ap (λ (r : List ℕ). get_or r 1 0) q ∙ first_word format (d ∷ ds) (drop (length ws) out) in
    let front : take (get_or after 1 0) after ≡ ws =
    ap (λ (k : ℕ). take k after) n ∙ ap (take (length ws)) q ∙ take-append_seam ws (drop (length ws) out) in
    steps.opened e (z ∙ ap privileges (sym front)) (omega (arith, n, ap {A = List ℕ} length q, length-append ws (drop (length ws) out))) (record { head = d; tail = ds; schema = record { known = k; tabled = x }; is = front })

pub no_such_format : {t run : List ℕ} {format : ℕ} → format ≢ 1 → format ≢ 2 → SchemaRead t format 1 0 run
no_such_format a b = steps.refused (λ e. omega arith) (no_format (λ k. elim k [ inl e ↦ a e | inr e ↦ b e ]) refl refl)

module _ {t : List ℕ} {format : ℕ} {ws : List ℕ} (o : Opened t format ws) where
  abbrev labels : ℕ → List ℕ
  labels = labels_of (o.head ∷ o.tail)

  pub opened_accepted : Accepted ws
  opened_accepted = subst Accepted (sym o.is) o.schema.tabled.accepted

  pub opened_format : format_of ws ≡ format
  opened_format = ap format_of o.is ∙ format_is format (o.head ∷ o.tail)

  by_opened : {Told : (ℕ → List ℕ) → List ℕ → Type 0} {out after : List ℕ} {n p : ℕ} → Told labels ws → BySchema t format Told out n p after
  by_opened {Told = Told} x = by_schema o.schema (subst (Told labels) o.is x)

  module _ {e : ℕ} {names starts : List ℕ} (b : LabelsRead t e names starts) (s : e ≡ types ws) where
    alike : Alike (label_in names starts) labels (types ws)
    alike =
        let ds = o.head ∷ o.tail in
        let r = o.schema.tabled.named.read in
        let n = types_are format (rules_of ds) in
        let m : types ws ≡ length (rules_of ds) = ap types o.is ∙ n in
        subst (Alike (label_in names starts) labels) s
        (b.of ds r.text.items (names_short r) (omega (arith, s, m, declared_few ds)) (omega (arith, s, m, types_few r)))

    pub opened_readable : Readable ws names starts
    opened_readable = record {
      accepted = opened_accepted;
      labelled = alike_labelled alike (subst (λ (l : List ℕ). Labelled labels (types l)) (sym o.is) (schema_labelled o.schema));
    }

    -- the labels that were put are the text's
    listed_as : {marks listing : List ℕ} → Listed (label_in names starts) ws marks listing → Listed labels ws marks listing
    listed_as x = record { fit = x.fit; lists = lists_as opened_accepted alike x.lists }

    pub written_given : {marks out after : List ℕ} {n p : ℕ} → Written (label_in names starts) ws marks out n p after → WriteAnswer t format marks out n p after
    written_given x = by_opened (go x)
      where
        go : {marks out after : List ℕ} {n p : ℕ} → Written (label_in names starts) ws marks out n p after → Written labels ws marks out n p after
        go (no_marks u z) = no_marks u z
        go (no_room d h i j z) = no_room (listed_as d) h i j z
        go (written d h i j z) = written (listed_as d) h i j z

    pub read_given : {listing out after : List ℕ} {n p : ℕ} → ReadFrom (label_in names starts) ws listing out n p after → ReadAnswer t format listing out n p after
    read_given x = by_opened (go x)
      where
        go : {listing out after : List ℕ} {n p : ℕ} → ReadFrom (label_in names starts) ws listing out n p after → ReadFrom labels ws listing out n p after
        go (no_listing f z) = no_listing (fault_as opened_accepted alike f) z
        go (no_room_for_marks d h i j z) = no_room_for_marks (listed_as d) h i j z
        go (marks_read d h i j z) = marks_read (listed_as d) h i j z

-- a call on a run that a schema was read into
pub schema_refused : {t run out : List ℕ} {format : ℕ} {Told : (ℕ → List ℕ) → List ℕ → Type 0} (r : Refusal)
    → SchemaRead t format (number_of r) (place_of r) run → BySchema t format Told out (number_of r) (place_of r) out
schema_refused r (steps.refused d y) = no_schema y refl
schema_refused r (steps.opened e v l o) = absurd (refusal_not r e)

module _ {t run : List ℕ} {format place : ℕ} (x : SchemaRead t format 0 place run) where
  all_there : (get_or run 1 0 ≤ length run) × Opened t format (take (get_or run 1 0) run)
  all_there = go x
    where
      go : SchemaRead t format 0 place run → (get_or run 1 0 ≤ length run) × Opened t format (take (get_or run 1 0) run)
      go (steps.refused d y) = absurd (d refl)
      go (steps.opened z v l o) = (l, o)

  module _ {n : ℕ} (w : n ≡ get_or run 1 0) where
    there : Opened t format (take n run)
    there = rw w all_there.1

    pub words_opened : Opened t (format_of (take n run)) (take n run)
    words_opened = subst (λ (f : ℕ). Opened t f (take n run)) (sym (opened_format there)) there

    pub words_format : format_of (take n run) ≡ format
    words_format = opened_format there
