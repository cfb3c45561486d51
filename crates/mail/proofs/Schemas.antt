-- What a schema gives: names of at most 32 bytes, and labels that can be told apart. Assumes nothing.
use Rattle.std.proofs.Common.{ℕ, suc, ◌+◌, ◌≤◌, ◌<◌, refl, ap, inl, inr, List, ◌∷◌, arith, length, take, drop, length-take, length-drop, take-append-drop}
use Rattle.table.specs.Words.{types}
use Rattle.grammar.specs.Tree.{Declaration, Nth, first, later}
use Rattle.grammar.specs.Grammar.{no_more, element, Items, a_space, a_comment, a_declaration}
use Rattle.grammar.specs.Limits.{declared_name, long_name}
use Rattle.grammar.proofs.Stopping.{le_or_lt}
use Rattle.model.specs.Tables.{rules_of, table_of}
use Rattle.model.proofs.Words.{types_are}
use Rattle.model.proofs.Counts.{declared_few}
use Rattle.dtd.specs.Answer.{many_types, Read}
use Rattle.labels.specs.Steps.Booked.{Labelled, Short}
use Rattle.labels.proofs.Labelling.{labelled}
use Rattle.mail.specs.Answers.{Schema, labels_of}

-- a declared name stands at its place, within the text
name_within : {t : List ℕ} {a i : ℕ} {x : Declaration} {ds : List Declaration} → Items t a ds → Nth ds i x → x.place + length x.named ≤ length t
name_within {t = t} {i = i} (no_more {a = a} _) n = elim n [ ]
name_within (a_space o r) n = name_within r n
name_within (a_comment c r) n = name_within r n
name_within {t} (a_declaration (element {c = c} {d = d} l s n p u x v g) r) first =
    omega (arith, p, n.start.within, ap {A = List ℕ} length n.is, length-drop c (take d t), length-take d t)
name_within (a_declaration x r) (later n) = name_within r n

module _ {t : List ℕ} {d : Declaration} {ds : List Declaration} (r : Read t d ds) where
  pub names_short : Short (d ∷ ds)
  names_short = record { each = λ i x n. (elim (le_or_lt (length x.named) 32) [ inl h ↦ h | inr h ↦ absurd (over i x n h) ]) }
    where
      over : (i : ℕ) (x : Declaration) → Nth (d ∷ ds) i x → 32 < length x.named → ⊥
      over i x n h =
          let k = x.place + 32 in
          r.small k (inl (long_name (record {
            head = d;
            tail = ds;
            begins = record { inside = omega (arith, name_within r.text.items n); more_bytes = drop (suc k) t; text = rw (take-append-drop (suc k) t) r.text };
            number = i;
            there = n;
          }) declared_name refl h))

  pub types_few : length (rules_of (d ∷ ds)) ≤ 256
  types_few = elim (le_or_lt (length (rules_of (d ∷ ds))) 256) [ inl h ↦ h | inr h ↦ absurd (r.small (length t) (inr (many_types refl r.text h))) ]

pub schema_labelled : {t : List ℕ} {format : ℕ} {d : Declaration} {ds : List Declaration} → Schema t format d ds
    → Labelled (labels_of (d ∷ ds)) (types (table_of format (d ∷ ds)))
schema_labelled {t} {format} {d} {ds} s =
    let r = s.tabled.named.read in
    let n = types_are format (rules_of (d ∷ ds)) in
    labelled t (d ∷ ds) (types (table_of format (d ∷ ds))) r.text.items (names_short r) (λ k x. s.tabled.named.right k (inl x))
    (omega (arith, n, declared_few (d ∷ ds))) (omega (arith, n, types_few r))
