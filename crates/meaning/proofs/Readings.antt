-- Where document 000 needs mending, for a table of format 1, which has the paper's edits. Definition 7 word for word asks also that no text is forbidden:
-- a text replaced by itself is done by doing nothing. Lemma 2 fails on a table of three types. Assumes nothing.
use Prim.Native.Nat.{ℕ}
use mathlib.Core.Path.{◌≡◌, refl, sym, ap, ◌∙◌}
use mathlib.Core.Logic.{◌↔◌, ◌≢◌, inl, inr}
use mathlib.Core.List.{List, [], ◌∷◌}
use native.Mathlib.Omega.{arith}
use lib.ListN.{length, get_or}
use Rattle.table.specs.Sum.{sum_below}
use Rattle.table.specs.Words.{format_of}
use Rattle.table.specs.Rule.{rule_of, rule_at, children_at, count_of, OfKind, IsText, IsStar}
use Rattle.table.specs.Below.{here}
use Rattle.table.specs.Privilege.{gap_of, privileges_at, first_privilege, privileges, text_of, Edit, text, insert, delete, exchange, replace, privilege_of}
use Rattle.table.specs.Check.{Accepted}
use Rattle.table.proofs.Facts.{facts}
use Rattle.policy.specs.Marks.{Allowed, Forbidden}
use Rattle.policy.specs.Renewed.{by_both}
use Rattle.verdict.specs.Conditions.{Clean}
use Rattle.verdict.specs.Forces.{renewal}
use Rattle.verdict.proofs.Forced.{clean_forces}
use Rattle.verdict.proofs.PolicyTests.{accepted_out}
use Rattle.completion.specs.Completions.{LeastCompletion}
use Rattle.completion.specs.Granted.{Granted}
use Rattle.completion.proofs.Least.{completes_grants}
use Rattle.meaning.specs.Trees.{Forest, bare, tree, as_text, as_sequence, as_star, no_tree, conforming, Document, Same}
use Rattle.meaning.specs.Edits.{set_text, put_in, put_out, put_anew, put_for, Makes, at, below, beside, Leads, stay, go}
use Rattle.meaning.specs.Consistent.{Simulates, Imitation}
use Rattle.meaning.specs.SameKind.{SameKindEdit}
use Rattle.meaning.specs.Readings.{Simulation, TextsFree, Counterexample}
use Rattle.meaning.proofs.Putting.{type_in, kids_of, rest_of}
use Rattle.meaning.proofs.Matching.{size, size_put}
use Rattle.meaning.proofs.Orders.{same_refl}
use Rattle.meaning.proofs.Moves.{Moves, leads_moves}
use Rattle.meaning.proofs.Conforming.{makes_offers}
use Rattle.meaning.proofs.Explained.{explains, ahead, linked_rest, linked_first, sequence_run, text_run}
use Rattle.meaning.proofs.Growing.{document_place}
use Rattle.meaning.proofs.SameKind.{format_one}
use Rattle.meaning.proofs.Theorem.{theorem_1}

-- an edit that is none of a text
abbrev NoText : Edit → Type 0
NoText (text x) = ⊥
NoText (insert x) = Unit
NoText (delete x) = Unit
NoText (exchange x) = Unit
NoText (replace x i j) = Unit

module _ {ws : List ℕ} (ok : Accepted ws) where
  -- nor replaces an element by one of its own kind: it changes the tree
  changed : {e : Edit} {t u : Forest} → NoText e → ¬ SameKindEdit e → Makes ws e t u → t ≢ u
  changed h other (at (set_text i)) q = h
  changed h other (at (put_in i y v p)) q = omega (arith, size_put p, ap (λ (t : Forest). size (kids_of t)) q)
  changed h other (at (put_out i p)) q = omega (arith, size_put p, ap (λ (t : Forest). size (kids_of t)) q)
  changed h other (at (put_anew c y v p)) q = other tt
  changed h other (at {x = x} (put_for {i = i} {j = j} o y z v)) q =
      other ((facts ok).child_once x i j o.choice.type o.from o.to (sym y ∙ ap (λ (t : Forest). type_in (kids_of t)) q ∙ z))
  changed h other (below m) q = changed h other m (ap kids_of q)
  changed h other (beside m) q = changed h other m (ap rest_of q)

  no_text : (marks : List ℕ) → TextsFree ws marks → (e : Edit) {t u : Forest} → Makes ws e t u → Forbidden marks (privilege_of ws e) → NoText e
  no_text marks h (text x) m f = h x (makes_offers m) f
  no_text marks h (insert x) m f = tt
  no_text marks h (delete x) m f = tt
  no_text marks h (exchange x) m f = tt
  no_text marks h (replace x i j) m f = tt

  module _ {marks : List ℕ} where
    -- a forbidden text is replaced by itself by doing nothing
    text_simulated : (x : ℕ) → IsText ws x → Forbidden marks (text_of ws x) → Simulation ws marks
    text_simulated x i f =
        let t : Forest = tree x [] bare bare in
        let p = document_place ok x i.type in
        record {
          edit = text x;
          forbidden = f;
          start = p.plug t;
          goal = p.plug t;
          simulates = record {
            document = p.conforms t (conforming (as_text i refl) no_tree no_tree);
            made = p.makes (text x) t t (at (set_text i));
            end = p.plug t;
            leads = stay;
            same_end = same_refl (p.plug t);
          };
        }

    unchanging : format_of ws ≡ 1 → Clean ws marks × TextsFree ws marks → ¬ Simulation ws marks
    unchanging one c s =
        let m = s.simulates in
        let other = format_one ws one s.edit (makes_offers m.made) in
        let d = changed (no_text marks c.1 s.edit m.made s.forbidden) other m.made in
        elim (explains ok other m.made m.document d (leads_moves m.leads m.same_end)) [
          | inl a ↦ absurd (omega (arith, a, s.forbidden))
          | inr f ↦ clean_forces c.0 (privilege_of ws s.edit) f s.forbidden
        ]

    -- word for word
    pub theorem_1_literal : format_of ws ≡ 1 → (Clean ws marks × TextsFree ws marks) ↔ ¬ Simulation ws marks
    theorem_1_literal one = (unchanging one, λ h. ((theorem_1 ok one).1 (λ i. h (simulation i)), λ x t f. h (text_simulated x t f)))
      where
        simulation : Imitation ws Same marks → Simulation ws marks
        simulation i = record { edit = i.edit; forbidden = i.forbidden; start = i.imitates.start; goal = i.imitates.goal; simulates = i.imitates.simulates }

-- Lemma 2 says that where T holds a privilege, any operation of it on any tree can be simulated. But a type may stand at two places, only one of them
-- below the star: R → A, C; A → C*; C → str. To insert and to delete a C below A are allowed, so T holds the text of C; and the text of the C
-- below R stays as it is.
abbrev words : List ℕ
words = 1 ∷ 20 ∷ 3 ∷ 0 ∷ 8 ∷ 3 ∷ 17 ∷ 3 ∷ 2 ∷ 2 ∷ 0 ∷ 4 ∷ 1 ∷ 2 ∷ 1 ∷ 0 ∷ 3 ∷ 1 ∷ 2 ∷ 2 ∷ []

abbrev allowing : List ℕ
allowing = 1 ∷ 1 ∷ 0 ∷ []

abbrev document : List ℕ → Forest
document s = tree 0 [] (tree 1 [] bare (tree 2 s bare bare)) bare

is_text : IsText words 2
unfolding rule_at rule_of
is_text = record { type = omega arith; kind_is = refl }

is_star : IsStar words 1
unfolding rule_at rule_of
is_star = record { type = omega arith; kind_is = refl }

is_sequence : OfKind words 0 2
unfolding rule_at rule_of
is_sequence = record { type = omega arith; kind_is = refl }

text_is : text_of words 2 ≡ 2
unfolding first_privilege gap_of privileges_at rule_at rule_of sum_below
text_is = refl

words_accepted : Accepted words
unfolding first_privilege gap_of privileges_at privileges children_at count_of rule_at rule_of sum_below
words_accepted = accepted_out refl

text_granted : Granted words (Allowed allowing) (privilege_of words (text 2))
unfolding first_privilege gap_of privileges_at children_at rule_at rule_of sum_below
text_granted = inr (renewal 1 is_star (by_both (record { insert = refl; delete = refl }))
    (record { type = 2; belongs = record { type = omega arith; from = omega arith; until = omega arith }; below = here }))

is_document : Document words (document [])
unfolding children_at rule_at rule_of
is_document = conforming (as_sequence is_sequence refl refl)
    (conforming (as_star 0 is_star refl refl) no_tree (conforming (as_text is_text refl) no_tree no_tree)) no_tree

stays : ¬ Moves words (Allowed allowing) (document []) (document (0 ∷ []))
stays run = elim (text_run (linked_first bare (linked_rest (ahead (sequence_run run is_sequence))))) [
  | inl e ↦ omega (arith, ap {A = List ℕ} length e)
  | inr h ↦ omega (arith, h.1, ap (λ (p : ℕ). get_or allowing p 0) text_is)
]

text_made : Makes words (text 2) (document []) (document (0 ∷ []))
text_made = below (beside (at (set_text is_text)))

never : ¬ Simulates words Same (Allowed allowing) (text 2) (document []) (document (0 ∷ []))
never s = stays (leads_moves s.leads s.same_end)

pub lemma_2_fails : Counterexample
lemma_2_fails = record {
  ws = words;
  marks = allowing;
  accepted = words_accepted;
  fails = λ h. never (h (text 2) (document []) (document (0 ∷ [])) text_granted is_document text_made);
}

-- so a completion may let people do what they could not do before: it allows the text of every C
pub completion_adds : (n : List ℕ) → LeastCompletion words allowing n
    → Leads words (Allowed n) (document []) (document (0 ∷ [])) × (¬ Simulates words Same (Allowed allowing) (text 2) (document []) (document (0 ∷ [])))
completion_adds n c = (go (text 2) (completes_grants c.completes (privilege_of words (text 2)) text_granted) text_made stay, never)
