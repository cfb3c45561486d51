-- A table that was read has the language of its text. Assumes nothing.
use Rattle.std.proofs.Common.{ℕ, suc, ◌+◌, ◌≤◌, ◌≡◌, refl, inl, inr, List, ◌∷◌, ◌++◌, arith, length, drop, take-append-drop}
use Rattle.grammar.specs.Bytes.{ascii, Literal, done, byte}
use Rattle.grammar.specs.Tree.{Content, Declaration, Nth, first, later}
use Rattle.grammar.specs.Grammar.{Spec, spec_empty, spec_any, spec_text, spec_starred, spec_mixed, spec_children, element, Items, no_more, a_space, a_comment, a_declaration}
use Rattle.grammar.specs.Limits.{Holds, any_content, mixed_content}
use Rattle.model.specs.Languages.{Plain, plain_empty, plain_text, plain_children, SameLanguage}
use Rattle.model.specs.Tables as tables
use Rattle.model.specs.Tables.{table_of}
use Rattle.model.proofs.Numbers.{number_is}
use Rattle.model.proofs.Same.{same_language}
use Rattle.dtd.specs.Answer.{Named, DtdAnswer, refused, too_short}
use Rattle.dtd.specs.Answer as answer
use Rattle.dtd.proofs.OneAnswer.{no_table_number}

module _ {t : List ℕ} {d : Declaration} {ds : List Declaration} (n : Named t d ds) where
  holds : {i k : ℕ} {e : Declaration} → Nth (d ∷ ds) i e → k ≤ length t → Holds t k e
  holds {i} {k} h l = record {
    head = d;
    tail = ds;
    begins = record { inside = l; more_bytes = drop k t; text = rw (take-append-drop k t) n.read.text };
    number = i;
    there = h;
  }

  three : {a b : ℕ} → Literal t (ascii "ANY") a b → 3 + a ≤ length t
  three (byte x (byte y (byte z done))) = omega (arith, z.within)

  plain_spec : {a b i : ℕ} {e : Declaration} {x : Content} → Nth (d ∷ ds) i e → e.content ≡ x → Spec t a b x → Plain x
  plain_spec h q (spec_empty l) = plain_empty
  plain_spec {a = a} h q (spec_any l) = absurd (n.read.small a (inl (any_content (holds h (three l)) q)))
  plain_spec h q (spec_text p s g) = plain_text
  plain_spec h q (spec_starred p m) = plain_text
  plain_spec h q (spec_mixed {c = c} p s g m) = absurd (n.read.small c (inl (mixed_content (holds h g.within) q)))
  plain_spec h q (spec_children c) = plain_children

  plain_items : {a i : ℕ} {es : List Declaration} {e : Declaration} → Items t a es
      → ((f : Declaration) (j : ℕ) → Nth es j f → (k : ℕ) × Nth (d ∷ ds) k f) → Nth es i e → Plain e.content
  plain_items (no_more q) f h = elim h [ ]
  plain_items (a_space o r) f h = plain_items r f h
  plain_items (a_comment c r) f h = plain_items r f h
  plain_items (a_declaration {d = e} (element l s m p u x v g) r) f first = plain_spec (f e 0 first).1 refl x
  plain_items (a_declaration y r) f (later h) = plain_items r (λ e k q. f e (suc k) (later q)) h

  -- for each declared type the two languages are the same
  pub named_language : (format : ℕ) {i : ℕ} {e : Declaration} → Nth (d ∷ ds) i e
      → SameLanguage (table_of format (d ∷ ds)) (length (d ∷ ds)) (tables.number_of (d ∷ ds)) i e.content
  named_language format h = same_language format (d ∷ ds) (λ k z. n.right k (inr z)) h (plain_items n.read.text.items (λ e j q. (j, q)) h)

-- what a done read gives: the table of the text's one tree, in the front of out, with the text's language, each declared type
-- having the number of its declaration
pub record ReadTable (t out : List ℕ) (format : ℕ) (after : List ℕ) : Type 0 where
  pub head : Declaration
  pub tail : List Declaration
  pub named : Named t head tail
  pub written : after ≡ table_of format (head ∷ tail) ++ drop (length (table_of format (head ∷ tail))) out
  pub numbered : (i : ℕ) (e : Declaration) → Nth (head ∷ tail) i e → tables.number_of (head ∷ tail) e.named ≡ i
  pub language : (i : ℕ) (e : Declaration) → Nth (head ∷ tail) i e
      → SameLanguage (table_of format (head ∷ tail)) (length (head ∷ tail)) (tables.number_of (head ∷ tail)) i e.content

pub read_language : {t out after : List ℕ} {format number place : ℕ} → number ≡ 0 → DtdAnswer t out format number place after → ReadTable t out format after
read_language z (refused x k) = absurd ((no_table_number x).0 z)
read_language z (too_short e p x l k) = absurd (omega arith)
read_language {format = format} z (answer.done {d = d} {ds = ds} e p x l k) = record { head = d; tail = ds; named = x.named; written = k; numbered = λ i y h. number_is h (λ j z. x.named.right j (inl z)); language = λ i y h. named_language x.named format h }
