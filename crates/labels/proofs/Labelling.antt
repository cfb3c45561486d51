-- The labels of a text's types: a declared type's is a name of the grammar, a made type's is `#` and its number, and no two are the same. Assumes
-- nothing.
use Rattle.std.proofs.Common.{ℕ, zero, suc, ◌≤◌, ◌<◌, ◌≡◌, refl, sym, ap, ◌∙◌, ◌≢◌, ◌⊎◌, inl, inr, Bool, true, false, List, [], ◌∷◌, arith, length, get_or, drop, lt-ltb, le-ltb}
use Prim.Native.Char.{code}
use Rattle.std.proofs.Math.ListN.{length-map}
use Rattle.std.proofs.Math.Seq.{slice, slice_empty, slice-cons}
use Rattle.table.proofs.Lists.{le_or_lt}
use Rattle.grammar.specs.Bytes.{is_name_start, is_name_byte, Span, stop, go_on}
use Rattle.grammar.specs.Tree.{Declaration, Nth, first, later}
use Rattle.grammar.specs.Grammar.{Name, Element, element, Items, no_more, a_space, a_comment, a_declaration}
use Rattle.grammar.proofs.Pieces.{true_false}
use Rattle.scan.proofs.Agreeing.{span_le}
use Rattle.scan.proofs.Pieces.{span_in}
use Rattle.model.specs.Names.{DeclaredBefore}
use Rattle.model.specs.Tables.{names_of}
use Rattle.names.proofs.Nths.{nth_below}
use Rattle.names.proofs.Spans.{name_span}
use Rattle.labels.specs.Labels.{label_of}
use Rattle.labels.specs.Steps.Booked.{label_in, Plain, Labelled, Short, Alike, LabelsRead}
use Rattle.labels.specs.Steps.Entered.{made_label}
use Rattle.labels.proofs.Decimals.{decimal_one, decimal_short, decimal_plain}

pub alike_labelled : {label other : ℕ → List ℕ} {e : ℕ} → Alike label other e → Labelled other e → Labelled label e
alike_labelled a o = record {
  short = λ x h. rw (a x h) (o.short x h);
  plain = λ x h. rw (a x h) (o.plain x h);
  apart = λ x y h l q. o.apart x y h l (sym (a x h) ∙ q ∙ a y l);
}

-- the name of a declaration, by its number
names_at : {ds : List Declaration} {i : ℕ} {d : Declaration} → Nth ds i d → get_or (names_of ds) i [] ≡ d.named
names_at first = refl
names_at (later n) = names_at n

pub label_declared : {ds : List Declaration} {i : ℕ} {d : Declaration} → Nth ds i d → label_of (names_of ds) i ≡ d.named
unfolding label_of
label_declared {ds} {i} n =
    let l = nth_below n in
    rw (lt-ltb i (length (names_of ds)) (omega (arith, length-map ds (λ d. d.named)))) (names_at n)

pub label_made : (ds : List Declaration) (i : ℕ) → length ds ≤ i → label_of (names_of ds) i ≡ made_label i
unfolding label_of
label_made ds i h = rw (le-ltb i (length (names_of ds)) (omega (arith, length-map ds (λ d. d.named))))

record Declares (ds : List Declaration) (i : ℕ) : Type 0 where
  declaration : Declaration
  there : Nth ds i declaration

nth_there : (ds : List Declaration) (i : ℕ) → i < length ds → Declares ds i
nth_there [] i h = absurd (omega arith)
nth_there (d ∷ ds) zero h = record { declaration = d; there = first }
nth_there (d ∷ ds) (suc i) h = let r = nth_there ds i (omega arith) in record { declaration = r.declaration; there = later r.there }

-- the bytes of a name
record Named (n : List ℕ) : Type 0 where
  some : 0 < length n
  start : is_name_start (get_or n 0 0) ≡ true
  each : (k : ℕ) → k < length n → is_name_byte (get_or n k 0) ≡ true

span_bytes : {class : ℕ → Bool} {t : List ℕ} {a b : ℕ} → Span class t a b → b ≤ length t → (n : List ℕ) → n ≡ slice a b t
    → (k : ℕ) → k < length n → class (get_or n k 0) ≡ true
span_bytes {t = t} {a = a} stop l n e k h = absurd (let z = ap length (e ∙ slice_empty a t) in omega arith)
span_bytes {class} {t} {a} {b} (go_on o s) l n e k h = rw q (go (span_bytes s l (slice (suc a) b t) refl) k (rw q at h))
  where
    q : n ≡ get_or t a 0 ∷ slice (suc a) b t
    q = e ∙ slice-cons a b t 0 (span_le s) l

    go : ((k : ℕ) → k < length (slice (suc a) b t) → class (get_or (slice (suc a) b t) k 0) ≡ true) → (k : ℕ)
        → k < length (get_or t a 0 ∷ slice (suc a) b t) → class (get_or (get_or t a 0 ∷ slice (suc a) b t) k 0) ≡ true
    go rest zero h = o.is
    go rest (suc k) h = rest k (omega arith)

named_name : {t n : List ℕ} {a b : ℕ} → Name t a b n → Named n
named_name {t} {n} {a} {b} m = record {
  some = rw q (omega arith);
  start = rw q m.start.is;
  each = span_bytes (name_span m) inside n m.is;
}
  where
    inside : b ≤ length t
    inside = span_in m.rest m.start.within

    q : n ≡ get_or t a 0 ∷ slice (suc a) b t
    q = m.is ∙ slice-cons a b t 0 (span_le m.rest) inside

element_named : {t : List ℕ} {a b : ℕ} {d : Declaration} → Element t a b d → Named d.named
element_named (element l s n p u x v g) = named_name n

items_named : {t : List ℕ} {a i : ℕ} {d : Declaration} {ds : List Declaration} → Items t a ds → Nth ds i d → Named d.named
items_named {t = t} {i = i} {d = d} (no_more {a = a} _) n = elim n [ ]
items_named (a_space o r) n = items_named r n
items_named (a_comment c r) n = items_named r n
items_named (a_declaration x r) first = element_named x
items_named (a_declaration x r) (later n) = items_named r n

-- what it has no byte of
named_without : {n : List ℕ} (c : ℕ) → is_name_byte c ≡ false → Named n → (k : ℕ) → k < length n → get_or n k 0 ≢ c
named_without {n} c f x k h e = true_false (x.each k h) (ap is_name_byte e ∙ f)

named_plain : {n : List ℕ} → Named n → Plain n
named_plain x = record { blank = named_without (code " ") refl x; newline = named_without (code "\n") refl x }

made_short : (i : ℕ) → i < 1000 → length (made_label i) ≤ 32
made_short i h = omega (arith, decimal_short i h)

made_plain : (i : ℕ) → i < 1000 → Plain (made_label i)
made_plain i h = record { blank = blank; newline = newline }
  where
    blank : (k : ℕ) → k < length (made_label i) → get_or (made_label i) k 0 ≢ code " "
    blank zero l = λ e. omega arith
    blank (suc k) l = (decimal_plain i h).blank k (omega arith)

    newline : (k : ℕ) → k < length (made_label i) → get_or (made_label i) k 0 ≢ code "\n"
    newline zero l = λ e. omega arith
    newline (suc k) l = (decimal_plain i h).newline k (omega arith)

-- a declared name does not begin with `#`
named_made : {n : List ℕ} (i : ℕ) → Named n → n ≢ made_label i
named_made i x e = true_false x.start (ap (λ (l : List ℕ). is_name_start (get_or l 0 0)) e)

-- the two kinds of labels
data LabelView (ds : List Declaration) (i : ℕ) : Type 0 where
  declared : (d : Declaration) → Nth ds i d → Named d.named → label_of (names_of ds) i ≡ d.named → LabelView ds i
  made : label_of (names_of ds) i ≡ made_label i → LabelView ds i

label_view : {t : List ℕ} {ds : List Declaration} → Items t 0 ds → (i : ℕ) → LabelView ds i
label_view {t} {ds} x i = go (le_or_lt (length ds) i)
  where
    go : (length ds ≤ i) ⊎ (i < length ds) → LabelView ds i
    go (inl h) = made (label_made ds i h)
    go (inr h) = let r = nth_there ds i h in declared r.declaration r.there (items_named x r.there) (label_declared r.there)

-- two declarations with one name are one
names_apart : {ds : List Declaration} {i j : ℕ} {d f : Declaration} → ((k : ℕ) → ¬ DeclaredBefore ds k) → Nth ds i d → Nth ds j f → d.named ≡ f.named
    → i ≡ j
names_apart {ds} {i} {j} {d} {f} none n m e = go (le_or_lt i j) (le_or_lt j i)
  where
    go : (i ≤ j) ⊎ (j < i) → (j ≤ i) ⊎ (i < j) → i ≡ j
    go (inl h) (inl l) = omega arith
    go (inl h) (inr l) = absurd (none f.place (record { i = i; j = j; one = d; other = f; earlier = l; at_one = n; at_other = m; same = e; is = refl }))
    go (inr h) l =
        absurd (none d.place (record { i = j; j = i; one = f; other = d; earlier = h; at_one = m; at_other = n; same = sym e; is = refl }))

pub labelled : (t : List ℕ) (ds : List Declaration) (e : ℕ) → Items t 0 ds → Short ds → ((k : ℕ) → ¬ DeclaredBefore ds k) → length ds ≤ e → e ≤ 256
    → Labelled (label_of (names_of ds)) e
labelled t ds e x s none l h = record {
  short = λ i g. short i g (label_view x i);
  plain = λ i g. plain i g (label_view x i);
  apart = λ i j g k q. apart i j g k q (label_view x i) (label_view x j);
}
  where
    short : (i : ℕ) → i < e → LabelView ds i → length (label_of (names_of ds) i) ≤ 32
    short i g (declared d n m q) = rw q (s.each i d n)
    short i g (made q) = rw q (made_short i (omega arith))

    plain : (i : ℕ) → i < e → LabelView ds i → Plain (label_of (names_of ds) i)
    plain i g (declared d n m q) = rw q (named_plain m)
    plain i g (made q) = rw q (made_plain i (omega arith))

    apart : (i j : ℕ) → i < e → j < e → label_of (names_of ds) i ≡ label_of (names_of ds) j → LabelView ds i → LabelView ds j → i ≡ j
    apart i j g k q (declared d n m a) (declared f o r b) = names_apart none n o (sym a ∙ q ∙ b)
    apart i j g k q (declared d n m a) (made b) = absurd (named_made j m (sym a ∙ q ∙ b))
    apart i j g k q (made a) (declared f o r b) = absurd (named_made i r (sym b ∙ sym q ∙ a))
    apart i j g k q (made a) (made b) =
        decimal_one i j (omega arith) (omega arith) (ap (λ (l : List ℕ). drop 1 l) (sym a ∙ q ∙ b))

-- the same of the labels that were put
pub read_labelled : {t names starts : List ℕ} {ds : List Declaration} {e : ℕ} → LabelsRead t e names starts → Items t 0 ds → Short ds
    → ((k : ℕ) → ¬ DeclaredBefore ds k) → length ds ≤ e → e ≤ 256 → Labelled (label_in names starts) e
read_labelled {t} {ds = ds} {e = e} r x s none l h = alike_labelled (r.of ds x s l h) (labelled t ds e x s none l h)
