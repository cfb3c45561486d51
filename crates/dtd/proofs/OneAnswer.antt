-- The answer of reading a text admits one outcome only. Assumes nothing.
use Rattle.std.proofs.Common.{ℕ, ◌≤◌, ◌<◌, ◌≡◌, sym, ◌∙◌, ap, subst, ◌≢◌, ◌⊎◌, inl, inr, List, ◌∷◌, ◌++◌, arith, length, drop}
use Rattle.table.specs.Check as table
use Rattle.table.specs.Check.{Refused, Accepted}
use Rattle.table.specs.Privilege.{privileges}
use Rattle.grammar.proofs.Stopping.{le_or_lt, stops_once, text_no_stop}
use Rattle.table.proofs.Answers.{answer_one}
use Rattle.grammar.specs.Tree.{Declaration}
use Rattle.grammar.specs.Stops.{Stops}
use Rattle.model.specs.Names.{Misnamed}
use Rattle.model.specs.Tables.{table_of}
use Rattle.dtd.specs.Answer.{TooLarge, Read, Named, NoTable, no_text, too_large, misnamed, no_table, Tabled, DtdAnswer, refused, too_short, done}
use Rattle.dtd.proofs.Lasting.{check_number}
use Rattle.grammar.proofs.OneTree.{one_tree}

-- the same number, place and run
pub record Same (n m p q : ℕ) (a b : List ℕ) : Type 0 where
  pub number : n ≡ m
  pub place : p ≡ q
  pub after : a ≡ b

-- the least of a kind is one
least_one : {P : ℕ → Type 0} {j k : ℕ} → P j → ((i : ℕ) → i < j → ¬ P i) → P k → ((i : ℕ) → i < k → ¬ P i) → j ≡ k
least_one {P} {j} {k} x f y g = go (le_or_lt j k) (le_or_lt k j)
  where
    go : (j ≤ k) ⊎ (k < j) → (k ≤ j) ⊎ (j < k) → j ≡ k
    go (inl a) (inl b) = omega arith
    go (inl a) (inr b) = absurd (g j b x)
    go (inr a) b = absurd (f k a y)

first_apart : {t : List ℕ} {p q : ℕ} → Stops t p → ((j : ℕ) → j < p → ¬ TooLarge t j) → TooLarge t q → ((j : ℕ) → j ≤ q → ¬ Stops t j) → ⊥
first_apart {t} {p} {q} s f o g = go (le_or_lt p q)
  where
    go : (p ≤ q) ⊎ (q < p) → ⊥
    go (inl l) = g p l s
    go (inr l) = f q l o

names_apart : {t : List ℕ} {p : ℕ} {d c : Declaration} {ds cs : List Declaration} → Read t d ds → Misnamed (d ∷ ds) p → Named t c cs → ⊥
names_apart {p = p} r m n = n.right p (subst (λ (x : List Declaration). Misnamed x p) (one_tree r.text n.read.text) m)

lengths_apart : {n : ℕ} (format : ℕ) {ds cs : List Declaration} → ds ≡ cs → n < length (table_of format ds) → length (table_of format cs) ≤ n → ⊥
lengths_apart format {ds} {cs} z h g = omega (arith, ap (λ (x : List Declaration). length (table_of format x)) z)

-- a refusal has one number and place
pub no_table_one : {t : List ℕ} {format n m p q : ℕ} → NoTable t format n p → NoTable t format m q → (n ≡ m) × (p ≡ q)
no_table_one (no_text e s f) (no_text d r g) = (e ∙ sym d, stops_once s r)
no_table_one (no_text e s f) (too_large d o g h) = absurd (first_apart s f o h)
no_table_one (no_text e s f) (misnamed d r m g) = absurd (text_no_stop r.text s)
no_table_one (no_text e s f) (no_table c d n r) = absurd (text_no_stop n.read.text s)
no_table_one (too_large d o g h) (no_text e s f) = absurd (first_apart s f o h)
no_table_one {t} (too_large e o f g) (too_large d p h i) = (e ∙ sym d, least_one {P = TooLarge t} o f p h)
no_table_one (too_large e o f g) (misnamed d r m h) = absurd (r.small _ o)
no_table_one (too_large e o f g) (no_table c d n r) = absurd (n.read.small _ o)
no_table_one (misnamed d r m g) (no_text e s f) = absurd (text_no_stop r.text s)
no_table_one (misnamed d r m h) (too_large e o f g) = absurd (r.small _ o)
no_table_one {q = q} (misnamed {d} {ds} e r m f) (misnamed {d = c} {ds = cs} i s n g) =
    let z : c ∷ cs ≡ d ∷ ds = one_tree s.text r.text in
    (e ∙ sym i, least_one {P = Misnamed (d ∷ ds)} m f (subst (λ (x : List Declaration). Misnamed x q) z n) (subst (λ (x : List Declaration). (j : ℕ) → j < q → ¬ Misnamed x j) z g))
no_table_one (misnamed d r m g) (no_table c e n k) = absurd (names_apart r m n)
no_table_one (no_table c d n r) (no_text e s f) = absurd (text_no_stop n.read.text s)
no_table_one (no_table c d n r) (too_large e o f g) = absurd (n.read.small _ o)
no_table_one (no_table c e n k) (misnamed d r m g) = absurd (names_apart r m n)
no_table_one {format = format} {q = q} (no_table {d} {ds} k e n r) (no_table {d = c} {ds = cs} l f m s) =
    let z : c ∷ cs ≡ d ∷ ds = one_tree m.read.text n.read.text in
    answer_one (table.refused k e r) (table.refused l f (subst (λ (x : List Declaration). Refused (table_of format x) l q) z s))

-- a text that has a table is not refused
pub no_table_apart : {t : List ℕ} {format n p : ℕ} {d : Declaration} {ds : List Declaration} → NoTable t format n p → Tabled t format d ds → ⊥
no_table_apart (no_text e s f) x = text_no_stop x.named.read.text s
no_table_apart (too_large e o f g) x = x.named.read.small _ o
no_table_apart (misnamed e r m f) x = names_apart r m x.named
no_table_apart {format = format} {p = p} {d} {ds} (no_table {d = c} {ds = cs} k e n r) x =
    let z : d ∷ ds ≡ c ∷ cs = one_tree x.named.read.text n.read.text in
    r.lowest.fails ((subst (λ (y : List Declaration). Accepted (table_of format y)) z x.accepted).passes k p r.lowest.within)

pub tabled_one : {t : List ℕ} {format : ℕ} {d c : Declaration} {ds cs : List Declaration} → Tabled t format d ds → Tabled t format c cs → d ∷ ds ≡ c ∷ cs
tabled_one x y = one_tree x.named.read.text y.named.read.text

-- its number is not 0, that of a table that was written, and not 12, that of one that was not
pub no_table_number : {t : List ℕ} {format n p : ℕ} → NoTable t format n p → (n ≢ 0) × (n ≢ 12)
no_table_number (no_text e s f) = (λ z. omega arith, λ z. omega arith)
no_table_number (too_large e o f g) = (λ z. omega arith, λ z. omega arith)
no_table_number (misnamed e r m f) = (λ z. omega arith, λ z. omega arith)
no_table_number (no_table c e n r) = let k = check_number c in (λ z. omega (arith, k.0), λ z. k.1 (sym e ∙ z))

pub one_answer : {t out a b : List ℕ} {format n m p q : ℕ} → DtdAnswer t out format n p a → DtdAnswer t out format m q b → Same n m p q a b
one_answer (refused x k) (refused y l) = let z = no_table_one x y in record { number = z.0; place = z.1; after = k ∙ sym l }
one_answer (refused x k) (too_short e p y h l) = absurd (no_table_apart x y)
one_answer (refused x k) (done e p y h l) = absurd (no_table_apart x y)
one_answer (too_short e p y h l) (refused x k) = absurd (no_table_apart x y)
one_answer (too_short e p y h l) (too_short d q x g k) = record { number = e ∙ sym d; place = p ∙ sym q; after = l ∙ sym k }
one_answer {format = format} (too_short e p y h l) (done d q x g k) = absurd (lengths_apart format (tabled_one y x) h g)
one_answer (done e p y h l) (refused x k) = absurd (no_table_apart x y)
one_answer {format = format} (done e p y h l) (too_short d q x g k) = absurd (lengths_apart format (tabled_one x y) g h)
one_answer {out = out} {format = format} (done e p y h l) (done d q x g k) =
    let z = ap (table_of format) (tabled_one y x) in
    record { number = e ∙ sym d; place = p ∙ ap privileges z ∙ sym q; after = l ∙ ap (λ (ws : List ℕ). ws ++ drop (length ws) out) z ∙ sym k }
