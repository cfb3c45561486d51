-- Tests of the bytes of a text, and the smallest pieces read by them. Assumes nothing.
use Rattle.std.proofs.Common.{ℕ, zero, suc, ◌+◌, ◌≤◌, ◌≡◌, refl, subst, inl, inr, Bool, true, false, List, [], ◌∷◌, Option, Some, None, arith, T, eqb, length, get_or, eqb-true, eq-eqb, Result, Ok, Err}
use Rattle.table.proofs.Test.{Test, means}
use Rattle.grammar.specs.Bytes.{is_space, is_name_start, is_name_byte, Byte, Of, Span, stop, go_on, done}
use Rattle.scan.specs.Steps.Agree.{peek}
use Rattle.scan.specs.Steps.Readers.{BlanksRead, SpaceRead, MaybeRead, taken, left, NameRead, here, WordRead}
use Rattle.scan.specs.declared.Stop.{Stop}
use Rattle.scan.specs.declared.Stop.TheVariants.{Bad, Over}
use Rattle.grammar.proofs.Stopping.{le_or_lt}
use Rattle.scan.proofs.Agreeing.{peek_byte, peek_end}
use Rattle.scan.proofs.Told.{span_more, word_more}

-- by the bit of a test
abbrev choose : {P A : Type 0} (b : Bool) → (T b → P) → (P → T b) → (P → A) → ((¬ P) → A) → A
choose true out into so else-so = so (out tt)
choose false out into so else-so = else-so into

abbrev pub when : {P A : Type 0} → Test P → (P → A) → ((¬ P) → A) → A
when p so else-so = choose p.run p.out p.into so else-so

-- what holds of both
pub by_when : {P A : Type 0} (R : A → Type 0) (p : Test P) {f : P → A} {g : (¬ P) → A} → ((x : P) → R (f x)) → ((x : ¬ P) → R (g x)) → R (when p f g)
by_when {P} {A} R p {f} {g} h k = go p.run p.out p.into
  where
    go : (b : Bool) (out : T b → P) (into : P → T b) → R (choose b out into f g)
    go true out into = h (out tt)
    go false out into = k into

-- a byte of a class
abbrev within : (ℕ → Bool) → ℕ → Bool
within class zero = false
within class (suc b) = class b

to_true : (b : Bool) → T b → b ≡ true
to_true true h = refl
to_true false h = absurd h

of_true : (b : Bool) → b ≡ true → T b
of_true b e = rw e tt

pub of_out : (class : ℕ → Bool) (t : List ℕ) (a : ℕ) → T (within class (peek t a)) → Of class t a
of_out class t a h = elim (le_or_lt (length t) a) [
  | inl l ↦ absurd (subst (λ (n : ℕ). T (within class n)) (peek_end t a l) h)
  | inr l ↦ record { within = l; is = to_true (class (get_or t a 0)) (subst (λ (n : ℕ). T (within class n)) (peek_byte t a l) h) }
]

pub of_into : (class : ℕ → Bool) (t : List ℕ) (a : ℕ) → Of class t a → T (within class (peek t a))
of_into class t a o = rw (peek_byte t a o.within) (of_true (class (get_or t a 0)) o.is)

abbrev pub of : (class : ℕ → Bool) (t : List ℕ) (a : ℕ) → Test (Of class t a)
of class t a = record { run = within class (peek t a); out = of_out class t a; into = of_into class t a }

abbrev pub byte_is : (t : List ℕ) (a c : ℕ) → Test (Byte t a c)
byte_is t a c = means (λ o. record { within = o.within; is = eqb-true (get_or t a 0) c o.is }) (λ b. record { within = b.within; is = eq-eqb (get_or t a 0) c b.is }) (of (λ b. eqb b c) t a)

-- white space, at most n bytes of it
abbrev Blank : List ℕ → ℕ → Type 0
Blank t a = Option ((b : ℕ) × BlanksRead t a b)

pub one_blank : {t : List ℕ} {a b : ℕ} → Of is_space t a → BlanksRead t (suc a) b → BlanksRead t a b
one_blank o x = record { inside = x.inside; blanks = go_on o x.blanks; over = x.over }

abbrev blank_more : (t : List ℕ) (a : ℕ) → Of is_space t a → Blank t (suc a) → Blank t a
blank_more t a o None = None
blank_more t a o (Some x) = Some (x.0, one_blank o x.1)

abbrev pub blanks_at : (n : ℕ) (t : List ℕ) (a : ℕ) → a ≤ length t → Blank t a
blanks_at zero t a l = None
blanks_at (suc n) t a l = when (of is_space t a) (λ o. blank_more t a o (blanks_at n t (suc a) o.within)) (λ f. Some (a, record { inside = l; blanks = stop; over = f }))

abbrev space_more : (t : List ℕ) (a : ℕ) → Of is_space t a → Blank t (suc a) → Option ((r : Result ℕ Stop) × SpaceRead t a r)
space_more t a o None = None
space_more t a o (Some x) = Some (Ok x.0, (o, x.1))

abbrev pub space_at : (n : ℕ) (t : List ℕ) (a : ℕ) → Option ((r : Result ℕ Stop) × SpaceRead t a r)
space_at n t a = when (of is_space t a) (λ o. space_more t a o (blanks_at n t (suc a) o.within)) (λ f. Some (Err (Bad a), (refl, f)))

-- one byte of a class, or none
abbrev pub maybe_at : (class : ℕ → Bool) (t : List ℕ) (a : ℕ) → (b : ℕ) × MaybeRead class t a b
maybe_at class t a = when (of class t a) (λ o. (suc a, taken o)) (λ f. (a, left f))

-- a word
abbrev word_more_of : (t : List ℕ) (c : ℕ) (cs : List ℕ) (a : ℕ) → Byte t a c → (r : Result ℕ Stop) × WordRead t cs (suc a) r → (r : Result ℕ Stop) × WordRead t (c ∷ cs) a r
word_more_of t c cs a b x = (x.0, word_more t cs c a b x.0 x.1)

abbrev pub word_at : (cs t : List ℕ) (a : ℕ) → a ≤ length t → (r : Result ℕ Stop) × WordRead t cs a r
word_at [] t a l = (Ok a, (l, done))
word_at (c ∷ cs) t a l = when (byte_is t a c) (λ b. word_more_of t c cs a b (word_at cs t (suc a) b.within)) (λ f. (Err (Bad a), here l f))

-- a name, of which n bytes more are allowed
abbrev name_from : (n : ℕ) (t : List ℕ) (a i : ℕ) → n + i ≡ a + 32 → Of is_name_start t a → Span is_name_byte t (suc a) i → i ≤ length t → (r : Result ℕ Stop) × NameRead t a r
name_from zero t a i e o s l = when (of is_name_byte t i) (λ g. (Err (Over i), record { start = o; rest = s; goes_on = g; long = omega (arith, e) }))
    (λ f. (Ok i, record { inside = l; start = o; rest = s; over = f; short = omega (arith, e) }))
name_from (suc n) t a i e o s l = when (of is_name_byte t i) (λ g. name_from n t a (suc i) (omega (arith, e)) o (span_more s g) g.within)
    (λ f. (Ok i, record { inside = l; start = o; rest = s; over = f; short = omega (arith, e) }))

abbrev pub name_at : (t : List ℕ) (a : ℕ) → (r : Result ℕ Stop) × NameRead t a r
name_at t a = when (of is_name_start t a) (λ o. name_from 31 t a (suc a) (omega arith) o stop o.within) (λ f. (Err (Bad a), (refl, f)))
