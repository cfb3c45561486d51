-- What stands at a place of a text stands there in every text that agrees with it. Assumes nothing.
use Rattle.std.proofs.Common.{ℕ, zero, suc, ◌+◌, ◌≤◌, ◌<◌, ◌≡◌, refl, sym, ◌∙◌, ap, ◌⊎◌, inl, inr, Bool, List, [], ◌∷◌, ◌++◌, arith, length, get_or, take, drop, length-append, length-take, take-append-drop}
use Rattle.grammar.specs.Bytes.{Byte, Of, Span, stop, go_on, Literal, done, byte}
use Rattle.scan.specs.Steps.Agree.{peek, Agree}

-- what stands at a place
pub peek_byte : (t : List ℕ) (i : ℕ) → i < length t → peek t i ≡ suc (get_or t i 0)
peek_byte [] i l = absurd (omega arith)
peek_byte (b ∷ t) zero l = refl
peek_byte (b ∷ t) (suc i) l = peek_byte t i (omega arith)

pub peek_end : (t : List ℕ) (i : ℕ) → length t ≤ i → peek t i ≡ 0
peek_end [] i l = refl
peek_end (b ∷ t) zero l = absurd (omega arith)
peek_end (b ∷ t) (suc i) l = peek_end t i (omega arith)

peek_within : (t : List ℕ) (i c : ℕ) → peek t i ≡ suc c → i < length t
peek_within [] i c e = absurd (omega arith)
peek_within (b ∷ t) zero c e = omega arith
peek_within (b ∷ t) (suc i) c e = let h = peek_within t i c e in omega arith

peek_is : (t : List ℕ) (a c : ℕ) → peek t a ≡ suc c → Byte t a c
peek_is t a c e =
    let l = peek_within t a c e in
    record { within = l; is = let z = sym (peek_byte t a l) ∙ e in omega arith }

byte_peek : {t : List ℕ} {a c : ℕ} → Byte t a c → peek t a ≡ suc c
byte_peek {t} {a} g = peek_byte t a g.within ∙ ap suc g.is

peek_front : (u v : List ℕ) (i : ℕ) → i < length u → peek (u ++ v) i ≡ peek u i
peek_front [] v i l = absurd (omega arith)
peek_front (b ∷ u) v zero l = refl
peek_front (b ∷ u) v (suc i) l = peek_front u v i (omega arith)

zero_add : (i : ℕ) → 0 + i ≡ i
zero_add i = omega arith

suc_add : (n i : ℕ) → suc n + i ≡ suc (n + i)
suc_add n i = omega arith

peek_back : (u v : List ℕ) (i : ℕ) → peek (u ++ v) (length u + i) ≡ peek v i
peek_back [] v i = ap (peek v) (zero_add i)
peek_back (b ∷ u) v i = ap (peek (b ∷ (u ++ v))) (suc_add (length u) i) ∙ peek_back u v i

pub peek_take : (t : List ℕ) (k i : ℕ) → i < k → peek (take k t) i ≡ peek t i
peek_take t zero i l = absurd (omega arith)
peek_take [] (suc k) i l = refl
peek_take (b ∷ t) (suc k) zero l = refl
peek_take (b ∷ t) (suc k) (suc i) l = peek_take t k i (omega arith)

-- agreement
pub agree_same : (t : List ℕ) (n : ℕ) → Agree t t n
agree_same t n = record { same = λ i l. refl }

pub agree_sym : {t u : List ℕ} {n : ℕ} → Agree t u n → Agree u t n
agree_sym a = record { same = λ i l. sym (a.same i l) }

pub agree_less : {t u : List ℕ} {m n : ℕ} → m ≤ n → Agree t u n → Agree t u m
agree_less h a = record { same = λ i l. a.same i (omega arith) }

pub agree_on : {t u v : List ℕ} {n : ℕ} → Agree t u n → Agree u v n → Agree t v n
agree_on a b = record { same = λ i l. b.same i l ∙ a.same i l }

pub agree_append : (u v : List ℕ) → Agree u (u ++ v) (length u)
agree_append u v = record { same = λ i l. peek_front u v i l }

pub agree_take : (t : List ℕ) (k : ℕ) → Agree t (take k t) k
agree_take t k = record { same = λ i l. peek_take t k i l }

take_same : (t u : List ℕ) (n : ℕ) → Agree t u n → take n u ≡ take n t
take_same t u zero a = refl
take_same [] [] (suc n) a = refl
take_same [] (c ∷ u) (suc n) a = absurd (let z = a.same 0 (omega arith) in omega arith)
take_same (b ∷ t) [] (suc n) a = absurd (let z = a.same 0 (omega arith) in omega arith)
take_same (b ∷ t) (c ∷ u) (suc n) a =
    let z : c ≡ b = let y = a.same 0 (omega arith) in omega arith in
    let w : take n u ≡ take n t = take_same t u n (record { same = λ i l. a.same (suc i) (omega arith) }) in
    rw (z, w)

-- a text that agrees begins with the same bytes
pub begins_so : (t u : List ℕ) (n : ℕ) → Agree t u n → take n t ++ drop n u ≡ u
begins_so t u n a = ap (λ (l : List ℕ). l ++ drop n u) (sym (take_same t u n a)) ∙ take-append-drop n u

pub agree_so : (t v : List ℕ) (n : ℕ) → n ≤ length t → Agree t (take n t ++ v) n
agree_so t v n h = record { same = λ i l. peek_front (take n t) v i (omega (arith, length-take n t)) ∙ peek_take t n i l }

-- the same bytes, the same pieces
pub byte_local : {t u : List ℕ} {n a c : ℕ} → Agree t u n → a < n → Byte t a c → Byte u a c
byte_local {t} {u} {n} {a} {c} h l g = peek_is u a c (h.same a l ∙ byte_peek g)

pub of_local : {class : ℕ → Bool} {t u : List ℕ} {n a : ℕ} → Agree t u n → a < n → Of class t a → Of class u a
of_local {class} {t} {u} {n} {a} h l g =
    let b = peek_is u a (get_or t a 0) (h.same a l ∙ peek_byte t a g.within) in
    record { within = b.within; is = ap class b.is ∙ g.is }

pub span_le : {class : ℕ → Bool} {t : List ℕ} {a b : ℕ} → Span class t a b → a ≤ b
span_le stop = omega arith
span_le (go_on o s) = let h = span_le s in omega arith

pub span_local : {class : ℕ → Bool} {t u : List ℕ} {n a b : ℕ} → Agree t u n → b ≤ n → Span class t a b → Span class u a b
span_local h l stop = stop
span_local h l (go_on o s) = go_on (of_local h (omega (arith, span_le s)) o) (span_local h l s)

pub literal_le : {t cs : List ℕ} {a b : ℕ} → Literal t cs a b → a ≤ b
literal_le done = omega arith
literal_le (byte g l) = let z = literal_le l in omega arith

pub literal_local : {t u cs : List ℕ} {n a b : ℕ} → Agree t u n → b ≤ n → Literal t cs a b → Literal u cs a b
literal_local h l done = done
literal_local h l (byte g r) = byte (byte_local h (omega (arith, literal_le r)) g) (literal_local h l r)

-- two texts that agree have spans of the same length, where nothing of the class goes on
pub span_same : {class : ℕ → Bool} {t u : List ℕ} {a b c n : ℕ} → Span class t a b → ¬ Of class t b → Span class u a c → ¬ Of class u c → Agree t u n → (b < n) ⊎ (c < n) → b ≡ c
span_same stop f stop g h l = refl
span_same stop f (go_on o s) g h l = absurd (f (of_local (agree_sym h) (elim l [ inl x ↦ x | inr x ↦ omega (arith, span_le s) ]) o))
span_same (go_on o s) f stop g h l = absurd (g (of_local h (elim l [ inl x ↦ omega (arith, span_le s) | inr x ↦ x ]) o))
span_same (go_on o s) f (go_on p r) g h l = span_same s f r g h l

-- a word at the end of a text
literal_of : (u w : List ℕ) (a : ℕ) → ((i : ℕ) → i < length w → peek u (a + i) ≡ peek w i) → (b : ℕ) → b ≡ a + length w → Literal u w a b
literal_of u [] a h b e = let z : b ≡ a = omega arith in rw z done
literal_of u (c ∷ w) a h b e =
    let z : peek u a ≡ suc c = ap (peek u) (sym (add_zero a)) ∙ h 0 (omega arith) in
    byte (peek_is u a c z) (literal_of u w (suc a) (λ i l. ap (peek u) (suc_add_suc a i) ∙ h (suc i) (omega arith)) b (omega arith))
  where
    suc_add_suc : (a i : ℕ) → suc a + i ≡ a + suc i
    suc_add_suc a i = omega arith

    add_zero : (a : ℕ) → a + 0 ≡ a
    add_zero a = omega arith

pub literal_appended : (p w u : List ℕ) → Agree (p ++ w) u (length (p ++ w)) → Literal u w (length p) (length (p ++ w))
literal_appended p w u h =
    let n = length-append p w in
    literal_of u w (length p) (λ i l. h.same (length p + i) (omega arith) ∙ peek_back p w i) (length (p ++ w)) n
