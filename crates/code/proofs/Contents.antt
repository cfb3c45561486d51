-- Contents in code. Assumes nothing.
use Rattle.std.proofs.Common.{ℕ, suc, ◌≤◌, min, ◌≡◌, refl, sym, ◌∙◌, ◌≢◌, ◌⊎◌, inl, inr, true, false, List, [], ◌∷◌, ◌++◌, arith, length, length-append}
use Prim.Native.Char.{code}
use Rattle.grammar.specs.Bytes.{Byte}
use Rattle.grammar.specs.Tree.{Particle, Content, is_children, Declaration}
use Rattle.grammar.specs.Grammar.{Children, as_choice, as_sequence, cp_group, Pcdata, Spec, spec_empty, spec_any, spec_text, spec_starred, spec_mixed, spec_children}
use Rattle.grammar.proofs.Pieces.{After, clash, off, literal_start}
use Rattle.grammar.proofs.Unique.{row_no_space}
use Rattle.grammar.proofs.OneTree.{row_no_number_sign}
use Rattle.model.specs.Model.{Model, Operator, element, made, either, in_order, optional, repeated, positive, model_of}
use Rattle.model.specs.Tables.{number_of}
use Rattle.scan.specs.Steps.Readers.{BlanksRead}
use Rattle.write.specs.Steps.Code.{word_of, code_of, code_of_each, code_of_operator, code_of_model, code_of_content}
use Rattle.code.specs.Steps.Holding.{Holds, Emits, Inserts}
use Rattle.code.specs.Steps.Putting.{Known, ParticlePut, TextRead, ShallowIn, ContentPut}
use Rattle.code.proofs.Shifting.{front_of}
use Rattle.code.proofs.Particles.{emits_one, same_blanks}

children_open : {t : List ℕ} {a b : ℕ} {p : Particle} → Children t a b p → Byte t a (code "(")
children_open (as_choice g s r m) = g
children_open (as_sequence g s r m) = g

-- what a content begins with
data Begins (t : List ℕ) (a e : ℕ) (x : Content) : Type 0 where
  with_letter : {c : ℕ} → Byte t a c → (c ≡ code "E") ⊎ (c ≡ code "A") → ((number : List ℕ → ℕ) → code_of_content number x ≡ word_of 1 0 ∷ []) → Begins t a e x
  with_text : {c : ℕ} → Pcdata t a c → ((number : List ℕ → ℕ) → code_of_content number x ≡ word_of 2 0 ∷ []) → Begins t a e x
  with_children : (p : Particle) → Children t a e p → x ≡ is_children p → Begins t a e x

begins : {t : List ℕ} {a e : ℕ} {x : Content} → Spec t a e x → Begins t a e x
begins (spec_empty l) = with_letter (literal_start l) (inl refl) (λ number. refl)
begins (spec_any l) = with_letter (literal_start l) (inr refl) (λ number. refl)
begins (spec_text p s g) = with_text p (λ number. refl)
begins (spec_starred p n) = with_text p (λ number. refl)
begins (spec_mixed p s g n) = with_text p (λ number. refl)
begins (spec_children {p = p} c) = with_children p c refl

-- '#' stands where a text's word begins, and no particle begins with it
text_sign : {t : List ℕ} {a b c : ℕ} → BlanksRead t (suc a) b → Pcdata t a c → Byte t b (code "#")
text_sign s p = let z = same_blanks s p.blanks (off (literal_start p.word) refl) in rw (sym z) at (literal_start p.word)

no_sign : {t : List ℕ} {a b e : ℕ} {p : Particle} → BlanksRead t (suc a) b → Byte t b (code "#") → Children t a e p → ⊥
no_sign s g (as_choice h w r k) = let z = same_blanks s w (row_no_space r) in row_no_number_sign r (rw z at g)
no_sign s g (as_sequence h w r k) = let z = same_blanks s w (row_no_space r) in row_no_number_sign r (rw z at g)

module _ {t list before after : List ℕ} {count at size grown : ℕ} where
  pub letter_put : {c : ℕ} → Byte t at c → (c ≡ code "E") ⊎ (c ≡ code "A") → Inserts before size size 65536 after grown → ContentPut t list count at before size after grown
  letter_put {c} g l i = record { of = λ ds k x e s a h. of ds (begins s); kept = i.kept }
    where
      not_open : Byte t at (code "(") → ⊥
      not_open h = elim l [ inl z ↦ (let y = clash g h in omega arith) | inr z ↦ (let y = clash g h in omega arith) ]

      of : (ds : List Declaration) {e : ℕ} {x : Content} → Begins t at e x → Emits (code_of_content (number_of ds) x) before size after grown
      of ds (with_letter h m q) = rw (q (number_of ds)) (emits_one i)
      of ds (with_text p q) = absurd (not_open p.open_it)
      of ds (with_children p c q) = absurd (not_open (children_open c))

  pub text_put : TextRead t at true → Inserts before size size 131072 after grown → ContentPut t list count at before size after grown
  text_put y i = record { of = λ ds k x e s a h. of ds (begins s); kept = i.kept }
    where
      of : (ds : List Declaration) {e : ℕ} {x : Content} → Begins t at e x → Emits (code_of_content (number_of ds) x) before size after grown
      of ds (with_letter h m q) = absurd (elim m [ inl z ↦ (let w = clash y.0 h in omega arith) | inr z ↦ (let w = clash y.0 h in omega arith) ])
      of ds (with_text p q) = rw (q (number_of ds)) (emits_one i)
      of ds (with_children p c q) = absurd (no_sign y.1.1 y.1.2 c)

-- a name's code is one word, an operator's is longer
code_some : (number : List ℕ → ℕ) (m : Model) → 1 ≤ length (code_of number m)
code_some number (element n) = omega arith
code_some number (made o) = operator_some number o
  where
    operator_some : (number : List ℕ → ℕ) (o : Operator) → 1 ≤ length (code_of_operator number o)
    operator_some number (either m ms) = omega arith
    operator_some number (in_order m ms) = omega arith
    operator_some number (optional m) = omega arith
    operator_some number (repeated m) = omega arith
    operator_some number (positive m) = omega arith

code_long : (number : List ℕ → ℕ) (o : Operator) → 2 ≤ length (code_of_operator number o)
code_long number (either m ms) = omega (arith, code_some number m, length-append (code_of number m) (code_of_each number ms))
code_long number (in_order m ms) = omega (arith, code_some number m, length-append (code_of number m) (code_of_each number ms))
code_long number (optional m) = omega (arith, code_some number m)
code_long number (repeated m) = omega (arith, code_some number m)
code_long number (positive m) = omega (arith, code_some number m)

-- behind what fits, one list is as good as another
holds_long : {b : List ℕ} {g : ℕ} (l c d : List ℕ) → 1280 ≤ length l → 1 ≤ length c → 1 ≤ length d → Holds b g (l ++ c) → Holds b g (l ++ d)
holds_long l c d h i j x = record {
  sized = omega (arith, x.sized, length-append l c, length-append l d);
  same = λ k m n. (x.same k (omega (arith, length-append l c)) n ∙ front_of l c k (omega arith) ∙ sym (front_of l d k (omega arith)));
}

module _ {t list before mid : List ℕ} {count at size e n : ℕ} (x : ParticlePut t list count 16 at before size mid e n) (no-e : ¬ Byte t at (code "E")) (no-a : ¬ Byte t at (code "A")) (y : TextRead t at false) where
  -- a content of particles
  only_children : {after : List ℕ} {grown : ℕ} → ((ds : List Declaration) (m : Model) → Emits (code_of (number_of ds) m) before size mid n → Emits (code_of_model (number_of ds) m) before size after grown)
      → (ds : List Declaration) → Known t list count ds → (c : Content) (f : ℕ) → Begins t at f c → After t f → ShallowIn c → Emits (code_of_content (number_of ds) c) before size after grown
  only_children g ds k c f (with_letter h m q) a s = absurd (elim m [ inl z ↦ no-e (rw z at h) | inr z ↦ no-a (rw z at h) ])
  only_children g ds k c f (with_text p q) a s = absurd (let z = y p.open_it in z.2 (text_sign z.1 p))
  only_children g ds k c f (with_children p r q) a s = rw q (g ds (model_of p) (x.of ds k p f (cp_group r) a (rw q at s)).1)

  pub children_put : {m : ℕ} → m ≡ min (suc size) 1281 → n ≢ m → ContentPut t list count at before size mid n
  children_put {m} z f = record { of = λ ds k c e s a h. only_children go ds k c e (begins s) a h; kept = x.ends.kept }
    where
      go : (ds : List Declaration) (w : Model) → Emits (code_of (number_of ds) w) before size mid n → Emits (code_of_model (number_of ds) w) before size mid n
      go ds (element a) u = record { holds = λ l h. absurd (f (let v = (u.holds l h).sized in let q = h.sized in omega (arith, length-append l (code_of (number_of ds) (element a))))) }
      go ds (made o) u = u

  pub lone_put : {m grown : ℕ} {after : List ℕ} → m ≡ min (suc size) 1281 → n ≡ m → Inserts mid n size 196609 after grown → ContentPut t list count at before size after grown
  lone_put {m} {grown} {after} z f i = record { of = λ ds k c e s a h. only_children go ds k c e (begins s) a h; kept = i.kept ∙ x.ends.kept }
    where
      go : (ds : List Declaration) (w : Model) → Emits (code_of (number_of ds) w) before size mid n → Emits (code_of_model (number_of ds) w) before size after grown
      go ds (element a) u = record { holds = λ l h. i.holds l (code_of (number_of ds) (element a)) h.sized (u.holds l h) }
      go ds (made o) u = record {
        holds = λ l h. (let c = code_of_operator (number_of ds) o in
            let v = (u.holds l h).sized in
            let q = h.sized in
            let g = code_long (number_of ds) o in
            holds_long l (196609 ∷ c) c (omega (arith, length-append l c)) (omega arith) (omega arith) (i.holds l c h.sized (u.holds l h)));
      }
