-- A mark behind a model, and its word before the model's code. Assumes nothing.
use Rattle.std.proofs.Common.{ℕ, suc, ◌≤◌, ◌≡◌, refl, sym, ◌∙◌, ap, subst, true, List, ◌∷◌, ◌++◌, arith, length}
use Prim.Native.Char.{code}
use Rattle.grammar.specs.Bytes.{is_mark, Byte}
use Rattle.grammar.specs.Tree.{Mark, maybe, any, several}
use Rattle.grammar.specs.Grammar.{MarkAt, no_mark, question, asterisk, plus}
use Rattle.grammar.proofs.Pieces.{After, clash}
use Rattle.model.specs.Model.{Model, marked}
use Rattle.write.specs.Steps.Code.{word_of, code_of}
use Rattle.code.specs.Steps.Holding.{Sized, Holds, Inserts}
use Rattle.code.specs.Steps.Putting.{Ends, MarkPut}

-- the byte and the kind of a mark
pub data Marks : Mark → ℕ → ℕ → Type 0 where
  as_maybe : Marks maybe (code "?") (word_of 6 1)
  as_any : Marks any (code "*") (word_of 5 1)
  as_several : Marks several (code "+") (word_of 7 1)

byte_marks : {k : Mark} {b w : ℕ} → Marks k b w → is_mark b ≡ true
byte_marks as_maybe = refl
byte_marks as_any = refl
byte_marks as_several = refl

here_ends : {t before after : List ℕ} {at : ℕ} → at ≤ length t → length after ≡ length before → Ends t at at before after
here_ends l e = record { from = omega arith; inside = l; kept = e }

same_mark : {t : List ℕ} {at f b w : ℕ} {k l : Mark} → Marks k b w → Byte t at b → MarkAt t at f l → After t f → (f ≡ suc at) × (l ≡ k)
same_mark x g no_mark a = absurd (a.unmarked (record { within = g.within; is = ap is_mark g.is ∙ byte_marks x }))
same_mark as_maybe g (question h) a = (refl, refl)
same_mark as_maybe g (asterisk h) a = absurd (let z = clash g h in omega arith)
same_mark as_maybe g (plus h) a = absurd (let z = clash g h in omega arith)
same_mark as_any g (question h) a = absurd (let z = clash g h in omega arith)
same_mark as_any g (asterisk h) a = (refl, refl)
same_mark as_any g (plus h) a = absurd (let z = clash g h in omega arith)
same_mark as_several g (question h) a = absurd (let z = clash g h in omega arith)
same_mark as_several g (asterisk h) a = absurd (let z = clash g h in omega arith)
same_mark as_several g (plus h) a = (refl, refl)

marked_code : {k : Mark} {b w : ℕ} → Marks k b w → (number : List ℕ → ℕ) (m : Model) → code_of number (marked k m) ≡ w ∷ code_of number m
marked_code as_maybe number m = refl
marked_code as_any number m = refl
marked_code as_several number m = refl

pub mark_put : {t before after : List ℕ} {at start size w b end grown : ℕ} {k : Mark} → Marks k b w → Byte t at b → end ≡ suc at → Inserts before size start w after grown
    → MarkPut t at start before size after end grown
mark_put {after = after} {grown = grown} x g e i = record {
  ends = record { from = omega arith; inside = omega (arith, g.within); kept = i.kept };
  of = λ number m l f q a. (let y = same_mark x g q a in
      (e ∙ sym y.0, λ s z p. subst (λ (j : Mark). Holds after grown (s ++ code_of number (marked j m))) (sym y.1) (rw (marked_code x number m) (i.holds s (code_of number m) z p))));
}

pub no_mark_put : {t before : List ℕ} {at start size : ℕ} → at ≤ length t → ¬ Byte t at (code "?") → ¬ Byte t at (code "*") → ¬ Byte t at (code "+")
    → MarkPut t at start before size before at size
no_mark_put {t} {before} {at} {start} {size} l q s p = record { ends = here_ends l refl; of = λ number m k e x a. of number m k e x a }
  where
    of : (number : List ℕ → ℕ) (m : Model) (k : Mark) (e : ℕ) → MarkAt t at e k → After t e
        → (at ≡ e) × ((l : List ℕ) → Sized start l → Holds before size (l ++ code_of number m) → Holds before size (l ++ code_of number (marked k m)))
    of number m k e no_mark a = (refl, λ l z h. h)
    of number m k e (question g) a = absurd (q g)
    of number m k e (asterisk g) a = absurd (s g)
    of number m k e (plus g) a = absurd (p g)
