-- Two names are compared byte by byte, up to the first that differs or the end of one. Assumes nothing.
use Rattle.std.proofs.Common.{ℕ, suc, ◌≤◌, ◌<◌, ◌≡◌, refl, sym, ◌∙◌, ap, Bool, true, false, List, [], ◌∷◌, arith, ltb, length, get_or, ltb-true, ltb-false}
use lib.Seq.{slice, slice_empty, slice-cons}
use Rattle.grammar.specs.Bytes.{is_name_byte, Byte, Of, Span, stop, go_on}
use Rattle.scan.specs.Steps.Readers.{Tells}
use Rattle.scan.proofs.Agreeing.{span_le}
use Rattle.scan.proofs.Pieces.{span_in}
use Rattle.names.specs.Steps.Walk.{NameAt}
use Rattle.names.specs.Steps.Order.{Upto, ends, lower, alike}
use Rattle.names.proofs.Orders.{upto_rest, upto_higher}
use Rattle.names.proofs.Spans.{name_span}

-- the bytes of a name from a on, and no more of them
pub data Run (t : List ℕ) : ℕ → List ℕ → Type 0 where
  over : {a : ℕ} → ¬ Of is_name_byte t a → Run t a []
  more : {a c : ℕ} {n : List ℕ} → Of is_name_byte t a → Byte t a c → Run t (suc a) n → Run t a (c ∷ n)

span_run : {t : List ℕ} {a b : ℕ} → Span is_name_byte t a b → b ≤ length t → ¬ Of is_name_byte t b → (n : List ℕ) → n ≡ slice a b t → Run t a n
span_run {t} {a} stop l f n e = rw (e ∙ slice_empty a t) (over f)
span_run {t} {a} {b} (go_on o s) l f n e =
    rw (e ∙ slice-cons a b t 0 (span_le s) l) (more o (record { within = o.within; is = refl }) (span_run s l f (slice (suc a) b t) refl))

name_run : {t : List ℕ} {a : ℕ} {n : List ℕ} → NameAt t a n → Run t a n
name_run {n = n} x =
    let s = name_span x.is_name in
    span_run s (span_in s (omega (arith, x.is_name.start.within))) x.over n x.is_name.is

-- what comparing them from i and j on tells
pub record UptoFrom (t : List ℕ) (i j : ℕ) (r : Bool) : Type 0 where
  pub of : (n m : List ℕ) → Run t i n → Run t j m → Tells (Upto n m) r

pub upto_names : {t : List ℕ} {a b : ℕ} {r : Bool} → UptoFrom t a b r → (n m : List ℕ) → NameAt t a n → NameAt t b m → Tells (Upto n m) r
upto_names x n m p q = x.of n m (name_run p) (name_run q)

-- a place has one name
run_one : {t : List ℕ} {a : ℕ} {n m : List ℕ} → Run t a n → Run t a m → n ≡ m
run_one (over f) (over g) = refl
run_one (over f) (more o b r) = absurd (f o)
run_one (more o b r) (over f) = absurd (f o)
run_one (more o b r) (more p c s) = let e = run_one r s in let x = b.is in let y = c.is in cc

pub name_one : {t : List ℕ} {a : ℕ} {n m : List ℕ} → NameAt t a n → NameAt t a m → n ≡ m
name_one x y = run_one (name_run x) (name_run y)

-- a run by its first byte
run_over : {t : List ℕ} {i : ℕ} {n : List ℕ} → ¬ Of is_name_byte t i → Run t i n → n ≡ []
run_over f (over g) = refl
run_over f (more o b r) = absurd (f o)

record Longer (t : List ℕ) (i : ℕ) (n : List ℕ) : Type 0 where
  rest : List ℕ
  is : n ≡ get_or t i 0 ∷ rest
  run : Run t (suc i) rest

run_more : {t : List ℕ} {i : ℕ} {n : List ℕ} → Of is_name_byte t i → Run t i n → Longer t i n
run_more o (over f) = absurd (f o)
run_more o (more {n = n} p b r) = record { rest = n; is = ap (λ (c : ℕ). c ∷ n) (sym b.is); run = r }

longer_some : {t : List ℕ} {i : ℕ} {n : List ℕ} → Longer t i n → n ≡ [] → ⊥
longer_some k e = let z = ap {A = List ℕ} length (sym k.is ∙ e) in omega arith

module _ {t : List ℕ} {i j : ℕ} where
  pub upto_more : (r : Bool) → Of is_name_byte t i → Byte t j (get_or t i 0) → UptoFrom t (suc i) (suc j) r → UptoFrom t i j r
  upto_more r o g x = record {
    of = λ n m p q. (let k = run_more o p in
        let l = run_more (also g.is o g.within) q in
        carry r n m k l (x.of k.rest l.rest k.run l.run));
  }
    where
      also : get_or t j 0 ≡ get_or t i 0 → Of is_name_byte t i → j < length t → Of is_name_byte t j
      also e o l = record { within = l; is = rw e o.is }

      carry : (r : Bool) (n m : List ℕ) (k : Longer t i n) (l : Longer t j m) → Tells (Upto k.rest l.rest) r → Tells (Upto n m) r
      carry true n m k l u = rw (k.is, l.is, g.is) (alike u)
      carry false n m k l f = λ u. f (upto_rest g.is (rw (k.is, l.is) at u))

  -- both go on, with different bytes
  pub upto_differ : (r : Bool) → Of is_name_byte t i → ¬ Byte t j (get_or t i 0) → Of is_name_byte t j → r ≡ ltb (get_or t i 0) (get_or t j 0) → UptoFrom t i j r
  upto_differ r o g w e = record { of = λ n m p q. go r e n m (run_more o p) (run_more w q) }
    where
      go : (r : Bool) → r ≡ ltb (get_or t i 0) (get_or t j 0) → (n m : List ℕ) → Longer t i n → Longer t j m → Tells (Upto n m) r
      go true e n m k l = rw (k.is, l.is) (lower (ltb-true (get_or t i 0) (get_or t j 0) (sym e)))
      go false e n m k l = λ u. upto_higher (ltb-false (get_or t i 0) (get_or t j 0) (sym e)) (λ h. g (record { within = w.within; is = h })) (rw (k.is, l.is) at u)

  -- the first goes on, the second does not
  pub upto_longer : Of is_name_byte t i → ¬ Of is_name_byte t j → UptoFrom t i j false
  upto_longer o g = record { of = λ n m p q u. go (run_more o p) (rw (run_over g q) at u) }
    where
      go : {n : List ℕ} → Longer t i n → Upto n [] → ⊥
      go k ends = longer_some k refl

  pub upto_end : ¬ Of is_name_byte t i → UptoFrom t i j true
  upto_end o = record { of = λ n m p q. rw (run_over o p) ends }
