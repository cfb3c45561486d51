-- One turn of each loop over the types: the next declared name is entered, or the next made label. Assumes nothing.
use Rattle.std.proofs.Common.{ℕ, suc, ◌/◌, ◌%◌, ◌≤◌, ◌<◌, ◌≡◌, ap, sym, ◌∙◌, List, [], ◌∷◌, arith, length}
use Prim.Native.Char.{code}
use Rattle.std.proofs.Math.Seq.{slice}
use Rattle.grammar.specs.Tree.{Declaration}
use Rattle.model.specs.Tables.{names_of}
use Rattle.names.specs.Steps.Walk.{NameAt}
use Rattle.names.specs.Steps.Pieces.{NameEnd}
use Rattle.names.proofs.Nths.{nth_below, left_first}
use Rattle.names.proofs.Spans.{name_span, ends_there}
use Rattle.names.proofs.Gone.{Stepped}
use Rattle.labels.specs.Labels.{digit, label_of}
use Rattle.labels.specs.Steps.Booked.{Short}
use Rattle.labels.specs.Steps.Entered.{made_label, Booking, Entered}
use Rattle.labels.proofs.Decimals.{decimal_ones, decimal_tens, decimal_hundreds, decimal_short}
use Rattle.labels.proofs.Labelling.{label_declared, label_made}

-- the name at a place is what stands from there to its end
name_bytes : {t n : List ℕ} {a e : ℕ} → NameAt t a n → NameEnd t a e → n ≡ slice a e t
name_bytes {t} {a = a} x y = x.is_name.is ∙ ap (λ (b : ℕ). slice a b t) (ends_there y (name_span x.is_name) x.over)

module _ {names starts named started : List ℕ} where
  pub booking_declared : {ds : List Declaration} {t bytes : List ℕ} {x name body e : ℕ} → Short ds → length ds ≤ 256
      → Stepped t ds x name body → NameEnd t name e → bytes ≡ slice name e t → Entered bytes names starts x named started
      → Booking (label_of (names_of ds)) names starts x → Booking (label_of (names_of ds)) named started (suc x)
  booking_declared {ds = ds} {bytes = bytes} {x = x} short few s y q z b =
      let n = left_first s.left in
      let is : s.declaration.named ≡ bytes = name_bytes s.there.named y ∙ sym q in
      z.of (label_of (names_of ds)) (label_declared n ∙ is) (rw is at (short.each x s.declaration n)) (omega (arith, nth_below n)) b

  pub booking_made : (ds : List Declaration) {x : ℕ} → length ds ≤ x → x < 256 → Entered (made_label x) names starts x named started
      → Booking (label_of (names_of ds)) names starts x → Booking (label_of (names_of ds)) named started (suc x)
  booking_made ds {x} l h z b = z.of (label_of (names_of ds)) (label_made ds x l) (omega (arith, decimal_short x (omega arith))) h b

-- a made type's label, by its digits
pub made_ones : (x a : ℕ) → x < 10 → a ≡ digit (x % 10) → code "#" ∷ a ∷ [] ≡ made_label x
made_ones x a h p = let e : x % 10 ≡ x = omega arith in rw (p, e, decimal_ones x h)

pub made_tens : (x a b : ℕ) → 10 ≤ x → x < 100 → a ≡ digit (x / 10 % 10) → b ≡ digit (x % 10) → code "#" ∷ a ∷ b ∷ [] ≡ made_label x
made_tens x a b l h p q = let e : x / 10 % 10 ≡ x / 10 = omega arith in rw (p, q, e, decimal_tens x l h)

pub made_hundreds : (x a b c : ℕ) → 100 ≤ x → x < 1000 → a ≡ digit (x / 100 % 10) → b ≡ digit (x / 10 % 10) → c ≡ digit (x % 10)
    → code "#" ∷ a ∷ b ∷ c ∷ [] ≡ made_label x
made_hundreds x a b c l h p q r = let e : x / 100 % 10 ≡ x / 100 = omega arith in rw (p, q, r, e, decimal_hundreds x l)
