-- Adding two sheets has one outcome: the sum, and what the counts hold. Assumes nothing.
use Rattle.std.proofs.Common.{ℕ, ◌*◌, ◌<◌, ◌≡◌, sym, ◌∙◌, ◌≢◌, List, arith, get_or}
use Rattle.table.specs.Privilege.{privileges}
use Rattle.table.proofs.Answers.{answer_one, accepted_answer, lowest_one}
use Rattle.leaders.proofs.Leading.{leaders_one, leaders_as}
use Rattle.sheet.specs.declared.Sheet.{Sheet}
use Rattle.sheet.proofs.Answers.{refusal_one, sheet_same, kept_one}
use Rattle.adding.specs.Sums.{SumOf}
use Rattle.adding.specs.Answers.{NoSum, table, short, undone, over, AddAnswer, refused, done}
use Rattle.adding.specs.Steps.Checking.{Summable}

module _ {ws : List ℕ} {s : Sheet} {counts : List ℕ} {t : Sheet} {more : List ℕ} where
  -- two sheets that can be added are not refused
  pub summable_not : {n p : ℕ} → Summable ws s counts t more → ¬ NoSum ws s counts t more n p
  summable_not f (table d u) = d (accepted_answer f.accepted u)
  summable_not f (short a d e z) = d f.whole
  summable_not f (undone a w e l) = l.fails (f.done _ l.within)
  summable_not f (over a w d e l) = l.fails (f.held _ l.within)

  pub no_sum_number : {n p : ℕ} → NoSum ws s counts t more n p → n ≢ 0
  no_sum_number (table d u) = d
  no_sum_number (short a d e z) = omega arith
  no_sum_number (undone a w e l) = omega arith
  no_sum_number (over a w d e l) = omega arith

  no_sum_one : {n p m q : ℕ} → NoSum ws s counts t more n p → NoSum ws s counts t more m q → (n ≡ m) × (p ≡ q)
  no_sum_one (table d u) (table e w) = answer_one u w
  no_sum_one (table d u) (short a x e z) = absurd (d (accepted_answer a u))
  no_sum_one (table d u) (undone a w e l) = absurd (d (accepted_answer a u))
  no_sum_one (table d u) (over a w x e l) = absurd (d (accepted_answer a u))
  no_sum_one (short a d e z) (table x u) = absurd (x (accepted_answer a u))
  no_sum_one (short a d e z) (short b x f y) = (e ∙ sym f, z ∙ sym y)
  no_sum_one (short a d e z) (undone b w f l) = absurd (d w)
  no_sum_one (short a d e z) (over b w x f l) = absurd (d w)
  no_sum_one (undone a w e l) (table x u) = absurd (x (accepted_answer a u))
  no_sum_one (undone a w e l) (short b x f y) = absurd (x w)
  no_sum_one (undone a w e l) (undone b x f k) = (e ∙ sym f, lowest_one l k)
  no_sum_one (undone a w e l) (over b x d f k) = absurd (l.fails (d _ l.within))
  no_sum_one (over a w d e l) (table x u) = absurd (x (accepted_answer a u))
  no_sum_one (over a w d e l) (short b x f y) = absurd (x w)
  no_sum_one (over a w d e l) (undone b x f k) = absurd (k.fails (d _ k.within))
  no_sum_one (over a w d e l) (over b x c f k) = (e ∙ sym f, lowest_one l k)

  sum_one : {x y : Sheet} {a b : List ℕ} → SumOf ws s counts t more x a → SumOf ws s counts t more y b
      → (x.figures ≡ y.figures) × (x.leader_count ≡ y.leader_count) × (x.leaders ≡ y.leaders) × (a ≡ b)
  sum_one {a = a} {b = b} f g =
      let alike : (i : ℕ) → i < 3 * privileges ws → get_or a i 0 ≡ get_or b i 0 = λ i l. f.numbers.each i l ∙ sym (g.numbers.each i l) in
      let led = leaders_one (leaders_as (λ p l. alike (3 * p) (omega arith)) f.leaders) g.leaders in
      (f.figures ∙ sym g.figures, led.0, led.1, kept_one f.numbers.kept g.numbers.kept alike)

  -- a call has one outcome: the sum, and what the lent counts hold
  pub add_one : {x y : Sheet} {a b : List ℕ} → AddAnswer ws s counts t more x a → AddAnswer ws s counts t more y b → (x ≡ y) × (a ≡ b)
  add_one (refused n e h) (refused o f k) = (e ∙ refusal_one (no_sum_one n o) ∙ sym f, h ∙ sym k)
  add_one (refused n e h) (done a w d l i j o) = absurd (summable_not (record { accepted = a; whole = w; done = d; held = l }) n)
  add_one (done a w d l i j o) (refused n e h) = absurd (summable_not (record { accepted = a; whole = w; done = d; held = l }) n)
  add_one (done a w d l i j o) (done b x e m n k q) =
      let one = sum_one o q in
      (sheet_same (i ∙ sym n) (j ∙ sym k) one.0 one.1 one.2, one.3)
