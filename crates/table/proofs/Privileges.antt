-- Laws of privilege numbers: each belongs to one type and one edit. They hold of every run of words, a table or not. Assumes nothing.
use Prim.Native.Nat.{ℕ, zero, suc, ◌+◌, ◌-◌, ◌*◌, ◌≤◌, ◌<◌}
use mathlib.Core.Path.{◌≡◌, refl, sym, ap, ◌∙◌}
use mathlib.Core.Logic.{◌≢◌, ◌⊎◌, inl, inr}
use mathlib.Core.Bool.{Bool, true, false, cond}
use mathlib.Core.List.{List}
use native.Mathlib.Nat.{mul-le-mul, mul-le-mul_right, mul-suc}
use native.Mathlib.Decide.{ℕ_discrete}
use native.Mathlib.Omega.{arith}
use borrow.Author.Tests.{lt-ltb, le-ltb, ne_eqb}
use lib.Dec.{ltb, eqb}
use Rattle.table.specs.Sum.{sum_below}
use Rattle.table.specs.Words.{format_of, types}
use Rattle.table.specs.Rule.{rule_at, kind_in, count_in, count_of, IsText, IsChoice, IsStar}
use Rattle.table.specs.Privilege.{gap_of, privileges_of, privileges_at, first_privilege, privileges, Belongs, slot_of, insert_of, delete_of, exchange_of, replace_of, SameKind, Exchangeable, Replaceable, Edit, text, insert, delete, exchange, replace, type_of, Offers, privilege_of}
use Rattle.table.specs.Steps.Numbering.{others_of, choices_of, NumberedAs, Small, Positions, insert_in, delete_in, exchange_in, replace_in, row_in, missing_in, ExchangeableIn, ReplaceableIn}
use Rattle.table.specs.declared.privilege.Numbering.{Numbering}
use Rattle.table.specs.declared.rule.Rule.{Rule}
use Rattle.table.specs.declared.rule.Rule.TheVariants.{Empty, Text, Sequence, Choice, Star}
use Rattle.table.proofs.Lists.{le_or_lt}
use Rattle.table.proofs.Sum.{sum_more, sum_mono, sum_part, Falls, falls_one, falls_some}

-- the gap is 0 in format 2, and else 1
pub gap_few : (ws : List ℕ) → gap_of ws ≤ 1
unfolding gap_of
gap_few ws = go (eqb (format_of ws) 2)
  where
    go : (b : Bool) → cond b 0 1 ≤ 1
    go true = omega arith
    go false = omega arith

pub gap_two : (ws : List ℕ) → SameKind ws → gap_of ws ≡ 0
unfolding gap_of
gap_two ws e = rw e

pub gap_else : (ws : List ℕ) → ¬ SameKind ws → gap_of ws ≡ 1
unfolding gap_of
gap_else ws d = rw (ne_eqb (format_of ws) 2 d)

pub two_gap : (ws : List ℕ) → gap_of ws ≡ 0 → SameKind ws
two_gap ws e = elim (ℕ_discrete (format_of ws) 2) [ yes h ↦ h | no d ↦ absurd (omega (arith, e, gap_else ws d)) ]

-- the privileges of a rule, counted by the square of the children that can be replaced, less those of the same kind
pub square_few : (n : ℕ) → n < 65536 → n * n ≤ 4294836225
square_few n h = mul-le-mul {n₂ = 65535} {m₂ = 65535} (omega arith) (omega arith)

pub choices_few : (r : Rule) → choices_of r ≤ count_in r
choices_few Empty = omega arith
choices_few Text = omega arith
choices_few (Sequence first n) = omega arith
choices_few (Choice first n) = omega arith
choices_few (Star first n) = omega arith

pub others_few : (star : ℕ) → star ≤ 3 → (r : Rule) → others_of star r ≤ 3
others_few star l Empty = omega arith
others_few star l Text = omega arith
others_few star l (Sequence first n) = omega arith
others_few star l (Choice first n) = omega arith
others_few star l (Star first n) = l

pairs_of : (n : ℕ) → 0 + (n * n - n) ≡ n * (n - 1)
pairs_of zero = refl
pairs_of (suc n) = let e : suc n - 1 ≡ n = omega arith in rw e (omega (arith, mul-suc (suc n) n))

pub summed_one : (r : Rule) → others_of 2 r + (choices_of r * choices_of r - choices_of r) ≡ privileges_of 1 r
summed_one Empty = refl
summed_one Text = refl
summed_one (Sequence first n) = refl
summed_one (Choice first n) = pairs_of n
summed_one (Star first n) = refl

pub summed_two : (r : Rule) → others_of 3 r + choices_of r * choices_of r ≡ privileges_of 0 r
summed_two Empty = refl
summed_two Text = refl
summed_two (Sequence first n) = refl
summed_two (Choice first n) = let e : n - 0 ≡ n = omega arith in rw e (omega arith)
summed_two (Star first n) = refl

-- the first privileges run on from type to type
pub first_start : (ws : List ℕ) → first_privilege ws 0 ≡ 0
unfolding first_privilege sum_below
first_start ws = refl

pub first_next : (ws : List ℕ) (x : ℕ) → first_privilege ws (x + 1) ≡ first_privilege ws x + privileges_at ws x
unfolding first_privilege
first_next ws x = sum_more (privileges_at ws) x

pub first_within : (ws : List ℕ) (x : ℕ) → x ≤ types ws → first_privilege ws x ≤ privileges ws
unfolding privileges first_privilege
first_within ws x h = sum_mono (privileges_at ws) x (types ws) h

-- each privilege below V belongs to exactly one type
falls : {ws : List ℕ} {p x : ℕ} → Belongs ws p x → Falls (privileges_at ws) p x
unfolding first_privilege
falls b = record { from = b.from; until = b.until }

pub belongs_one : {ws : List ℕ} {p x y : ℕ} → Belongs ws p x → Belongs ws p y → x ≡ y
belongs_one {ws} a b = falls_one (privileges_at ws) (falls a) (falls b)

pub belongs_some : (ws : List ℕ) (p : ℕ) → p < privileges ws → (x : ℕ) × Belongs ws p x
unfolding privileges first_privilege
belongs_some ws p h = let r = falls_some (privileges_at ws) (types ws) p h in (r.0, record { type = r.1; from = r.2.from; until = r.2.until })

pub belongs_below : {ws : List ℕ} {p x : ℕ} → Belongs ws p x → p < privileges ws
unfolding privileges first_privilege
belongs_below {ws} {p} {x} b = omega (arith, b.until, sum_part (privileges_at ws) x (types ws) b.type)

-- a replacement's slot among those of a choice of n children, over the gap
module _ (gap : ℕ) (narrow : gap ≤ 1) where
  abbrev column_of : ℕ → ℕ → ℕ
  column_of i j = cond (ltb i j) (j - gap) j

  slot_cases : (i j : ℕ) → (i ≡ j → gap ≡ 0) → ((i < j) × (column_of i j ≡ j - gap)) ⊎ ((j + gap ≤ i) × (column_of i j ≡ j))
  slot_cases i j d = elim (le_or_lt j i) [
    | inl h ↦ inr (elim (le_or_lt i j) [ inl g ↦ omega (arith, d (omega arith)) | inr g ↦ omega arith ], rw (le-ltb i j h))
    | inr h ↦ inl (h, rw (lt-ltb i j h))
  ]

  slot_small : (n i j : ℕ) → i < n → j < n → (i ≡ j → gap ≡ 0) → column_of i j < n - gap
  slot_small n i j hi hj d = elim (slot_cases i j d) [ inl h ↦ omega arith | inr h ↦ omega arith ]

  pub slot_below : (n i j : ℕ) → i < n → j < n → (i ≡ j → gap ≡ 0) → slot_of gap n i j < n * (n - gap)
  slot_below n i j hi hj d =
      omega (arith, slot_small n i j hi hj d, mul-le-mul_right {m = suc i} {n = n} (n - gap) hi)

-- the row and the column of a number below n rows of k
digits_one : (k i s j t : ℕ) → s < k → t < k → i * k + s ≡ j * k + t → (i ≡ j) × (s ≡ t)
digits_one k i s j t hs ht e = go (le_or_lt i j) (le_or_lt j i)
  where
    go : (i ≤ j) ⊎ (j < i) → (j ≤ i) ⊎ (i < j) → (i ≡ j) × (s ≡ t)
    go (inl g) (inl h) = let q : i ≡ j = omega arith in (q, omega (arith, ap (λ (z : ℕ). z * k) q))
    go (inl g) (inr h) = absurd (omega (arith, mul-le-mul_right {m = suc i} {n = j} k h))
    go (inr g) h = absurd (omega (arith, mul-le-mul_right {m = suc j} {n = i} k g))

digits_some : (k n s : ℕ) → s < n * k → (i : ℕ) × (r : ℕ) × (i < n) × (r < k) × (i * k + r ≡ s)
digits_some k zero s h = absurd (omega arith)
digits_some k (suc n) s h = go (le_or_lt (n * k) s) (λ l. digits_some k n s l)
  where
    go : (n * k ≤ s) ⊎ (s < n * k) → (s < n * k → (i : ℕ) × (r : ℕ) × (i < n) × (r < k) × (i * k + r ≡ s))
        → (i : ℕ) × (r : ℕ) × (i < suc n) × (r < k) × (i * k + r ≡ s)
    go (inl l) again = (n, s - n * k, omega arith, omega arith, omega arith)
    go (inr l) again = let d = again l in (d.0, d.1, omega arith, d.3, d.4)

module _ (gap : ℕ) (narrow : gap ≤ 1) where
  pub slot_one : (n i j k l : ℕ) → i < n → j < n → (i ≡ j → gap ≡ 0) → k < n → l < n → (k ≡ l → gap ≡ 0) → slot_of gap n i j ≡ slot_of gap n k l
      → (i ≡ k) × (j ≡ l)
  slot_one n i j k l hi hj d hk hl f e =
      let q = digits_one (n - gap) i (column_of gap narrow i j) k (column_of gap narrow k l) (slot_small gap narrow n i j hi hj d) (slot_small gap narrow n k l hk hl f) e in
      (q.0, go (slot_cases gap narrow i j d) (slot_cases gap narrow k l f) q.0 q.1)
    where
      go : ((i < j) × (column_of gap narrow i j ≡ j - gap)) ⊎ ((j + gap ≤ i) × (column_of gap narrow i j ≡ j))
          → ((k < l) × (column_of gap narrow k l ≡ l - gap)) ⊎ ((l + gap ≤ k) × (column_of gap narrow k l ≡ l))
          → i ≡ k → column_of gap narrow i j ≡ column_of gap narrow k l → j ≡ l
      go (inl g) (inl h) a b = omega arith
      go (inl g) (inr h) a b = omega arith
      go (inr g) (inl h) a b = omega arith
      go (inr g) (inr h) a b = omega arith

  pub slot_some : (n s : ℕ) → s < n * (n - gap) → (i : ℕ) × (j : ℕ) × (i < n) × (j < n) × (i ≡ j → gap ≡ 0) × (slot_of gap n i j ≡ s)
  slot_some n s h = go (digits_some (n - gap) n s h)
    where
      at : (i r : ℕ) → i < n → r < n - gap → i * (n - gap) + r ≡ s → (r + gap ≤ i) ⊎ (i < r + gap)
          → (i : ℕ) × (j : ℕ) × (i < n) × (j < n) × (i ≡ j → gap ≡ 0) × (slot_of gap n i j ≡ s)
      at i r hi hr e (inl l) = (i, r, hi, omega arith, λ q. omega arith, rw (le-ltb i r (omega arith)) e)
      at i r hi hr e (inr l) = (i, r + gap, hi, omega arith, λ q. omega arith, rw (lt-ltb i (r + gap) l) (omega arith))

      go : (i : ℕ) × (r : ℕ) × (i < n) × (r < n - gap) × (i * (n - gap) + r ≡ s)
          → (i : ℕ) × (j : ℕ) × (i < n) × (j < n) × (i ≡ j → gap ≡ 0) × (slot_of gap n i j ≡ s)
      go (i, r, hi, hr, e) = at i r hi hr e (le_or_lt (r + gap) i)

-- how many privileges a type of each kind has
text_has : (gap : ℕ) (rule : Rule) → kind_in rule ≡ 1 → privileges_of gap rule ≡ 1
text_has gap Empty e = absurd (omega arith)
text_has gap Text e = refl
text_has gap (Sequence a n) e = absurd (omega arith)
text_has gap (Choice a n) e = absurd (omega arith)
text_has gap (Star a n) e = absurd (omega arith)

choice_has : (gap : ℕ) (rule : Rule) → kind_in rule ≡ 3 → privileges_of gap rule ≡ count_in rule * (count_in rule - gap)
choice_has gap Empty e = absurd (omega arith)
choice_has gap Text e = absurd (omega arith)
choice_has gap (Sequence a n) e = absurd (omega arith)
choice_has gap (Choice a n) e = refl
choice_has gap (Star a n) e = absurd (omega arith)

star_has : (gap : ℕ) (rule : Rule) → kind_in rule ≡ 4 → privileges_of gap rule ≡ 3 - gap
star_has gap Empty e = absurd (omega arith)
star_has gap Text e = absurd (omega arith)
star_has gap (Sequence a n) e = absurd (omega arith)
star_has gap (Choice a n) e = absurd (omega arith)
star_has gap (Star a n) e = refl

-- the kind of type that has an edit
abbrev pub kind_for : Edit → ℕ
kind_for (text x) = 1
kind_for (insert x) = 4
kind_for (delete x) = 4
kind_for (exchange x) = 4
kind_for (replace x i j) = 3

module _ (ws : List ℕ) where
  text_count : {x : ℕ} → IsText ws x → privileges_at ws x ≡ 1
  unfolding privileges_at
  text_count {x} h = text_has (gap_of ws) (rule_at ws x) h.kind_is

  pub choice_count : {x : ℕ} → IsChoice ws x → privileges_at ws x ≡ count_of ws x * (count_of ws x - gap_of ws)
  unfolding privileges_at count_of
  choice_count {x} h = choice_has (gap_of ws) (rule_at ws x) h.kind_is

  pub star_count : {x : ℕ} → IsStar ws x → privileges_at ws x ≡ 3 - gap_of ws
  unfolding privileges_at
  star_count {x} h = star_has (gap_of ws) (rule_at ws x) h.kind_is

  -- an edit's privilege belongs to its type, and so is below V
  pub edit_belongs : (e : Edit) → Offers ws e → Belongs ws (privilege_of ws e) (type_of e)
  unfolding replace_of
  edit_belongs (text x) h = record { type = h.type; from = omega arith; until = omega (arith, text_count h) }
  edit_belongs (insert x) h = record { type = h.type; from = omega arith; until = omega (arith, star_count h, gap_few ws) }
  edit_belongs (delete x) h = record { type = h.type; from = omega arith; until = omega (arith, star_count h, gap_few ws) }
  edit_belongs (exchange x) h = record { type = h.star.type; from = omega arith; until = omega (arith, star_count h.star, gap_two ws h.same_kind) }
  edit_belongs (replace x i j) h = record {
    type = h.choice.type;
    from = omega arith;
    until = omega (arith, choice_count h.choice, slot_below (gap_of ws) (gap_few ws) (count_of ws x) i j h.from h.to (λ e. gap_two ws (h.same_kind e)));
  }

  pub edit_below : (e : Edit) → Offers ws e → privilege_of ws e < privileges ws
  edit_below e h = belongs_below (edit_belongs e h)

  -- each privilege below V is that of an edit at its type
  edit_by : (p x : ℕ) → Belongs ws p x → (rule : Rule) → rule_at ws x ≡ rule → (e : Edit) × Offers ws e × (type_of e ≡ x) × (privilege_of ws e ≡ p)
  unfolding privileges_at count_of replace_of
  edit_by p x b Empty q = let u = rw q at b.until in absurd (omega (arith, b.from))
  edit_by p x b Text q = let u = rw q at b.until in (text x, record { type = b.type; kind_is = rw q }, refl, omega (arith, b.from))
  edit_by p x b (Sequence a n) q = let u = rw q at b.until in absurd (omega (arith, b.from))
  edit_by p x b (Choice a n) q =
      let u : p < first_privilege ws x + n * (n - gap_of ws) = rw q at b.until in
      let l = b.from in
      let s = slot_some (gap_of ws) (gap_few ws) n (p - first_privilege ws x) (omega arith) in
      let i = s.0 in
      let j = s.1 in
      (replace x i j, record { choice = record { type = b.type; kind_is = rw q }; from = rw q s.2; to = rw q s.3; same_kind = λ e. two_gap ws (s.4 e) }, refl, rw q (omega (arith, s.5)))
  edit_by p x b (Star a n) q =
      let u : p < first_privilege ws x + (3 - gap_of ws) = rw q at b.until in
      let star : IsStar ws x = record { type = b.type; kind_is = rw q } in
      elim (le_or_lt p (first_privilege ws x)) [
        | inl l ↦ (insert x, star, refl, omega (arith, b.from))
        | inr l ↦ elim (le_or_lt p (first_privilege ws x + 1)) [
          | inl m ↦ (delete x, star, refl, omega arith)
          | inr m ↦ (exchange x, record { star = star; same_kind = two_gap ws (omega arith) }, refl, omega arith)
        ]
      ]

  pub edit_of : {p x : ℕ} → Belongs ws p x → (e : Edit) × Offers ws e × (type_of e ≡ x) × (privilege_of ws e ≡ p)
  edit_of {p} {x} b = edit_by p x b (rule_at ws x) refl

  pub edit_some : (p : ℕ) → p < privileges ws → (e : Edit) × Offers ws e × (privilege_of ws e ≡ p)
  edit_some p h = let r = edit_of (belongs_some ws p h).1 in (r.0, r.1, r.3)

  -- the type of an edit is of that kind
  pub offers_kind : (e : Edit) → Offers ws e → kind_in (rule_at ws (type_of e)) ≡ kind_for e
  offers_kind (text x) h = h.kind_is
  offers_kind (insert x) h = h.kind_is
  offers_kind (delete x) h = h.kind_is
  offers_kind (exchange x) h = h.star.kind_is
  offers_kind (replace x i j) h = h.choice.kind_is

  -- edits that differ have different privileges
  edit_same : (e f : Edit) → Offers ws e → Offers ws f → kind_for e ≡ kind_for f → type_of e ≡ type_of f → privilege_of ws e ≡ privilege_of ws f → e ≡ f
  unfolding replace_of
  edit_same (text x) (text y) g h k q r = ap text q
  edit_same (text x) (insert y) g h k q r = absurd (omega arith)
  edit_same (text x) (delete y) g h k q r = absurd (omega arith)
  edit_same (text x) (exchange y) g h k q r = absurd (omega arith)
  edit_same (text x) (replace y a b) g h k q r = absurd (omega arith)
  edit_same (insert x) (text y) g h k q r = absurd (omega arith)
  edit_same (insert x) (insert y) g h k q r = ap insert q
  edit_same (insert x) (delete y) g h k q r = absurd (omega (arith, ap (first_privilege ws) q))
  edit_same (insert x) (exchange y) g h k q r = absurd (omega (arith, ap (first_privilege ws) q))
  edit_same (insert x) (replace y a b) g h k q r = absurd (omega arith)
  edit_same (delete x) (text y) g h k q r = absurd (omega arith)
  edit_same (delete x) (insert y) g h k q r = absurd (omega (arith, ap (first_privilege ws) q))
  edit_same (delete x) (delete y) g h k q r = ap delete q
  edit_same (delete x) (exchange y) g h k q r = absurd (omega (arith, ap (first_privilege ws) q))
  edit_same (delete x) (replace y a b) g h k q r = absurd (omega arith)
  edit_same (exchange x) (text y) g h k q r = absurd (omega arith)
  edit_same (exchange x) (insert y) g h k q r = absurd (omega (arith, ap (first_privilege ws) q))
  edit_same (exchange x) (delete y) g h k q r = absurd (omega (arith, ap (first_privilege ws) q))
  edit_same (exchange x) (exchange y) g h k q r = ap exchange q
  edit_same (exchange x) (replace y a b) g h k q r = absurd (omega arith)
  edit_same (replace x i j) (text y) g h k q r = absurd (omega arith)
  edit_same (replace x i j) (insert y) g h k q r = absurd (omega arith)
  edit_same (replace x i j) (delete y) g h k q r = absurd (omega arith)
  edit_same (replace x i j) (exchange y) g h k q r = absurd (omega arith)
  edit_same (replace x i j) (replace y a b) g h k q r =
      let first = ap (first_privilege ws) q in
      let n = ap (count_of ws) q in
      let s : slot_of (gap_of ws) (count_of ws x) i j ≡ slot_of (gap_of ws) (count_of ws x) a b = omega (arith, ap (λ (z : ℕ). slot_of (gap_of ws) z a b) n) in
      let d = slot_one (gap_of ws) (gap_few ws) (count_of ws x) i j a b g.from g.to (λ e. gap_two ws (g.same_kind e)) (rw n h.from) (rw n h.to)
      (λ e. gap_two ws (h.same_kind e)) s in
      let from : i ≡ a = d.0 in
      let to : j ≡ b = d.1 in
      cc

  pub edit_one : (e f : Edit) → Offers ws e → Offers ws f → privilege_of ws e ≡ privilege_of ws f → e ≡ f
  edit_one e f g h r =
      let q : type_of e ≡ type_of f = belongs_one (edit_belongs e g) (rw (← r) at (edit_belongs f h)) in
      edit_same e f g h (sym (offers_kind e g) ∙ ap (λ (x : ℕ). kind_in (rule_at ws x)) q ∙ offers_kind f h) q r

-- the replacements of the child at i stand side by side: by the kinds before the missing one, and by those behind it one place down
pub row_before : (n : Numbering) (i j : ℕ) → n.gap ≤ 1 → j < missing_in n i → replace_in n i j ≡ row_in n i + j
row_before n i j narrow l = elim (le_or_lt j i) [
  | inl h ↦ rw (le-ltb i j h) (omega arith)
  | inr h ↦ rw (lt-ltb i j h) (let none : n.gap ≡ 0 = omega arith in rw none (omega arith))
]

pub row_behind : (n : Numbering) (i j : ℕ) → Small n → missing_in n i ≤ j → suc j < n.count → replace_in n i (suc j) ≡ row_in n i + j
row_behind n i j small l h = rw (lt-ltb i (suc j) (omega arith)) (let one : n.gap ≡ 1 = omega (arith, small.few, small.narrow) in omega arith)

-- none by the missing one, and one by each other
pub replaceable_missing : {n : Numbering} {i j : ℕ} → Small n → ReplaceableIn n i j → j ≢ missing_in n i
replaceable_missing small r e = omega (arith, small.few, small.narrow, r.to, r.same_kind (omega (arith, small.few, small.narrow, r.to)))

pub missing_replaceable : {n : Numbering} {i j : ℕ} → Small n → i < n.count → j < n.count → j ≢ missing_in n i → ReplaceableIn n i j
missing_replaceable small from to d = record { from = from; to = to; same_kind = λ e. omega (arith, small.narrow) }

-- different pairs have different numbers
pub replace_in_one : (n : Numbering) (i j k l : ℕ) → n.gap ≤ 1 → ReplaceableIn n i j → ReplaceableIn n k l → replace_in n i j ≡ replace_in n k l → (i ≡ k) × (j ≡ l)
replace_in_one n i j k l narrow g h e =
    slot_one n.gap narrow n.count i j k l g.from g.to g.same_kind h.from h.to h.same_kind (omega arith)

module _ {ws : List ℕ} {x : ℕ} {n : Numbering} (h : NumberedAs ws x n) where
  pub numbered_small : Small n
  numbered_small = record { low = h.low; few = h.few; narrow = h.narrow }

  pub positions : {i j : ℕ} → Replaceable ws x i j → Positions n i j
  positions r = record { small = numbered_small; from = omega (arith, h.count, r.from); to = omega (arith, h.count, r.to) }

  pub replaceable_in : {i j : ℕ} → Replaceable ws x i j → ReplaceableIn n i j
  replaceable_in r = record {
    from = omega (arith, h.count, r.from);
    to = omega (arith, h.count, r.to);
    same_kind = λ e. h.gap ∙ gap_two ws (r.same_kind e);
  }

  pub in_replaceable : {i j : ℕ} → IsChoice ws x → ReplaceableIn n i j → Replaceable ws x i j
  in_replaceable c r = record {
    choice = c;
    from = omega (arith, h.count, r.from);
    to = omega (arith, h.count, r.to);
    same_kind = λ e. two_gap ws (sym h.gap ∙ r.same_kind e);
  }

  pub exchangeable_in : Exchangeable ws x → ExchangeableIn n
  exchangeable_in e = h.gap ∙ gap_two ws e.same_kind

  pub in_exchangeable : IsStar ws x → ExchangeableIn n → Exchangeable ws x
  in_exchangeable s e = record { star = s; same_kind = two_gap ws (sym h.gap ∙ e) }

  pub insert_in_lem : insert_in n ≡ insert_of ws x
  insert_in_lem = h.first

  pub delete_in_lem : delete_in n ≡ delete_of ws x
  delete_in_lem = ap (λ (p : ℕ). p + 1) h.first

  pub exchange_in_lem : exchange_in n ≡ exchange_of ws x
  exchange_in_lem = ap (λ (p : ℕ). p + 2) h.first

  pub replace_in_lem : (i j : ℕ) → replace_in n i j ≡ replace_of ws x i j
  unfolding replace_of
  replace_in_lem i j = rw (h.first, h.count, h.gap)
