-- A number takes its place among the leaders of those below it, or comes behind all three: one law, by the place. Assumes nothing.
use Rattle.std.proofs.Common.{ℕ, zero, suc, ◌+◌, ◌≤◌, ◌<◌, min, ◌≡◌, refl, ◌∙◌, ◌≢◌, inl, inr, List, [], ◌∷◌, eq-or-lt_of_le, arith, below_none, below_more, length, get_or}
use lib.ListN.{get_or-eq_default}
use Rattle.table.proofs.Lists.{le_or_lt}
use Rattle.table.proofs.Test.{settle, some, is_equal}
use Rattle.leaders.specs.Leaders.{Ahead, more}
use Rattle.leaders.specs.Steps.Entering.{LeadersBelow, Behind, Bar}
use Rattle.leaders.proofs.Ahead.{ahead_never, ahead_lower, ahead_most}

-- of under three numbers all lead
all_lead : {often : ℕ → ℕ} {p : ℕ} {l : List ℕ} → LeadersBelow often p l → p ≤ 2 → (q : ℕ) → q < p → ((j : ℕ) → j < p → get_or l j 0 ≢ q) → ⊥
all_lead {p = p} {l = l} led few q h none = elim (le_or_lt p 1) [
  | inl i ↦ let d = none 0 (omega arith) in omega (arith, led.inside 0 (omega arith))
  | inr i ↦
      let d = none 0 (omega arith) in
      let e = none 1 i in
      let f : get_or l 0 0 ≢ get_or l 1 0 = λ s. ahead_never (rw s at (led.order 0 1 (omega arith) (omega arith))) in
      omega (arith, led.inside 0 (omega arith), led.inside 1 (omega arith))
]

-- p takes place k of three: those before stay, the others move one place on, and who then has none is left out (p itself, if k is 3)
record Put (l : List ℕ) (p k : ℕ) (m : List ℕ) : Type 0 where
  size : length m ≡ 3
  before : (j : ℕ) → j < k → get_or m j 0 ≡ get_or l j 0
  here : k < 3 → get_or m k 0 ≡ p
  after : (j : ℕ) → j < 2 → k ≤ j → get_or m (suc j) 0 ≡ get_or l j 0

-- who stands at place i then
data Stands (l : List ℕ) (p k : ℕ) : ℕ → ℕ → Type 0 where
  earlier : (i : ℕ) → i < k → Stands l p k i (get_or l i 0)
  entering : Stands l p k k p
  later : (j : ℕ) → k ≤ j → Stands l p k (suc j) (get_or l j 0)

stands : {l m : List ℕ} {p k : ℕ} → Put l p k m → (i : ℕ) → i < 3 → Stands l p k i (get_or m i 0)
stands {l} {m} {p} {k} put i h = elim (le_or_lt k i) [
  | inl n ↦ elim (eq-or-lt_of_le n) [ inl e ↦ rw (← e, put.here (omega arith)) entering | inr g ↦ past i g h ]
  | inr n ↦ rw (put.before i n) (earlier i n)
]
  where
    past : (i : ℕ) → k < i → i < 3 → Stands l p k i (get_or m i 0)
    past zero g h = absurd (omega arith)
    past (suc j) g h = rw (put.after j (omega arith) (omega arith)) (later j (omega arith))

-- the place is right: those before come at least as often as p, and who stands there, if anyone, less often
module _ {often : ℕ → ℕ} {p k : ℕ} {l m : List ℕ} (led : LeadersBelow often p l) (low : k ≤ p) (most : k ≤ 3)
    (as_often : (j : ℕ) → j < k → often p ≤ often (get_or l j 0)) (behind : Behind often p l k) (put : Put l p k m) where
  ahead_of_p : (j : ℕ) → j < k → Ahead often (get_or l j 0) p
  ahead_of_p j h = ahead_lower (as_often j h) (led.inside j (omega arith))

  p_ahead : (j : ℕ) → k ≤ j → j < min 3 p → Ahead often p (get_or l j 0)
  p_ahead j h i = more (elim (eq-or-lt_of_le h) [
    | inl e ↦ rw (← e) (behind.less (omega arith))
    | inr n ↦ let b = behind.less (omega arith) in omega (arith, ahead_most (led.order k j n i))
  ])

  within : {i x : ℕ} → Stands l p k i x → i < min 3 (p + 1) → x < p + 1
  within (earlier i a) n = omega (arith, led.inside i (omega arith))
  within entering n = omega arith
  within (later j a) n = omega (arith, led.inside j (omega arith))

  in_order : {i j x y : ℕ} → Stands l p k i x → Stands l p k j y → i < j → j < min 3 (p + 1) → Ahead often x y
  in_order (earlier i a) (earlier j b) h n = led.order i j h (omega arith)
  in_order (earlier i a) entering h n = ahead_of_p i a
  in_order (earlier i a) (later j b) h n = led.order i j (omega arith) (omega arith)
  in_order entering (earlier j b) h n = absurd (omega arith)
  in_order entering entering h n = absurd (omega arith)
  in_order entering (later j b) h n = p_ahead j b (omega arith)
  in_order (later i a) (earlier j b) h n = absurd (omega arith)
  in_order (later i a) entering h n = absurd (omega arith)
  in_order (later i a) (later j b) h n = led.order i j (omega arith) (omega arith)

  nobody : {i x : ℕ} → Stands l p k i x → min 3 (p + 1) ≤ i → i < 3 → x ≡ 0
  nobody (earlier i a) n h = absurd (omega arith)
  nobody entering n h = absurd (omega arith)
  nobody (later j a) n h = led.unused j (omega arith)

  -- who is left out comes behind all: p, or the third leader; and so does each that did not lead
  p_out : {i x : ℕ} → Stands l p k i x → i < 3 → 3 ≤ k → Ahead often x p
  p_out (earlier i a) n h = ahead_of_p i a
  p_out entering n h = absurd (omega arith)
  p_out (later j a) n h = absurd (omega arith)

  third_out : {i x : ℕ} → Stands l p k i x → i < 3 → k ≤ 2 → 3 ≤ p → Ahead often x (get_or l 2 0)
  third_out (earlier i a) n f h = led.order i 2 (omega arith) (omega arith)
  third_out entering n f h = p_ahead 2 f (omega arith)
  third_out (later j a) n f h = led.order j 2 (omega arith) (omega arith)

  still_out : {i x q : ℕ} → Stands l p k i x → i < min 3 (p + 1) → q < p → ((j : ℕ) → j < min 3 p → get_or l j 0 ≢ q) → Ahead often x q
  still_out {q = q} (earlier i a) n h none = led.others q i h (omega arith) none
  still_out {q = q} entering n h none = elim (le_or_lt p k) [
    | inl f ↦ absurd (all_lead led (omega arith) q h (λ j i. none j (omega arith)))
    | inr f ↦ let b = behind.less (omega arith) in more (omega (arith, ahead_most (led.others q k h (omega arith) none)))
  ]
  still_out {q = q} (later j a) n h none = led.others q j h (omega arith) none

  module _ (q i : ℕ) (h : q < p + 1) (n : i < min 3 (p + 1)) (none : (j : ℕ) → j < min 3 (p + 1) → get_or m j 0 ≢ q) where
    led_before : (j : ℕ) → j < min 3 p → get_or l j 0 ≡ q → Ahead often (get_or m i 0) q
    led_before j a e = elim (le_or_lt k j) [
      | inl b ↦ elim (le_or_lt 2 j) [
        | inl f ↦ let g : j ≡ 2 = omega arith in rw (← e, g) (third_out (stands put i (omega arith)) (omega arith) (omega arith) (omega arith))
        | inr f ↦ absurd (none (suc j) (omega arith) (put.after j f b ∙ e))
      ]
      | inr b ↦ absurd (none j (omega arith) (put.before j b ∙ e))
    ]

    out : Ahead often (get_or m i 0) q
    out = elim (le_or_lt p q) [
      | inl a ↦
          let e : p ≡ q = omega arith in
          elim (le_or_lt 3 k) [
            | inl b ↦ rw (← e) (p_out (stands put i (omega arith)) (omega arith) b)
            | inr b ↦ absurd (none k (omega arith) (put.here b ∙ e))
          ]
      | inr a ↦ elim (settle (some (min 3 p) (λ j. is_equal (get_or l j 0) q))) [
        | inl r ↦ led_before r.0 r.1 r.2
        | inr d ↦ still_out (stands put i (omega arith)) n a (λ j b e. d (j, b, e))
      ]
    ]

  leaders_put : LeadersBelow often (p + 1) m
  leaders_put = record {
    size = put.size;
    many = refl;
    inside = λ i n. within (stands put i (omega arith)) n;
    order = λ i j h n. in_order (stands put i (omega arith)) (stands put j (omega arith)) h n;
    others = out;
    unused = λ i n. elim (le_or_lt 3 i) [ inl h ↦ get_or-eq_default m 0 (omega (arith, put.size)) | inr h ↦ nobody (stands put i h) n h ];
  }

-- where it does not, a leader stands there and comes as often
not_behind : {often : ℕ → ℕ} {p k : ℕ} {l : List ℕ} → ¬ Behind often p l k → (k < min 3 p) × (often p ≤ often (get_or l k 0))
not_behind {often} {p} {k} {l} d = elim (le_or_lt (min 3 p) k) [
  | inl h ↦ absurd (d (record { less = λ i. absurd (omega arith) }))
  | inr h ↦ elim (le_or_lt (often p) (often (get_or l k 0))) [ inl i ↦ (h, i) | inr i ↦ absurd (d (record { less = λ j. i })) ]
]

-- what holds at the first place, or the first two
module _ (P : ℕ → Type 0) (a : P 0) where
  below_one : (j : ℕ) → j < 1 → P j
  below_one = below_more P 0 (below_none P) a

  below_two : P 1 → (j : ℕ) → j < 2 → P j
  below_two b = below_more P 1 below_one b

-- the three places
module _ {often : ℕ → ℕ} {p : ℕ} {l : List ℕ} (led : LeadersBelow often p l) where
  pub enter_first : Behind often p l 0 → LeadersBelow often (p + 1) (p ∷ get_or l 0 0 ∷ get_or l 1 0 ∷ [])
  enter_first h = leaders_put led (omega arith) (omega arith) (below_none _) h
      (record { size = refl; before = below_none _; here = λ i. refl; after = below_two _ (λ i. refl) (λ i. refl) })

  pub enter_second : ¬ Behind often p l 0 → Behind often p l 1 → LeadersBelow often (p + 1) (get_or l 0 0 ∷ p ∷ get_or l 1 0 ∷ [])
  enter_second a h = leaders_put led (omega (arith, (not_behind a).0)) (omega arith) (below_one _ (not_behind a).1) h
      (record { size = refl; before = below_one _ refl; here = λ i. refl; after = below_two _ (λ i. absurd (omega arith)) (λ i. refl) })

  pub enter_third : ¬ Behind often p l 0 → ¬ Behind often p l 1 → Behind often p l 2 → LeadersBelow often (p + 1) (get_or l 0 0 ∷ get_or l 1 0 ∷ p ∷ [])
  enter_third a b h = leaders_put led (omega (arith, (not_behind b).0)) (omega arith) (below_two _ (not_behind a).1 (not_behind b).1) h
      (record { size = refl; before = below_two _ refl refl; here = λ i. refl; after = λ j i n. absurd (omega arith) })

-- the bar: who reaches it comes more often than the third leader; who does not comes behind all three
module _ {often : ℕ → ℕ} {p bar : ℕ} {l : List ℕ} (at : Bar often p l bar) where
  three : often p < bar → 3 ≤ p
  three h = elim (le_or_lt 3 p) [ inl i ↦ i | inr i ↦ absurd (omega (arith, at.few i)) ]

  pub bar_stays : often p < bar → Bar often (p + 1) l bar
  bar_stays h = let t = three h in record { few = λ i. absurd (omega arith); full = λ i. at.full t }

  pub leaders_stay : LeadersBelow often p l → often p < bar → LeadersBelow often (p + 1) l
  leaders_stay led h = leaders_put led t (omega arith) as_often (record { less = λ i. absurd (omega arith) })
      (record { size = led.size; before = λ j i. refl; here = λ i. absurd (omega arith); after = λ j i n. absurd (omega arith) })
    where
      t : 3 ≤ p
      t = three h

      third : often p ≤ often (get_or l 2 0)
      third = omega (arith, at.full t)

      as_often : (j : ℕ) → j < 3 → often p ≤ often (get_or l j 0)
      as_often j i = elim (le_or_lt 2 j) [
        | inl n ↦ let e : j ≡ 2 = omega arith in rw e third
        | inr n ↦ omega (arith, third, ahead_most (led.order j 2 n (omega (arith, t))))
      ]
