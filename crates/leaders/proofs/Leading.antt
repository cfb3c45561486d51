-- The leaders: there is one answer, it rests on how often each number comes and on nothing else, and of the leader at place k exactly k numbers are
-- ahead. Assumes nothing.
use Rattle.std.proofs.Common.{ℕ, zero, suc, ◌<◌, ◌≡◌, sym, ◌∙◌, ◌≢◌, inl, inr, List, eq-or-lt_of_le, arith, get_or, ext_get_or}
use native.Mathlib.Nat.{suc_inj}
use Rattle.table.specs.HowMany.{HowMany}
use Rattle.table.proofs.HowMany.{many_none, many_more, many_as}
use Rattle.table.proofs.Lists.{le_or_lt}
use Rattle.table.proofs.Test.{settle, some, is_equal}
use Rattle.leaders.specs.Leaders.{Ahead, more, lower, LeadersOf}
use Rattle.leaders.proofs.Ahead.{ahead_never, ahead_trans, ahead_total}

-- a number that is ahead of a leader is a leader itself, at a place before
pub leader_before : {v : ℕ} {often : ℕ → ℕ} {c : ℕ} {l : List ℕ} → LeadersOf v often c l → (k q : ℕ) → k < c → q < v → Ahead often q (get_or l k 0)
    → (j : ℕ) × (j < k) × (get_or l j 0 ≡ q)
leader_before {v} {often} {c} {l} led k q i h a = elim (settle (some c (λ j. is_equal (get_or l j 0) q))) [
  | inl r ↦ at r.0 r.1 r.2
  | inr none ↦ absurd (ahead_never (ahead_trans (led.others q k h i (λ j m e. none (j, m, e))) a))
]
  where
    at : (j : ℕ) → j < c → get_or l j 0 ≡ q → (j : ℕ) × (j < k) × (get_or l j 0 ≡ q)
    at j m e = elim (le_or_lt k j) [
      | inl n ↦ elim (eq-or-lt_of_le n) [
        | inl f ↦ absurd (ahead_never (rw (f, e) at a))
        | inr g ↦ absurd (ahead_never (ahead_trans a (rw e at (led.order k j g m))))
      ]
      | inr n ↦ (j, n, e)
    ]

-- where two answers agree on the places before, no leader of one is ahead of the other's
none_ahead : {v : ℕ} {often : ℕ → ℕ} {c : ℕ} {l m : List ℕ} → LeadersOf v often c l → LeadersOf v often c m → (k : ℕ) → k < c
    → ((j : ℕ) → j < k → get_or l j 0 ≡ get_or m j 0) → ¬ Ahead often (get_or l k 0) (get_or m k 0)
none_ahead {l = l} a b k h same f =
    let r = leader_before b k (get_or l k 0) h (a.inside k h) f in
    ahead_never (rw (same r.0 r.1 ∙ r.2) at (a.order r.0 k r.1 h))

pub leaders_one : {v : ℕ} {often : ℕ → ℕ} {c d : ℕ} {l m : List ℕ} → LeadersOf v often c l → LeadersOf v often d m → (c ≡ d) × (l ≡ m)
leaders_one {v} {often} {c} {d} {l} {m} a b = (same, ext_get_or 0 l m (a.size ∙ sym b.size) (λ k h. upto (suc k) k (omega arith)))
  where
    same : c ≡ d
    same = a.many ∙ sym b.many

    here : (k : ℕ) → ((j : ℕ) → j < k → get_or l j 0 ≡ get_or m j 0) → get_or l k 0 ≡ get_or m k 0
    here k before = elim (le_or_lt c k) [
      | inl u ↦ a.unused k u ∙ sym (b.unused k (omega (arith, same)))
      | inr u ↦ elim (settle (is_equal (get_or l k 0) (get_or m k 0))) [
        | inl e ↦ e
        | inr n ↦ absurd (elim (ahead_total {often = often} n) [
          | inl f ↦ none_ahead a (rw (← same) at b) k u before f
          | inr f ↦ none_ahead (rw (← same) at b) a k u (λ j i. sym (before j i)) f
        ])
      ]
    ]

    upto : (n k : ℕ) → k < n → get_or l k 0 ≡ get_or m k 0
    upto zero k h = absurd (omega arith)
    upto (suc n) k h = here k (λ j i. upto n j (omega arith))

pub leaders_as : {v : ℕ} {f g : ℕ → ℕ} {c : ℕ} {l : List ℕ} → ((p : ℕ) → p < v → f p ≡ g p) → LeadersOf v f c l → LeadersOf v g c l
leaders_as {v} {f} {g} {c} {l} same led = record {
  size = led.size;
  many = led.many;
  inside = led.inside;
  order = λ j k h i. ahead (led.inside j (omega arith)) (led.inside k i) (led.order j k h i);
  others = λ p k h i n. ahead (led.inside k i) h (led.others p k h i n);
  unused = led.unused;
}
  where
    ahead : {p q : ℕ} → p < v → q < v → Ahead f p q → Ahead g p q
    ahead {p} {q} i j (more h) = more (omega (arith, same p i, same q j))
    ahead {p} {q} i j (lower e h) = lower (omega (arith, same p i, same q j)) h

-- exactly k of the numbers are ahead of the leader at place k
pub leaders_ahead : {v : ℕ} {often : ℕ → ℕ} {c : ℕ} {l : List ℕ} → LeadersOf v often c l → (k : ℕ) → k < c → HowMany (λ q. Ahead often q (get_or l k 0)) v k
leaders_ahead {v} led zero h = many_none v (λ q i a. let r = leader_before led 0 q h i a in omega (arith, r.1))
leaders_ahead {v} {often} {l = l} led (suc k) h =
    many_as (λ q i x. x.1) (λ q i x. (i, x))
    (many_more {P = λ q. (q < v) × Ahead often q (get_or l (suc k) 0)} {Q = λ q. (q < v) × Ahead often q (get_or l k 0)} (get_or l k 0) i (i, next)
    (λ x. ahead_never x.1) (λ q d x. (x.0, back q d (leader_before led (suc k) q h x.0 x.1))) (λ q d x. (x.0, ahead_trans x.1 next))
    (many_as (λ q i x. (i, x)) (λ q i x. x.1) (leaders_ahead led k (omega arith))))
  where
    i : get_or l k 0 < v
    i = led.inside k (omega arith)

    next : Ahead often (get_or l k 0) (get_or l (suc k) 0)
    next = led.order k (suc k) (omega arith) h

    back : (q : ℕ) → q ≢ get_or l k 0 → (j : ℕ) × (j < suc k) × (get_or l j 0 ≡ q) → Ahead often q (get_or l k 0)
    back q d r = elim (eq-or-lt_of_le r.1) [
      | inl e ↦ absurd (d (rw (suc_inj e) at (sym r.2)))
      | inr m ↦ rw r.2 at (led.order r.0 k (omega arith) (omega arith))
    ]
