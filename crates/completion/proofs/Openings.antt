-- The children opened so far: one law for both loops, with G for what opens the child at a position. Assumes nothing.
use Rattle.std.proofs.Common.{ℕ, suc, ◌+◌, ◌≤◌, ◌<◌, ◌≡◌, refl, sym, ◌∙◌, ◌⊎◌, inl, inr, Bool, true, false, true≢false, List, eq-or-lt_of_le, arith, eq-eqb, length, get_or, set, length-set, get_or-set_same, get_or-set_other}
use native.Mathlib.Decide.{ℕ_discrete}
use Rattle.table.specs.Steps.Found.{Tells}
use Rattle.table.proofs.Lowest.{tells_as, tells_by}
use Rattle.completion.specs.Steps.Writing.{is_open, KidsOpened}

-- z stands at one of the first n positions, and G opens it there
pub record Among (G : ℕ → Type 0) (kids : List ℕ) (n z : ℕ) : Type 0 where
  pub at : ℕ
  pub low : at < n
  pub is : get_or kids at 0 ≡ z
  pub opens : G at

-- the flags tell it, with n positions passed
pub record OpenedSoFar (G : ℕ → Type 0) (kids : List ℕ) (n : ℕ) (old new : List ℕ) : Type 0 where
  pub within : n ≤ length kids
  pub size : length new ≡ 256
  pub tells : (z : ℕ) → z < 256 → Tells ((is_open old z ≡ true) ⊎ Among G kids n z) (is_open new z)

-- a flag that tells what holds is on
pub holds_on : {P : Type 0} (r : Bool) → Tells P r → P → r ≡ true
holds_on true t p = refl
holds_on false t p = absurd (t p)

-- a flag tells whether it was on, or what cannot be
tells_kept : {A : Type 0} (r : Bool) → ¬ A → Tells ((r ≡ true) ⊎ A) r
tells_kept r d = tells_by r inl (λ e q. elim q [ inl h ↦ true≢false (sym h ∙ e) | inr a ↦ d a ])

module _ {G : ℕ → Type 0} {kids old new : List ℕ} {n : ℕ} (s : OpenedSoFar G kids n old new) (l : n < length kids) where
  more : (z : ℕ) → (is_open old z ≡ true) ⊎ Among G kids n z → (is_open old z ≡ true) ⊎ Among G kids (n + 1) z
  more z (inl e) = inl e
  more z (inr a) = inr (record { at = a.at; low = omega (arith, a.low); is = a.is; opens = a.opens })

  less : (z : ℕ) → ¬ (G n × (get_or kids n 0 ≡ z)) → (is_open old z ≡ true) ⊎ Among G kids (n + 1) z → (is_open old z ≡ true) ⊎ Among G kids n z
  less z d (inl e) = inl e
  less z d (inr a) = go (eq-or-lt_of_le a.low)
    where
      go : (suc a.at ≡ n + 1) ⊎ (suc a.at < n + 1) → (is_open old z ≡ true) ⊎ Among G kids n z
      go (inl e) = let q : a.at ≡ n = omega arith in absurd (d (rw q at a.opens, rw q at a.is))
      go (inr h) = inr (record { at = a.at; low = omega arith; is = a.is; opens = a.opens })

  pub open_pass : ¬ G n → OpenedSoFar G kids (n + 1) old new
  open_pass d = record {
    within = omega arith;
    size = s.size;
    tells = λ z k. tells_as (more z) (less z (λ g. d g.0)) (is_open new z) (s.tells z k);
  }

  pub open_mark : (c : ℕ) → c ≡ get_or kids n 0 → c < 256 → G n → OpenedSoFar G kids (n + 1) old (set new c 1)
  open_mark c e h g = record { within = omega arith; size = length-set new c 1 ∙ s.size; tells = λ z k. go z k (ℕ_discrete z c) }
    where
      go : (z : ℕ) → z < 256 → Dec (z ≡ c) → Tells ((is_open old z ≡ true) ⊎ Among G kids (n + 1) z) (is_open (set new c 1) z)
      go z k (yes q) =
          let one : get_or (set new c 1) z 0 ≡ 1 = rw q (get_or-set_same new c 1 0 (omega (arith, s.size))) in
          rw (eq-eqb _ _ one) (inr (record { at = n; low = omega arith; is = sym e ∙ sym q; opens = g }))
      go z k (no d) =
          rw (get_or-set_other new c z 1 0 d)
          (tells_as (more z) (less z (λ g. d (sym g.1 ∙ sym e))) (is_open new z) (s.tells z k))

-- opened for another reason that comes to the same
pub kids_as : {G H : ℕ → Type 0} {kids old new : List ℕ} → ((i : ℕ) → i < length kids → G i → H i) → ((i : ℕ) → i < length kids → H i → G i)
    → KidsOpened G kids old new → KidsOpened H kids old new
kids_as {G} {H} {kids} {old} {new} f g s = record { size = s.size; tells = λ z k. tells_as (out z) (into z) (is_open new z) (s.tells z k) }
  where
    out : (z : ℕ) → (is_open old z ≡ true) ⊎ ((i : ℕ) × (i < length kids) × (get_or kids i 0 ≡ z) × G i) → (is_open old z ≡ true) ⊎ ((i : ℕ) × (i < length kids) × (get_or kids i 0 ≡ z) × H i)
    out z (inl e) = inl e
    out z (inr (i, l, e, o)) = inr (i, l, e, f i l o)

    into : (z : ℕ) → (is_open old z ≡ true) ⊎ ((i : ℕ) × (i < length kids) × (get_or kids i 0 ≡ z) × H i) → (is_open old z ≡ true) ⊎ ((i : ℕ) × (i < length kids) × (get_or kids i 0 ≡ z) × G i)
    into z (inl e) = inl e
    into z (inr (i, l, e, o)) = inr (i, l, e, g i l o)

-- none is opened
pub kids_none : {G : ℕ → Type 0} {kids old : List ℕ} → length old ≡ 256 → ((i : ℕ) → i < length kids → ¬ G i) → KidsOpened G kids old old
kids_none {old = old} h d = record { size = h; tells = λ z k. tells_kept (is_open old z) (λ a. d a.0 a.1 a.3) }
