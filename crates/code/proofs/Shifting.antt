-- A word is put before those that moved on by one. Assumes nothing.
use Rattle.std.proofs.Common.{ℕ, zero, suc, ◌+◌, ◌-◌, ◌≤◌, ◌<◌, min, ◌≡◌, refl, sym, ◌∙◌, ◌⊎◌, inl, inr, List, [], ◌∷◌, ◌++◌, arith, length, get_or, set, length-append, length-set, get_or-set_same, get_or-set_other}
use Rattle.grammar.proofs.Stopping.{le_or_lt}
use Rattle.names.specs.Steps.Shifting.{Shifted}
use Rattle.code.specs.Steps.Holding.{Sized, Holds, Inserts}

-- a word put where the others made room for it
pub front_of : (l m : List ℕ) (i : ℕ) → i < length l → get_or (l ++ m) i 0 ≡ get_or l i 0
front_of [] m i h = absurd (omega arith)
front_of (x ∷ l) m zero h = refl
front_of (x ∷ l) m (suc i) h = front_of l m i (omega arith)

back_of : (l m : List ℕ) (i j : ℕ) → i ≡ length l + j → get_or (l ++ m) i 0 ≡ get_or m j 0
back_of [] m i j e = let z : i ≡ j = omega arith in rw z
back_of (x ∷ l) m zero j e = absurd (omega arith)
back_of (x ∷ l) m (suc i) j e = back_of l m i j (omega arith)

module _ {before : List ℕ} (l m : List ℕ) {size : ℕ} (at w : ℕ) (s : Sized at l) (x : Holds before size (l ++ m)) where
  pub inserted : {mid : List ℕ} {grown : ℕ} (last : ℕ) → last ≡ min size 1279 → at < 1280 → length before ≡ 1280 → Shifted 1 before mid at last → grown ≡ min (suc size) 1281
      → Holds (set mid at w) grown (l ++ (w ∷ m))
  inserted {mid} {grown} last d h n y g = record { sized = omega (arith, s, x.sized, length-append l m, length-append l (w ∷ m)); same = λ i j k. go i j k (le_or_lt at i) }
    where
      here : at ≡ length l
      here = omega arith

      past : (i : ℕ) → i ≡ at → get_or (set mid at w) i 0 ≡ get_or (l ++ (w ∷ m)) i 0
      past i q = rw q (get_or-set_same mid at w 0 (omega (arith, y.kept)) ∙ sym (back_of l (w ∷ m) at 0 (omega arith)))

      later : (i : ℕ) → at ≤ i → suc i < length (l ++ (w ∷ m)) → suc i < 1280 → get_or (set mid at w) (suc i) 0 ≡ get_or (l ++ (w ∷ m)) (suc i) 0
      later i q j k =
          let a = length-append l m in
          let b = length-append l (w ∷ m) in
          let c : suc (i - at) + length l ≡ suc i = omega arith in
          get_or-set_other mid at (suc i) w 0 (λ z. omega arith)
          ∙ (let s : suc i ≡ i + 1 = omega arith in rw s (y.moved i q (omega (arith, x.sized))))
          ∙ x.same i (omega arith) (omega arith)
          ∙ back_of l m i (i - at) (omega arith)
          ∙ sym (back_of l (w ∷ m) (suc i) (suc (i - at)) (omega arith))

      go : (i : ℕ) → i < length (l ++ (w ∷ m)) → i < 1280 → (at ≤ i) ⊎ (i < at) → get_or (set mid at w) i 0 ≡ get_or (l ++ (w ∷ m)) i 0
      go i j k (inr q) =
          get_or-set_other mid at i w 0 (λ z. omega arith) ∙ y.left i (omega arith) ∙ x.same i (omega (arith, length-append l m)) k
          ∙ front_of l m i (omega arith) ∙ sym (front_of l (w ∷ m) i (omega arith))
      go zero j k (inl q) = past zero (omega arith)
      go (suc i) j k (inl q) = elim (le_or_lt at i) [ inl r ↦ later i r j k | inr r ↦ past (suc i) (omega arith) ]

  -- a word behind all that fits
  pub dropped : {grown : ℕ} → 1280 ≤ at → grown ≡ min (suc size) 1281 → Holds before grown (l ++ (w ∷ m))
  dropped h g = record {
    sized = omega (arith, s, x.sized, length-append l m, length-append l (w ∷ m));
    same = λ i j k. (x.same i (omega (arith, length-append l m)) k ∙ front_of l m i (omega arith) ∙ sym (front_of l (w ∷ m) i (omega arith)));
  }

pub inserts : {before mid : List ℕ} {size at w grown : ℕ} (last : ℕ) → last ≡ min size 1279 → at < 1280 → length before ≡ 1280 → Shifted 1 before mid at last → grown ≡ min (suc size) 1281
    → Inserts before size at w (set mid at w) grown
inserts {before} {mid} {size} {at} {w} last d h n y g = record { holds = λ l m s x. inserted l m at w s x last d h n y g; kept = length-set mid at w ∙ y.kept }

pub drops : {before : List ℕ} {size at w grown : ℕ} → 1280 ≤ at → grown ≡ min (suc size) 1281 → Inserts before size at w before grown
drops {before} {size} {at} {w} h g = record { holds = λ l m s x. dropped l m at w s x h g; kept = refl }
