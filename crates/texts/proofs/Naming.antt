-- The places of the wrong names, computed; the lowest is number 22's. Assumes nothing.
use Rattle.std.proofs.Common.{ℕ, suc, ◌+◌, ◌≤◌, ◌<◌, ◌≡◌, refl, ◌⊎◌, inl, inr, List, [], ◌∷◌, ◌++◌, arith, length, Option, Some, None}
use Rattle.table.proofs.Test.{is_less, is_at_most}
use Rattle.grammar.specs.Tree.{Use, Declaration, Nth, first, later, uses_of}
use Rattle.model.specs.Names.{Misnamed}
use Rattle.model.specs.Tables.{number_of}
use Rattle.names.specs.Steps.Names.{FirstMisnamed}
use Rattle.names.specs.Steps.Wrong.{Unknown, Wrong, again, unknown}
use Rattle.names.proofs.Wrongs.{misnamed_wrong, wrong_misnamed}
use Rattle.grammar.proofs.Stopping.{le_or_lt}
use Rattle.texts.proofs.Tests.{when, by_when}

-- k is in the list
data In (k : ℕ) : List ℕ → Type 0 where
  here : {x : ℕ} {l : List ℕ} → x ≡ k → In k (x ∷ l)
  there : {x : ℕ} {l : List ℕ} → In k l → In k (x ∷ l)

nowhere : {k : ℕ} {l : List ℕ} → In k l → length l ≡ 0 → ⊥
nowhere (here h) e = omega arith
nowhere (there h) e = omega arith

in_left : {k : ℕ} {l : List ℕ} (m : List ℕ) → In k l → In k (l ++ m)
in_left m (here e) = here e
in_left m (there h) = there (in_left m h)

in_right : {k : ℕ} (l : List ℕ) {m : List ℕ} → In k m → In k (l ++ m)
in_right [] h = h
in_right (x ∷ l) h = there (in_right l h)

in_part : {k : ℕ} (l : List ℕ) {m : List ℕ} → In k (l ++ m) → In k l ⊎ In k m
in_part [] h = inr h
in_part (x ∷ l) (here e) = inl (here e)
in_part (x ∷ l) (there h) = elim (in_part l h) [ inl y ↦ inl (there y) | inr y ↦ inr y ]

-- the lowest of a list
abbrev less : ℕ → Option ℕ → Option ℕ
less x None = Some x
less x (Some k) = when (is_at_most x k) (λ h. Some x) (λ h. Some k)

abbrev lowest : List ℕ → Option ℕ
lowest [] = None
lowest (x ∷ l) = less x (lowest l)

abbrev Least : List ℕ → Option ℕ → Type 0
Least l (Some k) = In k l × ((j : ℕ) → In j l → k ≤ j)
Least l None = (j : ℕ) → ¬ In j l

lowest_least : (l : List ℕ) → Least l (lowest l)
lowest_least [] = λ j h. nowhere h refl
lowest_least (x ∷ l) = go (lowest l) (lowest_least l)
  where
    only : ((j : ℕ) → ¬ In j l) → (j : ℕ) → In j (x ∷ l) → x ≤ j
    only h j (here e) = omega arith
    only h j (there y) = absurd (h j y)

    all : {i k : ℕ} → i ≤ x → i ≤ k → ((j : ℕ) → In j l → k ≤ j) → (j : ℕ) → In j (x ∷ l) → i ≤ j
    all a b h j (here e) = omega arith
    all a b h j (there y) = omega (arith, h j y)

    above : {k : ℕ} → ¬ (x ≤ k) → k ≤ x
    above {k} f = elim (le_or_lt x k) [ inl y ↦ absurd (f y) | inr y ↦ omega arith ]

    go : (f : Option ℕ) → Least l f → Least (x ∷ l) (less x f)
    go None h = (here refl, only h)
    go (Some k) h = by_when (Least (x ∷ l)) (is_at_most x k) (λ y. (here refl, all (omega arith) y h.1)) (λ f. (there h.0, all (above f) (omega arith) h.1))

module _ (number : List ℕ → ℕ) (declared : ℕ) where
  -- the places of names that are never declared
  abbrev unknowns : List Use → List ℕ
  unknowns [] = []
  unknowns (u ∷ us) = when (is_at_most declared (number u.bytes)) (λ h. u.place ∷ unknowns us) (λ h. unknowns us)

  unknown_in : {k i : ℕ} {u : Use} (us : List Use) → Nth us i u → declared ≤ number u.bytes → u.place ≡ k → In k (unknowns us)
  unknown_in [] n h e = elim n [ ]
  unknown_in {k} (u ∷ us) first h e = by_when (In k) (is_at_most declared (number u.bytes)) (λ y. here e) (λ f. absurd (f h))
  unknown_in {k} (v ∷ us) (later n) h e = by_when (In k) (is_at_most declared (number v.bytes)) (λ y. there (unknown_in us n h e)) (λ f. unknown_in us n h e)

  known_on : {k : ℕ} {u : Use} {us : List Use} → Unknown number declared us k → Unknown number declared (u ∷ us) k
  known_on x = record { index = suc x.index; used = x.used; there = later x.there; high = x.high; is = x.is }

  in_unknown : (k : ℕ) (us : List Use) → In k (unknowns us) → Unknown number declared us k
  in_unknown k [] h = absurd (nowhere h refl)
  in_unknown k (u ∷ us) h = by_when (λ (l : List ℕ). In k l → Unknown number declared (u ∷ us) k) (is_at_most declared (number u.bytes)) (λ y. this y (λ g. in_unknown k us g)) (λ f g. known_on (in_unknown k us g)) h
    where
      this : declared ≤ number u.bytes → (In k (unknowns us) → Unknown number declared us k) → In k (u.place ∷ unknowns us) → Unknown number declared (u ∷ us) k
      this y rest (here e) = record { index = 0; used = u; there = first; high = y; is = e }
      this y rest (there g) = known_on (rest g)

  -- those of wrong names of declaration m, and of all from m on
  abbrev wrongs : ℕ → Declaration → List ℕ
  wrongs m d = when (is_less (number d.named) m) (λ h. d.place ∷ unknowns (uses_of d.content)) (λ h. unknowns (uses_of d.content))

  wrong_in : {m k : ℕ} {d : Declaration} → Wrong number declared m d k → In k (wrongs m d)
  wrong_in {m} {k} {d} (again h e) = by_when (In k) (is_less (number d.named) m) (λ y. here e) (λ f. absurd (f h))
  wrong_in {m} {k} {d} (unknown u) =
      let x = unknown_in (uses_of d.content) u.there u.high u.is in by_when (In k) (is_less (number d.named) m) (λ y. there x) (λ f. x)

  in_wrong : (m k : ℕ) (d : Declaration) → In k (wrongs m d) → Wrong number declared m d k
  in_wrong m k d h = by_when (λ (l : List ℕ). In k l → Wrong number declared m d k) (is_less (number d.named) m) (λ y. this y) (λ f g. used g) h
    where
      used : In k (unknowns (uses_of d.content)) → Wrong number declared m d k
      used g = unknown (in_unknown k (uses_of d.content) g)

      this : number d.named < m → In k (d.place ∷ unknowns (uses_of d.content)) → Wrong number declared m d k
      this y (here e) = again y e
      this y (there g) = used g

  abbrev wrongs_from : ℕ → List Declaration → List ℕ
  wrongs_from m [] = []
  wrongs_from m (d ∷ ds) = wrongs m d ++ wrongs_from (suc m) ds

  at : {m n k : ℕ} {d : Declaration} → m ≡ n → Wrong number declared m d k → Wrong number declared n d k
  at e w = rw e at w

  wrong_from : (m : ℕ) {k i : ℕ} {d : Declaration} {ds : List Declaration} → Nth ds i d → Wrong number declared (i + m) d k → In k (wrongs_from m ds)
  wrong_from m (first {l = ds}) w = in_left (wrongs_from (suc m) ds) (wrong_in (at (omega arith) w))
  wrong_from m (later {b = e} n) w = in_right (wrongs m e) (wrong_from (suc m) n (at (omega arith) w))

  from_wrong : (m k : ℕ) (ds : List Declaration) → In k (wrongs_from m ds) → (i : ℕ) × ((d : Declaration) × Nth ds i d × Wrong number declared (i + m) d k)
  from_wrong m k [] h = absurd (nowhere h refl)
  from_wrong m k (d ∷ ds) h = elim (in_part (wrongs m d) h) [
    | inl x ↦ (0, (d, first, at (omega arith) (in_wrong m k d x)))
    | inr x ↦ (let r = from_wrong (suc m) k ds x in (suc r.0, (r.1.0, later r.1.1, at (omega arith) r.1.2)))
  ]

-- the first misnamed name
abbrev pub misnamed_of : List Declaration → Option ℕ
misnamed_of ds = lowest (wrongs_from (number_of ds) (length ds) 0 ds)

pub misnamed_of_lem : (ds : List Declaration) → FirstMisnamed ds (misnamed_of ds)
misnamed_of_lem ds = go (misnamed_of ds) (lowest_least (wrongs_from (number_of ds) (length ds) 0 ds))
  where
    places : List ℕ
    places = wrongs_from (number_of ds) (length ds) 0 ds

    in_places : {k : ℕ} → Misnamed ds k → In k places
    in_places m = let w = misnamed_wrong m in wrong_from (number_of ds) (length ds) 0 w.there (at (number_of ds) (length ds) (omega arith) w.wrong)

    from_places : {k : ℕ} → In k places → Misnamed ds k
    from_places {k} h = let r = from_wrong (number_of ds) (length ds) 0 k ds h in wrong_misnamed r.1.1 (at (number_of ds) (length ds) (omega arith) r.1.2)

    go : (f : Option ℕ) → Least places f → FirstMisnamed ds f
    go (Some k) h = (from_places h.0, λ j l m. omega (arith, h.1 j (in_places m)))
    go None h = λ j m. h j (in_places m)
