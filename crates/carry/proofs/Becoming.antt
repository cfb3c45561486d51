-- Which new privilege an old one becomes: at most one, and each new one comes from at most one old one, because no two types have one new number. Assumes
-- nothing.
use Prim.Native.Nat.{ℕ, ◌≤◌, ◌<◌}
use mathlib.Core.Path.{◌≡◌, sym, ap, ◌∙◌}
use mathlib.Core.Logic.{◌⊎◌, inl, inr}
use mathlib.Core.List.{List}
use native.Mathlib.Omega.{arith}
use Rattle.table.specs.Words.{types}
use Rattle.table.specs.Privilege.{privileges, Edit, privilege_of}
use Rattle.table.specs.Named.{Named, texts, inserts, deletes, replaces, name_of}
use Rattle.table.specs.Check.{Accepted}
use Rattle.table.proofs.Lists.{le_or_lt}
use Rattle.table.proofs.Privileges.{edit_below, edit_one}
use Rattle.table.proofs.Facts.{facts}
use Rattle.table.proofs.Named.{kind_of, Each, names_types, name_one}
use Rattle.carry.specs.Numbers.{new_number, NewNumbers}
use Rattle.carry.specs.Carries.{mapped, Becomes}

-- what holds of each type named after mapping holds of the new number of each type named before
each_mapped : (P : ℕ → Type 0) (f : ℕ → ℕ) (n : Named) → Each P (mapped f n) → Each (λ t. P (f t)) n
each_mapped P f (texts x) h = h
each_mapped P f (inserts x a) h = h
each_mapped P f (deletes x a) h = h
each_mapped P f (replaces x a b) h = h

each_both : (P Q : ℕ → Type 0) (n : Named) → Each P n → Each Q n → Each (λ t. P t × Q t) n
each_both P Q (texts x) g h = (g, h)
each_both P Q (inserts x a) g h = ((g.0, h.0), (g.1, h.1))
each_both P Q (deletes x a) g h = ((g.0, h.0), (g.1, h.1))
each_both P Q (replaces x a b) g h = ((g.0, h.0), (g.1, h.1), (g.2, h.2))

pub each_map : (P Q : ℕ → Type 0) → ((t : ℕ) → P t → Q t) → (n : Named) → Each P n → Each Q n
each_map P Q f (texts x) h = f x h
each_map P Q f (inserts x a) h = (f x h.0, f a h.1)
each_map P Q f (deletes x a) h = (f x h.0, f a h.1)
each_map P Q f (replaces x a b) h = (f x h.0, f a h.1, f b h.2)

-- numbers that are the same for each type named map it onto the same
pub mapped_same : (f g : ℕ → ℕ) (n : Named) → Each (λ t. f t ≡ g t) n → mapped f n ≡ mapped g n
mapped_same f g (texts x) h = ap texts h
mapped_same f g (inserts x a) h = let e = h.0 in let d = h.1 in cc
mapped_same f g (deletes x a) h = let e = h.0 in let d = h.1 in cc
mapped_same f g (replaces x a b) h = let e = h.0 in let d = h.1 in let c = h.2 in cc

-- numbers that differ for any two of the types named map different names onto different ones
pub mapped_one : (P : ℕ → Type 0) (f : ℕ → ℕ) → ((t s : ℕ) → P t → P s → f t ≡ f s → t ≡ s)
    → (n m : Named) → Each P n → Each P m → mapped f n ≡ mapped f m → n ≡ m
mapped_one P f one (texts x) (texts y) g h q = ap texts (one x y g h cc)
mapped_one P f one (texts x) (inserts y a) g h q = absurd (omega (arith, ap kind_of q))
mapped_one P f one (texts x) (deletes y a) g h q = absurd (omega (arith, ap kind_of q))
mapped_one P f one (texts x) (replaces y a b) g h q = absurd (omega (arith, ap kind_of q))
mapped_one P f one (inserts x a) (texts y) g h q = absurd (omega (arith, ap kind_of q))
mapped_one P f one (inserts x a) (inserts y b) g h q = let e = one x y g.0 h.0 cc in let d = one a b g.1 h.1 cc in cc
mapped_one P f one (inserts x a) (deletes y b) g h q = absurd (omega (arith, ap kind_of q))
mapped_one P f one (inserts x a) (replaces y b c) g h q = absurd (omega (arith, ap kind_of q))
mapped_one P f one (deletes x a) (texts y) g h q = absurd (omega (arith, ap kind_of q))
mapped_one P f one (deletes x a) (inserts y b) g h q = absurd (omega (arith, ap kind_of q))
mapped_one P f one (deletes x a) (deletes y b) g h q = let e = one x y g.0 h.0 cc in let d = one a b g.1 h.1 cc in cc
mapped_one P f one (deletes x a) (replaces y b c) g h q = absurd (omega (arith, ap kind_of q))
mapped_one P f one (replaces x a b) (texts y) g h q = absurd (omega (arith, ap kind_of q))
mapped_one P f one (replaces x a b) (inserts y c) g h q = absurd (omega (arith, ap kind_of q))
mapped_one P f one (replaces x a b) (deletes y c) g h q = absurd (omega (arith, ap kind_of q))
mapped_one P f one (replaces x a b) (replaces y c d) g h q =
    let from = one a c g.1 h.1 cc in
    let to = one b d g.2 h.2 cc in
    let same = one x y g.0 h.0 cc in
    cc

-- a list gives each new type to one old one at most: 65,535 is no type
module _ {old e : ℕ} {numbers : List ℕ} (l : NewNumbers old e numbers) (few : e ≤ 256) where
  pub numbers_one : (t s : ℕ) → t < old → s < old → new_number numbers t < e → new_number numbers t ≡ new_number numbers s → t ≡ s
  numbers_one t s ht hs low q = go (le_or_lt t s) (le_or_lt s t)
    where
      go : (t ≤ s) ⊎ (s < t) → (s ≤ t) ⊎ (t < s) → t ≡ s
      go (inl g) (inl h) = omega arith
      go (inl g) (inr h) = absurd ((l.entries s hs).once (λ z. omega arith) t h q)
      go (inr g) h = absurd ((l.entries t ht).once (λ z. omega arith) s g (sym q))

module _ {old new numbers : List ℕ} where
  pub becomes_below : {p q : ℕ} → Becomes old new numbers p q → (p < privileges old) × (q < privileges new)
  becomes_below b = (rw b.old_is at (edit_below old b.before b.offered), rw b.new_is at (edit_below new b.after b.offers))

  pub becomes_one : {p q r : ℕ} → Accepted new → Becomes old new numbers p q → Becomes old new numbers p r → q ≡ r
  becomes_one a b c =
      let before : b.before ≡ c.before = edit_one old b.before c.before b.offered c.offered (b.old_is ∙ sym c.old_is) in
      let name : name_of new b.after ≡ name_of new c.after =
      b.same ∙ ap (λ (e : Edit). mapped (new_number numbers) (name_of old e)) before ∙ sym c.same in
      let after : b.after ≡ c.after = name_one a b.after c.after b.offers c.offers name in
      sym b.new_is ∙ ap (privilege_of new) after ∙ c.new_is

  -- the types that an old edit names, and their new numbers, are types
  becomes_types : {p q : ℕ} → Accepted old → Accepted new → (b : Becomes old new numbers p q)
      → Each (λ t. (t < types old) × (new_number numbers t < types new)) (name_of old b.before)
  becomes_types a c b =
      let after : Each (λ t. t < types new) (mapped (new_number numbers) (name_of old b.before)) = rw b.same at (names_types c b.after b.offers) in
      each_both (λ t. t < types old) (λ t. new_number numbers t < types new) (name_of old b.before) (names_types a b.before b.offered)
      (each_mapped (λ t. t < types new) (new_number numbers) (name_of old b.before) after)

  pub becomes_from : {p q r : ℕ} → Accepted old → Accepted new → NewNumbers (types old) (types new) numbers
      → Becomes old new numbers p q → Becomes old new numbers r q → p ≡ r
  becomes_from a c l b d =
      let after : b.after ≡ d.after = edit_one new b.after d.after b.offers d.offers (b.new_is ∙ sym d.new_is) in
      let name : name_of old b.before ≡ name_of old d.before =
      mapped_one (λ t. (t < types old) × (new_number numbers t < types new)) (new_number numbers)
      (λ t s g h. numbers_one l (facts c).few t s g.0 h.0 g.1) (name_of old b.before) (name_of old d.before) (becomes_types a c b)
      (becomes_types a c d) (sym b.same ∙ ap (name_of new) after ∙ d.same) in
      let before : b.before ≡ d.before = name_one a b.before d.before b.offered d.offered name in
      sym b.old_is ∙ ap (privilege_of old) before ∙ d.old_is
