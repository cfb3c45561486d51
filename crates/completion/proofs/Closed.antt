-- What is granted forces nothing more: the operator T is closed. The argument of document 000, section 4.1: opening goes down, and a step
-- that was granted is allowed, or reached, or at an opened type; an exchange likewise. Assumes nothing.
use Rattle.std.proofs.Common.{ℕ, ◌≡◌, refl, ◌⊎◌, inl, inr, List, arith}
use mathlib.Core.Path.{subst⁻¹}
use Rattle.table.specs.Rule.{IsStar, child_at, Child}
use Rattle.table.specs.Privilege.{Belongs, insert_of, delete_of, Edit, text, insert, delete, exchange, replace, type_of, Offers, privilege_of}
use Rattle.table.specs.Check.{Accepted}
use Rattle.table.proofs.Privileges.{belongs_one, edit_belongs, edit_one}
use Rattle.table.proofs.Facts.{facts, child_at_lem}
use Rattle.table.specs.Below.{Below, here, down}
use Rattle.verdict.specs.Below.{PrivilegeBelow}
use Rattle.table.specs.Plus.{last, next}
use Rattle.policy.specs.Reached.{Step, Reached}
use Rattle.policy.specs.Renewed.{Both, Renewed, by_both, by_exchange}
use Rattle.verdict.specs.Forces.{Forces, renewal, chain, cycle}
use Rattle.verdict.specs.Forces as forces
use Rattle.table.proofs.Belows.{below_trans}
use Rattle.policy.proofs.Closures.{plus_trans}
use Rattle.completion.specs.Granted.{Granted}
use Rattle.completion.specs.Steps.Opens.{OpensAt, Opened}
use Rattle.completion.specs.Steps.Opens as opens
use Rattle.policy.proofs.Reaches.{reached_from}

-- opening goes down
pub opened_down : {ws : List ℕ} {S : ℕ → Type 0} {x y : ℕ} → Opened ws S y → Below ws x y → Opened ws S x
opened_down o b = record { at = o.at; i = o.i; opens = o.opens; below = below_trans b o.below }

-- an opened type's privileges are forced
pub opened_forces : {ws : List ℕ} {S : ℕ → Type 0} {x p : ℕ} → Opened ws S x → Belongs ws p x → Forces ws S p
opened_forces {ws} {S} {x} {p} o b = go o.opens (record { type = x; belongs = b; below = o.below })
  where
    go : {y i : ℕ} → OpensAt ws S y i → PrivilegeBelow ws p (child_at ws y i) → Forces ws S p
    go {y} (opens.star s r e) w = renewal y s r (rw e at w)
    go {y} {i} (opens.cycle s r) w = cycle y i s r w

-- an edit that what is allowed at its own type forces: the exchange by insert and delete, a replacement by being reached
abbrev pub Drawn : List ℕ → (ℕ → Type 0) → Edit → Type 0
Drawn ws S (text x) = ⊥
Drawn ws S (insert x) = ⊥
Drawn ws S (delete x) = ⊥
Drawn ws S (exchange x) = Both ws S x
Drawn ws S (replace x i j) = Reached ws S x i j

-- a forced privilege is that of an opened type, or of such an edit
pub record Own (ws : List ℕ) (S : ℕ → Type 0) (p : ℕ) : Type 0 where
  pub edit : Edit
  pub offers : Offers ws edit
  pub drawn : Drawn ws S edit
  pub is : p ≡ privilege_of ws edit

below_opened : {ws : List ℕ} {S : ℕ → Type 0} {p x i : ℕ} → OpensAt ws S x i → PrivilegeBelow ws p (child_at ws x i) → (y : ℕ) × Belongs ws p y × Opened ws S y
below_opened {x = x} {i = i} o w = (w.type, w.belongs, record { at = x; i = i; opens = o; below = w.below })

pub forces_cases : {ws : List ℕ} {S : ℕ → Type 0} {p : ℕ} → Forces ws S p → ((y : ℕ) × Belongs ws p y × Opened ws S y) ⊎ Own ws S p
forces_cases (forces.exchange x c b e) = inr (record { edit = exchange x; offers = c; drawn = b; is = e })
forces_cases (renewal x s r w) = inl (below_opened (opens.star s r refl) w)
forces_cases (chain x i j s r c e) = inr (record { edit = replace x i j; offers = c; drawn = r; is = e })
forces_cases (cycle x i s r w) = inl (below_opened (opens.cycle s r) w)

-- such an edit is forced
pub drawn_forces : {ws : List ℕ} {S : ℕ → Type 0} {p : ℕ} (e : Edit) → Offers ws e → Drawn ws S e → p ≡ privilege_of ws e → Forces ws S p
drawn_forces (text x) o d q = absurd d
drawn_forces (insert x) o d q = absurd d
drawn_forces (delete x) o d q = absurd d
drawn_forces (exchange x) o d q = forces.exchange x o d q
drawn_forces (replace x i j) o d q = chain x i j o.choice d o q

module _ {ws : List ℕ} {S : ℕ → Type 0} where
  -- where the privilege of an edit was granted, it is allowed, or its type is opened, or it is forced by its own type
  source : (e : Edit) → Offers ws e → Granted ws S (privilege_of ws e) → S (privilege_of ws e) ⊎ Opened ws S (type_of e) ⊎ Drawn ws S e
  source e o (inl a) = inl a
  source e o (inr f) = elim (forces_cases f) [
    | inl (y, c, g) ↦ let q : y ≡ type_of e = belongs_one c (edit_belongs ws e o) in inr (inl (rw q at g))
    | inr c ↦ inr (inr (subst⁻¹ (Drawn ws S) (edit_one ws e c.edit o c.offers c.is) c.drawn))
  ]

  -- a step that was granted is at an opened type, or reached
  pub step_source : {x i j : ℕ} → Step ws (Granted ws S) x i j → Opened ws S x ⊎ Reached ws S x i j
  step_source {x} {i} {j} s = elim (source (replace x i j) s.can s.allowed) [
    | inl a ↦ inr (last (record { can = s.can; allowed = a }))
    | inr (inl o) ↦ inl o
    | inr (inr r) ↦ inr r
  ]

  reached_source : {x i j : ℕ} → Reached ws (Granted ws S) x i j → Opened ws S x ⊎ Reached ws S x i j
  reached_source (last s) = step_source s
  reached_source {x} {i} {j} (next k s r) = go (step_source s) (reached_source r)
    where
      go : Opened ws S x ⊎ Reached ws S x i k → Opened ws S x ⊎ Reached ws S x k j → Opened ws S x ⊎ Reached ws S x i j
      go (inl o) b = inl o
      go (inr a) (inl o) = inl o
      go (inr a) (inr b) = inr (plus_trans a b)

  both_source : {x : ℕ} → IsStar ws x → Both ws (Granted ws S) x → Opened ws S x ⊎ Both ws S x
  both_source {x} s b = go (source (insert x) s b.insert) (source (delete x) s b.delete)
    where
      go : S (insert_of ws x) ⊎ Opened ws S x ⊎ ⊥ → S (delete_of ws x) ⊎ Opened ws S x ⊎ ⊥ → Opened ws S x ⊎ Both ws S x
      go (inl f) (inl g) = inr (record { insert = f; delete = g })
      go (inl f) (inr (inl o)) = inl o
      go (inl f) (inr (inr z)) = absurd z
      go (inr (inl o)) b = inl o
      go (inr (inr z)) b = absurd z

  renewed_source : {x : ℕ} → IsStar ws x → Renewed ws (Granted ws S) x → Opened ws S x ⊎ Renewed ws S x
  renewed_source s (by_both b) = elim (both_source s b) [ inl o ↦ inl o | inr c ↦ inr (by_both c) ]
  renewed_source {x} s (by_exchange c a) = elim (source (exchange x) c a) [
    | inl b ↦ inr (by_exchange c b)
    | inr (inl o) ↦ inl o
    | inr (inr b) ↦ inr (by_both b)
  ]

  drawn_source : (e : Edit) → Offers ws e → Drawn ws (Granted ws S) e → Opened ws S (type_of e) ⊎ Drawn ws S e
  drawn_source (text x) o d = absurd d
  drawn_source (insert x) o d = absurd d
  drawn_source (delete x) o d = absurd d
  drawn_source (exchange x) o d = both_source o.star d
  drawn_source (replace x i j) o d = reached_source d

  pub opens_source : {x i : ℕ} → OpensAt ws (Granted ws S) x i → Opened ws S x ⊎ OpensAt ws S x i
  opens_source (opens.star s r e) = elim (renewed_source s r) [ inl o ↦ inl o | inr q ↦ inr (opens.star s q e) ]
  opens_source (opens.cycle s r) = elim (reached_source r) [ inl o ↦ inl o | inr q ↦ inr (opens.cycle s q) ]

-- the child that a type opens is its child
pub opens_child : {ws : List ℕ} {S : ℕ → Type 0} {x i : ℕ} → Accepted ws → OpensAt ws S x i → Child ws x (child_at ws x i)
opens_child {ws} {x = x} a (opens.star s r e) = rw e (child_at_lem a x 0 s.type (omega (arith, (facts a).star_one x s)))
opens_child {ws} {x = x} {i = i} a (opens.cycle s r) = child_at_lem a x i s.type (reached_from r)

module _ {ws : List ℕ} {S : ℕ → Type 0} (a : Accepted ws) where
  pub opened_source : {y : ℕ} → Opened ws (Granted ws S) y → Opened ws S y
  opened_source {y} o = elim (opens_source o.opens) [
    | inl p ↦ opened_down p (below_trans o.below (down (child_at ws o.at o.i) (opens_child a o.opens) here))
    | inr p ↦ record { at = o.at; i = o.i; opens = p; below = o.below }
  ]

  -- T is closed
  pub granted_closed : {p : ℕ} → Forces ws (Granted ws S) p → Granted ws S p
  granted_closed {p} f = go (forces_cases f)
    where
      drawn : (c : Own ws (Granted ws S) p) → Opened ws S (type_of c.edit) ⊎ Drawn ws S c.edit → Granted ws S p
      drawn c (inl o) = inr (opened_forces o (rw c.is (edit_belongs ws c.edit c.offers)))
      drawn c (inr d) = inr (drawn_forces c.edit c.offers d c.is)

      go : ((y : ℕ) × Belongs ws p y × Opened ws (Granted ws S) y) ⊎ Own ws (Granted ws S) p → Granted ws S p
      go (inl (y, b, o)) = inr (opened_forces (opened_source o) b)
      go (inr c) = drawn c (drawn_source c.edit c.offers c.drawn)
