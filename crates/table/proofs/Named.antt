-- A table's edits by what they name: they name types, and no two edits name the same. Assumes nothing.
use Prim.Native.Nat.{ℕ, ◌<◌}
use mathlib.Core.Path.{◌≡◌, refl, ap}
use mathlib.Core.Logic.{◌≢◌}
use mathlib.Core.List.{List}
use native.Mathlib.Omega.{arith}
use Rattle.table.specs.Words.{types}
use Rattle.table.specs.Rule.{child_at, count_of, IsChoice, IsStar}
use Rattle.table.specs.Privilege.{Edit, text, insert, delete, exchange, replace, type_of, Offers}
use Rattle.table.specs.Named.{Named, texts, inserts, deletes, replaces, name_of}
use Rattle.table.specs.Check.{Accepted}
use Rattle.table.proofs.Facts.{facts}

-- P holds of each type that is named
abbrev pub Each : (ℕ → Type 0) → Named → Type 0
Each P (texts x) = P x
Each P (inserts x a) = P x × P a
Each P (deletes x a) = P x × P a
Each P (replaces x a b) = P x × P a × P b

-- the kind by a number, and the type
abbrev pub kind_of : Named → ℕ
kind_of (texts x) = 1
kind_of (inserts x a) = 2
kind_of (deletes x a) = 3
kind_of (replaces x a b) = 4

abbrev pub type_in : Named → ℕ
type_in (texts x) = x
type_in (inserts x a) = x
type_in (deletes x a) = x
type_in (replaces x a b) = x

pub named_type : (ws : List ℕ) (e : Edit) → type_in (name_of ws e) ≡ type_of e
named_type ws (text x) = refl
named_type ws (insert x) = refl
named_type ws (delete x) = refl
named_type ws (exchange x) = refl
named_type ws (replace x i j) = refl

module _ {ws : List ℕ} (a : Accepted ws) where
  star_child : {x : ℕ} → IsStar ws x → child_at ws x 0 < types ws
  star_child {x} h = (facts a).child_inside x 0 h.type (omega (arith, (facts a).star_one x h))

  pub names_types : (e : Edit) → Offers ws e → Each (λ t. t < types ws) (name_of ws e)
  names_types (text x) h = h.type
  names_types (insert x) h = (h.type, star_child h)
  names_types (delete x) h = (h.type, star_child h)
  names_types (exchange x) h = (h.star.type, star_child h.star, star_child h.star)
  names_types (replace x i j) h =
      let inside = (facts a).child_inside x in
      (h.choice.type, inside i h.choice.type h.from, inside j h.choice.type h.to)

  -- no type is a choice and a star
  not_both : {x y : ℕ} → IsChoice ws x → IsStar ws y → x ≢ y
  not_both {x} {y} c s e = let q = rw e at c.kind_is in omega (arith, s.kind_is)

  pub name_one : (e f : Edit) → Offers ws e → Offers ws f → name_of ws e ≡ name_of ws f → e ≡ f
  name_one (text x) (text y) g h q = cc
  name_one (text x) (insert y) g h q = absurd (omega (arith, ap kind_of q))
  name_one (text x) (delete y) g h q = absurd (omega (arith, ap kind_of q))
  name_one (text x) (exchange y) g h q = absurd (omega (arith, ap kind_of q))
  name_one (text x) (replace y k l) g h q = absurd (omega (arith, ap kind_of q))
  name_one (insert x) (text y) g h q = absurd (omega (arith, ap kind_of q))
  name_one (insert x) (insert y) g h q = cc
  name_one (insert x) (delete y) g h q = absurd (omega (arith, ap kind_of q))
  name_one (insert x) (exchange y) g h q = absurd (omega (arith, ap kind_of q))
  name_one (insert x) (replace y k l) g h q = absurd (omega (arith, ap kind_of q))
  name_one (delete x) (text y) g h q = absurd (omega (arith, ap kind_of q))
  name_one (delete x) (insert y) g h q = absurd (omega (arith, ap kind_of q))
  name_one (delete x) (delete y) g h q = cc
  name_one (delete x) (exchange y) g h q = absurd (omega (arith, ap kind_of q))
  name_one (delete x) (replace y k l) g h q = absurd (omega (arith, ap kind_of q))
  name_one (exchange x) (text y) g h q = absurd (omega (arith, ap kind_of q))
  name_one (exchange x) (insert y) g h q = absurd (omega (arith, ap kind_of q))
  name_one (exchange x) (delete y) g h q = absurd (omega (arith, ap kind_of q))
  name_one (exchange x) (exchange y) g h q = cc
  name_one (exchange x) (replace y k l) g h q = absurd (not_both h.choice g.star cc)
  name_one (replace x i j) (text y) g h q = absurd (omega (arith, ap kind_of q))
  name_one (replace x i j) (insert y) g h q = absurd (omega (arith, ap kind_of q))
  name_one (replace x i j) (delete y) g h q = absurd (omega (arith, ap kind_of q))
  name_one (replace x i j) (exchange y) g h q = absurd (not_both g.choice h.star cc)
  name_one (replace x i j) (replace y k l) g h q =
      let same : x ≡ y = cc in
      let one = (facts a).child_once x in
      let n = ap (count_of ws) same in
      let from : i ≡ k = one i k g.choice.type g.from (omega (arith, n, h.from)) cc in
      let to : j ≡ l = one j l g.choice.type g.to (omega (arith, n, h.to)) cc in
      cc
