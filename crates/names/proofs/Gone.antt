-- Walking from one declaration to the next: how many were passed, and which are left. Assumes nothing.
use Rattle.std.proofs.Common.{ℕ, suc, ◌≤◌, ◌≡◌, List, ◌∷◌, arith, length, Some, None}
use Rattle.grammar.specs.Tree.{Declaration}
use Rattle.grammar.specs.Grammar.{Items}
use Rattle.names.specs.declared.walk.Declared.{Declared}
use Rattle.names.specs.Steps.Walk.{DeclaredAt, NextOf, none_left, one_there, NextRead, BehindRead}
use Rattle.names.specs.Steps.Names.{Listed, Entered}
use Rattle.names.proofs.Nths.{Left, all_left, one_less, left_count, left_first}

-- n declarations of ds are behind a
pub record Gone (t : List ℕ) (ds : List Declaration) (n a : ℕ) : Type 0 where
  pub rest : List Declaration
  pub left : Left ds n rest
  pub items : Items t a rest

-- declaration n of ds stands at these places
pub record Stepped (t : List ℕ) (ds : List Declaration) (n name body : ℕ) : Type 0 where
  pub declaration : Declaration
  pub rest : List Declaration
  pub left : Left ds n (declaration ∷ rest)
  pub there : DeclaredAt t declaration rest name body

pub gone_start : {t : List ℕ} {ds : List Declaration} → Items t 0 ds → Gone t ds 0 0
gone_start {ds = ds} x = record { rest = ds; left = all_left; items = x }

pub gone_step : {t : List ℕ} {ds : List Declaration} {n a : ℕ} {p : Declared} → Gone t ds n a → NextRead t a (Some p) → Stepped t ds n p.name p.body
gone_step {t} {ds} {n} {p = p} g x = go g.rest g.left (x.of g.rest g.items)
  where
    go : (es : List Declaration) → Left ds n es → NextOf t es (Some p) → Stepped t ds n p.name p.body
    go es l (one_there {d = d} {ds = ds} y) = record { declaration = d; rest = ds; left = l; there = y }

pub gone_more : {t : List ℕ} {ds : List Declaration} {n name body e : ℕ} → Stepped t ds n name body → BehindRead t body e → Gone t ds (suc n) e
gone_more {name = name} s x = record { rest = s.rest; left = one_less s.left; items = x.of s.declaration s.rest name s.there }

pub gone_all : {t : List ℕ} {ds : List Declaration} {n a : ℕ} → Gone t ds n a → NextRead t a None → n ≡ length ds
gone_all {t} {ds} {n} g x = go g.rest g.left (x.of g.rest g.items)
  where
    go : (es : List Declaration) → Left ds n es → NextOf t es None → n ≡ length ds
    go es l none_left = omega (arith, left_count l)

-- the name of declaration n is entered, if it is one of the first 256
pub listed_more : {t : List ℕ} {ds : List Declaration} {list after : List ℕ} {n name body : ℕ} → length t ≤ 65536 → Stepped t ds n name body
    → (n ≤ 256 → Listed t ds list n) → Entered t list n name after → suc n ≤ 256 → Listed t ds after (suc n)
listed_more {t} l s x e h =
    let z = s.there.named in
    e.of _ s.declaration (left_first s.left) z (omega arith) (omega (arith, z.is_name.start.within)) (x (omega arith))
