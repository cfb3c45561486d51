-- A declared name has the number of a declared type: of its own declaration, where none is declared twice. Assumes nothing.
use Prim.Native.Nat.{ℕ, suc, ◌<◌}
use mathlib.Core.Path.{◌≡◌, refl, ap}
use mathlib.Core.Bool.{Bool, true, false, ◌&&◌, cond}
use mathlib.Core.List.{List, [], ◌∷◌}
use native.Mathlib.Omega.{arith}
use lib.Dec.{T, eqb, eqb→eq, eqb_refl}
use lib.ListN.{length}
use Rattle.grammar.specs.Tree.{Declaration, Nth, first, later}
use Rattle.model.specs.Names.{DeclaredBefore}
use Rattle.model.specs.Tables.{same_name, number_in, number_of}

pub same_itself : (n : List ℕ) → same_name n n ≡ true
same_itself [] = refl
same_itself (a ∷ n) = rw (told (eqb a a) (eqb_refl a), same_itself n)
  where
    told : (b : Bool) → T b → b ≡ true
    told true t = refl
    told false t = absurd t

pub same_is : (x y : List ℕ) → same_name x y ≡ true → x ≡ y
same_is [] [] e = refl
same_is [] (b ∷ y) e = cc
same_is (a ∷ x) [] e = cc
same_is (a ∷ x) (b ∷ y) e = go (eqb a b) refl e (same_is x y)
  where
    go : (t : Bool) → eqb a b ≡ t → (t && same_name x y) ≡ true → (same_name x y ≡ true → x ≡ y) → a ∷ x ≡ b ∷ y
    go true h s f = let p : a ≡ b = eqb→eq a b (rw h tt) in rw (p, f s)
    go false h s f = cc

pub number_below : {ds : List Declaration} {i : ℕ} {d : Declaration} → Nth ds i d → number_of ds d.named < length ds
unfolding number_in
number_below {d = d} first = rw (same_itself d.named) (omega arith)
number_below {d = d} (later {b = b} {l = l} n) = go (same_name b.named d.named) (number_below n)
  where
    go : (t : Bool) → number_of l d.named < length l → cond t 0 (suc (number_of l d.named)) < suc (length l)
    go true h = omega arith
    go false h = omega arith

pub number_is : {ds : List Declaration} {t : ℕ} {d : Declaration} → Nth ds t d → ((k : ℕ) → ¬ DeclaredBefore ds k) → number_of ds d.named ≡ t
unfolding number_in
number_is {d = d} first f = rw (same_itself d.named)
number_is {d = d} (later {b = b} {l = l} {i = i} n) f = go (same_name b.named d.named) refl (number_is n (λ k x. f k (record {
  i = suc x.i;
  j = suc x.j;
  one = x.one;
  other = x.other;
  earlier = omega (arith, x.earlier);
  at_one = later x.at_one;
  at_other = later x.at_other;
  same = x.same;
  is = x.is;
})))
  where
    go : (t : Bool) → same_name b.named d.named ≡ t → number_of l d.named ≡ i → cond t 0 (suc (number_of l d.named)) ≡ suc i
    go true e h = absurd (f d.place (record {
      i = 0;
      j = suc i;
      one = b;
      other = d;
      earlier = omega arith;
      at_one = first;
      at_other = later n;
      same = same_is b.named d.named e;
      is = refl;
    }))
    go false e h = ap suc h
