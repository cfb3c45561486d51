-- The number of a name is the first declaration's with that name. Assumes nothing.
use Rattle.std.proofs.Common.{ℕ, suc, ◌≤◌, ◌<◌, ◌≡◌, refl, sym, ap, ◌≢◌, Bool, true, false, cond, List, [], ◌∷◌, arith, length}
use Rattle.grammar.specs.Tree.{Declaration, Nth, first, later}
use Rattle.model.specs.Tables.{same_name, number_in, number_of}
use Rattle.model.proofs.Numbers.{same_itself, same_is}
use Rattle.names.specs.Steps.Names.{NoneBefore}

none_later : {b : Declaration} {ds : List Declaration} {n : List ℕ} {i : ℕ} → NoneBefore (b ∷ ds) n (suc i) → NoneBefore ds n i
none_later x = record { other = λ j d m h. x.other (suc j) d (later m) (omega arith) }

-- the test of a name
differs : (m n : List ℕ) → m ≢ n → same_name m n ≡ false
differs m n f = go (same_name m n) refl
  where
    go : (t : Bool) → same_name m n ≡ t → same_name m n ≡ false
    go true e = absurd (f (same_is m n e))
    go false e = e

pub number_first : {ds : List Declaration} {i : ℕ} {d : Declaration} {n : List ℕ} → Nth ds i d → d.named ≡ n → NoneBefore ds n i → number_of ds n ≡ i
unfolding number_in
number_first {d = d} {n = n} first e x = rw (sym e, same_itself d.named)
number_first {n = n} (later {b = b} m) e x = rw (differs b.named n (x.other 0 b first (omega arith))) (ap suc (number_first m e (none_later x)))

pub number_none : (ds : List Declaration) (n : List ℕ) → NoneBefore ds n (length ds) → number_of ds n ≡ length ds
unfolding number_in
number_none [] n x = refl
number_none (b ∷ ds) n x = rw (differs b.named n (x.other 0 b first (omega arith))) (ap suc (number_none ds n (none_later x)))

pub number_le : {ds : List Declaration} {i : ℕ} {d : Declaration} → Nth ds i d → number_of ds d.named ≤ i
unfolding number_in
number_le {d = d} first = rw (same_itself d.named) (omega arith)
number_le {d = d} (later {b = b} {l = l} m) = go (same_name b.named d.named) (number_le m)
  where
    go : {i : ℕ} (t : Bool) → number_of l d.named ≤ i → cond t 0 (suc (number_of l d.named)) ≤ suc i
    go true h = omega arith
    go false h = omega arith

-- the declaration that a number is of
pub record NumberedBy (ds : List Declaration) (n : List ℕ) (i : ℕ) : Type 0 where
  pub declaration : Declaration
  pub there : Nth ds i declaration
  pub same : declaration.named ≡ n

pub number_there : (ds : List Declaration) (n : List ℕ) → number_of ds n < length ds → NumberedBy ds n (number_of ds n)
unfolding number_in
number_there [] n h = absurd (omega arith)
number_there (b ∷ ds) n h = go (same_name b.named n) refl h (number_there ds n)
  where
    go : (t : Bool) → same_name b.named n ≡ t → cond t 0 (suc (number_of ds n)) < suc (length ds)
        → (number_of ds n < length ds → NumberedBy ds n (number_of ds n)) → NumberedBy (b ∷ ds) n (cond t 0 (suc (number_of ds n)))
    go true e h f = record { declaration = b; there = first; same = same_is b.named n e }
    go false e h f = let x = f (omega arith) in record { declaration = x.declaration; there = later x.there; same = x.same }
