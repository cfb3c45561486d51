-- Finding a name in the list. Assumes nothing.
use Rattle.std.proofs.Common.{ℕ, suc, ◌≤◌, ◌<◌, min, ◌≡◌, refl, sym, ◌∙◌, ◌⊎◌, inl, inr, List, arith, length}
use Rattle.grammar.specs.Tree.{Declaration, Nth}
use Rattle.grammar.proofs.Stopping.{le_or_lt}
use Rattle.model.specs.Tables.{number_of}
use Rattle.names.specs.Steps.Walk.{NameAt}
use Rattle.names.specs.Steps.Order.{Upto}
use Rattle.names.specs.Steps.Names.{place_in, number_at, Among, Listed, Ranked, Looked, found, missing, RankRead, BeforeRead, NumberRead}
use Rattle.names.proofs.Numbered.{number_first, number_none}
use Rattle.names.proofs.Orders.{upto_self, upto_trans, upto_both}

module _ {t : List ℕ} {ds : List Declaration} {list : List ℕ} {size : ℕ} (x : Listed t ds list size) {n : List ℕ} where
  -- an entry stands up to the name, and so do all before it
  pub ranked_up : {low high mid : ℕ} → mid < size → ((m : List ℕ) → NameAt t (place_in list mid) m → Upto m n) → Ranked t list size n low high
      → Ranked t list size n (suc mid) high
  ranked_up {mid = mid} h u r = record { upto = λ i g m p. go i (le_or_lt mid i) g m p; behind = r.behind }
    where
      go : (i : ℕ) → (mid ≤ i) ⊎ (i < mid) → i < suc mid → (m : List ℕ) → NameAt t (place_in list i) m → Upto m n
      go i (inl k) g m p = let e : i ≡ mid = omega arith in u m (rw e at p)
      go i (inr k) g m p = let y = x.each mid h in upto_trans (x.ordered i mid k h m y.name p y.there) (u y.name y.there)

  -- it does not, and no more do all behind it
  pub ranked_down : {low high mid : ℕ} → mid < size → ((m : List ℕ) → NameAt t (place_in list mid) m → ¬ Upto m n) → Ranked t list size n low high
      → Ranked t list size n low mid
  ranked_down {mid = mid} h f r = record { upto = r.upto; behind = λ i g k m p. go i (le_or_lt i mid) g k m p }
    where
      go : (i : ℕ) → (i ≤ mid) ⊎ (mid < i) → mid ≤ i → i < size → (m : List ℕ) → NameAt t (place_in list i) m → ¬ Upto m n
      go i (inl q) g k m p = let e : i ≡ mid = omega arith in f m (rw e at p)
      go i (inr q) g k m p = λ u. (let y = x.each mid h in f y.name y.there (upto_trans (x.ordered mid i q k y.name m y.there p) u))

  -- of those that stand up to a name only the last can be the name itself
  pub looked_hit : {i none : ℕ} → i < size → Ranked t list size n (suc i) (suc i) → ((m : List ℕ) → NameAt t (place_in list i) m → Upto n m)
      → Looked ds n size none (number_at list i)
  looked_hit {i} h r u =
      let y = x.each i h in
      let e = upto_both (r.upto i (omega arith) y.name y.there) (u y.name y.there) in
      found (rw e at y.number)

  -- a declaration with the name has an entry, which stands up to it
  entry_of : {k j : ℕ} {d : Declaration} → Ranked t list size n k k → Nth ds j d → j < size → d.named ≡ n → Among t list k n
  entry_of {k} {d = d} r m h e = go d.named e (x.all _ d m h)
    where
      below_rank : (i : ℕ) → NameAt t (place_in list i) n → i < size → (k ≤ i) ⊎ (i < k) → i < k
      below_rank i p l (inr g) = g
      below_rank i p l (inl g) = absurd (r.behind i g l n p (upto_self n))

      go : (m : List ℕ) → m ≡ n → Among t list size m → Among t list k n
      go m e a =
          let p = rw e at a.there in
          record { index = a.index; below = below_rank a.index p a.below (le_or_lt k a.index); there = p }

  pub looked_first : {none : ℕ} → Ranked t list size n 0 0 → Looked ds n size none none
  looked_first r = missing (record { other = λ j d m h e. omega (arith, (entry_of r m h e).below) }) refl

  pub looked_miss : {i none : ℕ} → i < size → Ranked t list size n (suc i) (suc i) → ((m : List ℕ) → NameAt t (place_in list i) m → ¬ Upto n m)
      → Looked ds n size none none
  looked_miss {i} h r f = missing (record { other = λ j d m k e. (let a = entry_of r m k e in go a (le_or_lt i a.index)) }) refl
    where
      go : (a : Among t list (suc i) n) → (i ≤ a.index) ⊎ (a.index < i) → ⊥
      go a (inl g) = let e : a.index ≡ i = omega (arith, a.below) in f n (rw e at a.there) (upto_self n)
      go a (inr g) = let y = x.each i h in f y.name y.there (x.ordered a.index i g h n y.name a.there y.there)

-- the number of the name at a, by its rank
module _ {t list : List ℕ} {k a none : ℕ} where
  pub before_first : k ≡ 0 → BeforeRead t list k a none none
  before_first e = record { of = λ ds n size x y l r. looked_first x (rw e at r); small = λ h. h }

  module _ {i w : ℕ} (e : k ≡ suc i) (p : w ≡ place_in list i) where
    pub before_hit : {r : ℕ} → r ≡ number_at list i → r < 65536 → ((n m : List ℕ) → NameAt t a n → NameAt t w m → Upto n m) → BeforeRead t list k a none r
    before_hit q s u = record {
      of = λ ds n size x y l r. rw q (looked_hit x (omega arith) (rw e at r) (λ m z. u n m y (rw p z)));
      small = λ h. s;
    }

    pub before_miss : ((n m : List ℕ) → NameAt t a n → NameAt t w m → ¬ Upto n m) → BeforeRead t list k a none none
    before_miss f = record {
      of = λ ds n size x y l r. looked_miss x (omega arith) (rw e at r) (λ m z. f n m y (rw p z));
      small = λ h. h;
    }

-- all declarations are listed
pub number_read : {t list : List ℕ} {count size k a r : ℕ} → size ≡ min count 256 → RankRead t list size a k → BeforeRead t list k a count r
    → NumberRead t list count a r
number_read {t} {list} {count} {size} {k} {a} {r} e x y = record { of = λ ds n c l z p. go ds n c (looked ds n c l z p) }
  where
    looked : (ds : List Declaration) (n : List ℕ) → length ds ≡ count → count ≤ 256 → Listed t ds list count → NameAt t a n → Looked ds n count count r
    looked ds n c l z p =
        let s : size ≡ count = omega arith in
        let q : RankRead t list count a k = rw s at x in
        y.of ds n count z p q.within (q.of ds n z p)

    go : (ds : List Declaration) (n : List ℕ) → length ds ≡ count → Looked ds n count count r → r ≡ number_of ds n
    go ds n c (found f) = sym (number_first f.there f.same f.before)
    go ds n c (missing m q) = q ∙ sym c ∙ sym (number_none ds n (rw (sym c) at m))
