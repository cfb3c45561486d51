-- Entering a name where it belongs in the list. Assumes nothing.
use Rattle.std.proofs.Common.{ℕ, zero, suc, ◌+◌, ◌*◌, ◌≤◌, ◌<◌, min, ◌≡◌, refl, ◌∙◌, ◌≢◌, ◌⊎◌, inl, inr, List, arith, length, get_or, set, length-set, get_or-set_same, get_or-set_other}
use Rattle.grammar.specs.Tree.{Declaration, Nth}
use Rattle.grammar.proofs.Stopping.{le_or_lt}
use Rattle.names.specs.Steps.Walk.{NameAt}
use Rattle.names.specs.Steps.Order.{Upto}
use Rattle.names.specs.Steps.Names.{place_in, number_at, FirstWith, Entry, Among, Listed, Ranked, Looked, found, missing, RankRead, BeforeRead}
use Rattle.names.specs.Steps.Names.{Entered}
use Rattle.names.specs.Steps.Shifting.{Shifted}
use Rattle.names.proofs.Nths.{nth_same}
use Rattle.names.proofs.Orders.{upto_or}
use Rattle.names.proofs.Runs.{name_one}

pub listed_none : {t : List ℕ} {ds : List Declaration} {list : List ℕ} → Listed t ds list 0
listed_none = record {
  each = λ i h. absurd (omega arith);
  ordered = λ i j h k. absurd (omega arith);
  all = λ k d m h. absurd (omega arith);
}

-- an entry is put before entry k, one of `count`
pub record Inserted (before after : List ℕ) (k count a q : ℕ) : Type 0 where
  pub low : (i : ℕ) → i < k → (place_in after i ≡ place_in before i) × (number_at after i ≡ number_at before i)
  pub here : (place_in after k ≡ a) × (number_at after k ≡ q)
  pub high : (i : ℕ) → k ≤ i → i < count → (place_in after (suc i) ≡ place_in before i) × (number_at after (suc i) ≡ number_at before i)

-- an entry stood there before, or it is the new one, or it stood one further down
data From (k count i : ℕ) : Type 0 where
  below : i < k → From k count i
  new : i ≡ k → From k count i
  above : {j : ℕ} → i ≡ suc j → k ≤ j → j < count → From k count i

from : (k count i : ℕ) → i < suc count → From k count i
from k count i h = go i (le_or_lt k i) h
  where
    go : (i : ℕ) → (k ≤ i) ⊎ (i < k) → i < suc count → From k count i
    go i (inr g) h = below g
    go i (inl g) h = further i (le_or_lt i k) g h
      where
        further : (i : ℕ) → (i ≤ k) ⊎ (k < i) → k ≤ i → i < suc count → From k count i
        further i (inl f) g h = new (omega arith)
        further zero (inr f) g h = elim f [ ]
        further (suc j) (inr f) g h = above {j = j} refl (omega arith) (omega arith)

module _ {t : List ℕ} {ds : List Declaration} {before after : List ℕ} {k count a q : ℕ} (x : Listed t ds before count) (c : k ≤ count)
    {d : Declaration} (its : Nth ds count d) (p : NameAt t a d.named) (r : Ranked t before count d.named k k) (first : FirstWith ds d.named q)
    (y : Inserted before after k count a q) where
  moved : {i j : ℕ} → (place_in after i ≡ place_in before j) × (number_at after i ≡ number_at before j) → Entry t ds before j → Entry t ds after i
  moved {i} {j} e z = record { name = z.name; there = rw e.0 z.there; number = rw e.1 z.number }

  each : (i : ℕ) → From k count i → Entry t ds after i
  each i (below h) = moved {j = i} (y.low i h) (x.each i (omega arith))
  each i (new e) = rw e (record { name = d.named; there = rw y.here.0 p; number = rw y.here.1 first })
  each i (above {j = j} e h l) = rw e (moved {j = j} (y.high j h l) (x.each j l))

  -- the name of an entry in the old list
  was_below : {i : ℕ} {n : List ℕ} → i < k → NameAt t (place_in after i) n → NameAt t (place_in before i) n
  was_below {i} h z = rw (y.low i h).0 at z

  was_above : {i j : ℕ} {n : List ℕ} → i ≡ suc j → k ≤ j → j < count → NameAt t (place_in after i) n → NameAt t (place_in before j) n
  was_above {i} {j} e h l z = rw (e, (y.high j h l).0) at z

  is_new : {i : ℕ} {n : List ℕ} → i ≡ k → NameAt t (place_in after i) n → n ≡ d.named
  is_new e z = name_one (rw (e, y.here.0) at z) p

  ordered : (i j : ℕ) → i < j → From k count i → From k count j → (n m : List ℕ) → NameAt t (place_in after i) n → NameAt t (place_in after j) m → Upto n m
  ordered i j h (below g) (below f) n m u v = x.ordered i j h (omega arith) n m (was_below g u) (was_below f v)
  ordered i j h (below g) (new e) n m u v = rw (is_new e v) (r.upto i g n (was_below g u))
  ordered i j h (below g) (above {j = l} e f o) n m u v = x.ordered i l (omega arith) o n m (was_below g u) (was_above e f o v)
  ordered i j h (new e) (below f) n m u v = absurd (omega arith)
  ordered i j h (new e) (new f) n m u v = absurd (omega arith)
  ordered i j h (new e) (above {j = l} f g o) n m u v = rw (is_new e u) (upto_or m d.named (r.behind l g o m (was_above f g o v)))
  ordered i j h (above e g o) (below f) n m u v = absurd (omega arith)
  ordered i j h (above e g o) (new f) n m u v = absurd (omega arith)
  ordered i j h (above {j = b} e g o) (above {j = l} f s w) n m u v = x.ordered b l (omega arith) w n m (was_above e g o u) (was_above f s w v)

  among : {n : List ℕ} → Among t before count n → Among t after (suc count) n
  among {n} z = go z.index (le_or_lt k z.index) z.below z.there
    where
      go : (i : ℕ) → (k ≤ i) ⊎ (i < k) → i < count → NameAt t (place_in before i) n → Among t after (suc count) n
      go i (inr h) l w = record { index = i; below = omega arith; there = rw (y.low i h).0 w }
      go i (inl h) l w = record { index = suc i; below = omega arith; there = rw (y.high i h l).0 w }

  all : (j : ℕ) (b : Declaration) → Nth ds j b → (count ≤ j) ⊎ (j < count) → j < suc count → Among t after (suc count) b.named
  all j b m (inr h) l = among (x.all j b m h)
  all j b m (inl h) l =
      let e : j ≡ count = omega arith in
      let s : b ≡ d = nth_same (rw e at m) its in
      rw s (record { index = k; below = omega arith; there = rw y.here.0 p })

  pub listed_entered : Listed t ds after (suc count)
  listed_entered = record {
    each = λ i h. each i (from k count i h);
    ordered = λ i j h l. ordered i j h (from k count i (omega arith)) (from k count j l);
    all = λ j b m h. all j b m (le_or_lt count j) h;
  }

-- two words are put where those from entry k on made room for them
inserted : {before mid : List ℕ} (k count a q : ℕ) → k ≤ count → 2 * count + 2 ≤ length before → Shifted 2 before mid (2 * k) (2 * count)
    → Inserted before (set (set mid (2 * k) a) (2 * k + 1) q) k count a q
inserted {before} {mid} k count a q h l s = record {
  low = λ i g. (
    other (2 * i) (λ e. omega arith) (λ e. omega arith) ∙ s.left (2 * i) (omega arith),
    other (2 * i + 1) (λ e. omega arith) (λ e. omega arith) ∙ s.left (2 * i + 1) (omega arith),
  );
  here = (
    get_or-set_other (set mid (2 * k) a) (2 * k + 1) (2 * k) q 0 (λ e. omega arith) ∙ get_or-set_same mid (2 * k) a 0 (omega (arith, s.kept)),
    get_or-set_same (set mid (2 * k) a) (2 * k + 1) q 0 (omega (arith, s.kept, length-set mid (2 * k) a)),
  );
  high = λ i g o. (on (2 * i) (2 * suc i) (omega arith) (omega arith) (omega arith), on (2 * i + 1) (2 * suc i + 1) (omega arith) (omega arith) (omega arith));
}
  where
    other : (j : ℕ) → j ≢ 2 * k → j ≢ 2 * k + 1 → get_or (set (set mid (2 * k) a) (2 * k + 1) q) j 0 ≡ get_or mid j 0
    other j f g = get_or-set_other (set mid (2 * k) a) (2 * k + 1) j q 0 g ∙ get_or-set_other mid (2 * k) j a 0 f

    on : (j i : ℕ) → i ≡ j + 2 → 2 * k ≤ j → j < 2 * count → get_or (set (set mid (2 * k) a) (2 * k + 1) q) i 0 ≡ get_or before j 0
    on j i e g o = other i (λ z. omega arith) (λ z. omega arith) ∙ rw e (s.moved j g o)

pub entered : {t before mid : List ℕ} {k count a q : ℕ} → length before ≡ 512 → count < 256 → RankRead t before (min count 256) a k → BeforeRead t before k a count q
    → Shifted 2 before mid (2 * k) (2 * count) → Entered t before count a (set (set mid (2 * k) a) (2 * k + 1) q)
entered {t} {before} {mid} {k} {count} {a} {q} l c w y s =
    let e : min count 256 ≡ count = omega arith in
    let x : RankRead t before count a k = rw e at w in
    record {
      size = length-set (set mid (2 * k) a) (2 * k + 1) q ∙ length-set mid (2 * k) a ∙ s.kept;
      of = λ ds d m p h b z. (let r = x.of ds d.named z p in
          listed_entered z x.within m p r (first m (y.of ds d.named count z p x.within r)) (inserted k count a q x.within (omega arith) s));
    }
  where
    first : {ds : List Declaration} {d : Declaration} → Nth ds count d → Looked ds d.named count count q → FirstWith ds d.named q
    first m (found f) = f
    first {d = d} m (missing n e) = rw e (record { declaration = d; there = m; same = refl; before = n })

pub not_entered : {t before : List ℕ} {count a : ℕ} → (256 ≤ count) ⊎ (65536 ≤ a) → Entered t before count a before
not_entered (inl h) = record { size = refl; of = λ ds d m p c b z. absurd (omega arith) }
not_entered (inr h) = record { size = refl; of = λ ds d m p c b z. absurd (omega arith) }
