-- What is forbidden in some types, counted type by type as they are listed. Assumes nothing.
use Prim.Native.Nat.{ℕ, suc, ◌+◌, ◌≤◌, ◌<◌}
use mathlib.Core.Path.{◌≡◌, refl, sym}
use mathlib.Core.Logic.{◌⊎◌, inl, inr}
use mathlib.Core.List.{List, [], ◌∷◌}
use native.Mathlib.Nat.{eq-or-lt_of_le}
use native.Mathlib.Omega.{arith}
use lib.ListN.{get_or}
use Rattle.table.specs.Words.{types}
use Rattle.table.specs.Rule.{children_at}
use Rattle.table.specs.Below.{Below, here, down}
use Rattle.table.specs.HowMany.{Tallied, some, nothing}
use Rattle.table.specs.Privilege.{first_privilege, privileges_at, privileges}
use Rattle.table.specs.Steps.Childed.{Childed}
use Rattle.table.specs.Steps.Flags.{BelowOne, Added}
use Rattle.table.specs.Steps.Listed.{Among}
use Rattle.table.proofs.Lists.{le_or_lt}
use Rattle.table.proofs.Marks.{Marking, mark_more}
use Rattle.table.proofs.HowMany.{none_many, many_either, tallied_many, tallied_as}
use Rattle.table.proofs.Privileges.{first_next, first_within, belongs_one}
use Rattle.verdict.specs.Steps.Spoils.{ForbiddenOwn}
use Rattle.verdict.specs.Steps.Tallies.{Added as Counting, none}
use Rattle.verdict.specs.declared.below.Tally.{Tally}
use Rattle.verdict.proofs.Tallies.{tallied_added, one_inside}
use Rattle.editing.specs.Steps.Growing.{no_grown, Together, second, first, both, ForbiddenListed, Reach, Within, Whole}
use Rattle.editing.specs.declared.growing.Grown.{Grown}

-- what is forbidden from a type's first privilege on, as many as it has, is what is forbidden of its own
pub own_tallied : {ws marks : List ℕ} {t from count : ℕ} {r : Tally} → t < types ws → from ≡ first_privilege ws t → count ≡ privileges_at ws t
    → Counting marks from (from + count) 1 no_grown.tally r → Tallied (ForbiddenOwn ws marks t) (privileges ws) r.lowest r.count
own_tallied {ws} {marks} {t} {from} {count} {r} h e n added = tallied_added {marks = marks} {flag = 0} {before = r} within (λ q c. absurd (omega (arith, c.flagged)))
    (λ q a b f. absurd (omega (arith, f.belongs.until))) here (none (λ q c. absurd (omega (arith, c.flagged))) refl)
  where
    within : from + count ≤ privileges ws
    within = omega (arith, first_next ws t, first_within ws (t + 1) (omega arith))

    here : Tallied (ForbiddenOwn ws marks t) (from + count) r.lowest r.count
    here = tallied_added (omega arith)
        (λ q c. record { belongs = record { type = h; from = omega (arith, c.range.low); until = omega (arith, c.range.high) }; forbidden = c.range.forbidden })
        (λ q a b f. record { flagged = refl; range = record { low = a; high = b; forbidden = f.forbidden } })
        (nothing (λ q l f. absurd (omega (arith, f.belongs.from))) refl refl) added

-- two tallies of different privileges together are the tally of those of either
pub tallied_both : {P Q : ℕ → Type 0} {n : ℕ} {a b r : Tally} → ((q : ℕ) → q < n → P q → ¬ Q q) → Tallied P n a.lowest a.count
    → Tallied Q n b.lowest b.count → Together a b r → Tallied (λ q. P q ⊎ Q q) n r.lowest r.count
tallied_both d g h (second z e) =
    rw e (tallied_as (λ q l x. inr x) (λ q l s. elim s [ inl p ↦ absurd (none_many (tallied_many g) z q l p) | inr x ↦ x ]) h)
tallied_both d g h (first z e) =
    rw e (tallied_as (λ q l x. inl x) (λ q l s. elim s [ inl p ↦ p | inr x ↦ absurd (none_many (tallied_many h) z q l x) ]) g)
tallied_both {P} {Q} {n} {a} {b} {r} d g h (both y z low c) = go g h
  where
    go : Tallied P n a.lowest a.count → Tallied Q n b.lowest b.count → Tallied (λ q. P q ⊎ Q q) n r.lowest r.count
    go (nothing f u v) t = absurd (y v)
    go (some i p f u) (nothing g v w) = absurd (z w)
    go (some i p f u) (some j x g v) = some (omega arith) (has (le_or_lt a.lowest b.lowest))
        (λ q l s. elim s [ inl p ↦ omega (arith, f q l p) | inr x ↦ omega (arith, g q l x) ]) (rw c (many_either d u v))
      where
        has : (a.lowest ≤ b.lowest) ⊎ (b.lowest < a.lowest) → P r.lowest ⊎ Q r.lowest
        has (inl l) = let e : r.lowest ≡ a.lowest = omega arith in inl (rw e p)
        has (inr l) = let e : r.lowest ≡ b.lowest = omega arith in inr (rw e x)

-- those listed are types below y, and y is flagged; the children of the first head of them are flagged, and what is forbidden in those is counted
pub record Growing (ws marks : List ℕ) (y : ℕ) (flags list : List ℕ) (tally : Tally) (head n : ℕ) : Type 0 where
  pub marking : Marking ws (y ∷ []) head flags list n
  pub told : Tallied (ForbiddenListed ws marks list head) (privileges ws) tally.lowest tally.count

-- what is forbidden in the types listed first is so in a list that keeps them
listed_kept : {ws marks list list-now : List ℕ} {n head more : ℕ} → head ≤ n → head ≤ more → ((k : ℕ) → k < n → get_or list-now k 0 ≡ get_or list k 0) → (q : ℕ)
    → ForbiddenListed ws marks list head q → ForbiddenListed ws marks list-now more q
listed_kept l m kept q f = record { at = f.at; low = omega (arith, f.low); belongs = rw (kept f.at (omega (arith, f.low))) f.belongs; forbidden = f.forbidden }

-- y is listed behind what was listed before
pub grow_start : {ws marks flags list flags-now list-now : List ℕ} {y n : ℕ} {g : Grown} → Childed ws → y < types ws → Reach ws marks flags list g
    → Within ws flags list g.listed y → Added (y ∷ []) flags list g.listed flags-now list-now n
    → Growing ws marks y flags-now list-now g.tally g.listed n
grow_start {ws} {flags = flags} {list = list} {list-now = list-now} {y = y} {n = n} {g = g} t h reach within a = record {
  marking = record {
    passed = a.more;
    flags = a.flags;
    inside = λ k l. low k l (le_or_lt g.listed k);
    below = λ k l. go k l (le_or_lt g.listed k);
    closed = λ k z l c. a.stay z (omega (arith, c.inside, t.tiled.laid.few)) (within.closed k l z (down z (rw (a.kept k l) at c) here));
    given = a.all;
  };
  told = tallied_as (λ q i. listed_kept (omega arith) (omega arith) a.kept q) (λ q i. listed_kept (omega arith) (omega arith) (λ k l. sym (a.kept k l)) q) reach.tally;
}
  where
    is : (x : ℕ) → Among (y ∷ []) 1 x → x ≡ y
    is x s = let z : s.at ≡ 0 = omega (arith, s.low) in sym (rw z at s.is)

    low : (k : ℕ) → k < n → (g.listed ≤ k) ⊎ (k < g.listed) → get_or list-now k 0 < types ws
    low k l (inl o) = rw (is (get_or list-now k 0) (a.added k o l)) h
    low k l (inr o) = rw (a.kept k o) (reach.inside k o)

    under : (x : ℕ) → Below ws x y → BelowOne ws (y ∷ []) x
    under x b = record { at = 0; within = omega arith; below = b }

    go : (k : ℕ) → k < n → (g.listed ≤ k) ⊎ (k < g.listed) → BelowOne ws (y ∷ []) (get_or list-now k 0)
    go k l (inl o) = under (get_or list-now k 0) (rw (is (get_or list-now k 0) (a.added k o l)) here)
    go k l (inr o) = under (get_or list-now k 0) (rw (a.kept k o) (within.below k o))

-- one more type is passed, and what is forbidden of its own comes to what was counted
pub grow_more : {ws marks kids flags list flags-now list-now : List ℕ} {y head n m : ℕ} {tally own r : Tally} → Childed ws → y < types ws
    → Growing ws marks y flags list tally head n → head < n → Tallied (ForbiddenOwn ws marks (get_or list head 0)) (privileges ws) own.lowest own.count
    → Together tally own r → kids ≡ children_at ws (get_or list head 0) → Added kids flags list n flags-now list-now m
    → Growing ws marks y flags-now list-now r (head + 1) m
grow_more {ws} {marks} {list = list} {list-now = list-now} {head = head} {n = n} t h s l own join is a = record {
  marking = mark_more t s.marking l is (one_inside h) a;
  told = tallied_as (λ q i f. elim f [ inl p ↦ listed_kept s.marking.passed (omega arith) a.kept q p | inr o ↦ last q o ]) (λ q i f. back q f (eq-or-lt_of_le f.low))
      (tallied_both (λ q i. apart q) s.told own join);
}
  where
    -- it is listed once, and a privilege belongs to one type
    apart : (q : ℕ) → ForbiddenListed ws marks list head q → ¬ ForbiddenOwn ws marks (get_or list head 0) q
    apart q f o = omega (arith, f.low, s.marking.flags.listed.once f.at head (omega (arith, f.low)) l (belongs_one f.belongs o.belongs))

    last : (q : ℕ) → ForbiddenOwn ws marks (get_or list head 0) q → ForbiddenListed ws marks list-now (head + 1) q
    last q o = record { at = head; low = omega arith; belongs = rw (a.kept head l) o.belongs; forbidden = o.forbidden }

    back : (q : ℕ) (f : ForbiddenListed ws marks list-now (head + 1) q) → (suc f.at ≡ head + 1) ⊎ (suc f.at < head + 1)
        → ForbiddenListed ws marks list head q ⊎ ForbiddenOwn ws marks (get_or list head 0) q
    back q f (inl e) = let z : f.at ≡ head = omega arith in inr (record { belongs = rw (a.kept head l) at (rw z at f.belongs); forbidden = f.forbidden })
    back q f (inr k) = inl (record { at = f.at; low = omega arith; belongs = rw (a.kept f.at (omega arith)) at f.belongs; forbidden = f.forbidden })

-- all listed are passed: what is flagged is closed downwards
pub grow_all : {ws marks flags list : List ℕ} {y head n : ℕ} {tally : Tally} → Childed ws → Growing ws marks y flags list tally head n → n ≤ head
    → Whole ws marks flags list y (record { listed = n; tally = tally })
grow_all {ws} {marks} {flags} {list} {y} {head} {n} {tally} t s l = record {
  reach = record { flags_are = m.flags; inside = m.inside; tally = told };
  within = record { closed = λ k i z b. spread z (get_or list k 0) (m.inside k i) (m.flags.yes k i) b; below = λ k i. one (get_or list k 0) (m.below k i) };
  itself = m.given 0 (omega arith);
}
  where
    m : Marking ws (y ∷ []) head flags list n
    m = s.marking

    told : Tallied (ForbiddenListed ws marks list n) (privileges ws) tally.lowest tally.count
    told = let e : head ≡ n = omega (arith, m.passed) in rw e at s.told

    one : (x : ℕ) → BelowOne ws (y ∷ []) x → Below ws x y
    one x b = let z : b.at ≡ 0 = omega (arith, b.within) in rw z at b.below

    spread : (x w : ℕ) → w < types ws → get_or flags w 0 ≡ 1 → Below ws x w → get_or flags x 0 ≡ 1
    spread x w i e here = e
    spread x w i e (down z c b) = spread x z c.inside (next (m.flags.only w (omega (arith, t.tiled.laid.few)) e)) b
      where
        next : Among list n w → get_or flags z 0 ≡ 1
        next a = m.closed a.at z (omega (arith, a.low)) (rw a.is c)
