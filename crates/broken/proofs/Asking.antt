-- The conditions as they are asked: what a search at one type tells of each, beside what was known, and what a pass over the types has shown. Assumes
-- nothing.
use Rattle.std.proofs.Common.{ℕ, ◌+◌, ◌<◌, ◌≡◌, refl, sym, ap, subst, ◌∙◌, ◌≢◌, ◌⊎◌, inl, inr, ⊎_elim, Bool, true, false, List, eq-or-lt_of_le, arith, length, get_or}
use mathlib.Core.Bool.{false≢true}
use Rattle.table.specs.Words.{types}
use Rattle.table.specs.Rule.{IsChoice, count_of, child_at}
use Rattle.table.specs.Check.{Accepted}
use Rattle.table.specs.Lex.{Lex, less, same}
use Rattle.table.specs.Steps.Found.{Tells}
use Rattle.table.proofs.Lowest.{told_yes, told_true, tells_as, tells_by}
use Rattle.verdict.specs.Below.{ForbiddenBelow}
use Rattle.table.proofs.Facts.{facts}
use Rattle.policy.proofs.Reaches.{reached_from}
use Rattle.verdict.specs.Breaches.{condition_number, CycleBreach, BreachOf, key, FirstSpot}
use Rattle.verdict.specs.Steps.Spoils.{Flagged, Agree}
use Rattle.verdict.specs.Steps.Visits.{Visited, BreachAt, CycleAt}
use Rattle.verdict.specs.declared.Spot.{Spot}
use Rattle.verdict.specs.declared.Condition.{Condition}
use Rattle.verdict.specs.declared.Condition.TheVariants.{InsertDelete, Chain, Cycle}
use Rattle.verdict.proofs.Firsts.{breach_type}
use Rattle.verdict.proofs.Breached.{choice_only}
use Rattle.verdict.proofs.Flagged.{breach_as}
use Rattle.verdict.proofs.Spoiling.{breach_spoils}
use Rattle.broken.specs.Breaks.{Breaks}
use Rattle.broken.specs.Steps.Asking.{BreaksAt, Asked, Added, BrokenIn}
use Rattle.broken.specs.declared.Broken.{Broken}

-- a flag beside one that was known: that one was up, or nothing is added
module _ (P : Type 0) (known : Bool) where
  pub flag_up : known ≡ true → Tells ((known ≡ true) ⊎ P) known
  flag_up e = rw e (inl refl)

  pub flag_kept : ¬ P → Tells ((known ≡ true) ⊎ P) known
  flag_kept n = tells_by known inl (λ f. ⊎_elim (λ e. false≢true (sym f ∙ e)) n)

-- what a flag tells beside a known one, it tells of both
flag_more : (P Q : Type 0) (known r : Bool) → Tells P known → Tells ((known ≡ true) ⊎ Q) r → Tells (P ⊎ Q) r
flag_more P Q known r t = tells_as (⊎_elim (λ e. inl (told_yes known t e)) inr) (⊎_elim (λ p. inl (told_true known t p)) inr) r

-- the flags of all three conditions
asked_as : {P Q : Condition → Type 0} {r : Broken} → ((c : Condition) → P c → Q c) → ((c : Condition) → Q c → P c) → Asked P r → Asked Q r
asked_as {r = r} f g a = record {
  insert_delete = tells_as (f InsertDelete) (g InsertDelete) r.insert_delete a.insert_delete;
  chain = tells_as (f Chain) (g Chain) r.chain a.chain;
  cycle = tells_as (f Cycle) (g Cycle) r.cycle a.cycle;
}

asked_added : {P Q : Condition → Type 0} {known r : Broken} → Asked P known → Added Q known r → Asked (λ c. P c ⊎ Q c) r
asked_added {P} {Q} {known} {r} a b = record {
  insert_delete = flag_more (P InsertDelete) (Q InsertDelete) known.insert_delete r.insert_delete a.insert_delete b.insert_delete;
  chain = flag_more (P Chain) (Q Chain) known.chain r.chain a.chain b.chain;
  cycle = flag_more (P Cycle) (Q Cycle) known.cycle r.cycle a.cycle b.cycle;
}

module _ (ws marks : List ℕ) (B : ℕ → ℕ → Type 0) where
  -- a condition that is broken at one of some types, among others
  at_as : {S T : ℕ → Type 0} {c : Condition} (b : BreaksAt ws marks B S c) → T b.spot.element → BreaksAt ws marks B T c
  at_as b h = record { spot = b.spot; privilege = b.privilege; of = b.of; breach = b.breach; here = h }

  -- the conditions that are broken at a type before x
  abbrev pub Before : ℕ → Condition → Type 0
  Before x = BreaksAt ws marks B (λ y. y < x)

  pub before_start : Asked (Before 0) (record { insert_delete = false; chain = false; cycle = false })
  before_start = record { insert_delete = λ b. no b; chain = λ b. no b; cycle = λ b. no b }
    where
      no : {c : Condition} → ¬ Before 0 c
      no b = omega (arith, b.here)

  pub before_more : {x : ℕ} {known r : Broken} → Asked (Before x) known → Added (BreaksAt ws marks B (λ y. y ≡ x)) known r → Asked (Before (x + 1)) r
  before_more {x} a b = asked_as join split (asked_added a b)
    where
      join : (c : Condition) → Before x c ⊎ BreaksAt ws marks B (λ y. y ≡ x) c → Before (x + 1) c
      join c (inl b) = at_as b (omega (arith, b.here))
      join c (inr b) = at_as b (omega (arith, b.here))

      split : (c : Condition) → Before (x + 1) c → Before x c ⊎ BreaksAt ws marks B (λ y. y ≡ x) c
      split c b = elim (eq-or-lt_of_le b.here) [ inl e ↦ inr (at_as b (omega arith)) | inr l ↦ inl (at_as b (omega arith)) ]

  -- what is broken at type x
  module _ (x : ℕ) where
    abbrev At : Condition → Type 0
    At = BreaksAt ws marks B (λ y. y ≡ x)

    breach_at : {c : Condition} (b : At c) → BreachAt ws marks B x b.spot b.privilege
    breach_at b = record { breach = b.breach; here = b.here }

    -- a spot that is broken
    broken_at : {c : Condition} {s : Spot} → FirstSpot (BreachAt ws marks B x) s → s.condition ≡ c → At c
    broken_at {s = s} f e = record { spot = s; privilege = f.broken.0; of = e; breach = f.broken.1.breach; here = f.broken.1.here }

    -- what a search for cycles tells of condition 3
    cycle_at : (b : At Cycle) → CycleAt ws marks B x b.spot b.privilege
    cycle_at b = record { of_cycle = b.of; breach = subst (λ (c : Condition). BreachOf ws marks B c b.spot b.privilege) b.of b.breach; here = b.here }

    -- at a choice condition 1 is not broken
    module _ (choice : IsChoice ws x) where
      choice_not : (s : Spot) (p : ℕ) → BreachAt ws marks B x s p → s.condition ≢ InsertDelete
      choice_not s p h e = elim (choice_only ws marks B x choice s p h) [
        | inl g ↦ omega (arith, ap condition_number (sym e ∙ g.0))
        | inr g ↦ omega (arith, ap condition_number (sym e ∙ g.0))
      ]

      module _ {s : Spot} (found : FirstSpot (BreachAt ws marks B x) s) where
        -- a chain would have come before a cycle
        pub cycle_only : s.condition ≡ Cycle → At Cycle × ¬ At Chain
        cycle_only e = (broken_at found e, λ b. found.first b.spot b.privilege (breach_at b) (before b))
          where
            before : (b : At Chain) → Lex (key b.spot) (key s)
            before b =
                let l : condition_number b.spot.condition < condition_number s.condition = omega (arith, ap condition_number b.of, ap condition_number e) in
                rw (b.here, found.broken.1.here) (same (less l))

    -- what is broken at a choice is added to what was known
    module _ (known : Broken) where
      pub choice_added : IsChoice ws x → {chain cycle : Bool} → Tells ((known.chain ≡ true) ⊎ At Chain) chain → Tells ((known.cycle ≡ true) ⊎ At Cycle) cycle
          → Added At known (record { insert_delete = known.insert_delete; chain = chain; cycle = cycle })
      choice_added h c d = record {
        insert_delete = flag_kept (At InsertDelete) known.insert_delete (λ b. choice_not h b.spot b.privilege (breach_at b) b.of);
        chain = c;
        cycle = d;
      }

      -- where there is a chain, and no cycle
      pub no_cycle_added : IsChoice ws x → known.chain ≡ true → ¬ At Cycle → Added At known known
      no_cycle_added h c n = choice_added h (flag_up (At Chain) known.chain c) (flag_kept (At Cycle) known.cycle n)

-- the children of a type that is visited are all there, and their numbers are indices
kids_here : {ws marks : List ℕ} {x : ℕ} {kids : List ℕ} → Visited ws marks x kids → length kids ≡ count_of ws x
kids_here {x = x} v = ap length v.kids_are ∙ (facts v.policy.accepted).children_here x v.type

pub kids_small : {ws marks : List ℕ} {x : ℕ} {kids : List ℕ} → Visited ws marks x kids → (i : ℕ) → i < length kids → get_or kids i 0 < 256
kids_small {x = x} {kids = kids} v i l =
    let f = facts v.policy.accepted in
    let child = ap (λ (k : List ℕ). get_or k i 0) v.kids_are in
    omega (arith, child, f.few, f.child_inside x i v.type (omega (arith, kids_here v)))

-- a choice with no child that is spoilt breaks condition 3 nowhere
pub unspoilt_none : {ws marks : List ℕ} (flags : List ℕ) {x : ℕ} (kids : List ℕ) → Visited ws marks x kids
    → ((i : ℕ) → i < length kids → get_or flags (get_or kids i 0) 0 ≢ 1) → ¬ BreaksAt ws marks (Flagged flags) (λ y. y ≡ x) Cycle
unspoilt_none {ws} {marks} flags {x} kids v all b = go b.here (cycle_at ws marks (Flagged flags) x b).breach
  where
    go : {s : Spot} {p : ℕ} → s.element ≡ x → CycleBreach ws marks (Flagged flags) s p → ⊥
    go {s} e c =
        let from = subst (λ (y : ℕ). s.i < count_of ws y) e (reached_from c.reached) in
        all s.i (omega (arith, kids_here v)) (rw v.kids_are (subst (λ (y : ℕ). get_or flags (child_at ws y s.i) 0 ≡ 1) e c.below))

-- what is broken by flags that are right is broken
pub broken_in : {ws marks : List ℕ} {B : ℕ → ℕ → Type 0} {r : Broken} → Accepted ws → Agree ws B (ForbiddenBelow ws marks)
    → Asked (BreaksAt ws marks B (λ y. y < types ws)) r → BrokenIn ws marks r
broken_in {ws} {marks} {B} a g = asked_as onto back
  where
    onto : (c : Condition) → BreaksAt ws marks B (λ y. y < types ws) c → Breaks ws c marks
    onto c b = let h = breach_as marks a g.onto b.spot b.privilege b.breach in record { spot = b.spot; privilege = h.0; of = b.of; breach = h.1 }

    back : (c : Condition) → Breaks ws c marks → BreaksAt ws marks B (λ y. y < types ws) c
    back c b =
        let h = breach_as marks a g.back b.spot b.privilege b.breach in
        record { spot = b.spot; privilege = h.0; of = b.of; breach = h.1; here = breach_type ws marks B b.spot h.0 h.1 }

-- by flags that are right, a type that has no flag has no breach
pub unflagged_none : {ws marks : List ℕ} (flags : List ℕ) {x : ℕ} (known : Broken) → Accepted ws → x < types ws → Agree ws (Flagged flags) (ForbiddenBelow ws marks) → get_or flags x 0 ≢ 1
    → Added (BreaksAt ws marks (Flagged flags) (λ y. y ≡ x)) known known
unflagged_none {ws} {marks} flags {x} known a l g d = record {
  insert_delete = flag_kept (At InsertDelete) known.insert_delete no;
  chain = flag_kept (At Chain) known.chain no;
  cycle = flag_kept (At Cycle) known.cycle no;
}
  where
    At : Condition → Type 0
    At = BreaksAt ws marks (Flagged flags) (λ y. y ≡ x)

    no : {c : Condition} → ¬ BreaksAt ws marks (Flagged flags) (λ y. y ≡ x) c
    no b =
        let real = breach_as marks a g.onto b.spot b.privilege b.breach in
        let spoilt = breach_spoils a b.spot real.0 real.1 in
        d (subst (λ (y : ℕ). get_or flags y 0 ≡ 1) b.here (g.back b.spot.element spoilt.0 (omega (arith, b.here)) spoilt.1).1)
