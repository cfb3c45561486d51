-- The pass from parents to children, along the order of the types read backwards. Assumes nothing.
use Rattle.std.proofs.Common.{ℕ, ◌+◌, ◌-◌, ◌≤◌, ◌<◌, ◌≡◌, refl, sym, ◌∙◌, ◌⊎◌, inl, inr, true, List, eq-or-lt_of_le, arith, length, get_or, replicate}
use lib.ListN.{get_or-replicate}
use Rattle.table.specs.Steps.Found.{Tells}
use Rattle.table.specs.Words.{types}
use Rattle.table.specs.Rule.{children_at, child_at, Child}
use Rattle.table.specs.Privilege.{privileges, Belongs}
use Rattle.table.specs.Steps.Order.{BottomUp}
use Rattle.table.specs.Check.{Accepted}
use Rattle.table.proofs.Lists.{le_or_lt}
use Rattle.table.proofs.Lowest.{told_yes, tells_as}
use Rattle.table.proofs.Privileges.{belongs_one, belongs_some, belongs_below}
use Rattle.table.proofs.Facts.{facts}
use Rattle.policy.specs.Marks.{Allowed, Legal, Policy}
use Rattle.table.specs.Below.{Below, here, down}
use Rattle.completion.specs.Granted.{Granted}
use Rattle.completion.specs.Steps.Opens.{OpensAt, star, cycle, Opened, PassesOn}
use Rattle.policy.specs.Steps.Writing.{Decision, allow, forbid}
use Rattle.completion.specs.Steps.Writing.{is_open}
use Rattle.completion.specs.Steps.Passes.{Visited, Done, HasFirsts, Filled}
use Rattle.completion.proofs.Between.{Between, opened_between, passes_between, granted_between}
use Rattle.completion.proofs.Closed.{opened_down}
use Rattle.completion.proofs.Openings.{holds_on}
use Rattle.policy.proofs.Reaches.{reached_from}
use Rattle.policy.proofs.Writings.{decision_as}

-- what is below a type is that type, or a child of what is below it
below_last : {ws : List ℕ} {x y : ℕ} → Below ws x y → (x ≡ y) ⊎ ((z : ℕ) × Child ws z x × Below ws z y)
below_last here = inl refl
below_last {ws} {x} {y} (down w c b) = go (below_last b)
  where
    go : (x ≡ w) ⊎ ((z : ℕ) × Child ws z x × Below ws z w) → (x ≡ y) ⊎ ((z : ℕ) × Child ws z x × Below ws z y)
    go (inl e) = inr (y, rw e c, here)
    go (inr (z, d, f)) = inr (z, d, down w c f)

-- what a type opens stands at one of its positions
opens_within : {ws : List ℕ} {S : ℕ → Type 0} {x i : ℕ} → Accepted ws → OpensAt ws S x i → i < length (children_at ws x)
opens_within {x = x} a (star s r e) = omega (arith, (facts a).star_one x s, (facts a).children_here x s.type)
opens_within {x = x} a (cycle s r) = omega (arith, reached_from r, (facts a).children_here x s.type)

opens_type : {ws : List ℕ} {S : ℕ → Type 0} {x i : ℕ} → OpensAt ws S x i → x < types ws
opens_type (star s r e) = s.type
opens_type (cycle s r) = s.type

-- a type at place k of the order or later passes opening on to z
pub record PassedOn (ws : List ℕ) (S : ℕ → Type 0) (order : List ℕ) (k z : ℕ) : Type 0 where
  pub place : ℕ
  pub from : k ≤ place
  pub until : place < types ws
  pub at : ℕ
  pub within : at < length (children_at ws (get_or order place 0))
  pub is : child_at ws (get_or order place 0) at ≡ z
  pub passes : PassesOn ws S (get_or order place 0) at

passed_from : {ws : List ℕ} {S : ℕ → Type 0} {order : List ℕ} {j k z : ℕ} (q : PassedOn ws S order k z) → j ≤ q.place → PassedOn ws S order j z
passed_from q l = record { place = q.place; from = l; until = q.until; at = q.at; within = q.within; is = q.is; passes = q.passes }

-- the types from place k on are done: the flags tell what they pass on, their marks are decided, and the rest is as it was
pub record Descended (ws marks order : List ℕ) (k : ℕ) (opened new : List ℕ) : Type 0 where
  pub flags : length opened ≡ 256
  pub tells : (z : ℕ) → z < types ws → Tells (PassedOn ws (Allowed marks) order k z) (is_open opened z)
  pub size : length new ≡ length marks
  pub done : (j : ℕ) → k ≤ j → j < types ws → (p : ℕ) → Belongs ws p (get_or order j 0) → Decision (Granted ws (Allowed marks) p) (get_or new p 0)
  pub rest : (p : ℕ) → ((j : ℕ) → k ≤ j → j < types ws → ¬ Belongs ws p (get_or order j 0)) → get_or new p 0 ≡ get_or marks p 0

pub descent_start : {ws marks order : List ℕ} → Accepted ws → Descended ws marks order (types ws) (replicate 256 0) marks
descent_start a = record {
  flags = refl;
  tells = λ z l. rw (get_or-replicate {A = ℕ} 256 z 0 0 (omega (arith, (facts a).few))) (λ q. omega (arith, q.from, q.until));
  size = refl;
  done = λ j l m. absurd (omega arith);
  rest = λ p f. refl;
}

-- a mark is decided, or as it was
abbrev DecidedOrKept : List ℕ → List ℕ → List ℕ → ℕ → Type 0
DecidedOrKept ws marks new p = Decision (Granted ws (Allowed marks) p) (get_or new p 0) ⊎ (get_or new p 0 ≡ get_or marks p 0)

-- the pass so far has left a policy, between the marks and what they grant
module _ {ws marks order opened new : List ℕ} {k : ℕ} (up : BottomUp ws order) (s : Descended ws marks order k opened new) where
  descent_mark : (p : ℕ) → DecidedOrKept ws marks new p
  descent_mark p = elim (le_or_lt (privileges ws) p) [
    | inl l ↦ inr (s.rest p (λ j m h b. omega (arith, belongs_below b)))
    | inr l ↦ let x = belongs_some ws p l in own x.0 x.1 (up.every x.0 x.1.type)
  ]
    where
      own : (x : ℕ) → Belongs ws p x → (j : ℕ) × (j < types ws) × (get_or order j 0 ≡ x) → DecidedOrKept ws marks new p
      own x b (j, m, e) = elim (le_or_lt k j) [
        | inl l ↦ inl (s.done j l m p (rw e b))
        | inr l ↦ inr (s.rest p (λ i f h c. let q = up.once i j h m (belongs_one c (rw e b)) in omega arith))
      ]

  descent_between : Between ws (Allowed marks) (Allowed new)
  descent_between = record { more = λ p a. more p a (descent_mark p); granted = λ p a. granted p a (descent_mark p) }
    where
      more : (p : ℕ) → Allowed marks p → DecidedOrKept ws marks new p → Allowed new p
      more p a (inl (allow g e)) = e
      more p a (inl (forbid d e)) = absurd (d (inl a))
      more p a (inr e) = e ∙ a

      granted : (p : ℕ) → Allowed new p → DecidedOrKept ws marks new p → Granted ws (Allowed marks) p
      granted p a (inl (allow g e)) = g
      granted p a (inl (forbid d e)) = absurd (omega arith)
      granted p a (inr e) = inl (sym e ∙ a)

  pub descent_policy : Policy ws marks → Policy ws new
  descent_policy pol = record { accepted = pol.accepted; fit = record { size = s.size ∙ pol.fit.size; legal = λ p l. legal p l (descent_mark p) } }
    where
      legal : (p : ℕ) → p < privileges ws → DecidedOrKept ws marks new p → Legal new p
      legal p l (inl (allow g e)) = omega arith
      legal p l (inl (forbid d e)) = omega arith
      legal p l (inr e) = omega (arith, pol.fit.legal p l)

module _ {ws marks order opened new : List ℕ} {k : ℕ} (a : Accepted ws) (up : BottomUp ws order) (s : Descended ws marks order (k + 1) opened new)
    (h : k < types ws) where
  -- a parent of the type at place k is done
  parent_done : {y : ℕ} → Child ws y (get_or order k 0) → (i : ℕ) → i < length (children_at ws y) → child_at ws y i ≡ get_or order k 0
      → PassesOn ws (Allowed marks) y i → PassedOn ws (Allowed marks) order (k + 1) (get_or order k 0)
  parent_done {y} c i l e g = go (up.every y c.parent)
    where
      go : (j : ℕ) × (j < types ws) × (get_or order j 0 ≡ y) → PassedOn ws (Allowed marks) order (k + 1) (get_or order k 0)
      go (j, m, q) = record {
        place = j;
        from = omega (arith, up.after k j h m (rw q c));
        until = m;
        at = i;
        within = rw q l;
        is = rw q e;
        passes = rw q g;
      }

  passed_opened : PassedOn ws (Allowed marks) order (k + 1) (get_or order k 0) → Opened ws (Allowed marks) (get_or order k 0)
  passed_opened q = go q.passes
    where
      y : ℕ
      y = get_or order q.place 0

      go : PassesOn ws (Allowed marks) y q.at → Opened ws (Allowed marks) (get_or order k 0)
      go (inl o) = opened_down o (down (get_or order k 0) (record { parent = up.inside q.place q.until; inside = up.inside k h; at = q.at; within = q.within; is = q.is }) here)
      go (inr o) = record { at = y; i = q.at; opens = o; below = rw q.is here }

  opened_passed : Opened ws (Allowed marks) (get_or order k 0) → PassedOn ws (Allowed marks) order (k + 1) (get_or order k 0)
  opened_passed o = go (below_last o.below)
    where
      go : (get_or order k 0 ≡ child_at ws o.at o.i) ⊎ ((z : ℕ) × Child ws z (get_or order k 0) × Below ws z (child_at ws o.at o.i))
          → PassedOn ws (Allowed marks) order (k + 1) (get_or order k 0)
      go (inl e) =
          let l = opens_within a o.opens in
          parent_done (record { parent = opens_type o.opens; inside = up.inside k h; at = o.i; within = l; is = sym e }) o.i l (sym e) (inr o.opens)
      go (inr (z, c, b)) = parent_done c c.at c.within c.is (inl (record { at = o.at; i = o.i; opens = o.opens; below = b }))

  so_far : Between ws (Allowed marks) (Allowed new)
  so_far = descent_between up s

  -- so its flag tells whether it is opened
  pub descent_told : Tells (Opened ws (Allowed new) (get_or order k 0)) (is_open opened (get_or order k 0))
  descent_told = tells_as (λ q. (opened_between a so_far).0 (passed_opened q)) (λ o. opened_passed ((opened_between a so_far).1 o))
      (is_open opened (get_or order k 0)) (s.tells (get_or order k 0) (up.inside k h))

  -- and when it is done, so are the types from its place on
  pub descent_more : {Opened-after newer : List ℕ} → Done ws new (get_or order k 0) opened Opened-after newer → Descended ws marks order k Opened-after newer
  descent_more {Opened-after} {newer} d = record {
    flags = d.kids.size;
    tells = λ z l. tells_as (out z l) (into z l) (is_open Opened-after z) (d.kids.tells z (omega (arith, (facts a).few)));
    size = d.own.size ∙ s.size;
    done = λ j l m. own j m (eq-or-lt_of_le l);
    rest = λ p f. d.own.rest p (f k (omega arith) h) ∙ s.rest p (λ j l. f j (omega arith));
  }
    where
      here_kids : ℕ → Type 0
      here_kids z = (i : ℕ) × (i < length (children_at ws (get_or order k 0))) × (child_at ws (get_or order k 0) i ≡ z) × PassesOn ws (Allowed new) (get_or order k 0) i

      out : (z : ℕ) → z < types ws → (is_open opened z ≡ true) ⊎ here_kids z → PassedOn ws (Allowed marks) order k z
      out z l (inl e) = let q = told_yes (is_open opened z) (s.tells z l) e in passed_from q (omega (arith, q.from))
      out z l (inr (i, m, e, g)) = record { place = k; from = omega arith; until = h; at = i; within = m; is = e; passes = (passes_between a so_far).1 g }

      into : (z : ℕ) → z < types ws → PassedOn ws (Allowed marks) order k z → (is_open opened z ≡ true) ⊎ here_kids z
      into z l q = go (eq-or-lt_of_le q.from)
        where
          go : (k ≡ q.place) ⊎ (k < q.place) → (is_open opened z ≡ true) ⊎ here_kids z
          go (inl e) = inr (q.at, rw e q.within, rw e q.is, (passes_between a so_far).0 (rw e q.passes))
          go (inr m) = inl (holds_on (is_open opened z) (s.tells z l) (passed_from q (omega arith)))

      own : (j : ℕ) → j < types ws → (k ≡ j) ⊎ (k < j) → (p : ℕ) → Belongs ws p (get_or order j 0) → Decision (Granted ws (Allowed marks) p) (get_or newer p 0)
      own j m (inl e) p b = decision_as (granted_between a so_far).1 (granted_between a so_far).0 (d.own.own p (rw e b))
      own j m (inr l) p b = rw (d.own.rest p apart) (s.done j (omega arith) m p b)
        where
          apart : ¬ Belongs ws p (get_or order k 0)
          apart c = let e = up.once j k m h (belongs_one b c) in omega arith

-- the type before place k is visited as the pass comes to it, and done as it goes on
module _ {ws marks order opened new : List ℕ} {k x : ℕ} (pol : Policy ws marks) (up : BottomUp ws order) (s : Descended ws marks order k opened new)
    (h : 0 < k) (l : k ≤ types ws) (e : x ≡ get_or order (k - 1) 0) where
  one_more : Descended ws marks order (k - 1 + 1) opened new
  one_more = let same : k ≡ k - 1 + 1 = omega arith in rw same at s

  pub descent_visit : (firsts : List ℕ) {first : ℕ} → HasFirsts ws firsts → first ≡ get_or firsts x 0 → Visited ws new x first opened
  descent_visit firsts f q =
      let type : x < types ws = rw e (up.inside (k - 1) (omega arith)) in
      record {
        policy = descent_policy up one_more pol;
        type = type;
        first_is = q ∙ f x type;
        size = s.flags;
        told = rw e (descent_told pol.accepted up one_more (omega arith));
      }

  pub descent_on : {Opened-after newer : List ℕ} → Done ws new x opened Opened-after newer → Descended ws marks order (k - 1) Opened-after newer
  descent_on d = descent_more pol.accepted up one_more (omega arith) (rw e at d)

pub descent_all : {ws marks order opened new : List ℕ} → Policy ws marks → BottomUp ws order → Descended ws marks order 0 opened new → Filled ws marks new
descent_all {ws} {marks} {order} {opened} {new} pol up s = record {
  size = s.size ∙ pol.fit.size;
  each = λ p l. let x = belongs_some ws p l in go p x.0 x.1 (up.every x.0 x.1.type);
}
  where
    go : (p x : ℕ) → Belongs ws p x → (j : ℕ) × (j < types ws) × (get_or order j 0 ≡ x) → Decision (Granted ws (Allowed marks) p) (get_or new p 0)
    go p x b (j, m, e) = s.done j (omega arith) m p (rw e b)
