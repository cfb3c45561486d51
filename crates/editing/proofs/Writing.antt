-- Entries written along the order, and what is forbidden below the types on the way. Assumes nothing.
use Prim.Native.Nat.{ℕ, suc, ◌+◌, ◌-◌, ◌*◌, ◌≤◌, ◌<◌}
use mathlib.Core.Path.{◌≡◌, refl, sym, ap, subst, ◌∙◌}
use mathlib.Core.Logic.{◌≢◌, ◌⊎◌, inl, inr}
use mathlib.Core.Bool.{Bool, true, false, not, true≢false}
use mathlib.Core.List.{List}
use native.Mathlib.Nat.{eq-or-lt_of_le}
use native.Mathlib.Omega.{arith}
use borrow.Author.Tests.{eqb-true}
use lib.Dec.{eqb}
use lib.ListN.{length, get_or, replicate, get_or-replicate}
use Rattle.table.specs.Words.{types, root}
use Rattle.table.specs.Rule.{children_at, Child}
use Rattle.table.specs.Below.{Below, here, down}
use Rattle.table.specs.Check.{Accepted}
use Rattle.table.specs.HowMany.{some, nothing}
use Rattle.table.specs.Privilege.{Belongs}
use Rattle.table.specs.Steps.Found.{Tells}
use Rattle.table.specs.Steps.Listed.{Among}
use Rattle.table.specs.Steps.Order.{BottomUp}
use Rattle.table.proofs.Belows.{below_trans}
use Rattle.table.proofs.Facts.{facts, child_at_lem, accepted_childed}
use Rattle.table.proofs.HowMany.{many_most, none_many, tallied_many, tallied_as, tallied_start}
use Rattle.table.proofs.Listings.{listed_none}
use Rattle.table.proofs.Lists.{le_or_lt}
use Rattle.table.proofs.Lowest.{told_yes, told_true}
use Rattle.table.proofs.Privileges.{belongs_one, belongs_some}
use Rattle.policy.specs.Marks.{Policy}
use Rattle.verdict.specs.Below.{PrivilegeBelow, ForbiddenBelow, ForbiddenTally}
use Rattle.verdict.specs.Steps.Tallies.{Added}
use Rattle.verdict.specs.declared.below.Tally.{Tally}
use Rattle.verdict.proofs.Tallies.{tallied_added}
use Rattle.verdict.specs.Kept.{entry_of}
use Rattle.editing.specs.Entries.{Renewed}
use Rattle.editing.specs.declared.growing.Grown.{Grown}
use Rattle.editing.specs.Steps.Aboves.{Aboves, StandsAt}
use Rattle.editing.specs.Steps.Growing.{no_grown, Reach, Within, Whole}
use Rattle.editing.specs.Steps.Writing.{Entered, Blank, Written}
use Rattle.editing.proofs.Aboves.{below_behind}

-- what is forbidden at all is what is forbidden below the root
pub all_below : {ws marks : List ℕ} {r : Tally} → Policy ws marks → Added marks 0 (length marks) 1 (record { lowest = 0; count = 0 }) r → ForbiddenTally ws marks (root ws) r
all_below {ws} {marks} pol added = rw pol.fit.size at (tallied_added {P = ForbiddenBelow ws marks (root ws)}
    (omega arith)
    (λ q c. let b = belongs_some ws q (omega (arith, c.range.high, pol.fit.size)) in
    record { below = record { type = b.0; belongs = b.1; below = (facts pol.accepted).reached b.0 b.1.type }; forbidden = c.range.forbidden })
    (λ q l m f. record { flagged = refl; range = record { low = l; high = m; forbidden = f.forbidden } })
    tallied_start
    added)

-- the entries of other types are as they were
entered_other : {t : ℕ} {r : Tally} {kept after : List ℕ} → Entered t r kept after → (u : ℕ) → u ≢ t → entry_of after u ≡ entry_of kept u
entered_other e u d = rw (e.others (2 * u) (omega arith) (omega arith), e.others (2 * u + 1) (omega arith) (omega arith))

entered_tally : {ws marks : List ℕ} {t : ℕ} {r : Tally} {kept after : List ℕ} → ForbiddenTally ws marks t r → Entered t r kept after → ForbiddenTally ws marks t (entry_of after t)
entered_tally {ws} {marks} {t} h e = subst (λ (x : Tally). ForbiddenTally ws marks t x) (sym e.entry) h

-- a tally fits an entry
pub tally_small : {ws marks : List ℕ} (y : ℕ) (r : Tally) → Accepted ws → ForbiddenTally ws marks y r → (r.lowest < 65536) × (r.count < 65536)
tally_small {ws} {marks} y r a h = (low h, omega (arith, many_most (tallied_many h), (facts a).privileges_few))
  where
    low : ForbiddenTally ws marks y r → r.lowest < 65536
    low (some l p least n) = omega (arith, (facts a).privileges_few)
    low (nothing d e z) = omega arith

-- what is listed can be grown to all that is below t
abbrev pub Ready : List ℕ → List ℕ → List ℕ → List ℕ → Grown → ℕ → Type 0
Ready ws marks flags list g t = Reach ws marks flags list g × Within ws flags list g.listed t

-- so can nothing
pub afresh : {ws marks list : List ℕ} {g : Grown} {t : ℕ} → 256 ≤ length list → g ≡ no_grown → Ready ws marks (replicate 256 0) list g t
afresh {ws} {marks} {list} l e = rw e (reach, record { closed = λ k h. absurd (omega arith); below = λ k h. absurd (omega arith) })
  where
    reach : Reach ws marks (replicate 256 0) list no_grown
    reach = record {
      flags_are = record {
        size = refl;
        listed = listed_none l;
        yes = λ k h. absurd (omega arith);
        only = λ x h f. absurd (omega (arith, get_or-replicate {A = ℕ} 256 x 0 0 h, f));
      };
      inside = λ k h. absurd (omega arith);
      tally = nothing (λ q h f. omega (arith, f.low)) refl refl;
    }

-- and what is below a child
pub onward : {ws marks flags list : List ℕ} {g : Grown} {y t : ℕ} → Accepted ws → t < types ws → Ready ws marks flags list g y → (r : Bool)
    → Tells (Among (children_at ws t) (length (children_at ws t)) y) r → not r ≡ false → Ready ws marks flags list g t
onward {ws} {y = y} {t = t} a l (reach, within) true m e = (reach, record { closed = within.closed; below = λ k h. below_trans (within.below k h) (down y child here) })
  where
    child : Child ws t y
    child = rw m.is at (child_at_lem a t m.at l (rw (← (facts a).children_here t l) m.low))
onward a l ready false m e = absurd (true≢false e)

-- where all that is below y is flagged, what is forbidden in the listed types is what is forbidden below y
pub whole_tally : {ws marks flags list : List ℕ} {y : ℕ} {g : Grown} → Accepted ws → y < types ws → Whole ws marks flags list y g → ForbiddenTally ws marks y g.tally
whole_tally {ws} {marks} {flags} {list} {y} {g} a l w = tallied_as
    (λ q i f. record { below = record { type = get_or list f.at 0; belongs = f.belongs; below = w.within.below f.at f.low }; forbidden = f.forbidden })
    (λ q i f. let m = listed f.below.type f.below.belongs.type f.below.below in
    record { at = m.at; low = m.low; belongs = rw m.is f.below.belongs; forbidden = f.forbidden })
    w.reach.tally
  where
    among : (x : ℕ) → x < types ws → get_or flags x 0 ≡ 1 → Among list g.listed x
    among x h e = w.reach.flags_are.only x (omega (arith, (facts a).few)) e

    listed : (x : ℕ) → x < types ws → Below ws x y → Among list g.listed x
    listed x h b = let m = among y l w.itself in among x h (w.within.closed m.at m.low x (rw m.is b))

-- one place more, whose type is not above
written_skip : {ws marks order above : List ℕ} {from k : ℕ} {kept now : List ℕ} → Written ws marks order above from k kept now → get_or above (get_or order k 0) 0 ≢ 1
    → Written ws marks order above from (k + 1) kept now
written_skip {ws} {marks} {order} {above} {from} {k} {now = now} w d = record {
  size = w.size;
  done = λ j l i e. go j l e (eq-or-lt_of_le i);
  others = λ t l f. w.others t l (λ j a b. f j a (omega arith));
  rest = w.rest;
}
  where
    go : (j : ℕ) → from ≤ j → get_or above (get_or order j 0) 0 ≡ 1 → (suc j ≡ k + 1) ⊎ (suc j < k + 1) → ForbiddenTally ws marks (get_or order j 0) (entry_of now (get_or order j 0))
    go j l e (inl f) = let q : j ≡ k = omega arith in absurd (d (rw q at e))
    go j l e (inr i) = w.done j l (omega arith) e

-- or whose type's entry is written
written_more : {ws marks order above : List ℕ} {from k : ℕ} {kept now after : List ℕ} {r : Tally} → BottomUp ws order → k < types ws → from ≤ k
    → Written ws marks order above from k kept now → get_or above (get_or order k 0) 0 ≡ 1 → ForbiddenTally ws marks (get_or order k 0) r → Entered (get_or order k 0) r now after
    → Written ws marks order above from (k + 1) kept after
written_more {ws} {marks} {order} {above} {from} {k} {after = after} bottom h m w e tally entered = record {
  size = entered.size ∙ w.size;
  done = λ j l i e. go j l e (eq-or-lt_of_le i);
  others = λ t l f. entered_other entered t (λ q. f k m (omega arith) (sym q) (rw (← q) at e)) ∙ w.others t l (λ j a b. f j a (omega arith));
  rest = λ j l. entered.others j (omega (arith, bottom.inside k h)) (omega (arith, bottom.inside k h)) ∙ w.rest j l;
}
  where
    go : (j : ℕ) → from ≤ j → get_or above (get_or order j 0) 0 ≡ 1 → (suc j ≡ k + 1) ⊎ (suc j < k + 1) → ForbiddenTally ws marks (get_or order j 0) (entry_of after (get_or order j 0))
    go j l e (inl f) = let q : j ≡ k = omega arith in rw q (entered_tally tally entered)
    go j l e (inr i) =
        subst (λ (x : Tally). ForbiddenTally ws marks (get_or order j 0) x)
        (sym (entered_other entered (get_or order j 0) (λ q. omega (arith, bottom.once j k (omega arith) h q))))
        (w.done j l (omega arith) e)

written_start : {ws marks order above kept : List ℕ} {from : ℕ} → Written ws marks order above from from kept kept
written_start = record { size = refl; done = λ k l i. absurd (omega arith); others = λ t l f. refl; rest = λ k l. refl }

-- a pass that stands at k: the entries of the types passed are written, and what is listed is below the last of them
pub record Writing (ws marks order above : List ℕ) (from last k : ℕ) (kept now flags list : List ℕ) (g : Grown) (y : ℕ) : Type 0 where
  pub low : from ≤ k
  pub high : from < k → k ≤ last
  pub written : Written ws marks order above from k kept now
  pub ready : Ready ws marks flags list g y

pub writing_start : {ws marks order above kept : List ℕ} {from last : ℕ} {g : Grown} → g ≡ no_grown
    → Writing ws marks order above from last from kept kept (replicate 256 0) (replicate 256 0) g 0
writing_start e = record { low = omega arith; high = λ l. absurd (omega arith); written = written_start; ready = afresh (omega arith) e }

module _ {ws marks order above : List ℕ} {from last k : ℕ} {kept now flags list : List ℕ} {g : Grown} {y : ℕ}
    (w : Writing ws marks order above from last k kept now flags list g y) (l : k < last) where
  pub writing_skip : get_or above (get_or order k 0) 0 ≢ 1 → Writing ws marks order above from last (k + 1) kept now flags list g y
  writing_skip d = record { low = omega (arith, w.low); high = λ m. omega arith; written = written_skip w.written d; ready = w.ready }

  pub writing_more : {after flags-now list-now : List ℕ} {r : Grown} → Accepted ws → BottomUp ws order → k < types ws → get_or above (get_or order k 0) 0 ≡ 1
      → Whole ws marks flags-now list-now (get_or order k 0) r → Entered (get_or order k 0) r.tally now after
      → Writing ws marks order above from last (k + 1) kept after flags-now list-now r (get_or order k 0)
  writing_more a bottom h e whole entered = record {
    low = omega (arith, w.low);
    high = λ m. omega arith;
    written = written_more bottom h w.low w.written e (whole_tally a (bottom.inside k h) whole) entered;
    ready = (whole.reach, whole.within);
  }

-- the root stands last
root_last : {ws order : List ℕ} → Accepted ws → BottomUp ws order → get_or order (types ws - 1) 0 ≡ root ws
root_last {ws} {order} a bottom =
    let inside = (accepted_childed a).tiled.laid.root_inside in
    let at = bottom.every (root ws) inside in
    let last : types ws - 1 < types ws = omega arith in
    let low = below_behind bottom last at.1 (rw at.2 ((facts a).reached (get_or order (types ws - 1) 0) (bottom.inside (types ws - 1) last))) in
    let q : at.0 ≡ types ws - 1 = omega (arith, at.1) in
    rw q at at.2

-- where nothing is forbidden and nothing is kept the entries are those of the marks
pub renewed_blank : {ws marks : List ℕ} {p : ℕ} {kept : List ℕ} {r : Tally} → Accepted ws → ForbiddenTally ws marks (root ws) r → r.count ≡ 0 → Blank (2 * types ws) kept
    → Renewed ws marks p kept kept
renewed_blank {ws} {marks} a all zero blank = record {
  size = refl;
  above = λ t l b. nothing (λ q i f. none_many (tallied_many all) zero q i (record {
    below = record { type = f.below.type; belongs = f.below.belongs; below = below_trans f.below.below ((facts a).reached t l) };
    forbidden = f.forbidden;
  })) (blank (2 * t) (omega arith)) (blank (2 * t + 1) (omega arith));
  others = λ t l d. refl;
  rest = λ k l. refl;
}

-- the entries above x are written along the order up to the root's, and that of the root last
module _ {ws marks order above : List ℕ} {p x place : ℕ} {kept now after : List ℕ} {r : Tally} (a : Accepted ws) (bottom : BottomUp ws order) (b : Belongs ws p x)
    (at : StandsAt ws order x place) (told : Aboves ws x above) (w : Written ws marks order above place (types ws - 1) kept now) (all : ForbiddenTally ws marks (root ws) r)
    (e : Entered (root ws) r now after) where
  -- p is below t exactly if its type is
  of_type : {t : ℕ} → PrivilegeBelow ws p t → Below ws x t
  of_type q = rw (belongs_one q.belongs b) at q.below

  by_type : {t : ℕ} → Below ws x t → PrivilegeBelow ws p t
  by_type d = record { type = x; belongs = b; below = d }

  not_root : (t : ℕ) → ¬ PrivilegeBelow ws p t → t ≢ root ws
  not_root t d z = d (by_type (rw z ((facts a).reached x b.type)))

  here_now : (t : ℕ) → t < types ws → Below ws x t → ForbiddenTally ws marks t (entry_of after t)
  here_now t l d = go (bottom.every t l)
    where
      go : (j : ℕ) × (j < types ws) × (get_or order j 0 ≡ t) → ForbiddenTally ws marks t (entry_of after t)
      go (j, m, z) = elim (le_or_lt (types ws - 1) j) [
        | inl h ↦
            let q : types ws - 1 ≡ j = omega arith in
            let is : root ws ≡ t = sym (root_last a bottom) ∙ ap (λ (i : ℕ). get_or order i 0) q ∙ z in
            rw is at (entered_tally all e)
        | inr h ↦
            let other : t ≢ root ws = λ f. omega (arith, bottom.once j (types ws - 1) m (omega arith) (z ∙ f ∙ sym (root_last a bottom))) in
            let flag = eqb-true (get_or above t 0) 1 (told_true (eqb (get_or above t 0) 1) (told.each t l) d) in
            let low = below_behind bottom at.within m (rw (at.is, z) d) in
            subst (λ (y : Tally). ForbiddenTally ws marks t y) (sym (entered_other e t other)) (rw z at (w.done j low h (rw z flag)))
      ]

  pub renewed : Renewed ws marks p kept after
  renewed = record {
    size = e.size ∙ w.size;
    above = λ t l q. here_now t l (of_type q);
    others = λ t l d. entered_other e t (not_root t d)
        ∙ w.others t l (λ k m n f z. d (by_type (told_yes (eqb (get_or above t 0) 1) (told.each t l) (rw z))));
    rest = λ k l. e.others k (omega (arith, inside)) (omega (arith, inside)) ∙ w.rest k l;
  }
    where
      inside : root ws < types ws
      inside = (accepted_childed a).tiled.laid.root_inside
