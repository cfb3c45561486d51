-- Languages of numbers that take just the runs that languages of names take: of children in turn, of one of several, of any number of one child, and
-- of a type by its rule. Assumes nothing.
use Prim.Native.Nat.{ℕ, zero, suc, ◌≤◌, ◌<◌}
use mathlib.Core.Path.{◌≡◌, refl, sym, ◌∙◌}
use mathlib.Core.Logic.{◌⊎◌, inl, inr, ⊎_swap}
use mathlib.Core.List.{List, [], ◌∷◌, ◌++◌, map, map-append, append-nil}
use native.Mathlib.Omega.{arith}
use lib.ListN.{length, get_or}
use Rattle.table.specs.Rule.{children_at, OfKind}
use Rattle.model.specs.Tables.{Rule, empty, text, sequence, choice, star, kind_of, kids_of}
use Rattle.model.specs.Languages.{Both, Many, none, one_more, Runs, as_empty, as_text, as_sequence, as_choice, as_star, Holds, itself}
use Rattle.model.specs.Languages.{what_it_holds, InTurn, no_more, in_turn, Repeats, not_again, again, Named}
use Rattle.model.proofs.Placed.{Has}

abbrev pub Language : Type 1
Language = List (List ℕ) → Type 0

-- L takes the runs of numbers of the names that P takes, and no others
pub record Alike (number : List ℕ → ℕ) (L : List ℕ → Type 0) (P : Language) : Type 0 where
  pub into : (w : List (List ℕ)) → P w → L (map number w)
  pub out : (r : List ℕ) → L r → Named number P r

-- one of the children
pub data Picks (ws : List ℕ) (declared : ℕ) : List ℕ → List ℕ → Type 0 where
  this : {x : ℕ} {xs w : List ℕ} → Holds ws declared x w → Picks ws declared (x ∷ xs) w
  other : {x : ℕ} {xs w : List ℕ} → Picks ws declared xs w → Picks ws declared (x ∷ xs) w

-- what a type takes, by its kind and its children
abbrev pub KindRuns : List ℕ → ℕ → ℕ → List ℕ → List ℕ → Type 0
KindRuns ws declared zero xs w = w ≡ []
KindRuns ws declared (suc zero) xs w = w ≡ []
KindRuns ws declared (suc (suc zero)) xs w = InTurn ws declared xs w
KindRuns ws declared (suc (suc (suc zero))) xs w = Picks ws declared xs w
KindRuns ws declared (suc (suc (suc (suc k)))) xs w = Repeats ws declared (get_or xs 0 0) w

pub of_kind : {ws : List ℕ} {x : ℕ} {r : Rule} {k : ℕ} → Has ws x r → kind_of r ≡ k → OfKind ws x k
of_kind h e = record { type = h.type; kind_is = h.kind ∙ e }

module _ {ws : List ℕ} {declared : ℕ} where
  at_pick : {xs w : List ℕ} → Picks ws declared xs w → (i : ℕ) × (i < length xs) × Holds ws declared (get_or xs i 0) w
  at_pick (this h) = (0, omega arith, h)
  at_pick (other p) = let r = at_pick p in (suc r.0, omega (arith, r.1), r.2)

  pick_at : (xs : List ℕ) {w : List ℕ} (i : ℕ) → i < length xs → Holds ws declared (get_or xs i 0) w → Picks ws declared xs w
  pick_at [] i l h = absurd (omega arith)
  pick_at (x ∷ xs) zero l h = this h
  pick_at (x ∷ xs) (suc i) l h = other (pick_at xs i (omega arith) h)

  runs_in : {x : ℕ} (r : Rule) {w : List ℕ} → Has ws x r → KindRuns ws declared (kind_of r) (kids_of r) w → Runs ws declared x w
  runs_in empty h e = rw e (as_empty (of_kind h refl))
  runs_in text h e = rw e (as_text (of_kind h refl))
  runs_in (sequence xs) {w} h p = as_sequence {w = w} (of_kind h refl) (rw h.kids p)
  runs_in (choice xs) {w} h p = let r = at_pick p in as_choice {w = w} r.0 (of_kind h refl) (rw h.kids r.1) (rw h.kids r.2)
  runs_in (star y) {w} h p = as_star {w = w} (of_kind h refl) (rw h.kids p)

  runs_out : {x : ℕ} (r : Rule) {w : List ℕ} → Has ws x r → Runs ws declared x w → KindRuns ws declared (kind_of r) (kids_of r) w
  runs_out r h (as_empty o) = rw (← h.kind, o.kind_is)
  runs_out r h (as_text o) = rw (← h.kind, o.kind_is)
  runs_out r h (as_sequence o p) = rw (← h.kind, o.kind_is, ← h.kids) p
  runs_out {x} r h (as_choice i o l p) = rw (← h.kind, o.kind_is, ← h.kids) (pick_at (children_at ws x) i l p)
  runs_out r h (as_star o p) = rw (← h.kind, o.kind_is, ← h.kids) p

module _ {number : List ℕ → ℕ} where
  pub no_children : Alike number (λ r. r ≡ []) (λ w. w ≡ [])
  no_children = record { into = λ w e. rw e; out = λ r e. record { names = []; spells = sym e; takes = refl } }

  named_as : {P Q : Language} {r : List ℕ} → ((w : List (List ℕ)) → P w → Q w) → Named number P r → Named number Q r
  named_as f n = record { names = n.names; spells = n.spells; takes = f n.names n.takes }

  pub other_way : {L : List ℕ → Type 0} {P Q : Language} → Alike number L (λ w. P w ⊎ Q w) → Alike number L (λ w. Q w ⊎ P w)
  other_way a = record { into = λ w p. a.into w (⊎_swap p); out = λ r l. named_as (λ w p. ⊎_swap p) (a.out r l) }

  named_join : {P Q R : Language} {r s : List ℕ} → ((u v : List (List ℕ)) → P u → Q v → R (u ++ v)) → Named number P r → Named number Q s
      → Named number R (r ++ s)
  named_join f m n = record {
    names = m.names ++ n.names;
    spells = rw (map-append number m.names n.names, m.spells, n.spells);
    takes = f m.names n.names m.takes n.takes;
  }

module _ {ws : List ℕ} {declared : ℕ} {number : List ℕ → ℕ} where
  pub by_rule : {x : ℕ} {r : Rule} {P : Language} → Has ws x r → Alike number (KindRuns ws declared (kind_of r) (kids_of r)) P
      → Alike number (Runs ws declared x) P
  by_rule {r = r} h a = record { into = λ w p. runs_in r h (a.into w p); out = λ w p. a.out w (runs_out r h p) }

  pub as_declared : {n : List ℕ} → number n < declared → Alike number (Holds ws declared (number n)) (λ w. w ≡ n ∷ [])
  as_declared {n} l = record { into = λ w e. rw e (itself l); out = λ r h. record { names = n ∷ []; spells = sym (only h); takes = refl } }
    where
      only : {r : List ℕ} → Holds ws declared (number n) r → r ≡ number n ∷ []
      only (itself m) = refl
      only (what_it_holds m r) = absurd (omega arith)

  pub as_made : {x : ℕ} {P : Language} → declared ≤ x → Alike number (Runs ws declared x) P → Alike number (Holds ws declared x) P
  as_made {x} {P} l a = record { into = λ w p. what_it_holds l (a.into w p); out = λ r h. held h }
    where
      held : {r : List ℕ} → Holds ws declared x r → Named number P r
      held (itself m) = absurd (omega arith)
      held (what_it_holds {w = r} m p) = a.out r p

  module _ {x : ℕ} {P : Language} (a : Alike number (Holds ws declared x) P) where
    pub one_alone : Alike number (InTurn ws declared (x ∷ [])) P
    one_alone = record { into = λ w p. rw (append-nil (map number w)) at (in_turn (a.into w p) no_more); out = λ r t. alone t }
      where
        alone : {r : List ℕ} → InTurn ws declared (x ∷ []) r → Named number P r
        alone (in_turn {u = u} h no_more) = rw (append-nil u) (a.out u h)

    pub one_choice : Alike number (Picks ws declared (x ∷ [])) P
    one_choice = record { into = λ w p. this (a.into w p); out = λ r t. chosen t }
      where
        chosen : {r : List ℕ} → Picks ws declared (x ∷ []) r → Named number P r
        chosen (this {w = r} h) = a.out r h
        chosen (other h) = elim h [ ]

    pub any_number : Alike number (Repeats ws declared x) (Many P)
    any_number = record { into = λ w p. repeats p; out = λ r t. repeated t }
      where
        repeats : {w : List (List ℕ)} → Many P w → Repeats ws declared x (map number w)
        repeats none = not_again
        repeats (one_more {u} {v} p q) = rw (map-append number u v) (again (a.into u p) (repeats q))

        repeated : {r : List ℕ} → Repeats ws declared x r → Named number (Many P) r
        repeated not_again = record { names = []; spells = refl; takes = none }
        repeated (again {u = u} h t) = named_join (λ v w p q. one_more p q) (a.out u h) (repeated t)

    module _ {xs : List ℕ} {Q : Language} where
      pub then_others : Alike number (InTurn ws declared xs) Q → Alike number (InTurn ws declared (x ∷ xs)) (Both P Q)
      then_others b = record {
        into = λ w p. rw (p.is, map-append number p.front p.back) (in_turn (a.into p.front p.first) (b.into p.back p.second));
        out = λ r t. turned t;
      }
        where
          both : (v w : List (List ℕ)) → P v → Q w → Both P Q (v ++ w)
          both v w p q = record { front = v; back = w; is = refl; first = p; second = q }

          turned : {r : List ℕ} → InTurn ws declared (x ∷ xs) r → Named number (Both P Q) r
          turned (in_turn {u = u} {v = v} h t) = named_join both (a.out u h) (b.out v t)

      pub or_others : Alike number (Picks ws declared xs) Q → Alike number (Picks ws declared (x ∷ xs)) (λ w. P w ⊎ Q w)
      or_others b = record { into = λ w p. picks p; out = λ r t. picked t }
        where
          picks : {w : List (List ℕ)} → P w ⊎ Q w → Picks ws declared (x ∷ xs) (map number w)
          picks {w} (inl p) = this (a.into w p)
          picks {w} (inr q) = other (b.into w q)

          picked : {r : List ℕ} → Picks ws declared (x ∷ xs) r → Named number (λ w. P w ⊎ Q w) r
          picked (this {w = r} h) = named_as (λ w p. inl p) (a.out r h)
          picked (other {w = r} p) = named_as (λ w q. inr q) (b.out r p)
