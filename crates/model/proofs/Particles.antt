-- A particle whose types stand in a table takes there what it takes in the text. Assumes nothing.
use Prim.Native.Nat.{ℕ, suc, ◌+◌, ◌≤◌, ◌<◌}
use mathlib.Core.Path.{◌≡◌}
use mathlib.Core.Logic.{◌⊎◌}
use mathlib.Core.List.{List, [], ◌∷◌}
use native.Mathlib.Omega.{arith}
use Rattle.grammar.specs.Tree.{Mark, once, maybe, any, several, Particle, Particles, name, choice, sequence, last, more, first, uses_in, uses_in_all}
use Rattle.model.specs.Model.{Model, Models, Operator, element, made, single, then, marked, either_of, in_order_of, model_of, models_of}
use Rattle.model.specs.Tables.{size_of, child_of, children_of, rule_of, made_by, made_inside, made_by_each, rule_of_model, made_in_model}
use Rattle.model.specs.Languages.{Both, Times, Takes, TakesOne, TakesAll, Runs, Holds, InTurn}
use Rattle.model.proofs.Placed.{Has, Placed, ahead, behind}
use Rattle.model.proofs.Uses.{Known, known_first, known_rest}
use Rattle.model.proofs.Alike.{Language, Alike, Picks, no_children, other_way, by_rule, as_declared, as_made}
use Rattle.model.proofs.Alike.{one_alone, one_choice, any_number, then_others, or_others}

module _ (ws : List ℕ) (number : List ℕ → ℕ) (declared : ℕ) where
  -- a model takes the runs of P: as a child, where the types it makes stand from x on; and as the content of type t
  pub record Means (m : Model) (P : Language) : Type 0 where
    pub child : (x : ℕ) → declared ≤ x → Placed ws x (made_by number x m) → Alike number (Holds ws declared (child_of number x m)) P
    pub whole : (t x : ℕ) → declared ≤ x → Has ws t (rule_of_model number x m) → Placed ws x (made_in_model number x m)
        → Alike number (Runs ws declared t) P

  -- what an operator is as the content of a type
  abbrev Whole : Operator → Language → Type 0
  Whole o P = (t x : ℕ) → declared ≤ x → Has ws t (rule_of number x o) → Placed ws x (made_inside number x o) → Alike number (Runs ws declared t) P

  made_means : {o : Operator} {P : Language} → Whole o P → Means (made o) P
  made_means f = record { child = λ x l h. as_made l (f x (suc x) (omega arith) h.0 h.1); whole = f }

  element_means : {n : List ℕ} → number n < declared → Means (element n) (λ w. w ≡ n ∷ [])
  element_means l = record { child = λ x g h. as_declared l; whole = λ t x g r h. by_rule r (one_alone (as_declared l)) }

  marked_means : (k : Mark) {m : Model} {P : Language} → Means m P → Means (marked k m) (Times k P)
  marked_means once a = a
  marked_means maybe a = made_means (λ t x l r h.
      let nothing = one_choice (as_made l (by_rule h.0 no_children)) in
      by_rule r (other_way (or_others (a.child (suc x) (omega arith) h.1) nothing)))
  marked_means any a = made_means (λ t x l r h. by_rule r (any_number (a.child x l h)))
  marked_means several a = made_means (λ t x l r h.
      let one = a.child (suc x) (omega arith) h.1 in
      by_rule r (then_others one (one_alone (as_made l (by_rule h.0 (any_number one))))))

  -- the children of a group
  abbrev Children : (List ℕ → List ℕ → Type 0) → Models → Language → Type 0
  Children L ms P = (x : ℕ) → declared ≤ x → Placed ws x (made_by_each number x ms) → Alike number (L (children_of number x ms)) P

  record Choice (ms : Models) (P : Language) : Type 0 where
    as_one : Means (either_of ms) P
    each : Children (Picks ws declared) ms P

  record Sequence (ms : Models) (P : Language) : Type 0 where
    as_one : Means (in_order_of ms) P
    each : Children (InTurn ws declared) ms P

  choice_last : {m : Model} {P : Language} → Means m P → Choice (single m) P
  choice_last a = record { as_one = a; each = λ x l h. one_choice (a.child x l h) }

  sequence_last : {m : Model} {P : Language} → Means m P → Sequence (single m) P
  sequence_last a = record { as_one = a; each = λ x l h. one_alone (a.child x l h) }

  module _ {m : Model} {ms : Models} {P Q : Language} (a : Means m P) where
    choice_more : Choice ms Q → Choice (then m ms) (λ w. P w ⊎ Q w)
    choice_more b = record { as_one = made_means (λ t x l r h. by_rule r (each x l h)); each = each }
      where
        each : Children (Picks ws declared) (then m ms) (λ w. P w ⊎ Q w)
        each x l h = or_others (a.child x l (ahead ws number m ms x h)) (b.each (x + size_of m) (omega arith) (behind ws number m ms x h))

    sequence_more : Sequence ms Q → Sequence (then m ms) (Both P Q)
    sequence_more b = record { as_one = made_means (λ t x l r h. by_rule r (each x l h)); each = each }
      where
        each : Children (InTurn ws declared) (then m ms) (Both P Q)
        each x l h = then_others (a.child x l (ahead ws number m ms x h)) (b.each (x + size_of m) (omega arith) (behind ws number m ms x h))

  mutual
    pub means : (p : Particle) → Known number declared (uses_in p) → Means (model_of p) (Takes p)
    means (name at n k) u = marked_means k (element_means (u.below 0 (record { place = at; bytes = n }) first))
    means (choice at ps k) u = marked_means k (choices ps u).as_one
    means (sequence at ps k) u = marked_means k (sequences ps u).as_one

    choices : (ps : Particles) → Known number declared (uses_in_all ps) → Choice (models_of ps) (TakesOne ps)
    choices (last p) u = choice_last (means p u)
    choices (more p ps) u = choice_more (means p (known_first p ps u)) (choices ps (known_rest p ps u))

    sequences : (ps : Particles) → Known number declared (uses_in_all ps) → Sequence (models_of ps) (TakesAll ps)
    sequences (last p) u = sequence_last (means p u)
    sequences (more p ps) u = sequence_more (means p (known_first p ps u)) (sequences ps (known_rest p ps u))
