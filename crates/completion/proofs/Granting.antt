-- What a policy grants, tested; the completion, computed by that test; and theorem 2 of document 000, that a policy has a completion exactly
-- if it is clean, and exactly if nothing granted is forbidden. The tests hold of every run of words and of marks. Assumes nothing.
use Rattle.std.proofs.Common.{ℕ, suc, ◌<◌, ◌≡◌, refl, ◌⊎◌, inl, inr, ◌↔◌, Bool, true, false, List, arith, T}
use Rattle.table.specs.Words.{types}
use Rattle.table.specs.Rule.{count_of, child_at}
use Rattle.table.specs.Privilege.{privileges, exchange_of, replace_of, Exchangeable, Replaceable, Edit, text, insert, delete, exchange, replace, Offers, privilege_of}
use Rattle.table.proofs.Test.{Test, is_equal, both, either, fails, implies, means, some, every}
use Rattle.table.proofs.TableTests.{of_kind, exchangeable, replaceable, belongs}
use Rattle.policy.specs.Marks.{Allowed, Forbidden, Policy}
use Rattle.policy.specs.Reached.{Reached}
use Rattle.policy.specs.Renewed.{Both}
use Rattle.verdict.specs.Conditions.{Clean}
use Rattle.verdict.specs.Forces.{Forces}
use Rattle.verdict.proofs.Forced.{forced_below, clean_forces, forces_clean}
use Rattle.table.proofs.BelowTests.{below}
use Rattle.verdict.proofs.PolicyTests.{allowed, forbidden, policy, reached, both_allowed, renewed}
use Rattle.completion.specs.Completions.{Completes, LeastCompletion}
use Rattle.completion.specs.Granted.{Granted}
use Rattle.completion.specs.Steps.Opens.{OpensAt, star, cycle, Opened}
use Rattle.completion.specs.Steps.Passes.{Filled}
use Rattle.policy.specs.Steps.Writing.{Decision, allow, forbid, decision}
use Rattle.completion.proofs.Closed.{opened_forces, Drawn, Own, forces_cases, drawn_forces}
use Rattle.completion.proofs.Least.{completes_clean, completes_grants, allowed_granted, completed_least}
use Rattle.policy.proofs.Reaches.{reached_from}
use Rattle.policy.specs.Tabulated.{tabulate}
use Rattle.policy.proofs.Tabulates.{tabulate_length, tabulate_at}

-- the mark that a test decides
decide_test : {P : Type 0} (t : Test P) → Decision P (decision t.run)
decide_test {P} t = go t.run t.out t.into
  where
    go : (b : Bool) → (T b → P) → (P → T b) → Decision P (decision b)
    go true out into = allow (out tt) refl
    go false out into = forbid into refl

module _ (ws m : List ℕ) where
  -- what is cheapest to test stands first
  abbrev opens_at : (x i : ℕ) → Test (OpensAt ws (Allowed m) x i)
  opens_at x i = means (λ h. elim h [ inl (e, (s, r)) ↦ star s r e | inr (s, r) ↦ cycle s r ])
      (λ o. elim o [ star s r e ↦ inl (e, (s, r)) | cycle s r ↦ inr (s, r) ])
      (either (both (is_equal i 0) (both (of_kind ws x 4) (renewed ws m x)))
      (both (of_kind ws x 3) (reached ws m x i i)))

  pub opens_type : {x i : ℕ} → OpensAt ws (Allowed m) x i → x < types ws
  opens_type (star s r e) = s.type
  opens_type (cycle s r) = s.type

  -- a star opens position 0, whatever its number of children
  pub opens_position : {x i : ℕ} → OpensAt ws (Allowed m) x i → i < suc (count_of ws x)
  opens_position (star s r e) = omega arith
  opens_position (cycle s r) = omega (arith, reached_from r)

  abbrev opened : (y : ℕ) → Test (Opened ws (Allowed m) y)
  opened y = means (λ h. record { at = h.0; i = h.2.0; opens = h.2.2.0; below = h.2.2.1 })
      (λ o. (o.at, opens_type o.opens, (o.i, opens_position o.opens, (o.opens, o.below))))
      (some (types ws) (λ x. some (suc (count_of ws x)) (λ i. both (opens_at x i) (below ws y (child_at ws x i)))))

  -- an edit that its own type forces
  abbrev Exchanged : ℕ → Type 0
  Exchanged p = (x : ℕ) × (x < types ws) × Exchangeable ws x × (p ≡ exchange_of ws x) × Both ws (Allowed m) x

  abbrev Replaced : ℕ → Type 0
  Replaced p = (x : ℕ) × (x < types ws) × (i : ℕ) × (i < count_of ws x) × (j : ℕ) × (j < count_of ws x) × Replaceable ws x i j × (p ≡ replace_of ws x i j) × Reached ws (Allowed m) x i j

  pub own_into : {p : ℕ} (e : Edit) → Offers ws e → Drawn ws (Allowed m) e → p ≡ privilege_of ws e → Exchanged p ⊎ Replaced p
  own_into (text x) o d q = absurd d
  own_into (insert x) o d q = absurd d
  own_into (delete x) o d q = absurd d
  own_into (exchange x) o d q = inl (x, o.star.type, o, q, d)
  own_into (replace x i j) o d q = inr (x, o.choice.type, i, o.from, j, o.to, o, q, d)

  abbrev own : (p : ℕ) → Test (Own ws (Allowed m) p)
  own p = means
      (λ h. elim h [
        | inl (x, l, (o, (q, d))) ↦ record { edit = exchange x; offers = o; drawn = d; is = q }
        | inr (x, l, (i, li, (j, lj, (o, (q, d))))) ↦ record { edit = replace x i j; offers = o; drawn = d; is = q }
      ])
      (λ c. elim (own_into c.edit c.offers c.drawn c.is) [
        | inl (x, l, o, q, d) ↦ inl (x, l, (o, (q, d)))
        | inr (x, l, i, li, j, lj, o, q, d) ↦ inr (x, l, (i, li, (j, lj, (o, (q, d)))))
      ])
      (either (some (types ws) (λ x. both (exchangeable ws x) (both (is_equal p (exchange_of ws x)) (both_allowed ws m x))))
      (some (types ws) (λ x. some (count_of ws x) (λ i. some (count_of ws x) (λ j.
      both (replaceable ws x i j) (both (is_equal p (replace_of ws x i j)) (reached ws m x i j)))))))

  -- such an edit's, or a privilege of an opened type
  abbrev forces : (p : ℕ) → Test (Forces ws (Allowed m) p)
  forces p = means
      (λ h. elim h [
        | inl c ↦ drawn_forces c.edit c.offers c.drawn c.is
        | inr (y, l, (b, o)) ↦ opened_forces o b
      ])
      (λ f. elim (forces_cases f) [ inl (y, b, o) ↦ inr (y, b.type, (b, o)) | inr c ↦ inl c ])
      (either (own p) (some (types ws) (λ y. both (belongs ws p y) (opened y))))

  -- no forced privilege is forbidden
  abbrev pub clean : Test (Clean ws m)
  clean = means (λ h. forces_clean (λ p f b. h p (forced_below f) b f)) (λ q p l b f. clean_forces q p f b)
      (every (privileges ws) (λ p. implies (forbidden m p) (fails (forces p))))

  -- T, of the allowed marks
  abbrev pub granted : (p : ℕ) → Test (Granted ws (Allowed m) p)
  granted p = either (allowed m p) (forces p)

  -- V marks: 1 where granted, else 2
  abbrev pub complete_by : List ℕ
  complete_by = tabulate (privileges ws) (λ p. decision (granted p).run)

  pub complete_by_lem : Filled ws m complete_by
  complete_by_lem = record {
    size = tabulate_length (privileges ws) (λ p. decision (granted p).run);
    each = λ p l. rw (tabulate_at (privileges ws) (λ p. decision (granted p).run) p l) (decide_test (granted p));
  }

-- a clean policy has a least completion: in the paper's words, T(A) with all else forbidden is the least-privilege consistent extension
pub clean_least : {ws m : List ℕ} → Policy ws m → Clean ws m → (n : List ℕ) × LeastCompletion ws m n
clean_least {ws} {m} pol q = (complete_by ws m, completed_least pol (complete_by_lem ws m) q)

-- and whatever is one allows exactly T(A)
pub least_granted : {ws m n : List ℕ} → Policy ws m → LeastCompletion ws m n → (p : ℕ) → Allowed n p ↔ Granted ws (Allowed m) p
least_granted {ws} {m} pol l p =
    let by = completed_least pol (complete_by_lem ws m) (completes_clean l.completes) in
    ((λ a. allowed_granted pol (complete_by_lem ws m) p (l.least (complete_by ws m) by.completes p a)), completes_grants l.completes p)

-- clean is T(A) ∩ F empty
clean_granted : {ws m : List ℕ} → Clean ws m ↔ ((p : ℕ) → Granted ws (Allowed m) p → ¬ Forbidden m p)
clean_granted = (λ q p g f. elim g [ inl a ↦ omega arith | inr h ↦ clean_forces q p h f ], λ h. forces_clean (λ p f. h p (inr f)))

-- theorem 2 of document 000. "Let P be a partial policy. The following are equivalent: (1) P is quasiconsistent", that is, it has a consistent
-- total extension: some n completes it; "(2) P is consistent", by the conditions of theorem 1: it is clean; "(3) T(A) ∩ F = ∅": nothing that
-- is granted is forbidden. The first pair is (2) and (1), the second (2) and (3)
pub theorem_2 : {ws m : List ℕ} → Policy ws m
    → (Clean ws m ↔ ((n : List ℕ) × Completes ws m n)) × (Clean ws m ↔ ((p : ℕ) → Granted ws (Allowed m) p → ¬ Forbidden m p))
theorem_2 pol = ((λ q. let l = clean_least pol q in (l.0, l.1.completes), λ h. completes_clean h.1), clean_granted)

-- words and marks are no policy, or one with no completion, or one with this least completion
pub data Outcome : Type 0 where
  unfit : Outcome
  none : Outcome
  least : List ℕ → Outcome

abbrev pub Comes : List ℕ → List ℕ → Outcome → Type 0
Comes ws m unfit = ¬ Policy ws m
Comes ws m none = Policy ws m × ((n : List ℕ) → ¬ Completes ws m n)
Comes ws m (least n) = Policy ws m × LeastCompletion ws m n

-- the outcome of words and marks, computed
abbrev pub outcome_by : List ℕ → List ℕ → Outcome
outcome_by ws m = elim (policy ws m).run [ false ↦ unfit | true ↦ elim (clean ws m).run [ false ↦ none | true ↦ least (complete_by ws m) ] ]

pub outcome_by_lem : (ws m : List ℕ) → Comes ws m (outcome_by ws m)
outcome_by_lem ws m = go (policy ws m).run (policy ws m).out (policy ws m).into (clean ws m).run (clean ws m).out (clean ws m).into
  where
    go : (p : Bool) → (T p → Policy ws m) → (Policy ws m → T p) → (c : Bool) → (T c → Clean ws m) → (Clean ws m → T c)
        → Comes ws m (elim p [ false ↦ unfit | true ↦ elim c [ false ↦ none | true ↦ least (complete_by ws m) ] ])
    go false fit known c passes holds = known
    go true fit known false passes holds = (fit tt, λ n c. holds (completes_clean c))
    go true fit known true passes holds = (fit tt, completed_least (fit tt) (complete_by_lem ws m) (passes tt))
