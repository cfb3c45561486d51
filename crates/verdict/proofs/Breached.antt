-- The first breach at one type, by its kind. B y p says that p is forbidden below type y. Assumes nothing.
use Rattle.std.proofs.Common.{Option, Some, None, ℕ, ◌+◌, ◌≤◌, ◌<◌, ◌≡◌, refl, sym, ap, subst, ◌∙◌, ◌≢◌, ◌⊎◌, inl, inr, List, [], ◌∷◌, arith}
use Rattle.table.specs.Rule.{rule_at, kind_in, count_of, child_at, IsChoice, IsStar}
use Rattle.table.specs.Steps.Numbering.{NumberedAs, replace_in}
use Rattle.table.specs.declared.privilege.Numbering.{Numbering}
use Rattle.table.proofs.Privileges.{replaceable_in, in_replaceable, replace_in_lem}
use Rattle.policy.specs.Marks.{Allowed}
use Rattle.policy.specs.Reached.{Reached}
use Rattle.policy.specs.Renewed.{Renewed, by_both}
use Rattle.policy.specs.Steps.Squares.{Square}
use Rattle.policy.proofs.SquareLaws.{marked_told, told_marked}
use Rattle.policy.proofs.Reaches.{reached_from, reached_to}
use Rattle.verdict.specs.Breaches.{condition_number, StarBroken, at_exchange, at_below, InsertDeleteBreach, ChainBreach, CycleBreach, BreachOf, key}
use Rattle.verdict.specs.Steps.Visits.{star_spot, Broken, FirstAt, Searched, BreachAt, CycleAt}
use Rattle.verdict.specs.declared.Spot.{Spot}
use Rattle.verdict.specs.declared.Condition.{Condition}
use Rattle.verdict.specs.declared.Condition.TheVariants.{InsertDelete, Chain, Cycle}
use Rattle.table.specs.Lex.{Lex}
use Rattle.table.proofs.Lex.{lex_more, lex_end, lex_cases}
use Rattle.verdict.proofs.Firsts.{Cases, breach_cases}

module _ (ws marks : List ℕ) (B : ℕ → ℕ → Type 0) (x : ℕ) where
  kind_here : (s : Spot) {k : ℕ} → s.element ≡ x → kind_in (rule_at ws s.element) ≡ k → kind_in (rule_at ws x) ≡ k
  kind_here s e h = ap (λ (y : ℕ). kind_in (rule_at ws y)) (sym e) ∙ h

  -- a type that is neither a star nor a choice has no breach
  pub plain_none : kind_in (rule_at ws x) ≢ 3 → kind_in (rule_at ws x) ≢ 4 → (s : Spot) (p : ℕ) → ¬ BreachAt ws marks B x s p
  plain_none c d s p b = elim (breach_cases ws marks B s p b.breach) [
    | inl h ↦ d (kind_here s b.here h.1.star.kind_is)
    | inr (inl h) ↦ c (kind_here s b.here h.1.choice.kind_is)
    | inr (inr h) ↦ c (kind_here s b.here h.1.choice.kind_is)
  ]

  -- a star's breaches are of condition 1
  pub star_only : IsStar ws x → (s : Spot) (p : ℕ) → BreachAt ws marks B x s p → (s.condition ≡ InsertDelete) × InsertDeleteBreach ws marks B s p
  star_only star s p b = go (breach_cases ws marks B s p b.breach)
    where
      go : Cases ws marks B s p → (s.condition ≡ InsertDelete) × InsertDeleteBreach ws marks B s p
      go (inl h) = h
      go (inr (inl h)) = absurd (omega (arith, star.kind_is, kind_here s b.here h.1.choice.kind_is))
      go (inr (inr h)) = absurd (omega (arith, star.kind_is, kind_here s b.here h.1.choice.kind_is))

  -- a choice's are of 2 or 3
  pub choice_only : IsChoice ws x → (s : Spot) (p : ℕ) → BreachAt ws marks B x s p
      → ((s.condition ≡ Chain) × ChainBreach ws marks s p) ⊎ ((s.condition ≡ Cycle) × CycleBreach ws marks B s p)
  choice_only choice s p b = go (breach_cases ws marks B s p b.breach)
    where
      go : Cases ws marks B s p → ((s.condition ≡ Chain) × ChainBreach ws marks s p) ⊎ ((s.condition ≡ Cycle) × CycleBreach ws marks B s p)
      go (inl h) = absurd (omega (arith, choice.kind_is, kind_here s b.here h.1.star.kind_is))
      go (inr h) = h

  module _ (star : IsStar ws x) where
    -- what breaks the star, at whatever spot
    broken_here : (s : Spot) (p : ℕ) → BreachAt ws marks B x s p → StarBroken ws marks B x p
    broken_here s p b = rw b.here at (star_only star s p b).1.broken

    -- a child that cannot be renewed: no breach
    pub star_closed : ¬ Renewed ws (Allowed marks) x → (s : Spot) (p : ℕ) → ¬ BreachAt ws marks B x s p
    star_closed d s p b = elim (broken_here s p b) [ at_exchange f q ↦ d (by_both f.both) | at_below f r w ↦ d r ]

    pub star_first : {p : ℕ} → StarBroken ws marks B x p → Searched (BreachAt ws marks B x) (Some (star_spot x))
    star_first {p} f = record {
      broken = (p, record { breach = record { star = star; zero_i = refl; zero_j = refl; broken = f }; here = refl });
      first = λ s q b l. go s q b (star_only star s q b) l;
    }
      where
        go : (s : Spot) (q : ℕ) → BreachAt ws marks B x s q → (s.condition ≡ InsertDelete) × InsertDeleteBreach ws marks B s q → ¬ Lex (key s) (x ∷ 1 ∷ 0 ∷ 0 ∷ [])
        go s q b (k, h) l =
            let n = ap condition_number k in
            lex_end (lex_more (omega arith) (lex_more (omega arith) (lex_more (omega arith) (lex_more (omega (arith, b.here)) l))))

  module _ (choice : IsChoice ws x) {n : Numbering} (numbered : NumberedAs ws x n) {square : List ℕ}
      (tells : Square (count_of ws x) (Reached ws (Allowed marks) x) square) where
    -- a breach of condition 2 is a pair that the square and the marks show
    chain_broken : (s : Spot) (p : ℕ) → ChainBreach ws marks s p → s.element ≡ x → Broken marks n square s.i s.j
    chain_broken s p h e =
        let r : Reached ws (Allowed marks) x s.i s.j = rw e at h.reached in
        record {
          leads = (told_marked tells s.i s.j (reached_from r) (reached_to r) r).is;
          forbidden = record {
            can = replaceable_in numbered (rw e at h.can);
            is = rw (replace_in_lem numbered s.i s.j, ← e, ← h.is) h.forbidden;
          };
        }

    chain_none : ((a : ℕ) → a < n.count → (b : ℕ) → b < n.count → ¬ Broken marks n square a b) → (s : Spot) (p : ℕ) → ChainBreach ws marks s p → s.element ≢ x
    chain_none free s p h e =
        let r : Reached ws (Allowed marks) x s.i s.j = rw e at h.reached in
        free s.i (omega (arith, numbered.count, reached_from r)) s.j (omega (arith, numbered.count, reached_to r)) (chain_broken s p h e)

    pub chain_first : {i j : ℕ} → FirstAt (Broken marks n square) n.count i j
        → Searched (BreachAt ws marks B x) (Some (record { condition = Chain; element = x; i = i; j = j }))
    chain_first {i} {j} f = record {
      broken = (
        replace_in n i j,
        record {
          breach = record {
            choice = choice;
            reached = marked_told tells i j (record { from = omega (arith, numbered.count, f.from); to = omega (arith, numbered.count, f.to); is = f.holds.leads });
            can = in_replaceable numbered choice f.holds.forbidden.can;
            is = replace_in_lem numbered i j;
            forbidden = f.holds.forbidden.is;
          };
          here = refl;
        },
      );
      first = λ s p b l. go s p b.here (choice_only choice s p b) l;
    }
      where
        pair : (s : Spot) (p : ℕ) → s.element ≡ x → ChainBreach ws marks s p → Lex (s.i ∷ s.j ∷ []) (i ∷ j ∷ []) → ⊥
        pair s p e h l = at (lex_cases l)
          where
            r : Reached ws (Allowed marks) x s.i s.j
            r = rw e at h.reached

            found : Broken marks n square s.i s.j
            found = chain_broken s p h e

            at : (s.i < i) ⊎ ((s.i ≡ i) × Lex (s.j ∷ []) (j ∷ [])) → ⊥
            at (inl k) = f.rows s.i k s.j (omega (arith, numbered.count, reached_to r)) found
            at (inr (q, k)) = elim (lex_cases k) [ inl m ↦ f.row s.j m (rw q at found) | inr m ↦ lex_end m.1 ]

        go : (s : Spot) (p : ℕ) → s.element ≡ x → ((s.condition ≡ Chain) × ChainBreach ws marks s p) ⊎ ((s.condition ≡ Cycle) × CycleBreach ws marks B s p)
            → Lex (key s) (x ∷ 2 ∷ i ∷ j ∷ []) → ⊥
        go s p e (inl (k, h)) l = let m = ap condition_number k in pair s p e h (lex_more (omega arith) (lex_more (omega arith) l))
        go s p e (inr (k, h)) l =
            let m = ap condition_number k in
            elim (lex_cases (lex_more (omega arith) l)) [ inl z ↦ omega arith | inr z ↦ omega (arith, z.0) ]

    -- where there is no chain, the first cycle is the first breach
    pub choice_at : ((a : ℕ) → a < n.count → (b : ℕ) → b < n.count → ¬ Broken marks n square a b)
        → (found : Option Spot) → Searched (CycleAt ws marks B x) found → Searched (BreachAt ws marks B x) found
    choice_at free found = by found
      where
        cycle : (s : Spot) (p : ℕ) → BreachAt ws marks B x s p → CycleAt ws marks B x s p
        cycle s p h = elim (choice_only choice s p h) [
          | inl g ↦ absurd (chain_none free s p g.1 h.here)
          | inr g ↦ record { of_cycle = g.0; breach = g.1; here = h.here }
        ]

        by : (found : Option Spot) → Searched (CycleAt ws marks B x) found → Searched (BreachAt ws marks B x) found
        by None f = λ t p h. f t p (cycle t p h)
        by (Some s) f =
            let p = f.broken.0 in
            let h = f.broken.1 in
            record {
              broken = (p, record { breach = subst (λ (d : Condition). BreachOf ws marks B d s p) (sym h.of_cycle) h.breach; here = h.here });
              first = λ t q g. f.first t q (cycle t q g);
            }

  -- cycles, position by position: those before i have none
  abbrev pub CyclesFrom : ℕ → Type 0
  CyclesFrom i = (s : Spot) (p : ℕ) → CycleAt ws marks B x s p → i ≤ s.i

  pub cycles_more : {i : ℕ} → CyclesFrom i → ((p : ℕ) → Reached ws (Allowed marks) x i i → ¬ B (child_at ws x i) p) → CyclesFrom (i + 1)
  cycles_more {i} g d s p h =
      let l = g s p h in
      let c = h.breach in
      let apart : s.i ≢ i = λ q. d p (rw (h.here, q) at c.reached) (rw (h.here, q) at c.below) in
      omega arith

  pub cycles_none : CyclesFrom (count_of ws x) → (s : Spot) (p : ℕ) → ¬ CycleAt ws marks B x s p
  cycles_none g s p h =
      let l = g s p h in
      let r : Reached ws (Allowed marks) x s.i s.i = rw h.here at h.breach.reached in
      omega (arith, reached_from r)

  pub cycle_first : {i p : ℕ} → IsChoice ws x → CyclesFrom i → Reached ws (Allowed marks) x i i → B (child_at ws x i) p
      → Searched (CycleAt ws marks B x) (Some (record { condition = Cycle; element = x; i = i; j = i }))
  cycle_first {i} {p} choice g r f = record {
    broken = (p, record { of_cycle = refl; breach = record { choice = choice; same = refl; reached = r; below = f }; here = refl });
    first = λ s q h l. at s q h (lex_cases (lex_more (omega (arith, ap condition_number h.of_cycle)) (lex_more (omega (arith, h.here)) l)));
  }
    where
      at : (s : Spot) (q : ℕ) → CycleAt ws marks B x s q → (s.i < i) ⊎ ((s.i ≡ i) × Lex (s.j ∷ []) (i ∷ [])) → ⊥
      at s q h (inl k) = omega (arith, g s q h)
      at s q h (inr (e, k)) = lex_end (lex_more (omega (arith, h.breach.same)) k)
