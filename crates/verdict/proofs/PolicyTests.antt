-- Tests of what specs/ says of a table and its marks, and the verdict, computed by them: the first key of a breach within the bounds of all
-- such keys. They hold of every run of words and of marks. Assumes nothing.
use Rattle.std.proofs.Common.{ℕ, zero, suc, ◌<◌, ◌≡◌, refl, ap, inl, inr, Bool, false, List, [], ◌∷◌, ◌++◌, arith, T, length, get_or}
use mathlib.Core.Path.{subst⁻¹}
use mathlib.Core.Option.{Option, none, some as found}
use Rattle.table.specs.Words.{types}
use Rattle.table.specs.Rule.{count_of, child_at}
use Rattle.table.specs.Privilege.{privileges, insert_of, delete_of, exchange_of, replace_of}
use Rattle.table.specs.Check.{Accepted}
use Rattle.table.specs.Steps.Found.{Lowest}
use Rattle.std.specs.Prelude.{Option as Place, Some as At, None as Nowhere}
use Rattle.table.proofs.Test.{Test, is_at_most, is_equal, both, either, fails, means, settle, some, every, lowest_of, lowest_of_lem}
use Rattle.table.proofs.Answers.{accepted_answer}
use Rattle.table.proofs.TableTests.{of_kind, exchangeable, replaceable, belongs, answer_of, answer_of_lem}
use Rattle.policy.specs.Marks.{Allowed, Forbidden, Fit, Policy}
use Rattle.verdict.specs.Below.{PrivilegeBelow, ForbiddenBelow, ForbiddenTally}
use Rattle.verdict.specs.declared.below.Tally.{Tally}
use Rattle.policy.specs.Reached.{Step, Reached}
use Rattle.policy.specs.Renewed.{Both, Renewed, by_both, by_exchange, Barred}
use Rattle.verdict.specs.Breaches.{condition_number, no_breach, StarBroken, at_exchange, at_below, InsertDeleteBreach, ChainBreach, CycleBreach, BreachOf, IsBreach}
use Rattle.verdict.specs.Breaches.{StepsOf, Verdict, clean, broken}
use Rattle.table.specs.Lex.{Lex, less, same}
use Rattle.verdict.specs.declared.Breach.{Breach}
use Rattle.verdict.specs.declared.Spot.{Spot}
use Rattle.verdict.specs.declared.Condition.{Condition}
use Rattle.verdict.specs.declared.Condition.TheVariants.{None, InsertDelete, Chain, Cycle}
use Rattle.table.proofs.Lists.{le_or_lt}
use Rattle.table.specs.HowMany.{HowMany, Tallied}
use Rattle.table.proofs.HowMany.{many_one, many_none, how_many_by, count_by}
use Rattle.verdict.proofs.Firsts.{condition_of, condition_of_lem, Cases, breach_cases, none_clean}
use Rattle.verdict.proofs.Breakers.{breach_below}
use Rattle.policy.proofs.Policies.{table_accepted}
use Rattle.table.proofs.Walks.{closure}
use Rattle.chain.specs.Chain.{Fewest, chain_of}
use Rattle.chain.proofs.ChainTests.{chain_by, chain_by_lem}
use Rattle.table.proofs.BelowTests.{below}
use Rattle.verdict.proofs.Boxes.{Box, end, more, Inside, first_in, Finds, first_in_lem}
use Rattle.policy.proofs.Reaches.{reached_from}

module _ (ws : List ℕ) where
  abbrev pub privilege_below : (p y : ℕ) → Test (PrivilegeBelow ws p y)
  privilege_below p y = means (λ h. record { type = h.0; belongs = h.2.0; below = h.2.1 })
      (λ h. (h.type, h.belongs.type, (h.belongs, h.below)))
      (some (types ws) (λ x. both (belongs ws p x) (below ws x y)))

-- marks, and a table with its marks
abbrev pub allowed : (marks : List ℕ) (p : ℕ) → Test (Allowed marks p)
allowed marks p = is_equal (get_or marks p 0) 1

abbrev pub forbidden : (marks : List ℕ) (p : ℕ) → Test (Forbidden marks p)
forbidden marks p = is_equal (get_or marks p 0) 2

abbrev pub fit : (v : ℕ) (marks : List ℕ) → Test (Fit v marks)
fit v marks = means (λ h. record { size = h.0; legal = h.1 }) (λ h. (h.size, h.legal))
    (both (is_equal (length marks) v) (every v (λ p. is_at_most (get_or marks p 0) 2)))

pub accepted_out : {ws : List ℕ} → (answer_of ws).number ≡ 0 → Accepted ws
accepted_out {ws} e = (table_accepted e (answer_of_lem ws)).0

pub accepted_into : {ws : List ℕ} → Accepted ws → (answer_of ws).number ≡ 0
accepted_into {ws} a = accepted_answer a (answer_of_lem ws)

abbrev pub policy : (ws marks : List ℕ) → Test (Policy ws marks)
policy ws marks = means (λ h. record { accepted = accepted_out h.0; fit = h.1 }) (λ h. (accepted_into h.accepted, h.fit))
    (both (is_equal (answer_of ws).number 0) (fit (privileges ws) marks))

module _ (ws marks : List ℕ) where
  abbrev pub forbidden_below : (y p : ℕ) → Test (ForbiddenBelow ws marks y p)
  forbidden_below y p = means (λ h. record { forbidden = h.0; below = h.1 }) (λ h. (h.forbidden, h.below))
      (both (forbidden marks p) (privilege_below ws p y))

  -- what is forbidden below y
  abbrev lowest_in : Place ℕ → ℕ
  lowest_in (At p) = p
  lowest_in Nowhere = 0

  abbrev pub tally_by : ℕ → Tally
  tally_by y = record { lowest = lowest_in (lowest_of (privileges ws) (λ p. fails (forbidden_below y p))); count = how_many_by (privileges ws) (forbidden_below y) }

  pub tally_by_lem : (y : ℕ) → ForbiddenTally ws marks y (tally_by y)
  tally_by_lem y = go (lowest_of (privileges ws) (λ p. fails (forbidden_below y p))) (lowest_of_lem (privileges ws) (λ p. fails (forbidden_below y p)))
    where
      many : HowMany (ForbiddenBelow ws marks y) (privileges ws) (how_many_by (privileges ws) (forbidden_below y))
      many = count_by (privileges ws) (forbidden_below y)

      go : (r : Place ℕ) → Lowest (λ p. ¬ ForbiddenBelow ws marks y p) (privileges ws) r
          → Tallied (ForbiddenBelow ws marks y) (privileges ws) (lowest_in r) (how_many_by (privileges ws) (forbidden_below y))
      go (At p) h = Tallied.some h.within (elim (settle (forbidden_below y p)) [ inl f ↦ f | inr f ↦ absurd (h.fails f) ])
          (λ q l f. elim (le_or_lt p q) [ inl k ↦ k | inr k ↦ absurd (h.before q k f) ]) many
      go Nowhere h = Tallied.nothing h refl (many_one many (many_none (privileges ws) h))

  abbrev pub step : (x i j : ℕ) → Test (Step ws (Allowed marks) x i j)
  step x i j = means (λ h. record { can = h.0; allowed = h.1 }) (λ h. (h.can, h.allowed))
      (both (replaceable ws x i j) (allowed marks (replace_of ws x i j)))

  abbrev pub reached : (x i j : ℕ) → Test (Reached ws (Allowed marks) x i j)
  reached x = closure (count_of ws x) (λ i j s. s.can.to) (step x)

  -- what breaks a star
  abbrev pub both_allowed : (x : ℕ) → Test (Both ws (Allowed marks) x)
  both_allowed x = means (λ h. record { insert = h.0; delete = h.1 }) (λ h. (h.insert, h.delete))
      (both (allowed marks (insert_of ws x)) (allowed marks (delete_of ws x)))

  abbrev pub renewed : (x : ℕ) → Test (Renewed ws (Allowed marks) x)
  renewed x = means (λ h. elim h [ inl b ↦ by_both b | inr (c, a) ↦ by_exchange c a ]) (λ r. elim r [ by_both b ↦ inl b | by_exchange c a ↦ inr (c, a) ])
      (either (both_allowed x) (both (exchangeable ws x) (allowed marks (exchange_of ws x))))

  abbrev pub barred : (x : ℕ) → Test (Barred ws marks x)
  barred x = means (λ h. record { can = h.0; both = h.1.0; forbidden = h.1.1 }) (λ h. (h.can, (h.both, h.forbidden)))
      (both (exchangeable ws x) (both (both_allowed x) (forbidden marks (exchange_of ws x))))

  -- a breach of each condition: what is cheapest to test stands first
  abbrev Here : ℕ → ℕ → Type 0
  Here = ForbiddenBelow ws marks

  abbrev star_broken : (x p : ℕ) → Test (StarBroken ws marks Here x p)
  star_broken x p = means (λ h. elim h [ inl (b, e) ↦ at_exchange b e | inr (d, (r, w)) ↦ at_below d r w ])
      (λ f. elim f [ at_exchange b e ↦ inl (b, e) | at_below d r w ↦ inr (d, (r, w)) ])
      (either (both (barred x) (is_equal p (exchange_of ws x))) (both (fails (barred x)) (both (renewed x) (forbidden_below (child_at ws x 0) p))))

  abbrev pub insert_delete_breach : (s : Spot) (p : ℕ) → Test (InsertDeleteBreach ws marks Here s p)
  insert_delete_breach s p = means
      (λ h. record { zero_i = h.0; zero_j = h.1.0; star = h.1.1.0; broken = h.1.1.1 })
      (λ h. (h.zero_i, (h.zero_j, (h.star, h.broken))))
      (both (is_equal s.i 0) (both (is_equal s.j 0) (both (of_kind ws s.element 4) (star_broken s.element p))))

  abbrev pub chain_breach : (s : Spot) (p : ℕ) → Test (ChainBreach ws marks s p)
  chain_breach s p = means
      (λ h. record { forbidden = h.0; can = h.1.0; choice = h.1.1.0; is = h.1.1.1.0; reached = h.1.1.1.1 })
      (λ h. (h.forbidden, (h.can, (h.choice, (h.is, h.reached)))))
      (both (forbidden marks p) (both (replaceable ws s.element s.i s.j) (both (of_kind ws s.element 3)
      (both (is_equal p (replace_of ws s.element s.i s.j)) (reached s.element s.i s.j)))))

  abbrev pub cycle_breach : (s : Spot) (p : ℕ) → Test (CycleBreach ws marks Here s p)
  cycle_breach s p = means
      (λ h. record { same = h.0; choice = h.1.0; below = h.1.1.0; reached = h.1.1.1 })
      (λ h. (h.same, (h.choice, (h.below, h.reached))))
      (both (is_equal s.j s.i) (both (of_kind ws s.element 3)
      (both (forbidden_below (child_at ws s.element s.i) p) (reached s.element s.i s.i))))

  abbrev breach_of : (c : Condition) (s : Spot) (p : ℕ) → Test (BreachOf ws marks Here c s p)
  breach_of None s p = record { run = false; out = λ h. h; into = λ h. h }
  breach_of InsertDelete s p = insert_delete_breach s p
  breach_of Chain s p = chain_breach s p
  breach_of Cycle s p = cycle_breach s p

  abbrev pub breach : (s : Spot) (p : ℕ) → Test (IsBreach ws marks s p)
  breach s p = breach_of s.condition s p

  abbrev between : Spot → List ℕ
  between s = chain_by (count_of ws s.element) (λ a b t. t.can.to) (step s.element) s.j s.i

  between_is : (s : Spot) → Reached ws (Allowed marks) s.element s.i s.j → Fewest (Step ws (Allowed marks) s.element) s.i s.j (between s)
  between_is s = chain_by_lem (count_of ws s.element) (λ a b t. t.can.to) (step s.element) s.j s.i

  -- the positions of a spot's chain
  abbrev pub steps_by : Condition → Spot → List ℕ
  steps_by None s = []
  steps_by InsertDelete s = []
  steps_by Chain s = between s
  steps_by Cycle s = between s

  pub steps_by_lem : (c : Condition) (s : Spot) (p : ℕ) → BreachOf ws marks Here c s p → StepsOf ws marks c s (steps_by c s)
  steps_by_lem None s p h = absurd h
  steps_by_lem InsertDelete s p h = refl
  steps_by_lem Chain s p h = between_is s h.reached
  steps_by_lem Cycle s p h = between_is s (subst⁻¹ (λ (k : ℕ). Reached ws (Allowed marks) s.element s.i k) h.same h.reached)

-- a breach: condition, type, i, j, privilege, how many are forbidden, and the positions of its chain
abbrev pub at : Condition → ℕ → ℕ → ℕ → ℕ → ℕ → List ℕ → Breach
at c x i j p count ps = record { condition = c; element = x; i = i; j = j; privilege = p; forbidden = count; length = (chain_of ps).length; chain = (chain_of ps).at }

-- a spot and a privilege there as a list of five numbers, and back
abbrev listed : Spot → ℕ → List ℕ
listed s p = s.element ∷ condition_number s.condition ∷ s.i ∷ s.j ∷ p ∷ []

abbrev spot_in : List ℕ → Spot
spot_in l = record { condition = condition_of (get_or l 1 0); element = get_or l 0 0; i = get_or l 2 0; j = get_or l 3 0 }

spot_in_lem : (s : Spot) (p : ℕ) → spot_in (listed s p) ≡ s
spot_in_lem s p = λ d. record { condition = condition_of_lem s.condition d; element = s.element; i = s.i; j = s.j }

-- what stands behind two lists does not change which comes first
lex_longer : {s t : List ℕ} (u v : List ℕ) → Lex s t → Lex (s ++ u) (t ++ v)
lex_longer u v (less l) = less l
lex_longer u v (same l) = same (lex_longer u v l)

number_of : (c : ℕ) → c < 4 → condition_number (condition_of c) ≡ c
number_of zero l = refl
number_of (suc zero) l = refl
number_of (suc (suc zero)) l = refl
number_of (suc (suc (suc zero))) l = refl
number_of (suc (suc (suc (suc c)))) l = absurd (omega arith)

module _ (ws marks : List ℕ) where
  -- the breach of a list, with how many privileges break its spot, and its chain
  abbrev breach_or : Option (List ℕ) → Breach
  breach_or none = no_breach
  breach_or (found l) = at (condition_of (get_or l 1 0)) (get_or l 0 0) (get_or l 2 0) (get_or l 3 0) (get_or l 4 0) (how_many_by (privileges ws) (breach ws marks (spot_in l)))
      (steps_by ws marks (condition_of (get_or l 1 0)) (spot_in l))

  -- the bounds of a breach's key: type, condition, i, j, privilege; condition 1 has i = j = 0
  abbrev width : ℕ → ℕ → ℕ
  width x zero = 0
  width x (suc zero) = 1
  width x (suc (suc c)) = count_of ws x

  abbrev keys : Box
  keys = more (types ws) (λ x. more 4 (λ c. more (width x c) (λ i. more (width x c) (λ j. more (privileges ws) (λ p. end)))))

  abbrev passes : List ℕ → Bool
  passes l = (breach ws marks (spot_in l) (get_or l 4 0)).run

  -- the first breach, or none
  abbrev pub verdict_by : Breach
  verdict_by = breach_or (first_in keys passes)

  -- each list within the bounds is that of its spot and privilege, and each breach has its list there
  listed_in : (l : List ℕ) → Inside keys l → listed (spot_in l) (get_or l 4 0) ≡ l
  listed_in [] h = absurd h
  listed_in (x ∷ []) h = absurd h.1
  listed_in (x ∷ c ∷ []) h = absurd h.1.1
  listed_in (x ∷ c ∷ i ∷ []) h = absurd h.1.1.1
  listed_in (x ∷ c ∷ i ∷ j ∷ []) h = absurd h.1.1.1.1
  listed_in (x ∷ c ∷ i ∷ j ∷ p ∷ []) h = ap (λ (n : ℕ). x ∷ n ∷ i ∷ j ∷ p ∷ []) (number_of c h.1.0)
  listed_in (x ∷ c ∷ i ∷ j ∷ p ∷ q ∷ s) h = absurd h.1.1.1.1.1

  listed_inside : (s : Spot) (p : ℕ) → IsBreach ws marks s p → Inside keys (listed s p)
  listed_inside s p is = go (breach_cases ws marks (Here ws marks) s p is)
    where
      here : p < privileges ws
      here = breach_below ws marks s p is

      at : {c : Condition} → s.condition ≡ c → Inside keys (s.element ∷ condition_number c ∷ s.i ∷ s.j ∷ p ∷ []) → Inside keys (listed s p)
      at e h = subst⁻¹ (λ (c : Condition). Inside keys (s.element ∷ condition_number c ∷ s.i ∷ s.j ∷ p ∷ [])) e h

      go : Cases ws marks (Here ws marks) s p → Inside keys (listed s p)
      go (inl (e, h)) =
          at e (h.star.type, (omega arith, (omega (arith, h.zero_i), (omega (arith, h.zero_j), (here, tt)))))
      go (inr (inl (e, h))) =
          at e (h.choice.type, (omega arith, (h.can.from, (h.can.to, (here, tt)))))
      go (inr (inr (e, h))) =
          let from = reached_from h.reached in
          at e (h.choice.type, (omega arith, (from, (rw h.same from, (here, tt)))))

  listed_passes : (s : Spot) (p : ℕ) → IsBreach ws marks s p → T (passes (listed s p))
  listed_passes s p is = (breach ws marks (spot_in (listed s p)) p).into (subst⁻¹ (λ (t : Spot). IsBreach ws marks t p) (spot_in_lem s p) is)

  -- so the verdict is the one computed
  verdict_of : (r : Option (List ℕ)) → Finds keys passes r → Verdict ws marks (breach_or r)
  verdict_of none h = clean (none_clean ws marks (λ s p b. h (listed s p) (listed_inside s p b) (listed_passes s p b))) refl
  verdict_of (found l) h = broken (record {
    spot = record { broken = (get_or l 4 0, here); first = λ t q b k. before t q b (lex_longer (q ∷ []) (get_or l 4 0 ∷ []) k) };
    breach = here;
    lowest = λ q b. elim (le_or_lt (get_or l 4 0) q) [ inl k ↦ k | inr k ↦ absurd (before (spot_in l) q b (same (same (same (same (less k)))))) ];
    count = count_by (privileges ws) (breach ws marks (spot_in l));
    chain = record { positions = steps_by ws marks (condition_of (get_or l 1 0)) (spot_in l); steps = steps_by_lem ws marks (condition_of (get_or l 1 0)) (spot_in l) (get_or l 4 0) here; are = refl };
  })
    where
      here : IsBreach ws marks (spot_in l) (get_or l 4 0)
      here = (breach ws marks (spot_in l) (get_or l 4 0)).out h.1

      before : (t : Spot) (q : ℕ) → IsBreach ws marks t q → ¬ Lex (listed t q) (listed (spot_in l) (get_or l 4 0))
      before t q b k = h.2 (listed t q) (listed_inside t q b) (listed_passes t q b) (rw (listed_in l h.0) at k)

  pub verdict_by_lem : Verdict ws marks verdict_by
  verdict_by_lem = verdict_of (first_in keys passes) (first_in_lem keys passes)
