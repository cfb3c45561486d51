-- Breaches and their order: a first breach is the only one, none means clean, and what a search type by type has shown. Assumes nothing.
use Rattle.std.proofs.Common.{Option, Some, ℕ, ◌+◌, ◌≤◌, ◌<◌, ◌≡◌, refl, sym, ap, subst, ◌∙◌, ◌≢◌, ◌⊎◌, inl, inr, List, [], ◌∷◌, arith, get_or}
use Rattle.std.proofs.Common as std
use Rattle.table.specs.Words.{types}
use Rattle.table.specs.Privilege.{exchange_of, replace_of}
use Rattle.table.proofs.HowMany.{many_one}
use Rattle.table.specs.Lex.{Lex}
use Rattle.table.proofs.Lex.{lex_cases, lex_tri}
use Rattle.policy.specs.Renewed.{Barred}
use Rattle.chain.specs.Chain.{chain_of}
use Rattle.chain.specs.declared.Chain.{Chain as Chained}
use Rattle.chain.proofs.Chains.{fewest_one}
use Rattle.verdict.specs.Below.{ForbiddenBelow}
use Rattle.verdict.specs.Conditions.{Clean}
use Rattle.verdict.specs.Breaches.{condition_number, spot_of, chain_in, at_exchange, at_below, InsertDeleteBreach, ChainBreach, CycleBreach, BreachOf, BreachBy, IsBreach, key}
use Rattle.verdict.specs.Breaches.{FirstSpot, StepsOf, ChainAt, FirstBreach, Verdict, clean, broken}
use Rattle.verdict.specs.Steps.Visits.{Searched, BreachAt}
use Rattle.verdict.specs.declared.Spot.{Spot}
use Rattle.verdict.specs.declared.Breach.{Breach}
use Rattle.verdict.specs.declared.Condition.{Condition}
use Rattle.verdict.specs.declared.Condition.TheVariants.{None, InsertDelete, Chain, Cycle}

-- a spot is known by its key
abbrev pub condition_of : ℕ → Condition
condition_of n = get_or (None ∷ InsertDelete ∷ Chain ∷ Cycle ∷ []) n None

pub condition_of_lem : (c : Condition) → condition_of (condition_number c) ≡ c
condition_of_lem None = refl
condition_of_lem InsertDelete = refl
condition_of_lem Chain = refl
condition_of_lem Cycle = refl

key_one : (s t : Spot) → key s ≡ key t → s ≡ t
key_one s t h =
    let n : condition_number s.condition ≡ condition_number t.condition = cc in
    let e : s.condition ≡ t.condition = sym (condition_of_lem s.condition) ∙ ap condition_of n ∙ condition_of_lem t.condition in
    let x : s.element ≡ t.element = cc in
    let i : s.i ≡ t.i = cc in
    let j : s.j ≡ t.j = cc in
    λ d. record { condition = e d; element = x d; i = i d; j = j d }

pub breach_one : (b c : Breach) → spot_of b ≡ spot_of c → b.privilege ≡ c.privilege → b.forbidden ≡ c.forbidden → chain_in b ≡ chain_in c → b ≡ c
breach_one b c e p n s = λ d. record {
  condition = (e d).condition;
  element = (e d).element;
  i = (e d).i;
  j = (e d).j;
  privilege = p d;
  forbidden = n d;
  length = (s d).length;
  chain = (s d).at;
}

-- a spot has one chain
steps_one : (ws marks : List ℕ) (k : Condition) (s : Spot) {ps qs : List ℕ} → StepsOf ws marks k s ps → StepsOf ws marks k s qs → ps ≡ qs
steps_one ws marks None s e f = e ∙ sym f
steps_one ws marks InsertDelete s e f = e ∙ sym f
steps_one ws marks Chain s f g = fewest_one f g
steps_one ws marks Cycle s f g = fewest_one f g

pub chain_at_one : {ws marks : List ℕ} {s : Spot} {c d : Chained} → ChainAt ws marks s c → ChainAt ws marks s d → c ≡ d
chain_at_one {ws} {marks} {s} f g = f.are ∙ ap chain_of (steps_one ws marks s.condition s f.steps g.steps) ∙ sym g.are

-- the first spot is one
pub spot_one : {Breaks : Spot → ℕ → Type 0} {s t : Spot} → FirstSpot Breaks s → FirstSpot Breaks t → s ≡ t
spot_one {s = s} {t = t} f g = go (lex_tri (key s) (key t) refl)
  where
    go : Lex (key s) (key t) ⊎ (key s ≡ key t) ⊎ Lex (key t) (key s) → s ≡ t
    go (inl l) = absurd (g.first s f.broken.0 f.broken.1 l)
    go (inr (inl e)) = key_one s t e
    go (inr (inr l)) = absurd (f.first t g.broken.0 g.broken.1 l)

-- a breach is of one of the three conditions
abbrev pub Cases : List ℕ → List ℕ → (ℕ → ℕ → Type 0) → Spot → ℕ → Type 0
Cases ws marks B s p = ((s.condition ≡ InsertDelete) × InsertDeleteBreach ws marks B s p) ⊎ ((s.condition ≡ Chain) × ChainBreach ws marks s p)
    ⊎ ((s.condition ≡ Cycle) × CycleBreach ws marks B s p)

module _ (ws marks : List ℕ) (B : ℕ → ℕ → Type 0) where
  pub breach_cases : (s : Spot) (p : ℕ) → BreachBy ws marks B s p → Cases ws marks B s p
  breach_cases s p = go s.condition refl
    where
      go : (k : Condition) → s.condition ≡ k → BreachOf ws marks B k s p → Cases ws marks B s p
      go None e b = absurd b
      go InsertDelete e b = inl (e, b)
      go Chain e b = inr (inl (e, b))
      go Cycle e b = inr (inr (e, b))

  pub breach_type : (s : Spot) (p : ℕ) → BreachBy ws marks B s p → s.element < types ws
  breach_type s p b = elim (breach_cases s p b) [
    | inl h ↦ h.1.star.type
    | inr (inl h) ↦ h.1.choice.type
    | inr (inr h) ↦ h.1.choice.type
  ]

  -- no type before x has a breach
  abbrev pub CleanBefore : ℕ → Type 0
  CleanBefore x = (s : Spot) (p : ℕ) → BreachBy ws marks B s p → x ≤ s.element

  pub clean_start : CleanBefore 0
  clean_start s p b = omega arith

  pub clean_more : {x : ℕ} → CleanBefore x → ((s : Spot) (p : ℕ) → BreachBy ws marks B s p → s.element ≢ x) → CleanBefore (x + 1)
  clean_more h n s p b = let l = h s p b in let d = n s p b in omega arith

  pub clean_all : CleanBefore (types ws) → (s : Spot) (p : ℕ) → ¬ BreachBy ws marks B s p
  clean_all h s p b = omega (arith, h s p b, breach_type s p b)

  -- what was found at one type: none, or the first
  pub at_none : {x : ℕ} → Searched (BreachAt ws marks B x) std.None → (t : Spot) (p : ℕ) → BreachBy ws marks B t p → t.element ≢ x
  at_none n t p h q = n t p (record { breach = h; here = q })

  pub at_first : {x : ℕ} {s : Spot} → CleanBefore x → Searched (BreachAt ws marks B x) (Some s) → Searched (BreachBy ws marks B) (Some s)
  at_first {x} {s} h f = record { broken = (f.broken.0, f.broken.1.breach); first = λ t p c l. go t p c l (lex_cases l) }
    where
      go : (t : Spot) (p : ℕ) → BreachBy ws marks B t p → Lex (key t) (key s)
          → (t.element < s.element) ⊎ ((t.element ≡ s.element) × Lex (condition_number t.condition ∷ t.i ∷ t.j ∷ []) (condition_number s.condition ∷ s.i ∷ s.j ∷ []))
          → ⊥
      go t p c l (inl k) = omega (arith, h t p c, f.broken.1.here)
      go t p c l (inr (e, k)) = f.first t p (record { breach = c; here = e ∙ f.broken.1.here }) l

-- what a search has found is the first spot
pub searched_first : {Breaks : Spot → ℕ → Type 0} (found : Option Spot) {s : Spot} → Searched Breaks found → found ≡ Some s → FirstSpot Breaks s
searched_first found h e = rw e at h

module _ (ws marks : List ℕ) where
  abbrev Here : ℕ → ℕ → Type 0
  Here = ForbiddenBelow ws marks

  pub first_one : {b c : Breach} → FirstBreach ws marks b → FirstBreach ws marks c → b ≡ c
  first_one {b} {c} f g =
      let e : spot_of b ≡ spot_of c = spot_one f.spot g.spot in
      breach_one b c e (omega (arith, f.lowest c.privilege (subst (λ (s : Spot). IsBreach ws marks s c.privilege) (sym e) g.breach), g.lowest b.privilege (subst (λ (s : Spot). IsBreach ws marks s b.privilege) e f.breach)))
      (many_one f.count (rw e g.count))
      (chain_at_one f.chain (rw e g.chain))

  -- a clean policy has no breach, and one with none is clean
  pub clean_none : Clean ws marks → (s : Spot) (p : ℕ) → ¬ IsBreach ws marks s p
  clean_none q s p b = go (breach_cases ws marks Here s p b)
    where
      go : Cases ws marks Here s p → ⊥
      go (inl (e, h)) = elim h.broken [
        | at_exchange b k ↦ q.exchange s.element b.can b.both b.forbidden
        | at_below d r w ↦ q.renewal s.element p h.star r w.below w.forbidden
      ]
      go (inr (inl (e, h))) = q.chain s.element s.i s.j h.choice h.reached h.can (rw h.is at h.forbidden)
      go (inr (inr (e, h))) = q.cycle s.element s.i p h.choice h.reached h.below.below h.below.forbidden

  pub none_clean : ((s : Spot) (p : ℕ) → ¬ IsBreach ws marks s p) → Clean ws marks
  none_clean n = record {
    exchange = λ x c b f. unbarred x (record { can = c; both = b; forbidden = f });
    renewal = λ x p s r w f. n (star x) p
        (record { star = s; zero_i = refl; zero_j = refl; broken = at_below (unbarred x) r (record { below = w; forbidden = f }) });
    chain = λ x i j s r c f. n (record { condition = Chain; element = x; i = i; j = j }) (replace_of ws x i j)
        (record { choice = s; reached = r; can = c; is = refl; forbidden = f });
    cycle = λ x i p s r w f. n (record { condition = Cycle; element = x; i = i; j = i }) p
        (record { choice = s; same = refl; reached = r; below = record { below = w; forbidden = f } });
  }
    where
      star : ℕ → Spot
      star x = record { condition = InsertDelete; element = x; i = 0; j = 0 }

      unbarred : (x : ℕ) → ¬ Barred ws marks x
      unbarred x b = n (star x) (exchange_of ws x) (record { star = b.can.star; zero_i = refl; zero_j = refl; broken = at_exchange b refl })

  -- a policy has one verdict
  pub verdict_one : {b c : Breach} → Verdict ws marks b → Verdict ws marks c → b ≡ c
  verdict_one (clean q e) (clean r f) = e ∙ sym f
  verdict_one {c = c} (clean q e) (broken g) = absurd (clean_none q (spot_of c) c.privilege g.breach)
  verdict_one {b = b} (broken f) (clean r e) = absurd (clean_none r (spot_of b) b.privilege f.breach)
  verdict_one (broken f) (broken g) = first_one f g

  -- what a verdict says, by its breach's condition
  pub verdict_clean : {b : Breach} → Verdict ws marks b → b.condition ≡ None → Clean ws marks
  verdict_clean (clean q e) k = q
  verdict_clean {b} (broken f) k = absurd (subst (λ (d : Condition). BreachOf ws marks Here d (spot_of b) b.privilege) k f.breach)

  pub verdict_broken : {b : Breach} → Verdict ws marks b → b.condition ≢ None → FirstBreach ws marks b
  verdict_broken (clean q e) d = absurd (d (ap (λ (a : Breach). a.condition) e))
  verdict_broken (broken f) d = f
