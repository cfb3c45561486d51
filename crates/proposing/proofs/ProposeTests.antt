-- Judging a proposed mend, computed by tests of what specs/ says, with its law, for every run of words and of marks. Assumes nothing.
use Rattle.std.proofs.Common.{ℕ, zero, suc, ◌+◌, ◌≡◌, refl, Bool, true, false, List, arith, T, length, get_or}
use mathlib.Core.Option.{Option, none, some as found}
use Rattle.table.specs.Steps.Found.{Lowest}
use Rattle.table.specs.Privilege.{privileges}
use Rattle.table.specs.Check.{Accepted, TableAnswer}
use Rattle.std.specs.Prelude.{Option as Place, Some as At, None as Nowhere}
use Rattle.table.proofs.Test.{Test, is_at_most, is_equal, both, either, fails, lowest_of, lowest_of_lem}
use Rattle.table.proofs.HowMany.{how_many_by, count_by}
use Rattle.table.proofs.TableTests.{Checked, answer_of, answer_of_lem}
use Rattle.policy.specs.Marks.{Legal, Fit, Unfit, length_off, mark_above, Policy, NoPolicy, table, marks}
use Rattle.verdict.specs.Below.{ForbiddenBelow}
use Rattle.verdict.specs.Breaches.{spot_of, BreachOf, Verdict, clean, broken}
use Rattle.verdict.specs.Answers.{refusal, breached}
use Rattle.verdict.specs.Answers as answers
use Rattle.verdict.specs.declared.Answer.{Answer}
use Rattle.verdict.specs.declared.Breach.{Breach}
use Rattle.verdict.specs.declared.Condition.{Condition}
use Rattle.verdict.specs.declared.Condition.TheVariants.{None, InsertDelete, Chain, Cycle}
use Rattle.policy.proofs.Policies.{table_accepted}
use Rattle.verdict.proofs.PolicyTests.{allowed, forbidden, verdict_by, verdict_by_lem}
use Rattle.proposing.specs.Proposals.{Kept, Changed}
use Rattle.proposing.specs.Answers.{AllKept, ProposeAnswer, refused, unfit, changed, accepted}
use Rattle.proposing.specs.Answers as outcomes

-- P holds, or the number and the place say why it does not
abbrev Unless : Type 0 → (ℕ → ℕ → Type 0) → Option Checked → Type 0
Unless P Why none = P
Unless P Why (found c) = Why c.number c.place

-- what is wrong with marks
abbrev mark_by : ℕ → Place ℕ → Option Checked
mark_by first (At p) = found (record { number = first + 1; place = p })
mark_by first Nowhere = none

module _ (first v : ℕ) (ms : List ℕ) where
  abbrev legal : (p : ℕ) → Test (Legal ms p)
  legal p = is_at_most (get_or ms p 0) 2

  abbrev pub marks_by : Option Checked
  marks_by = elim (is_equal (length ms) v).run [ true ↦ mark_by first (lowest_of v legal) | false ↦ found (record { number = first; place = 0 }) ]

  pub marks_by_lem : Unless (Fit v ms) (Unfit first v ms) marks_by
  marks_by_lem = go (is_equal (length ms) v).run (is_equal (length ms) v).out (is_equal (length ms) v).into
    where
      each : length ms ≡ v → (r : Place ℕ) → Lowest (Legal ms) v r → Unless (Fit v ms) (Unfit first v ms) (mark_by first r)
      each s (At p) l = mark_above s refl l
      each s Nowhere l = record { size = s; legal = l }

      go : (b : Bool) → (T b → length ms ≡ v) → (length ms ≡ v → T b)
          → Unless (Fit v ms) (Unfit first v ms) (elim b [ true ↦ mark_by first (lowest_of v legal) | false ↦ found (record { number = first; place = 0 }) ])
      go true out into = each (out tt) (lowest_of v legal) (lowest_of_lem v legal)
      go false out into = length_off into refl refl

-- why there is no policy
module _ (ws m : List ℕ) where
  abbrev table_by : Checked → ℕ → Option Checked
  table_by a zero = marks_by 10 (privileges ws) m
  table_by a (suc k) = found a

  abbrev pub policy_by : Option Checked
  policy_by = let a = answer_of ws in table_by a a.number

  pub policy_by_lem : Unless (Policy ws m) (NoPolicy ws m) policy_by
  policy_by_lem = go (answer_of ws) (answer_of_lem ws) (answer_of ws).number refl
    where
      fits : Accepted ws → (r : Option Checked) → Unless (Fit (privileges ws) m) (Unfit 10 (privileges ws) m) r → Unless (Policy ws m) (NoPolicy ws m) r
      fits a none f = record { accepted = a; fit = f }
      fits a (found c) u = marks a u

      go : (a : Checked) → TableAnswer ws a.number a.place → (k : ℕ) → a.number ≡ k → Unless (Policy ws m) (NoPolicy ws m) (table_by a k)
      go a t zero e = fits (table_accepted e t).0 (marks_by 10 (privileges ws) m) (marks_by_lem 10 (privileges ws) m)
      go a t (suc k) e = table (omega arith) t

-- a proposed mend
abbrev pub kept : (m n : List ℕ) (p : ℕ) → Test (Kept m n p)
kept m n p = either (is_equal (get_or n p 0) (get_or m p 0)) (both (allowed m p) (forbidden n p))

abbrev changed_at : (m n : List ℕ) (p : ℕ) → Test (Changed m n p)
changed_at m n p = fails (is_equal (get_or n p 0) (get_or m p 0))

module _ (ws m n : List ℕ) where
  -- by the proposed policy's first breach
  abbrev judge_at : Condition → Breach → Answer
  judge_at None b = answers.done (how_many_by (privileges ws) (changed_at m n))
  judge_at InsertDelete b = breached b
  judge_at Chain b = breached b
  judge_at Cycle b = breached b

  -- by the lowest change but 1 to 2
  abbrev compare_by : Place ℕ → Answer
  compare_by (At p) = refusal 15 p
  compare_by Nowhere = let b = verdict_by ws n in judge_at b.condition b

  -- by what is wrong with the proposed marks
  abbrev fit_by : Option Checked → Answer
  fit_by (found c) = refusal c.number c.place
  fit_by none = compare_by (lowest_of (privileges ws) (kept m n))

  -- by why there is no policy
  abbrev answer_by : Option Checked → Answer
  answer_by (found c) = refusal c.number c.place
  answer_by none = fit_by (marks_by 13 (privileges ws) n)

  abbrev pub propose_by : Answer
  propose_by = answer_by (policy_by ws m)

  pub propose_by_lem : ProposeAnswer ws m n propose_by
  propose_by_lem = answer (policy_by ws m) (policy_by_lem ws m)
    where
      breach : (c : Condition) (b : Breach) → BreachOf ws n (ForbiddenBelow ws n) c (spot_of b) b.privilege → judge_at c b ≡ breached b
      breach None b h = absurd h
      breach InsertDelete b h = refl
      breach Chain b h = refl
      breach Cycle b h = refl

      judge : Policy ws m → Fit (privileges ws) n → AllKept ws m n → (b : Breach) → Verdict ws n b → ProposeAnswer ws m n (judge_at b.condition b)
      judge p f k b (clean q e) = accepted p f k q (count_by (privileges ws) (changed_at m n)) (rw e)
      judge p f k b (broken g) = outcomes.broken p f k g (breach b.condition b g.breach)

      compare : Policy ws m → Fit (privileges ws) n → (r : Place ℕ) → Lowest (Kept m n) (privileges ws) r → ProposeAnswer ws m n (compare_by r)
      compare p f (At q) l = changed p f l refl
      compare p f Nowhere k = judge p f k (verdict_by ws n) (verdict_by_lem ws n)

      fit : Policy ws m → (r : Option Checked) → Unless (Fit (privileges ws) n) (Unfit 13 (privileges ws) n) r → ProposeAnswer ws m n (fit_by r)
      fit p (found c) u = unfit p u refl
      fit p none f = compare p f (lowest_of (privileges ws) (kept m n)) (lowest_of_lem (privileges ws) (kept m n))

      answer : (r : Option Checked) → Unless (Policy ws m) (NoPolicy ws m) r → ProposeAnswer ws m n (answer_by r)
      answer (found c) h = refused h refl
      answer none p = fit p (marks_by 13 (privileges ws) n) (marks_by_lem 13 (privileges ws) n)
