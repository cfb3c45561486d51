-- Completing a policy: with a breach there is no completion; a call has one outcome; and filling one more blank takes nothing back
-- (demand 3). Assumes nothing.
use Rattle.std.proofs.Common.{ℕ, ◌≤◌, ◌<◌, ◌≡◌, sym, ap, ◌∙◌, ◌↔◌, List, ◌++◌, arith, length, get_or, drop}
use lib.ListN.{get_or-append}
use Rattle.table.specs.Privilege.{privileges}
use Rattle.policy.specs.Marks.{Allowed, Keeps, Policy}
use Rattle.verdict.specs.Breaches.{spot_of, FirstBreach}
use Rattle.verdict.specs.Answers.{breached}
use Rattle.verdict.specs.declared.Answer.{Answer}
use Rattle.verdict.specs.declared.Breach.{Breach}
use Rattle.policy.proofs.Policies.{policy_not, refused_one, refused_number}
use Rattle.verdict.proofs.Firsts.{first_one, clean_none}
use Rattle.verdict.proofs.Judged.{refusal_one}
use Rattle.completion.specs.Completions.{Completes, LeastCompletion}
use Rattle.completion.specs.Granted.{Granted}
use Rattle.completion.specs.Answers.{CompleteAnswer, refused, short, none, given}
use Rattle.completion.proofs.Least.{completes_clean, least_one, completes_earlier, fuller_allows}
use Rattle.completion.proofs.Granting.{least_granted}

-- a policy with a breach has no completion
pub broken_none : {ws m : List ℕ} {b : Breach} → FirstBreach ws m b → (n : List ℕ) → ¬ Completes ws m n
broken_none {ws} {m} {b} f n c = clean_none ws m (completes_clean c) (spot_of b) b.privilege f.breach

-- a call has one outcome: its answer, and what the lent result holds
pub complete_one : {ws m out : List ℕ} {a b : Answer} {x y : List ℕ} → CompleteAnswer ws m out a x → CompleteAnswer ws m out b y → (a ≡ b) × (x ≡ y)
complete_one (refused n e s) (refused o f t) = (e ∙ refusal_one (refused_one n o) ∙ sym f, s ∙ sym t)
complete_one (refused n e s) (short q m f t) = absurd (policy_not q n)
complete_one (refused n e s) (none q m o c f t) = absurd (policy_not q n)
complete_one (refused n e s) (given q m d f t) = absurd (policy_not q n)
complete_one (short p l e s) (refused o f t) = absurd (policy_not p o)
complete_one (short p l e s) (short q m f t) = (e ∙ sym f, s ∙ sym t)
complete_one (short p l e s) (none q m o c f t) = absurd (omega arith)
complete_one (short p l e s) (given q m d f t) = absurd (omega arith)
complete_one (none p l n b e s) (refused o f t) = absurd (policy_not p o)
complete_one (none p l n b e s) (short q m f t) = absurd (omega arith)
complete_one {ws} {m} (none p l n b e s) (none q k o c f t) = (e ∙ ap breached (first_one ws m b c) ∙ sym f, s ∙ sym t)
complete_one (none p l n b e s) (given {n = o} q m d f t) = absurd (n o d.completes)
complete_one (given p l c e s) (refused o f t) = absurd (policy_not p o)
complete_one (given p l c e s) (short q m f t) = absurd (omega arith)
complete_one (given {n = n} p l c e s) (none q m o b f t) = absurd (o n c.completes)
complete_one {ws} {m} {out} (given p l c e s) (given q k d f t) = (e ∙ sym f, s ∙ ap (λ (n : List ℕ). n ++ drop (privileges ws) out) (least_one c d) ∙ sym t)

-- number 0: the front of the result is the least completion
pub record Given (ws m out x : List ℕ) : Type 0 where
  pub policy : Policy ws m
  pub front : List ℕ
  pub least : LeastCompletion ws m front
  pub is : x ≡ front ++ drop (privileges ws) out

pub zero_given : {ws m out : List ℕ} {a : Answer} {x : List ℕ} → CompleteAnswer ws m out a x → a.number ≡ 0 → Given ws m out x
zero_given (refused n e s) z = absurd (refused_number n (sym (ap (λ (r : Answer). r.number) e) ∙ z))
zero_given (short p l e s) z = absurd (omega (arith, ap (λ (r : Answer). r.number) e))
zero_given (none p l n b e s) z = absurd (omega (arith, ap (λ (r : Answer). r.number) e))
zero_given (given {n = n} p l c e s) z = record { policy = p; front = n; least = c; is = s }

least_front : {ws m n : List ℕ} (rest : List ℕ) → LeastCompletion ws m n → (p : ℕ) → p < privileges ws → get_or (n ++ rest) p 0 ≡ get_or n p 0
least_front {n = n} rest c p l = get_or-append n rest 0 p (omega (arith, c.completes.size))

-- it allows what the marks grant, and nothing else
pub given_granted : {ws m out x : List ℕ} → Given ws m out x → (p : ℕ) → p < privileges ws → Allowed x p ↔ Granted ws (Allowed m) p
given_granted {ws} {out = out} g p h = rw (g.is, least_front (drop (privileges ws) out) g.least p h) (least_granted g.policy g.least p)

-- over two calls: where a fuller policy has a completion, so has the earlier one, and every permission that it is given the fuller one is given
pub fuller : {ws m k out lent : List ℕ} {a b : Answer} {x y : List ℕ} → Policy ws m → Keeps m k → CompleteAnswer ws k lent b y → b.number ≡ 0
    → privileges ws ≤ length out → CompleteAnswer ws m out a x → (a.number ≡ 0) × ((p : ℕ) → p < privileges ws → Allowed x p → Allowed y p)
fuller {ws} {m} {k} {out} {lent} {a} {b} {x} {y} pol keeps later z room earlier = go (zero_given later z) earlier
  where
    go : Given ws k lent y → CompleteAnswer ws m out a x → (a.number ≡ 0) × ((p : ℕ) → p < privileges ws → Allowed x p → Allowed y p)
    go g (refused n e s) = absurd (policy_not pol n)
    go g (short p l e s) = absurd (omega arith)
    go g (none p l n c e s) = absurd (n g.front (completes_earlier keeps g.least.completes))
    go g (given {n = n} p l c e s) = (ap (λ (r : Answer). r.number) e, allows)
      where
        allows : (p : ℕ) → p < privileges ws → Allowed x p → Allowed y p
        allows p h d =
            let here : Allowed n p = sym (least_front (drop (privileges ws) out) c p h) ∙ rw s at d in
            rw g.is (least_front (drop (privileges ws) lent) g.least p h ∙ fuller_allows keeps c g.least p here)
