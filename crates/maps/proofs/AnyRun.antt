-- What completing and mending answer, and the marks that they write, are the same whatever run is lent for them; so a call over maps agrees with one on the marks
-- that its maps spell, with any run lent to that. Assumes nothing.
use Prim.Native.Nat.{ℕ, ◌≤◌}
use mathlib.Core.Path.{◌≡◌, sym, ap, ◌∙◌}
use mathlib.Core.Logic.{◌≢◌}
use mathlib.Core.List.{List, ◌++◌, append-nil}
use native.Mathlib.Omega.{arith}
use lib.ListN.{length, take, drop, length-append, length-drop, length-replicate, drop_of_length-le}
use lib.Seq.{take_at, take_all}
use Rattle.table.specs.Privilege.{privileges}
use Rattle.verdict.specs.Answers.{breached}
use Rattle.verdict.specs.Answers as answers
use Rattle.verdict.specs.declared.Answer.{Answer}
use Rattle.verdict.proofs.Judged.{refusal_one}
use Rattle.verdict.proofs.Firsts.{first_one}
use Rattle.policy.proofs.Policies.{policy_not, refused_one, refused_number}
use Rattle.completion.specs.Answers.{CompleteAnswer, none, given}
use Rattle.completion.proofs.Least.{least_one}
use Rattle.mending.specs.Answers.{MendAnswer, mended}
use Rattle.mending.proofs.Mended.{mends_one, mends_lowered}
use Rattle.pairs.specs.Maps.{Maps, maps_of, MapPolicy, marks_for, Roomy, before}
use Rattle.maps.specs.Answers.{blank, ResultAnswer, short, kept, written, CompleteMapsAnswer, MendMapsAnswer}
use Rattle.pairs.proofs.Paired.{maps_not}

-- nothing is behind v marks in a run of v blank ones
pub blank_front : (v : ℕ) (n : List ℕ) → n ++ drop v (blank v) ≡ n
blank_front v n = ap (λ (l : List ℕ). n ++ l) (drop_of_length-le (blank v) {i = v} (omega (arith, length-replicate {A = ℕ} v 0))) ∙ append-nil n

-- two answers are the same, and where they are done so are the first v marks
pub record Alike (v : ℕ) (a b : Answer) (x y : List ℕ) : Type 0 where
  pub answer : a ≡ b
  pub marks : a.number ≡ 0 → take v x ≡ take v y

front_of : {n : List ℕ} {v : ℕ} (rest : List ℕ) → length n ≡ v → take v (n ++ rest) ≡ n
front_of {n} {v} rest e = take_at n rest v e

whole : (v : ℕ) (n out : List ℕ) → length n ≡ v → v ≤ length out → length (n ++ drop v out) ≡ length out
whole v n out e l = omega (arith, length-append n (drop v out), length-drop v out)

module _ {ws m out lent x y : List ℕ} {a b : Answer} (here : privileges ws ≤ length out) (there : privileges ws ≤ length lent) where
  pub complete_alike : CompleteAnswer ws m out a x → CompleteAnswer ws m lent b y → Alike (privileges ws) a b x y
  complete_alike (CompleteAnswer.refused n e s) (CompleteAnswer.refused o f t) = record {
    answer = e ∙ refusal_one (refused_one n o) ∙ sym f;
    marks = λ z. absurd (refused_number n (sym (ap (λ (r : Answer). r.number) e) ∙ z));
  }
  complete_alike (CompleteAnswer.refused n e s) (CompleteAnswer.short q k f t) = absurd (policy_not q n)
  complete_alike (CompleteAnswer.refused n e s) (none q k o c f t) = absurd (policy_not q n)
  complete_alike (CompleteAnswer.refused n e s) (given q k d f t) = absurd (policy_not q n)
  complete_alike (CompleteAnswer.short p l e s) d = absurd (omega arith)
  complete_alike (none p l n c e s) (CompleteAnswer.refused o f t) = absurd (policy_not p o)
  complete_alike (none p l n c e s) (CompleteAnswer.short q k f t) = absurd (omega arith)
  complete_alike (none p l n c e s) (none q k o d f t) = record {
    answer = e ∙ ap breached (first_one ws m c d) ∙ sym f;
    marks = λ z. absurd (omega (arith, ap (λ (r : Answer). r.number) e));
  }
  complete_alike (none p l n c e s) (given {n = o} q k d f t) = absurd (n o d.completes)
  complete_alike (given p l c e s) (CompleteAnswer.refused o f t) = absurd (policy_not p o)
  complete_alike (given p l c e s) (CompleteAnswer.short q k f t) = absurd (omega arith)
  complete_alike (given {n = n} p l c e s) (none q k o d f t) = absurd (o n c.completes)
  complete_alike (given p l c e s) (given q k d f t) = record {
    answer = e ∙ sym f;
    marks = λ z. rw (s, t, front_of (drop (privileges ws) out) c.completes.size, front_of (drop (privileges ws) lent) d.completes.size) (least_one c d);
  }

  pub mend_alike : MendAnswer ws m out a x → MendAnswer ws m lent b y → Alike (privileges ws) a b x y
  mend_alike (MendAnswer.refused n e s) (MendAnswer.refused o f t) = record {
    answer = e ∙ refusal_one (refused_one n o) ∙ sym f;
    marks = λ z. absurd (refused_number n (sym (ap (λ (r : Answer). r.number) e) ∙ z));
  }
  mend_alike (MendAnswer.refused n e s) (MendAnswer.short q k f t) = absurd (policy_not q n)
  mend_alike (MendAnswer.refused n e s) (mended q k d f t) = absurd (policy_not q n)
  mend_alike (MendAnswer.short p l e s) d = absurd (omega arith)
  mend_alike (mended p l c e s) (MendAnswer.refused o f t) = absurd (policy_not p o)
  mend_alike (mended p l c e s) (MendAnswer.short q k f t) = absurd (omega arith)
  mend_alike (mended p l c e s) (mended q k d f t) = record {
    answer = e ∙ ap answers.done (mends_one c d).1 ∙ sym f;
    marks = λ z. rw (
      s,
      t,
      front_of (drop (privileges ws) out) ((mends_lowered c).size ∙ p.fit.size),
      front_of (drop (privileges ws) lent) ((mends_lowered d).size ∙ p.fit.size),
    ) (mends_one c d).0;
  }

-- a call keeps the length of the run that is lent to it
pub complete_length : {ws m out x : List ℕ} {a : Answer} → CompleteAnswer ws m out a x → length x ≡ length out
complete_length (CompleteAnswer.refused n e s) = ap length s
complete_length (CompleteAnswer.short p l e s) = ap length s
complete_length (none p l n c e s) = ap length s
complete_length {ws} {m} {out} (given {n = n} p l c e s) = ap length s ∙ whole (privileges ws) n out c.completes.size l

pub mend_length : {ws m out x : List ℕ} {a : Answer} → MendAnswer ws m out a x → length x ≡ length out
mend_length (MendAnswer.refused n e s) = ap length s
mend_length (MendAnswer.short p l e s) = ap length s
mend_length {ws} {m} {out} (mended {n = n} p l c e s) = ap length s ∙ whole (privileges ws) n out ((mends_lowered c).size ∙ p.fit.size) l

-- what a call over maps answers and leaves, by what the call on the marks answers and leaves
pub record Agrees (v : ℕ) (out : Maps) (a b : Answer) (after : Maps) (left : List ℕ) : Type 0 where
  pub answer : a ≡ b
  pub done : b.number ≡ 0 → after ≡ before (maps_of (take v left)) out
  pub refused : b.number ≢ 0 → after ≡ out

module _ (Call : List ℕ → List ℕ → Answer → List ℕ → Type 0) {ws : List ℕ} (lent left : List ℕ) {m out after : Maps} {a b : Answer}
    (alike : (x : List ℕ) → Call (marks_for ws m) (blank (privileges ws)) a x → Call (marks_for ws m) lent b left → Alike (privileges ws) a b x left)
    (size : (x : List ℕ) → Call (marks_for ws m) (blank (privileges ws)) a x → length x ≡ length (blank (privileges ws)))
    (pol : MapPolicy ws m) (room : Roomy (privileges ws) out) (call : Call (marks_for ws m) lent b left) where
  pub result_agrees : ResultAnswer Call ws m out a after → Agrees (privileges ws) out a b after left
  result_agrees (ResultAnswer.refused n e k) = absurd (maps_not pol n)
  result_agrees (short p d e k) = absurd (d room)
  result_agrees (kept {n = n} p r c d k) =
      let same = alike n c call in
      record { answer = same.answer; done = λ z. absurd (d (ap (λ (t : Answer). t.number) same.answer ∙ z)); refused = λ f. k }
  result_agrees (written {n = n} p r c z k) =
      let same = alike n c call in
      let all : n ≡ take (privileges ws) left = sym (take_all (privileges ws) n (omega (arith, size n c, length-replicate {A = ℕ} (privileges ws) 0))) ∙ same.marks z in
      record { answer = same.answer; done = λ y. k ∙ ap (λ (t : List ℕ). before (maps_of t) out) all; refused = λ f. absurd (f (ap (λ (t : Answer). t.number) (sym same.answer) ∙ z)) }

pub blanks : (v : ℕ) → v ≤ length (blank v)
blanks v = omega (arith, length-replicate {A = ℕ} v 0)

module _ {ws lent left : List ℕ} {m out after : Maps} {a b : Answer} (pol : MapPolicy ws m) (room : Roomy (privileges ws) out) (wide : privileges ws ≤ length lent) where
  pub complete_agrees : CompleteMapsAnswer ws m out a after → CompleteAnswer ws (marks_for ws m) lent b left → Agrees (privileges ws) out a b after left
  complete_agrees r call = result_agrees (CompleteAnswer ws) lent left (λ x. complete_alike (blanks (privileges ws)) wide) (λ x. complete_length) pol room call r

  pub mend_agrees : MendMapsAnswer ws m out a after → MendAnswer ws (marks_for ws m) lent b left → Agrees (privileges ws) out a b after left
  mend_agrees r call = result_agrees (MendAnswer ws) lent left (λ x. mend_alike (blanks (privileges ws)) wide) (λ x. mend_length) pol room call r
