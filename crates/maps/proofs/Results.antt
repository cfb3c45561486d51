-- What completing and mending marks in place comes to over the maps that spell them. Assumes nothing.
use Prim.Native.Nat.{ℕ}
use mathlib.Core.Path.{◌≡◌, refl, sym, ap, ◌∙◌}
use mathlib.Core.Logic.{inl, inr}
use mathlib.Core.List.{List}
use native.Mathlib.Omega.{arith}
use Rattle.table.specs.Privilege.{privileges}
use Rattle.policy.specs.Marks.{Fit}
use Rattle.policy.specs.Steps.Writing.{allow, forbid}
use Rattle.verdict.specs.Conditions.{Clean}
use Rattle.verdict.specs.Breaches.{FirstBreach}
use Rattle.verdict.specs.Answers.{breached}
use Rattle.verdict.specs.Answers as answers
use Rattle.verdict.specs.declared.Answer.{Answer}
use Rattle.verdict.specs.declared.Breach.{Breach}
use Rattle.completion.specs.Answers.{none, given}
use Rattle.completion.specs.Steps.Passes.{Filled}
use Rattle.completion.proofs.Least.{completed_least}
use Rattle.completion.proofs.Completing.{broken_none}
use Rattle.mending.specs.Answers.{mended}
use Rattle.mending.specs.Mends.{Mends}
use Rattle.mending.proofs.Mended.{mends_lowered}
use Rattle.pairs.specs.Maps.{Maps, maps_of, MapPolicy, marks_for, Roomy, before}
use Rattle.maps.specs.Answers.{kept, written, CompleteMapsAnswer, MendMapsAnswer}
use Rattle.pairs.proofs.Spells.{spells_policy}
use Rattle.maps.proofs.AnyRun.{blanks, blank_front}

-- what was written are marks
pub filled_fit : {ws m n : List ℕ} → Filled ws m n → Fit (privileges ws) n
filled_fit {ws} {m} {n} f = record { size = f.size; legal = λ p l. elim (f.each p l) [ allow g e ↦ omega arith | forbid d e ↦ omega arith ] }

pub mended_fit : {ws m n : List ℕ} {v c : ℕ} → Fit v m → Mends ws m n c → Fit v n
mended_fit {ws} {m} {n} f c = let lowered = mends_lowered c in record {
  size = lowered.size ∙ f.size;
  legal = λ p l. elim (lowered.each p) [ inl e ↦ omega (arith, f.legal p l) | inr (a, b) ↦ omega arith ];
}

module _ {ws : List ℕ} {m out after : Maps} {a : Answer} (pol : MapPolicy ws m) (room : Roomy (privileges ws) out) where
  pub maps_completed : {n : List ℕ} → Clean ws (marks_for ws m) → Filled ws (marks_for ws m) n → a ≡ answers.done 0 → after ≡ before (maps_of n) out
      → CompleteMapsAnswer ws m out a after
  maps_completed {n} q f e k =
      written pol room (given (spells_policy pol) (blanks (privileges ws)) (completed_least (spells_policy pol) f q) e (sym (blank_front (privileges ws) n)))
      (ap (λ (t : Answer). t.number) e) k

  pub maps_broken : {b : Breach} → FirstBreach ws (marks_for ws m) b → a ≡ breached b → after ≡ out → CompleteMapsAnswer ws m out a after
  maps_broken f e k =
      kept pol room (none (spells_policy pol) (blanks (privileges ws)) (broken_none f) f e refl) (λ z. omega (arith, ap (λ (t : Answer). t.number) e)) k

  pub maps_mended : {n : List ℕ} {count : ℕ} → Mends ws (marks_for ws m) n count → a ≡ answers.done count → after ≡ before (maps_of n) out
      → MendMapsAnswer ws m out a after
  maps_mended {n} c e k =
      written pol room (mended (spells_policy pol) (blanks (privileges ws)) c e (sym (blank_front (privileges ws) n))) (ap (λ (t : Answer). t.number) e) k
