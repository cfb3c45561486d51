-- Demands 2 and 3 over maps: the verdict on a pair is that of its marks, and clean exactly if none of the three conditions is broken; completion is refused exactly
-- if no fully decided pair that keeps the set bits passes, what it gives is the least such pair, and filling one more blank takes no permission back. Assumes nothing.
use Prim.Native.Nat.{ℕ, ◌/◌, ◌%◌, ◌^◌, ◌<◌}
use mathlib.Core.Path.{◌≡◌, sym, ap, ◌∙◌}
use mathlib.Core.Logic.{inl, inr}
use mathlib.Core.List.{List}
use native.Mathlib.Omega.{arith}
use native.Mathlib.Decide.{ℕ_discrete}
use lib.ListN.{length, get_or, drop, get_or-append, get_or-eq_default}
use Rattle.table.specs.Privilege.{privileges}
use Rattle.table.proofs.Lists.{le_or_lt}
use Rattle.policy.specs.Marks.{Keeps, Fit}
use Rattle.verdict.specs.Answers.{verdict_of, JudgeAnswer, judged}
use Rattle.verdict.specs.Breaches.{Verdict}
use Rattle.verdict.specs.declared.Answer.{Answer}
use Rattle.verdict.specs.declared.Breach.{Breach}
use Rattle.completion.specs.Answers.{CompleteAnswer, none, given}
use Rattle.completion.specs.Completions.{Completes, LeastCompletion}
use Rattle.policy.proofs.Policies.{policy_not}
use Rattle.pairs.specs.Maps.{Maps, bit_of, IsSet, marks_of, maps_of, Paired, MapPolicy, marks_for, Roomy, before}
use Rattle.maps.specs.Answers.{blank, JudgeMapsAnswer, ResultAnswer, short, kept, written, CompleteMapsAnswer}
use Rattle.maps.specs.Completions.{KeepsBits, CompletesMaps, LeastMaps}
use Rattle.pairs.proofs.Paired.{maps_not}
use Rattle.pairs.proofs.Spells.{paired_fit, spells_policy}
use Rattle.pairs.proofs.Inverse.{map_set, set_map, maps_paired, marks_back, allowed_mark, mark_allowed, forbidden_mark, mark_forbidden}
use Rattle.maps.proofs.AnyRun.{blanks, blank_front}

-- a policy's verdict is that of its marks
pub maps_verdict : {ws : List ℕ} {m : Maps} {a : Answer} → MapPolicy ws m → JudgeMapsAnswer ws m a → (b : Breach) × Verdict ws (marks_for ws m) b × (a ≡ verdict_of b)
maps_verdict pol (JudgeMapsAnswer.refused n e) = absurd (maps_not pol n)
maps_verdict pol (JudgeMapsAnswer.agrees p (JudgeAnswer.refused n e)) = absurd (policy_not (spells_policy p) n)
maps_verdict pol (JudgeMapsAnswer.agrees p (judged {b = b} q v e)) = (b, v, e)

-- a pair that keeps the bits keeps the marks, and the other way round
bits_marks : {v : ℕ} {m n : Maps} → Paired v m → Paired v n → KeepsBits m n → Keeps (marks_of v m) (marks_of v n)
bits_marks {v} {m} {n} w u k p d = go (ℕ_discrete (get_or (marks_of v m) p 0) 1) (ℕ_discrete (get_or (marks_of v m) p 0) 2)
  where
    go : Dec (get_or (marks_of v m) p 0 ≡ 1) → Dec (get_or (marks_of v m) p 0 ≡ 2) → get_or (marks_of v n) p 0 ≡ get_or (marks_of v m) p 0
    go (yes e) f = allowed_mark u p (k.allowed p (mark_allowed w p e)) ∙ sym e
    go (no c) (yes e) = forbidden_mark u p (k.forbidden p (mark_forbidden w p e)) ∙ sym e
    go (no c) (no f) = absurd (elim (le_or_lt v p) [
      | inl l ↦ d (get_or-eq_default (marks_of v m) 0 (omega (arith, (paired_fit w).size)))
      | inr l ↦ omega (arith, c, d, f, (paired_fit w).legal p l)
    ])

-- so a pair that completes a pair spells marks that complete its marks
maps_completes : {ws : List ℕ} {m n : Maps} → Paired (privileges ws) m → CompletesMaps ws m n → Completes ws (marks_for ws m) (marks_for ws n)
maps_completes w c = record {
  size = (paired_fit c.paired).size;
  decided = λ p l. elim (c.decided p l) [ inl a ↦ inl (allowed_mark c.paired p a) | inr f ↦ inr (forbidden_mark c.paired p f) ];
  keeps = bits_marks w c.paired c.keeps;
  clean = c.clean;
}

-- and marks that complete them have maps that do
module _ {ws n : List ℕ} {m : Maps} (w : Paired (privileges ws) m) where
  fit_of : Completes ws (marks_for ws m) n → Fit (privileges ws) n
  fit_of c = record { size = c.size; legal = λ p l. elim (c.decided p l) [ inl a ↦ omega arith | inr f ↦ omega arith ] }

  completes_maps : Completes ws (marks_for ws m) n → CompletesMaps ws m (maps_of n)
  completes_maps c = record {
    paired = maps_paired n c.size;
    decided = λ p l. elim (c.decided p l) [ inl a ↦ inl (set_map 1 n (λ e. omega arith) p a) | inr f ↦ inr (set_map 2 n (λ e. omega arith) p f) ];
    keeps = record {
      allowed = λ p s. let a = allowed_mark w p s in set_map 1 n (λ e. omega arith) p (c.keeps p (λ z. omega arith) ∙ a);
      forbidden = λ p s. let f = forbidden_mark w p s in set_map 2 n (λ e. omega arith) p (c.keeps p (λ z. omega arith) ∙ f);
    };
    clean = rw (marks_back (fit_of c)) c.clean;
  }

  least_maps : LeastCompletion ws (marks_for ws m) n → LeastMaps ws m (maps_of n)
  least_maps c = record {
    completes = completes_maps c.completes;
    least = λ o d p s. mark_allowed d.paired p (c.least (marks_for ws o) (maps_completes w d) p (map_set 1 n (λ e. omega arith) p s));
  }

-- what completing a pair with room for the result comes to
pub data Completing (ws : List ℕ) (m out : Maps) (a : Answer) (after : Maps) : Type 0 where
  no_pair : a.number ≡ 16 → ((n : Maps) → ¬ CompletesMaps ws m n) → after ≡ out → Completing ws m out a after
  least_pair : {n : Maps} → a.number ≡ 0 → LeastMaps ws m n → after ≡ before n out → Completing ws m out a after

pub complete_maps_least : {ws : List ℕ} {m out after : Maps} {a : Answer} → MapPolicy ws m → Roomy (privileges ws) out → CompleteMapsAnswer ws m out a after
    → Completing ws m out a after
complete_maps_least pol room (ResultAnswer.refused n e k) = absurd (maps_not pol n)
complete_maps_least pol room (short p d e k) = absurd (d room)
complete_maps_least {ws} {m} {out} {after} {a} pol room (kept {n = n} p r c d k) = go c
  where
    go : CompleteAnswer ws (marks_for ws m) (blank (privileges ws)) a n → Completing ws m out a after
    go (CompleteAnswer.refused o e s) = absurd (policy_not (spells_policy pol) o)
    go (CompleteAnswer.short q l e s) = absurd (omega (arith, blanks (privileges ws)))
    go (none q l h b e s) = no_pair (ap (λ (t : Answer). t.number) e) (λ o t. h (marks_for ws o) (maps_completes pol.paired t)) k
    go (given q l t e s) = absurd (d (ap (λ (t : Answer). t.number) e))
complete_maps_least {ws} {m} {out} {after} {a} pol room (written {n = n} p r c z k) = go c
  where
    go : CompleteAnswer ws (marks_for ws m) (blank (privileges ws)) a n → Completing ws m out a after
    go (CompleteAnswer.refused o e s) = absurd (policy_not (spells_policy pol) o)
    go (CompleteAnswer.short q l e s) = absurd (omega (arith, blanks (privileges ws)))
    go (none q l h b e s) = absurd (omega (arith, ap (λ (t : Answer). t.number) e))
    go (given {n = o} q l t e s) =
        least_pair z (least_maps pol.paired t) (k ∙ ap (λ (x : List ℕ). before (maps_of x) out) (s ∙ blank_front (privileges ws) o))

-- a pair that completes a fuller one completes the earlier one
completes_fewer : {ws : List ℕ} {m k n : Maps} → KeepsBits m k → CompletesMaps ws k n → CompletesMaps ws m n
completes_fewer f c = record {
  paired = c.paired;
  decided = c.decided;
  keeps = record {
    allowed = λ p s. c.keeps.allowed p (f.allowed p s);
    forbidden = λ p s. c.keeps.forbidden p (f.forbidden p s);
  };
  clean = c.clean;
}

-- filling one more blank
pub more_allows : {ws : List ℕ} {m k n o : Maps} → KeepsBits m k → LeastMaps ws m n → LeastMaps ws k o → (p : ℕ) → IsSet n.allowed p → IsSet o.allowed p
more_allows {o = o} f c d = c.least o (completes_fewer f d.completes)

-- a bit of the maps at the front of a result
front_bit : {v : ℕ} {n : Maps} (out : Maps) → Paired v n → (p : ℕ) → p < v → bit_of (before n out).allowed p ≡ bit_of n.allowed p
front_bit {v} {n} out w p l =
    ap (λ (x : ℕ). x / 2 ^ (p % 8) % 2)
    (get_or-append n.allowed (drop (length n.allowed) out.allowed) 0 (p / 8) (omega (arith, w.sized.allowed)))

-- over two calls: where a fuller pair has a completion, so has the earlier one, and every permission that it is given the fuller one is given
pub maps_fuller : {ws : List ℕ} {m k out lent x y : Maps} {a b : Answer} → MapPolicy ws m → MapPolicy ws k → KeepsBits m k
    → Roomy (privileges ws) out → Roomy (privileges ws) lent → CompleteMapsAnswer ws k lent b y → b.number ≡ 0 → CompleteMapsAnswer ws m out a x
    → (a.number ≡ 0) × ((p : ℕ) → p < privileges ws → IsSet x.allowed p → IsSet y.allowed p)
maps_fuller {ws} {m} {k} {out} {lent} {x} {y} {a} {b} pol fuller keeps room wide later z earlier =
    go (complete_maps_least fuller wide later) (complete_maps_least pol room earlier)
  where
    go : Completing ws k lent b y → Completing ws m out a x → (a.number ≡ 0) × ((p : ℕ) → p < privileges ws → IsSet x.allowed p → IsSet y.allowed p)
    go (no_pair e h s) c = absurd (omega arith)
    go (least_pair {n = o} e f s) (no_pair d h t) = absurd (h o (completes_fewer keeps f.completes))
    go (least_pair {n = o} e f s) (least_pair {n = n} d g t) = (
      d,
      λ p l i. rw s (front_bit lent f.completes.paired p l
          ∙ more_allows keeps g f p (sym (front_bit out g.completes.paired p l) ∙ rw t at i)),
    )
