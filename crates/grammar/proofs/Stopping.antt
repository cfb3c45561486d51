-- Number 20 has one place, and a text that has a tree has none; a limit is passed within the text. Assumes nothing.
use Prim.Native.Nat.{ℕ, zero, suc, ◌≤◌, ◌<◌}
use mathlib.Core.Path.{◌≡◌, sym, ◌∙◌, ap, subst}
use mathlib.Core.Logic.{◌⊎◌, inl, inr}
use mathlib.Core.List.{List, [], ◌++◌, append-nil, append_assoc}
use native.Mathlib.Omega.{arith}
use lib.ListN.{length, take, drop, take-append-drop}
use lib.Seq.{take-length, take-take}
use Rattle.grammar.specs.Tree.{Declaration}
use Rattle.grammar.specs.Grammar.{Text}
use Rattle.grammar.specs.Stops.{Viable, Stops, at_byte, at_end}
use Rattle.grammar.specs.Limits.{Over, any_content, mixed_content, long_name, deep_group, long_text}

pub le_or_lt : (a b : ℕ) → (a ≤ b) ⊎ (b < a)
le_or_lt zero b = inl (omega arith)
le_or_lt (suc a) zero = inr (omega arith)
le_or_lt (suc a) (suc b) = elim (le_or_lt a b) [ inl h ↦ inl (omega arith) | inr h ↦ inr (omega arith) ]

-- fewer bytes can stand, too
pub viable_less : {t : List ℕ} {m n : ℕ} → m ≤ n → Viable t n → Viable t m
viable_less {t} {m} {n} h v = record {
  head = v.head;
  tail = v.tail;
  begins = record {
    inside = omega (arith, v.begins.inside);
    more_bytes = drop m (take n t) ++ v.begins.more_bytes;
    text = subst (λ (u : List ℕ). Text u v.head v.tail) same v.begins.text;
  };
}
  where
    same : take n t ++ v.begins.more_bytes ≡ take m t ++ (drop m (take n t) ++ v.begins.more_bytes)
    same =
        let z : take n t ≡ take m t ++ drop m (take n t) = sym (take-append-drop m (take n t)) ∙ ap (λ (l : List ℕ). l ++ drop m (take n t)) (take-take m n t h) in
        ap (λ (l : List ℕ). l ++ v.begins.more_bytes) z ∙ append_assoc (take m t) (drop m (take n t)) v.begins.more_bytes

stops_within : {t : List ℕ} {k : ℕ} → Stops t k → (k ≤ length t) × Viable t k
stops_within (at_byte l v n) = (omega arith, v)
stops_within (at_end e v n) = (omega arith, v)

no_later : {t : List ℕ} {j k : ℕ} → Stops t j → Stops t k → j < k → ⊥
no_later (at_byte l v n) s h = n (viable_less h (stops_within s).1)
no_later (at_end e v n) s h = omega (arith, (stops_within s).0)

pub stops_once : {t : List ℕ} {j k : ℕ} → Stops t j → Stops t k → j ≡ k
stops_once {t} {j} {k} a b = go (le_or_lt j k) (le_or_lt k j)
  where
    go : (j ≤ k) ⊎ (k < j) → (k ≤ j) ⊎ (j < k) → j ≡ k
    go (inl l) (inl m) = omega arith
    go (inl l) (inr m) = absurd (no_later a b m)
    go (inr l) m = absurd (no_later b a l)

pub text_no_stop : {t : List ℕ} {d : Declaration} {ds : List Declaration} {k : ℕ} → Text t d ds → ¬ Stops t k
text_no_stop {t} {d} {ds} x (at_byte l v n) = n (viable_less l (record {
  head = d;
  tail = ds;
  begins = record { inside = omega arith; more_bytes = []; text = rw (append-nil (take (length t) t) ∙ take-length t) x };
}))
text_no_stop {d = d} {ds = ds} x (at_end e v n) = n d ds x

pub over_within : {t : List ℕ} {k : ℕ} → Over t k → k < length t
over_within (any_content h e) = omega (arith, h.begins.inside)
over_within (mixed_content h e) = omega (arith, h.begins.inside)
over_within (long_name h n e l) = omega (arith, h.begins.inside)
over_within (deep_group h e l) = omega (arith, h.begins.inside)
over_within (long_text e l) = l
