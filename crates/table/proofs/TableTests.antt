-- Tests of what specs/ says of a run of words, and the answer of a table check, computed by them. Assumes nothing.
use Prim.Native.Nat.{ℕ, zero, suc, ◌+◌, ◌-◌, ◌*◌, ◌≤◌, ◌<◌}
use mathlib.Core.Path.{◌≡◌, refl}
use mathlib.Core.List.{List}
use native.Mathlib.Omega.{arith}
use lib.ListN.{length, get_or}
use Rattle.table.specs.Steps.Found.{Lowest}
use Rattle.table.specs.Words.{format_of, types, entries, root, kind_at, count_at, first_at, running}
use Rattle.table.specs.Rule.{rule_at, kind_in, count_of, children_at, OfKind}
use Rattle.table.specs.Privilege.{privileges_at, first_privilege, privileges, Belongs, Exchangeable, Replaceable}
use Rattle.table.specs.Check.{Headed, Laid, RightCount, Follows, Inside, Differ, Counted, Holds}
use Rattle.table.specs.Check.{places_of, number_of, rank_of, Passes, TableAnswer, refused, accepted}
use Rattle.std.specs.Prelude.{Option, Some, None}
use Rattle.table.specs.declared.check.Check.{Check}
use Rattle.table.specs.declared.check.Check.TheVariants.{Format, Layout, Kind, Count, Stretch, Bounds, Twice, Cycle, Unreached, Total}
use Rattle.table.proofs.Test.{Test, is_less, is_at_most, is_equal, both, either, fails, implies, means, every, lowest_of, lowest_of_lem}
use Rattle.table.proofs.Answers.{check_of, check_rank, rank_range, earlier_more}
use Rattle.table.proofs.BelowTests.{off_cycle, reached}

-- rules and privileges
module _ (ws : List ℕ) where
  abbrev pub of_kind : (t kind : ℕ) → Test (OfKind ws t kind)
  of_kind t kind = means (λ h. record { type = h.0; kind_is = h.1 }) (λ h. (h.type, h.kind_is))
      (both (is_less t (types ws)) (is_equal (kind_in (rule_at ws t)) kind))

  abbrev pub replaceable : (x i j : ℕ) → Test (Replaceable ws x i j)
  replaceable x i j = means (λ h. record { choice = h.0; from = h.1.0; to = h.1.1.0; same_kind = h.1.1.1 })
      (λ h. (h.choice, (h.from, (h.to, h.same_kind))))
      (both (of_kind x 3) (both (is_less i (count_of ws x)) (both (is_less j (count_of ws x)) (implies (is_equal i j) (is_equal (format_of ws) 2)))))

  abbrev pub exchangeable : (x : ℕ) → Test (Exchangeable ws x)
  exchangeable x = means (λ h. record { star = h.0; same_kind = h.1 }) (λ h. (h.star, h.same_kind)) (both (of_kind x 4) (is_equal (format_of ws) 2))

  abbrev pub belongs : (p x : ℕ) → Test (Belongs ws p x)
  belongs p x = means (λ h. record { type = h.0; from = h.1.0; until = h.1.1 }) (λ h. (h.type, (h.from, h.until)))
      (both (is_less x (types ws)) (both (is_at_most (first_privilege ws x) p) (is_less p (first_privilege ws x + privileges_at ws x))))

-- what the checks ask
abbrev headed : (ws : List ℕ) → Test (Headed ws)
headed ws = means (λ h. record { long = h.0; format = h.1 }) (λ h. (h.long, h.format))
    (both (is_at_most 8 (length ws)) (either (is_equal (format_of ws) 1) (is_equal (format_of ws) 2)))

abbrev laid : (ws : List ℕ) → Test (Laid ws)
laid ws = means
    (λ h. record {
      some = h.0;
      few = h.1.0;
      root_inside = h.1.1.0;
      records = h.1.1.1.0;
      short = h.1.1.1.1.0;
      list = h.1.1.1.1.1.0;
      size = h.1.1.1.1.1.1.0;
      lent = h.1.1.1.1.1.1.1;
    })
    (λ h. (h.some, (h.few, (h.root_inside, (h.records, (h.short, (h.list, (h.size, h.lent))))))))
    (both (is_at_most 1 (types ws)) (both (is_at_most (types ws) 256) (both (is_less (root ws) (types ws)) (both (is_equal (get_or ws 4 0) 8)
    (both (is_at_most (entries ws) 1024) (both (is_equal (get_or ws 6 0) (8 + 3 * types ws))
    (both (is_equal (get_or ws 1 0) (8 + 3 * types ws + entries ws)) (is_equal (length ws) (get_or ws 1 0)))))))))

abbrev right_count : (kind count : ℕ) → Test (RightCount kind count)
right_count kind count = means
    (λ h. record { empty = h.0; text = h.1.0; sequence = h.1.1.0; choice = h.1.1.1.0; star = h.1.1.1.1 })
    (λ h. (h.empty, (h.text, (h.sequence, (h.choice, h.star)))))
    (both (says 0 (is_equal count 0)) (both (says 1 (is_equal count 0)) (both (says 2 several) (both (says 3 several) (says 4 (is_equal count 1))))))
  where
    several : Test ((1 ≤ count) × (count ≤ 16))
    several = both (is_at_most 1 count) (is_at_most count 16)

    says : {P : Type 0} (k : ℕ) → Test P → Test (kind ≡ k → P)
    says k p = implies (is_equal kind k) p

abbrev follows : (ws : List ℕ) (t : ℕ) → Test (Follows ws t)
follows ws t = means (λ h. record { first = h.0; total = h.1 }) (λ h. (h.first, h.total))
    (both (implies (is_less t (types ws)) (is_equal (first_at ws t) (running ws t))) (implies (is_equal t (types ws)) (is_equal (running ws t) (entries ws))))

abbrev inside : (e : ℕ) (kids : List ℕ) → Test (Inside e kids)
inside e kids = every (length kids) (λ i. is_less (get_or kids i 0) e)

abbrev differ : (kids : List ℕ) → Test (Differ kids)
differ kids = means (λ h i j l m. h j m i l) (λ h j m i l. h i j l m)
    (every (length kids) (λ j. every j (λ i. fails (is_equal (get_or kids i 0) (get_or kids j 0)))))

abbrev counted : (ws : List ℕ) → Test (Counted ws)
counted ws = means (λ h. record { few = h.0; stated = h.1 }) (λ h. (h.few, h.stated))
    (both (is_at_most (privileges ws) 4096) (is_equal (get_or ws 7 0) (privileges ws)))

abbrev pub holds : (ws : List ℕ) (check : Check) (p : ℕ) → Test (Holds ws check p)
holds ws Format p = headed ws
holds ws Layout p = laid ws
holds ws Kind t = is_at_most (kind_at ws t) 4
holds ws Count t = right_count (kind_at ws t) (count_at ws t)
holds ws Stretch t = follows ws t
holds ws Bounds t = inside (types ws) (children_at ws t)
holds ws Twice t = differ (children_at ws t)
holds ws Cycle t = off_cycle ws t
holds ws Unreached t = reached ws t
holds ws Total p = counted ws

-- the number and the place of an answer
pub record Checked : Type 0 where
  pub number : ℕ
  pub place : ℕ

-- the answer, where the checks below a rank pass and `left` more are to be made
abbrev answer_from : List ℕ → ℕ → ℕ → Checked
answer_from ws zero rank = record { number = 0; place = privileges ws }
answer_from ws (suc left) rank = elim (lowest_of (places_of ws (check_of rank)) (holds ws (check_of rank))) [
  | Some p ↦ record { number = number_of (check_of rank); place = p }
  | None ↦ answer_from ws left (rank + 1)
]

abbrev pub answer_of : List ℕ → Checked
answer_of ws = answer_from ws 10 1

-- the words have the answer computed
answer_from_lem : (ws : List ℕ) (left rank : ℕ) → 1 ≤ rank → rank + left ≡ 11 → ((c : Check) → rank_of c < rank → Passes ws c)
    → TableAnswer ws (answer_from ws left rank).number (answer_from ws left rank).place
answer_from_lem ws zero rank l e pass = accepted refl refl (record { passes = λ c. pass c (omega (arith, rank_range c)) })
answer_from_lem ws (suc left) rank l e pass = go (lowest_of (places_of ws check) (holds ws check)) (lowest_of_lem (places_of ws check) (holds ws check))
    (λ h. answer_from_lem ws left (rank + 1) (omega arith) (omega arith) (earlier_more ws rank check is pass h))
  where
    check : Check
    check = check_of rank

    is : rank_of check ≡ rank
    is = let same : rank - 1 + 1 ≡ rank = omega arith in rw same at (check_rank (rank - 1) (omega arith))

    go : (found : Option ℕ) → Lowest (Holds ws check) (places_of ws check) found
        → (Passes ws check → TableAnswer ws (answer_from ws left (rank + 1)).number (answer_from ws left (rank + 1)).place)
        → let answer : Checked = elim found [ Some p ↦ record { number = number_of check; place = p } | None ↦ answer_from ws left (rank + 1) ] in
        TableAnswer ws answer.number answer.place
    go (Some p) h rest = refused check refl (record { earlier = λ c k. pass c (omega (arith, is)); lowest = h })
    go None h rest = rest h

pub answer_of_lem : (ws : List ℕ) → TableAnswer ws (answer_of ws).number (answer_of ws).place
answer_of_lem ws = answer_from_lem ws 10 1 (omega arith) refl (λ c l. absurd (omega (arith, rank_range c)))
