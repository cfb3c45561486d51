-- V of a table, its format and word 7. Assumes nothing.
use Rattle.std.proofs.Common.{ℕ, zero, suc, ◌+◌, ◌-◌, ◌*◌, ◌≤◌, ◌<◌, ◌≡◌, refl, sym, ◌∙◌, ap, ◌≢◌, inl, inr, List, arith, mul-le-mul, add-one, length, get_or, set, length-set, get_or-set_other, set-set, Ok}
use Rattle.grammar.proofs.Stopping.{le_or_lt}
use lib.Seq.{set-get_or}
use Rattle.table.specs.Sum.{sum_below}
use Rattle.table.specs.Words.{format_of, types, entries, kind_at, count_at, first_at, running}
use Rattle.table.specs.Rule.{rule_of, rule_at}
use Rattle.table.specs.Privilege.{gap_of, privileges_of, privileges_at, first_privilege, privileges}
use Rattle.table.proofs.Sums.{sum_same}
use Rattle.grammar.specs.Tree.{Declaration}
use Rattle.model.specs.Tables.{rules_of, kids_of_all, words_of, table_of}
use Rattle.model.proofs.Shape.{table_length, stretch_passes, privileges_stated}
use Rattle.write.specs.Steps.Code.{untotalled}
use Rattle.dtd.specs.Steps.Last.{Small, Few, TotalRead}

choices_few : (n gap : ℕ) → n ≤ 16 → n * (n - gap) ≤ 16 * n
choices_few n gap h =
    let few : n * (n - gap) ≤ n * 16 = mul-le-mul {n₁ = n} {m₁ = n - gap} {n₂ = n} {m₂ = 16} (omega arith) (omega arith) in
    omega arith

-- a type with at most 16 children has at most 16 privileges for each of them and 3 more
privileges_few : (ws : List ℕ) (t : ℕ) → count_at ws t ≤ 16 → privileges_at ws t ≤ 16 * count_at ws t + 3
unfolding privileges_at rule_at rule_of
privileges_few ws t h = go (kind_at ws t)
  where
    go : (k : ℕ) → privileges_of (gap_of ws) (rule_of k (first_at ws t) (count_at ws t)) ≤ 16 * count_at ws t + 3
    go zero = omega arith
    go (suc zero) = omega arith
    go (suc (suc zero)) = omega arith
    go (suc (suc (suc zero))) = omega (arith, choices_few (count_at ws t) (gap_of ws) h)
    go (suc (suc (suc (suc zero)))) = omega arith
    go (suc (suc (suc (suc (suc k))))) = omega arith

-- so V is at most 16 for each child of a type and 3 for each type
pub sum_few : (ws : List ℕ) (t : ℕ) → Few ws t → sum_below (privileges_at ws) t ≤ 16 * running ws t + 3 * t
unfolding sum_below
sum_few ws zero f = omega arith
sum_few ws (suc t) f = omega (arith, sum_few ws t (λ j h. f j (omega arith)), privileges_few ws t (f t (omega arith)))

pub running_few : (ws : List ℕ) (t : ℕ) → Few ws t → running ws t ≤ 16 * t
unfolding sum_below
running_few ws zero f = omega arith
running_few ws (suc t) f = omega (arith, running_few ws t (λ j h. f j (omega arith)), f t (omega arith))

pub sum_more : (f : ℕ → ℕ) (n : ℕ) → sum_below f (suc n) ≡ sum_below f n + f n
unfolding sum_below
sum_more f n = refl

-- the words but for word 7
pub other_words : (ws : List ℕ) (v i : ℕ) → i ≢ 7 → get_or (set ws 7 v) i 0 ≡ get_or ws i 0
other_words ws v i h = get_or-set_other ws 7 i v 0 h

pub same_types : (ws : List ℕ) (v : ℕ) → types (set ws 7 v) ≡ types ws
same_types ws v = other_words ws v 2 (λ e. omega arith)

same_format : (ws : List ℕ) (v : ℕ) → format_of (set ws 7 v) ≡ format_of ws
same_format ws v = other_words ws v 0 (λ e. omega arith)

pub same_count : (ws : List ℕ) (v t : ℕ) → count_at (set ws 7 v) t ≡ count_at ws t
same_count ws v t = other_words ws v (8 + 3 * t + 1) (λ e. omega arith)

same_at : (ws : List ℕ) (v t : ℕ) → privileges_at (set ws 7 v) t ≡ privileges_at ws t
unfolding gap_of privileges_at rule_at
same_at ws v t = rw (same_format ws v, other_words ws v (8 + 3 * t + 0) (λ e. omega arith), other_words ws v (8 + 3 * t + 2) (λ e. omega arith), same_count ws v t)

same_privileges : (ws : List ℕ) (v : ℕ) → privileges (set ws 7 v) ≡ privileges ws
unfolding privileges first_privilege
same_privileges ws v = ap (sum_below (privileges_at (set ws 7 v))) (same_types ws v) ∙ sum_same (types ws) (λ t h. at_type t)
  where
    at_type : (t : ℕ) → privileges_at (set ws 7 v) t ≡ privileges_at ws t
    at_type t = same_at ws v t

pub types_are : (format : ℕ) (ds : List Declaration) → types (table_of format ds) ≡ length (rules_of ds)
unfolding words_of
types_are format ds = refl

entries_are : (format : ℕ) (ds : List Declaration) → entries (table_of format ds) ≡ length (kids_of_all (rules_of ds))
unfolding words_of
entries_are format ds = refl

-- a table of a format but for its word 7
abbrev pub blank : ℕ → List Declaration → List ℕ
blank format ds = set (table_of format ds) 7 0

blank_length : (format : ℕ) (ds : List Declaration) → length (blank format ds) ≡ 8 + 3 * types (blank format ds) + length (kids_of_all (rules_of ds))
blank_length format ds =
    let t = table_of format ds in
    omega (arith, length-set t 7 0, table_length format ds, same_types t 0, types_are format ds)

pub untotalled_long : (ds : List Declaration) {ws : List ℕ} → ws ≡ untotalled ds → 8 ≤ length ws
untotalled_long ds e = rw e (omega (arith, blank_length 1 ds))

pub written_long : (word : ℕ) (ds : List Declaration) {ws : List ℕ} → ws ≡ untotalled ds → 7 < length (set ws 0 word)
written_long word ds {ws} e = omega (arith, untotalled_long ds e, length-set ws 0 word)

-- the format is written
pub formatted : (format : ℕ) (ds : List Declaration) {ws : List ℕ} → ws ≡ untotalled ds → set ws 0 format ≡ blank format ds
unfolding words_of
formatted format ds e = rw e

pub formatted_fits : (format : ℕ) (ds : List Declaration) {ws : List ℕ} → ws ≡ untotalled ds → 8 + 3 * types (set ws 0 format) ≤ length (set ws 0 format)
formatted_fits format ds e = rw (formatted format ds e) (omega (arith, blank_length format ds))

blank_running : (format : ℕ) (ds : List Declaration) → running (blank format ds) (types (blank format ds)) ≡ length (kids_of_all (rules_of ds))
blank_running format ds =
    let t = table_of format ds in
    ap (running (blank format ds)) (same_types t 0) ∙ sum_same (types t) (λ j h. same_count t 0 j) ∙ (stretch_passes format ds (types t) (omega arith)).total refl ∙ entries_are format ds

-- V fits a word
pub total_fits : (format : ℕ) (ds : List Declaration) → Small ds → (v : ℕ) → TotalRead (blank format ds) (Ok v) → v < 65536
unfolding privileges first_privilege
total_fits format ds s v x =
    let b = blank format ds in
    let n = same_types (table_of format ds) 0 in
    omega (arith, x.0, sum_few b (types b) x.1, blank_running format ds, n, types_are format ds, s.types_few, s.kids_few)

-- word 7 is written
pub totalled : (format : ℕ) (ds : List Declaration) (v : ℕ) → v ≡ privileges (blank format ds) → set (blank format ds) 7 v ≡ table_of format ds
totalled format ds v h =
    let t = table_of format ds in
    let z : v ≡ get_or t 7 0 = h ∙ same_privileges t 0 ∙ sym (privileges_stated format ds) in
    set-set t 7 0 v ∙ ap (λ (n : ℕ). set t 7 n) z ∙ set-get_or t 7 0

pub sum_none : (f : ℕ → ℕ) → 0 ≡ sum_below f 0
unfolding sum_below
sum_none f = refl

pub sum_all : (ws : List ℕ) (t : ℕ) → t ≡ types ws → sum_below (privileges_at ws) t ≡ privileges ws
unfolding privileges first_privilege
sum_all ws t e = rw e

pub few_more : (ws : List ℕ) (t : ℕ) → Few ws t → count_at ws t ≤ 16 → Few ws (t + 1)
few_more ws t f h j l = elim (le_or_lt t j) [ inl m ↦ (let z : j ≡ t = omega arith in rw z h) | inr m ↦ f j m ]

pub sum_step : (f : ℕ → ℕ) (n v p : ℕ) → v ≡ sum_below f n → p ≡ f n → v + p ≡ sum_below f (n + 1)
sum_step f n v p e h = rw (add-one n, sum_more f n, e, h)
