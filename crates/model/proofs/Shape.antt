-- The shape of a table of declarations: checks 1, 2, 3, 5 and 6 pass, within the limits of number 21 and with every used name declared, and word 7 is
-- the number of its privileges. Assumes nothing.
use Prim.Native.Nat.{ℕ, zero, suc, ◌+◌, ◌*◌, ◌≤◌, ◌<◌}
use mathlib.Core.Path.{◌≡◌, refl, sym, ◌∙◌}
use mathlib.Core.Logic.{◌⊎◌}
use mathlib.Core.List.{List, [], ◌∷◌, ◌++◌}
use native.Mathlib.Omega.{arith}
use lib.ListN.{length, get_or, take, length-append}
use lib.Seq.{take-suc, take-length}
use Rattle.table.specs.Sum.{sum_below}
use Rattle.table.specs.Words.{format_of, count_at, running}
use Rattle.table.specs.Rule.{rule_of, rule_at}
use Rattle.table.specs.Privilege.{gap_of, privileges_at, first_privilege, privileges}
use Rattle.table.specs.Check.{Passes}
use Rattle.table.specs.declared.check.Check.TheVariants.{Format, Layout, Kind, Stretch, Bounds}
use Rattle.grammar.specs.Tree.{Declaration}
use Rattle.model.specs.Names.{NeverDeclared}
use Rattle.model.specs.Tables.{Rule, empty, text, sequence, choice, star, kind_of, kids_of, kids_of_all, privileges_in, privileges_of_all}
use Rattle.model.specs.Tables.{records_from, words_of, rules_of, table_of}
use Rattle.model.proofs.Placed.{rules_length}
use Rattle.model.proofs.Words.{Recorded, has, kids_split, records_length, words_are, types_are, recorded}
use Rattle.model.proofs.Inside.{children_inside}

-- a sum over the types of a table, where it is one over its rules
sum_rules : (rs : List Rule) (f : ℕ → ℕ) (g : Rule → ℕ) (total : List Rule → ℕ) → total [] ≡ 0
    → ((ps : List Rule) (r : Rule) → total (ps ++ (r ∷ [])) ≡ total ps + g r) → ((x : ℕ) → x < length rs → f x ≡ g (get_or rs x empty))
    → (t : ℕ) → t ≤ length rs → sum_below f t ≡ total (take t rs)
unfolding sum_below
sum_rules rs f g total none more each zero l = sym none
sum_rules rs f g total none more each (suc t) l =
    rw (take-suc rs t empty l, more (take t rs) (get_or rs t empty), sum_rules rs f g total none more each t (omega arith), each t l)

kids_more : (ps : List Rule) (r : Rule) → length (kids_of_all (ps ++ (r ∷ []))) ≡ length (kids_of_all ps) + length (kids_of r)
kids_more ps r = rw (kids_split ps (r ∷ [])) (omega (arith, length-append (kids_of_all ps) (kids_of_all (r ∷ [])), length-append (kids_of r) []))

privileges_more : (format : ℕ) (ps : List Rule) (r : Rule) → privileges_of_all format (ps ++ (r ∷ [])) ≡ privileges_of_all format ps + privileges_in format r
privileges_more format [] r = omega arith
privileges_more format (p ∷ ps) r = omega (arith, privileges_more format ps r)

privileges_each : {ws : List ℕ} {x index : ℕ} (r : Rule) → Recorded ws x index r → privileges_at ws x ≡ privileges_in (format_of ws) r
unfolding gap_of privileges_at rule_at rule_of
privileges_each empty h = rw h.kind
privileges_each text h = rw h.kind
privileges_each (sequence ks) h = rw h.kind
privileges_each (choice ks) h = rw (h.kind, h.count)
privileges_each (star k) h = rw h.kind

kind_low : (r : Rule) → kind_of r ≤ 4
kind_low empty = omega arith
kind_low text = omega arith
kind_low (sequence ks) = omega arith
kind_low (choice ks) = omega arith
kind_low (star k) = omega arith

module _ (format : ℕ) (rs : List Rule) where
  running_is : (t : ℕ) → t ≤ length rs → running (words_of format rs) t ≡ length (kids_of_all (take t rs))
  running_is =
      let count = count_at (words_of format rs) in
      sum_rules rs count (λ r. length (kids_of r)) (λ ps. length (kids_of_all ps)) refl kids_more (λ x l. (recorded format rs x l).count)

  words_length : length (words_of format rs) ≡ 8 + 3 * length rs + length (kids_of_all rs)
  words_length = rw (words_are format rs) (omega (arith, length-append (records_from 0 rs) (kids_of_all rs), records_length 0 rs))

pub table_length : (format : ℕ) (ds : List Declaration) → length (table_of format ds) ≡ 8 + 3 * length (rules_of ds) + length (kids_of_all (rules_of ds))
table_length format ds = words_length format (rules_of ds)

-- numbers 1, 2, 3, 5 and 6 cannot fail
pub format_passes : (format : ℕ) (ds : List Declaration) → (format ≡ 1) ⊎ (format ≡ 2) → Passes (table_of format ds) Format
unfolding words_of
format_passes format ds known p l = record { long = omega (arith, table_length format ds); format = known }

pub format_is : (format : ℕ) (ds : List Declaration) → format_of (table_of format ds) ≡ format
unfolding words_of
format_is format ds = refl

pub layout_passes : (format : ℕ) (ds : List Declaration) → 1 ≤ length ds → length (rules_of ds) ≤ 256 → length (kids_of_all (rules_of ds)) ≤ 1024
    → Passes (table_of format ds) Layout
unfolding words_of
layout_passes format ds some few short p l = record {
  some = types_some;
  few = few;
  root_inside = types_some;
  records = refl;
  short = short;
  list = refl;
  size = refl;
  lent = table_length format ds;
}
  where
    types_some : 1 ≤ length (rules_of ds)
    types_some = omega (arith, rules_length ds)

pub kind_passes : (format : ℕ) (ds : List Declaration) → Passes (table_of format ds) Kind
kind_passes format ds t l = rw (recorded format (rules_of ds) t (rw (types_are format (rules_of ds)) at l)).kind (kind_low (get_or (rules_of ds) t empty))

pub stretch_passes : (format : ℕ) (ds : List Declaration) → Passes (table_of format ds) Stretch
unfolding words_of
stretch_passes format ds t l = record {
  first = λ h. (recorded format rs t h).first ∙ sym (running_is format rs t (omega arith));
  total = λ e. running_is format rs t (omega arith) ∙ rw (e, take-length rs);
}
  where
    rs : List Rule
    rs = rules_of ds

pub bounds_passes : (format : ℕ) (ds : List Declaration) → ((k : ℕ) → ¬ NeverDeclared ds k) → Passes (table_of format ds) Bounds
bounds_passes format ds named t l =
    let rs = rules_of ds in
    let h : t < length rs = rw (types_are format rs) at l in
    rw ((has (get_or rs t empty) (recorded format rs t h)).kids, types_are format rs) (children_inside ds named t h)

-- V, and word 7
pub privileges_are : (format : ℕ) (ds : List Declaration) → privileges (table_of format ds) ≡ privileges_of_all format (rules_of ds)
unfolding privileges first_privilege words_of
privileges_are format ds = rw (types_are format rs) (all_types ∙ rw (take-length rs))
  where
    rs : List Rule
    rs = rules_of ds

    all_types : sum_below (privileges_at (words_of format rs)) (length rs) ≡ privileges_of_all format (take (length rs) rs)
    all_types = sum_rules rs (privileges_at (words_of format rs)) (privileges_in format) (privileges_of_all format) refl (privileges_more format)
        (λ x l. privileges_each (get_or rs x empty) (recorded format rs x l)) (length rs) (omega arith)

pub privileges_stated : (format : ℕ) (ds : List Declaration) → get_or (table_of format ds) 7 0 ≡ privileges (table_of format ds)
unfolding words_of
privileges_stated format ds = sym (privileges_are format ds)
