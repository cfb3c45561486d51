-- Check 4 on a table of declarations: every rule has the right number of children but for the limit of 16, which only a sequence or a choice passes;
-- within the limits of number 2 the table is refused at the lowest type that does. Assumes nothing.
use Prim.Native.Nat.{ℕ, zero, suc, ◌+◌, ◌≤◌, ◌<◌}
use mathlib.Core.Path.{◌≡◌, refl}
use mathlib.Core.Logic.{◌⊎◌}
use mathlib.Core.List.{List, [], ◌∷◌, ◌++◌}
use native.Mathlib.Omega.{arith}
use lib.ListN.{length, get_or}
use Rattle.table.specs.Words.{kind_at, count_at}
use Rattle.table.specs.Check.{RightCount, Earlier, Refused}
use Rattle.table.specs.declared.check.Check.TheVariants.{Format, Layout, Kind, Count, Stretch, Bounds, Twice, Cycle, Unreached, Total}
use Rattle.grammar.specs.Tree.{Content, is-empty, is_text, is_any, is_mixed, is_children, Declaration}
use Rattle.model.specs.Model.{Model, Models, Operator, element, made, either, in_order, optional, repeated, positive, single, then, model_of}
use Rattle.model.specs.Tables.{Rule, empty, text, sequence, choice, star, size_of, kind_of, kids_of, kids_of_all, rule_of, rule_of_model}
use Rattle.model.specs.Tables.{made_by, made_inside, made_by_each, made_in_model, rule_of_content, made_in_content, declared_from, made_from}
use Rattle.model.specs.Tables.{number_of, rules_of, table_of}
use Rattle.model.proofs.Placed.{rules_length}
use Rattle.model.proofs.Words.{types_are, recorded}
use Rattle.model.proofs.Shape.{format_passes, layout_passes, kind_passes}

pub declared_few : (ds : List Declaration) → length ds ≤ length (rules_of ds)
declared_few ds = omega (arith, rules_length ds)

-- a rule that has a child if it is a sequence or a choice, and rules that all do
abbrev Some : Rule → Type 0
Some empty = Unit {0}
Some text = Unit {0}
Some (sequence ks) = 1 ≤ length ks
Some (choice ks) = 1 ≤ length ks
Some (star k) = Unit {0}

abbrev Somes : List Rule → Type 0
Somes [] = Unit {0}
Somes (r ∷ rs) = Some r × Somes rs

some_each : (rs : List Rule) → Somes rs → (t : ℕ) → t < length rs → Some (get_or rs t empty)
some_each [] h t l = absurd (omega arith)
some_each (r ∷ rs) h zero l = h.0
some_each (r ∷ rs) h (suc t) l = some_each rs h.1 t (omega arith)

somes_join : (rs ss : List Rule) → Somes rs → Somes ss → Somes (rs ++ ss)
somes_join [] ss g h = h
somes_join (r ∷ rs) ss g h = (g.0, somes_join rs ss g.1 h)

module _ (number : List ℕ → ℕ) where
  rule_some : (o : Operator) (x : ℕ) → Some (rule_of number x o)
  rule_some (either m ms) x = omega arith
  rule_some (in_order m ms) x = omega arith
  rule_some (optional m) x = omega arith
  rule_some (repeated m) x = tt
  rule_some (positive m) x = omega arith

  mutual
    made_some : (m : Model) (x : ℕ) → Somes (made_by number x m)
    made_some (element n) x = tt
    made_some (made o) x = (rule_some o (suc x), inside_some o (suc x))

    inside_some : (o : Operator) (x : ℕ) → Somes (made_inside number x o)
    inside_some (either m ms) x = somes_join (made_by number x m) _ (made_some m x) (each_some ms (x + size_of m))
    inside_some (in_order m ms) x = somes_join (made_by number x m) _ (made_some m x) (each_some ms (x + size_of m))
    inside_some (optional m) x = (tt, made_some m (suc x))
    inside_some (repeated m) x = made_some m x
    inside_some (positive m) x = (tt, made_some m (suc x))

    each_some : (ms : Models) (x : ℕ) → Somes (made_by_each number x ms)
    each_some (single m) x = made_some m x
    each_some (then m ms) x = somes_join (made_by number x m) _ (made_some m x) (each_some ms (x + size_of m))

  model_some : (m : Model) (x : ℕ) → Somes (rule_of_model number x m ∷ made_in_model number x m)
  model_some (element n) x = (omega arith, tt)
  model_some (made o) x = (rule_some o x, inside_some o x)

  content_some : (c : Content) (x : ℕ) → Somes (rule_of_content number x c ∷ made_in_content number x c)
  content_some is-empty x = (tt, tt)
  content_some is_text x = (tt, tt)
  content_some (is_any at) x = (tt, tt)
  content_some (is_mixed at us) x = (tt, tt)
  content_some (is_children p) x = model_some (model_of p) x

  declarations_some : (ds : List Declaration) (x : ℕ) → Somes (declared_from number x ds) × Somes (made_from number x ds)
  declarations_some [] x = (tt, tt)
  declarations_some (d ∷ ds) x =
      let c = made_in_content number x d.content in
      let g = content_some d.content x in
      let h = declarations_some ds (x + length c) in
      ((g.0, h.0), somes_join c _ g.1 h.1)

rules_some : (ds : List Declaration) → Somes (rules_of ds)
unfolding rules_of
rules_some ds =
    let both = declarations_some (number_of ds) ds (length ds) in
    somes_join (declared_from (number_of ds) (length ds) ds) _ both.0 both.1

right : (r : Rule) → Some r → length (kids_of r) ≤ 16 → RightCount (kind_of r) (length (kids_of r))
right empty s l = record {
  empty = λ e. refl;
  text = λ e. refl;
  sequence = λ e. absurd (omega arith);
  choice = λ e. absurd (omega arith);
  star = λ e. absurd (omega arith);
}
right text s l = record {
  empty = λ e. refl;
  text = λ e. refl;
  sequence = λ e. absurd (omega arith);
  choice = λ e. absurd (omega arith);
  star = λ e. absurd (omega arith);
}
right (sequence ks) s l = record {
  empty = λ e. absurd (omega arith);
  text = λ e. absurd (omega arith);
  sequence = λ e. (s, l);
  choice = λ e. (s, l);
  star = λ e. absurd (omega arith);
}
right (choice ks) s l = record {
  empty = λ e. absurd (omega arith);
  text = λ e. absurd (omega arith);
  sequence = λ e. (s, l);
  choice = λ e. (s, l);
  star = λ e. absurd (omega arith);
}
right (star k) s l = record {
  empty = λ e. absurd (omega arith);
  text = λ e. absurd (omega arith);
  sequence = λ e. (omega arith, l);
  choice = λ e. (omega arith, l);
  star = λ e. refl;
}

wrong : (r : Rule) → 16 < length (kids_of r) → ¬ RightCount (kind_of r) (length (kids_of r))
wrong empty l h = omega arith
wrong text l h = omega arith
wrong (sequence ks) l h = let b = (h.sequence refl).1 in omega arith
wrong (choice ks) l h = let b = (h.choice refl).1 in omega arith
wrong (star k) l h = omega arith

pub count_right : (format : ℕ) (ds : List Declaration) (t : ℕ) → t < length (rules_of ds) → count_at (table_of format ds) t ≤ 16
    → RightCount (kind_at (table_of format ds) t) (count_at (table_of format ds) t)
count_right format ds t l few =
    let rs = rules_of ds in
    let w = recorded format rs t l in
    rw (w.kind, w.count) (right (get_or rs t empty) (some_each rs (rules_some ds) t l) (rw w.count at few))

pub count_wrong : (format : ℕ) (ds : List Declaration) (t : ℕ) → t < length (rules_of ds) → 16 < count_at (table_of format ds) t
    → ¬ RightCount (kind_at (table_of format ds) t) (count_at (table_of format ds) t)
count_wrong format ds t l many =
    let rs = rules_of ds in
    let w = recorded format rs t l in
    rw (w.kind, w.count) (wrong (get_or rs t empty) (rw w.count at many))

pub wide_refused : (format : ℕ) (ds : List Declaration) (t : ℕ) → (format ≡ 1) ⊎ (format ≡ 2) → 1 ≤ length ds → length (rules_of ds) ≤ 256
    → length (kids_of_all (rules_of ds)) ≤ 1024 → t < length (rules_of ds) → 16 < count_at (table_of format ds) t
    → ((j : ℕ) → j < t → count_at (table_of format ds) j ≤ 16) → Refused (table_of format ds) Count t
wide_refused format ds t known some few short l many before = record {
  earlier = earlier;
  lowest = record {
    within = rw (types_are format (rules_of ds)) l;
    fails = count_wrong format ds t l many;
    before = λ j h. count_right format ds j (omega arith) (before j h);
  };
}
  where
    earlier : Earlier (table_of format ds) Count
    earlier Format r = format_passes format ds known
    earlier Layout r = layout_passes format ds some few short
    earlier Kind r = kind_passes format ds
    earlier Count r = absurd (omega arith)
    earlier Stretch r = absurd (omega arith)
    earlier Bounds r = absurd (omega arith)
    earlier Twice r = absurd (omega arith)
    earlier Cycle r = absurd (omega arith)
    earlier Unreached r = absurd (omega arith)
    earlier Total r = absurd (omega arith)
