-- The words of a table spell its rules. Assumes nothing.
use Prim.Native.Nat.{ℕ, suc, ◌+◌, ◌*◌, ◌<◌}
use mathlib.Core.Path.{◌≡◌, refl, ◌∙◌}
use mathlib.Core.List.{List, [], ◌∷◌, ◌++◌, append_assoc}
use native.Mathlib.Omega.{arith}
use lib.ListN.{length, get_or, take, drop, length-append}
use lib.Seq.{length-take-le, split_at, get_or-append-add, take_at, drop_at}
use Rattle.table.specs.Words.{types, kind_at, count_at, first_at}
use Rattle.table.specs.Rule.{rule_of, rule_at, children_at}
use Rattle.model.specs.Tables.{Rule, empty, text, sequence, choice, star, kind_of, kids_of, kids_of_all, privileges_of_all, records_from, words_of}
use Rattle.model.proofs.Placed.{Has, Placed, placed_each}

-- the words say of type x that it has rule r, and its first child this index
pub record Recorded (ws : List ℕ) (x index : ℕ) (r : Rule) : Type 0 where
  pub type : x < types ws
  pub kind : kind_at ws x ≡ kind_of r
  pub count : count_at ws x ≡ length (kids_of r)
  pub first : first_at ws x ≡ index
  pub kids : take (length (kids_of r)) (drop (8 + 3 * types ws + index) ws) ≡ kids_of r

pub has : {ws : List ℕ} {x index : ℕ} (r : Rule) → Recorded ws x index r → Has ws x r
unfolding rule_at children_at rule_of
has empty h = record { type = h.type; kind = rw h.kind; kids = rw h.kind }
has text h = record { type = h.type; kind = rw h.kind; kids = rw h.kind }
has (sequence ks) h = record { type = h.type; kind = rw h.kind; kids = rw (h.kind, h.count, h.first) h.kids }
has (choice ks) h = record { type = h.type; kind = rw h.kind; kids = rw (h.kind, h.count, h.first) h.kids }
has (star k) h = record { type = h.type; kind = rw h.kind; kids = rw (h.kind, h.count, h.first) h.kids }

pub kids_split : (ps rs : List Rule) → kids_of_all (ps ++ rs) ≡ kids_of_all ps ++ kids_of_all rs
kids_split [] rs = refl
kids_split (p ∷ ps) rs = rw (kids_split ps rs, append_assoc (kids_of p) (kids_of_all ps) (kids_of_all rs))

records_split : (k j : ℕ) (ps rs : List Rule) → j ≡ k + length (kids_of_all ps) → records_from k (ps ++ rs) ≡ records_from k ps ++ records_from j rs
records_split k j [] rs e = let q : j ≡ k = omega arith in rw q
records_split k j (p ∷ ps) rs e =
    rw (records_split (k + length (kids_of p)) j ps rs (omega (arith, length-append (kids_of p) (kids_of_all ps))))

pub records_length : (k : ℕ) (rs : List Rule) → length (records_from k rs) ≡ 3 * length rs
records_length k [] = refl
records_length k (r ∷ rs) = omega (arith, records_length (k + length (kids_of r)) rs)

abbrev header : ℕ → List Rule → List ℕ
header format rs =
    format ∷ (8 + 3 * length rs + length (kids_of_all rs)) ∷ length rs ∷ 0 ∷ 8 ∷ length (kids_of_all rs) ∷ (8 + 3 * length rs)
    ∷ privileges_of_all format rs ∷ []

pub words_are : (format : ℕ) (rs : List Rule) → words_of format rs ≡ header format rs ++ (records_from 0 rs ++ kids_of_all rs)
unfolding words_of
words_are format rs = refl

pub types_are : (format : ℕ) (rs : List Rule) → types (words_of format rs) ≡ length rs
unfolding words_of
types_are format rs = refl

module _ (format : ℕ) (ps : List Rule) (r : Rule) (rs : List Rule) where
  abbrev all_rules : List Rule
  all_rules = ps ++ (r ∷ rs)

  abbrev ws : List ℕ
  ws = words_of format all_rules

  -- the words up to the record of r, and those from there on
  abbrev front : List ℕ
  front = header format all_rules ++ records_from 0 ps

  abbrev back : List ℕ
  back = kind_of r ∷ length (kids_of r) ∷ length (kids_of_all ps) ∷ (records_from (length (kids_of_all ps) + length (kids_of r)) rs ++ kids_of_all all_rules)

  words_back : ws ≡ front ++ back
  words_back = words_are format all_rules ∙ rw (
    records_split 0 (length (kids_of_all ps)) ps (r ∷ rs) (omega arith),
    append_assoc (records_from 0 ps) (records_from (length (kids_of_all ps)) (r ∷ rs)) (kids_of_all all_rules),
  )

  word : (k : ℕ) → get_or ws (8 + 3 * length ps + k) 0 ≡ get_or back k 0
  word k =
      let e : length front ≡ 8 + 3 * length ps = omega (arith, records_length 0 ps) in
      rw (words_back, ← e, get_or-append-add front back k 0)

  -- the words up to the children of r
  abbrev lead : List ℕ
  lead = (header format all_rules ++ records_from 0 all_rules) ++ kids_of_all ps

  words_kids : ws ≡ lead ++ (kids_of r ++ kids_of_all rs)
  words_kids = words_are format all_rules ∙ rw (
    kids_split ps (r ∷ rs),
    append_assoc (records_from 0 all_rules) (kids_of_all ps) (kids_of r ++ kids_of_all rs),
  )

  kids_there : take (length (kids_of r)) (drop (8 + 3 * length all_rules + length (kids_of_all ps)) ws) ≡ kids_of r
  kids_there =
      let e : length lead ≡ 8 + 3 * length all_rules + length (kids_of_all ps) = omega (
        arith,
        length-append (records_from 0 all_rules) (kids_of_all ps),
        records_length 0 all_rules,
      ) in
      let d = drop_at lead (kids_of r ++ kids_of_all rs) (8 + 3 * length all_rules + length (kids_of_all ps)) e in
      rw (words_kids, d) (take_at (kids_of r) (kids_of_all rs) (length (kids_of r)) refl)

  recorded_behind : Recorded ws (length ps) (length (kids_of_all ps)) r
  recorded_behind = record {
    type = rw (types_are format all_rules) (omega (arith, length-append ps (r ∷ rs)));
    kind = word 0;
    count = word 1;
    first = word 2;
    kids = rw (types_are format all_rules) kids_there;
  }

module _ (format : ℕ) (rs : List Rule) where
  pub recorded : (x : ℕ) → x < length rs → Recorded (words_of format rs) x (length (kids_of_all (take x rs))) (get_or rs x empty)
  recorded x l =
      let e = split_at rs x empty l in
      let n = length-take-le x rs (omega arith) in
      rw (n, ← e) at (recorded_behind format (take x rs) (get_or rs x empty) (drop (suc x) rs))

  -- its types have its rules
  pub placed : Placed (words_of format rs) 0 rs
  placed = placed_each (words_of format rs) 0 rs (λ i l. let e : 0 + i ≡ i = omega arith in rw e (has (get_or rs i empty) (recorded i l)))
