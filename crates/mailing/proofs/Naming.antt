-- The edits at a type, by their number there: each kind of type has its own. Assumes nothing.
use Rattle.std.proofs.Common.{ℕ, ◌+◌, ◌-◌, ◌*◌, ◌/◌, ◌%◌, ◌≤◌, ◌<◌, ◌≡◌, refl, sym, ap, subst, ◌∙◌, ◌≢◌, inl, inr, List, mul-zero, mul-le-mul_right, mod-lt, div-add-mod', arith, lt-ltb, le-ltb}
use Rattle.table.specs.Words.{types}
use Rattle.table.specs.Rule.{rule_at, count_of, child_at, IsChoice, IsStar}
use Rattle.table.specs.Privilege.{gap_of, privileges_at, first_privilege, replace_of, text, insert, delete, exchange, replace}
use Rattle.table.specs.Named.{inserts, deletes, replaces}
use Rattle.table.specs.Check.{Accepted}
use Rattle.table.specs.declared.rule.Rule.TheVariants.{Empty, Text as Texts, Sequence}
use Rattle.table.proofs.Lists.{le_or_lt}
use Rattle.table.proofs.Privileges.{gap_few, two_gap, star_count, choice_count}
use Rattle.table.proofs.Named.{Each, names_types}
use Rattle.mailing.specs.Steps.Naming.{named_by, EditAt, InColumn}
use Rattle.mailing.specs.declared.edit.Naming.{Naming}
use Rattle.mailing.specs.declared.edit.Naming.TheVariants.{Text, Insert, Delete, Replace}

-- a number below n rows of w: its row and its column
pub row_column : (k n w : ℕ) → k < n * w → (0 < w) × (k / w < n) × (k % w < w) × (k / w * w + k % w ≡ k)
row_column k n w h = (some, row, mod-lt k some, div-add-mod' k w)
  where
    some : 0 < w
    some = elim (le_or_lt w 0) [
      | inl l ↦ let e : w ≡ 0 = omega arith in absurd (omega (arith, h, ap (λ (z : ℕ). n * z) e, mul-zero n))
      | inr l ↦ l
    ]

    row : k / w < n
    row = elim (le_or_lt n (k / w)) [
      | inl l ↦ absurd (omega (arith, h, mul-le-mul_right {m = n} {n = k / w} w l, div-add-mod' k w))
      | inr l ↦ l
    ]

-- the column of a position
pub column_before : {gap i column : ℕ} → column < i → InColumn gap i column column
column_before {gap} {i} {column} l = record { stands = rw (le-ltb i column (omega arith)); same_kind = λ e. absurd (omega arith) }

pub column_behind : {gap i column : ℕ} → gap ≤ 1 → i ≤ column → InColumn gap i column (column + gap)
column_behind {gap} {i} {column} narrow l = record {
  stands = elim (le_or_lt (column + gap) i) [
    | inl h ↦ rw (le-ltb i (column + gap) h) (omega arith)
    | inr h ↦ rw (lt-ltb i (column + gap) h) (omega arith)
  ];
  same_kind = λ e. omega arith;
}

pub column_inside : {gap n i column j : ℕ} → gap ≤ 1 → i < n → column < n - gap → InColumn gap i column j → j < n
column_inside {gap} {n} {i} {column} {j} narrow l h c = elim (le_or_lt j i) [
  | inl g ↦ omega arith
  | inr g ↦ let e : j - gap ≡ column = rw (lt-ltb i j g) at c.stands in omega arith
]

module _ (ws : List ℕ) (x k : ℕ) where
  -- a text
  pub text_edit : x < types ws → rule_at ws x ≡ Texts → k < privileges_at ws x → EditAt ws x k (Text x)
  unfolding privileges_at
  text_edit l e h = let u : k < 1 = rw e at h in record { edit = text x; offered = record { type = l; kind_is = rw e }; type = refl; number = omega arith; is = refl }

  -- none
  pub empty_none : rule_at ws x ≡ Empty → k < privileges_at ws x → ⊥
  unfolding privileges_at
  empty_none e h = let u : k < 0 = rw e at h in omega arith

  pub sequence_none : {first count : ℕ} → rule_at ws x ≡ Sequence first count → k < privileges_at ws x → ⊥
  unfolding privileges_at
  sequence_none e h = let u : k < 0 = rw e at h in omega arith

  -- a star
  pub star_inserts : {child : ℕ} → IsStar ws x → k ≡ 0 → child ≡ child_at ws x 0 → EditAt ws x k (Insert x child)
  star_inserts s e c = record { edit = insert x; offered = s; type = refl; number = omega (arith, e); is = ap (inserts x) c }

  pub star_deletes : {child : ℕ} → IsStar ws x → k ≡ 1 → child ≡ child_at ws x 0 → EditAt ws x k (Delete x child)
  star_deletes s e c = record { edit = delete x; offered = s; type = refl; number = omega (arith, e); is = ap (deletes x) c }

  pub star_exchanges : {child : ℕ} → IsStar ws x → k < privileges_at ws x → k ≢ 0 → k ≢ 1 → child ≡ child_at ws x 0 → EditAt ws x k (Replace x child child)
  star_exchanges s h d e c =
      let n = star_count ws s in
      let same : gap_of ws ≡ 0 = omega (arith, h, d, e, gap_few ws) in
      record {
        edit = exchange x;
        offered = record { star = s; same_kind = two_gap ws same };
        type = refl;
        number = omega (arith, h, n, d, e);
        is = ap (λ (z : ℕ). replaces x z z) c;
      }

  -- a choice of n kinds: row by row
  pub choice_low : {n gap : ℕ} → IsChoice ws x → n ≡ count_of ws x → gap ≡ gap_of ws → k < privileges_at ws x → k < n * (n - gap)
  choice_low s e g h = rw (e, g) (rw (choice_count ws s) at h)

  choice_at : {i column j : ℕ} → IsChoice ws x → i < count_of ws x → column < count_of ws x - gap_of ws → i * (count_of ws x - gap_of ws) + column ≡ k
      → InColumn (gap_of ws) i column j → EditAt ws x k (Replace x (child_at ws x i) (child_at ws x j))
  unfolding replace_of
  choice_at {i} {column} {j} s row few e c = record {
    edit = replace x i j;
    offered = record {
      choice = s;
      from = row;
      to = column_inside (gap_few ws) row few c;
      same_kind = λ q. two_gap ws (c.same_kind q);
    };
    type = refl;
    number = rw c.stands (ap (λ (z : ℕ). first_privilege ws x + z) e);
    is = refl;
  }

  pub choice_replaces : {n gap j from to : ℕ} → IsChoice ws x → n ≡ count_of ws x → gap ≡ gap_of ws → k < privileges_at ws x
      → InColumn gap (k / (n - gap)) (k % (n - gap)) j → from ≡ child_at ws x (k / (n - gap)) → to ≡ child_at ws x j → EditAt ws x k (Replace x from to)
  choice_replaces {n} {gap} {j} {from} {to} s e g h c a b =
      let d = row_column k n (n - gap) (choice_low s e g h) in
      let w : n - gap ≡ count_of ws x - gap_of ws = rw (e, g) in
      rw (a, b)
      (choice_at s (omega (arith, d.1, e)) (omega (arith, d.2, w)) (ap (λ (z : ℕ). k / (n - gap) * z + k % (n - gap)) (sym w) ∙ d.3)
      (subst (λ (z : ℕ). InColumn z (k / (n - gap)) (k % (n - gap)) j) g c))

-- an edit of a table names types
pub names_inside : {ws : List ℕ} {x k : ℕ} {r : Naming} → Accepted ws → EditAt ws x k r → Each (λ t. t < types ws) (named_by r)
names_inside {ws} a e = subst (Each (λ t. t < types ws)) (sym e.is) (names_types a e.edit e.offered)
