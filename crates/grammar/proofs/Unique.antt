-- The bytes from a place on are at most one particle. Assumes nothing.
use Prim.Native.Nat.{ℕ, suc}
use mathlib.Core.Path.{◌≡◌, refl, sym, ap, subst}
use mathlib.Core.Logic.{◌≢◌}
use mathlib.Core.Bool.{false}
use mathlib.Core.List.{List}
use native.Mathlib.Omega.{arith}
use Rattle.grammar.specs.Bytes.{is_space, is_name_byte, is_mark, Byte, Of}
use Rattle.grammar.specs.Tree.{Mark, once, Particle, Particles, name, choice, sequence, last, more}
use Rattle.grammar.specs.Grammar.{Blanks, Name, MarkAt, Cp, cp_name, cp_group, Children, as_choice, as_sequence, Row, closed, separated}
use Rattle.grammar.proofs.Pieces.{clash, off, apart, space_no_start, span_unique, After, mark_unique, mark_ends_name, name_unique, after_blanks, point}

-- where a particle ends, nothing of it goes on
abbrev pub Settled : List ℕ → ℕ → Particle → Type 0
Settled t e (name a n k) = k ≡ once → (¬ Of is_name_byte t e) × (¬ Of is_mark t e)
Settled t e (choice a ps k) = k ≡ once → ¬ Of is_mark t e
Settled t e (sequence a ps k) = k ≡ once → ¬ Of is_mark t e

-- the same end and the same tree
pub record Same (b c : ℕ) (p q : Particle) : Type 0 where
  pub end : b ≡ c
  pub tree : p ≡ q

abbrev pub IsMore : Particles → Type 0
IsMore (last p) = ⊥
IsMore (more p ps) = Unit {0}

-- the same end, the same particles, and the same separator if there is one
pub record SameRow (s r b c : ℕ) (ps qs : Particles) : Type 0 where
  pub end : b ≡ c
  pub tree : ps ≡ qs
  pub separator : IsMore qs → s ≡ r

-- a byte that separates
pub record Separator (s : ℕ) : Type 0 where
  pub no_name : is_name_byte s ≡ false
  pub unmarked : is_mark s ≡ false
  pub no_space : is_space s ≡ false
  pub open_still : s ≢ 41

pub bar : Separator 124
bar = record { no_name = refl; unmarked = refl; no_space = refl; open_still = λ e. omega arith }

pub comma : Separator 44
comma = record { no_name = refl; unmarked = refl; no_space = refl; open_still = λ e. omega arith }

-- no particle begins with white space
pub cp_no_space : {t : List ℕ} {a b : ℕ} {p : Particle} → Cp t a b p → ¬ Of is_space t a
cp_no_space (cp_name n m) o = apart space_no_start o n.start
cp_no_space (cp_group (as_choice g s r m)) o = off g refl o
cp_no_space (cp_group (as_sequence g s r m)) o = off g refl o

pub row_no_space : {t : List ℕ} {s a b : ℕ} {ps : Particles} → Row t s a b ps → ¬ Of is_space t a
row_no_space (closed c s g) = cp_no_space c
row_no_space (separated c s g u r) = cp_no_space c

children_open : {t : List ℕ} {a b : ℕ} {p : Particle} → Children t a b p → Byte t a 40
children_open (as_choice g s r m) = g
children_open (as_sequence g s r m) = g

-- names
named_same : {t n m : List ℕ} {a b c d e : ℕ} {k l : Mark} → Name t a b n → MarkAt t b c k → Name t a d m → MarkAt t d e l → Settled t c (name a n k) → Settled t e (name a m l) → Same c e (name a n k) (name a m l)
named_same {t} {a = a} {b = b} {d = d} x m y q f g =
    let z : b ≡ d = name_unique x y (mark_ends_name m (λ r. (f r).0)) (mark_ends_name q (λ r. (g r).0)) in
    let w = mark_unique m (rw (sym z) at q) (λ r. (f r).1) (λ r. (g r).1) in
    record { end = w.0; tree = rw (x.is, y.is, z, w.1) }

-- groups with a mark, once their rows are the same
marked_end : {t : List ℕ} {b c d e : ℕ} {k l : Mark} → b ≡ c → MarkAt t b d k → MarkAt t c e l → (k ≡ once → ¬ Of is_mark t d) → (l ≡ once → ¬ Of is_mark t e) → (d ≡ e) × (k ≡ l)
marked_end z m n f g = mark_unique m (rw (sym z) at n) f g

-- where neither a name nor a mark goes on, a particle is settled
settled_so : {t : List ℕ} {e : ℕ} (p : Particle) → After t e → Settled t e p
settled_so (name a n k) f = λ r. (f.no_name, f.unmarked)
settled_so (choice a ps k) f = λ r. f.unmarked
settled_so (sequence a ps k) f = λ r. f.unmarked

pub settled : {t : List ℕ} {a e : ℕ} {p : Particle} → Cp t a e p → After t e → Settled t e p
settled {p = p} c f = settled_so p f

-- two rows from the same blanks
from_blanks : {t : List ℕ} {a b c : ℕ} → Blanks t a b → Blanks t a c → ¬ Of is_space t b → ¬ Of is_space t c → b ≡ c
from_blanks s r f g = span_unique s r f g

-- a choice's row has a separator
wrong : {b c : ℕ} {p : Particle} {ps qs : Particles} → SameRow 124 44 b c (more p ps) qs → ⊥
wrong {p = p} {ps = ps} {qs = qs} y = let m : IsMore qs = subst IsMore y.tree (tt {0}) in let e = y.separator m in omega arith

mutual
  pub cp_unique : {t : List ℕ} {a b c : ℕ} {p q : Particle} → Cp t a b p → Cp t a c q → Settled t b p → Settled t c q → Same b c p q
  cp_unique (cp_name n m) (cp_name o q) f g = named_same n m o q f g
  cp_unique (cp_name n m) (cp_group h) f g = absurd (off (children_open h) refl n.start)
  cp_unique (cp_group h) (cp_name n m) f g = absurd (off (children_open h) refl n.start)
  cp_unique (cp_group h) (cp_group k) f g = children_unique h k f g

  pub children_unique : {t : List ℕ} {a b c : ℕ} {p q : Particle} → Children t a b p → Children t a c q → Settled t b p → Settled t c q → Same b c p q
  children_unique (as_choice {a = a} g s r m) (as_choice h u w n) f i =
      let z = from_blanks s u (row_no_space r) (row_no_space w) in
      let y = row_unique r (rw (sym z) at w) bar bar in
      let x = marked_end y.end m n f i in
      record { end = x.0; tree = rw (y.tree, x.1) }
  children_unique (as_choice g s r m) (as_sequence h u w n) f i =
      let z = from_blanks s u (row_no_space r) (row_no_space w) in
      let y = row_unique r (rw (sym z) at w) bar comma in
      absurd (wrong y)
  children_unique (as_sequence g s r m) (as_choice h u w n) f i =
      let z = from_blanks s u (row_no_space r) (row_no_space w) in
      let y = row_unique r (rw (sym z) at w) comma bar in
      absurd (let e = y.separator tt in omega arith)
  children_unique (as_sequence g s r m) (as_sequence h u w n) f i =
      let z = from_blanks s u (row_no_space r) (row_no_space w) in
      let y = row_unique r (rw (sym z) at w) comma comma in
      let x = marked_end y.end m n f i in
      record { end = x.0; tree = rw (y.tree, x.1) }

  pub row_unique : {t : List ℕ} {s r a b c : ℕ} {ps qs : Particles} → Row t s a b ps → Row t r a c qs → Separator s → Separator r → SameRow s r b c ps qs
  row_unique (closed c u g) (closed d v h) m n =
      let z = cp_unique c d (settled c (after_blanks u g refl refl)) (settled d (after_blanks v h refl refl)) in
      let y = point u (rw (sym z.end) at v) g h refl refl in
      record { end = ap suc y; tree = rw z.tree; separator = λ e. absurd e }
  row_unique (closed c u g) (separated d v h w r) m n =
      let z = cp_unique c d (settled c (after_blanks u g refl refl)) (settled d (after_blanks v h n.no_name n.unmarked)) in
      let y = point u (rw (sym z.end) at v) g h refl n.no_space in
      absurd (n.open_still (sym (clash g (rw (sym y) at h))))
  row_unique (separated c u g w r) (closed d v h) m n =
      let z = cp_unique c d (settled c (after_blanks u g m.no_name m.unmarked)) (settled d (after_blanks v h refl refl)) in
      let y = point u (rw (sym z.end) at v) g h m.no_space refl in
      absurd (m.open_still (clash g (rw (sym y) at h)))
  row_unique (separated c u g w r) (separated d v h x q) m n =
      let z = cp_unique c d (settled c (after_blanks u g m.no_name m.unmarked)) (settled d (after_blanks v h n.no_name n.unmarked)) in
      let y = point u (rw (sym z.end) at v) g h m.no_space n.no_space in
      let k = from_blanks w (rw (sym y) at x) (row_no_space r) (row_no_space q) in
      let l = row_unique r (rw (sym k) at q) m n in
      record { end = l.end; tree = rw (z.tree, l.tree); separator = λ e. clash g (rw (sym y) at h) }
