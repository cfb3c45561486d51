-- The moves over the smallest pieces: words, white space, one byte or none, names. Assumes nothing.
use Rattle.std.proofs.Common.{ℕ, suc, ◌+◌, ◌≤◌, ◌<◌, ◌≡◌, refl, sym, ap, ◌⊎◌, inl, inr, Bool, true, false, List, [], ◌∷◌, arith, length, Result, Ok, Err}
use Rattle.std.proofs.Math.Seq.{slice, length-slice}
use Rattle.grammar.specs.Bytes.{ascii, is_space, is_name_start, is_name_byte, Byte, Of, Span, stop, go_on, Literal, done, byte}
use Rattle.grammar.specs.Grammar.{Blanks, Space, Name}
use Rattle.grammar.proofs.Pieces.{off, apart}
use Rattle.scan.specs.Steps.Agree.{Agree}
use Rattle.scan.specs.Steps.Claims.{Mode, plain, limit, Claim, With, behind_it, in_it, Piece, LiteralThen, BlanksThen, SpaceThen, Maybe, one, none, MaybeThen, LongAt, NameThen}
use Rattle.scan.specs.Steps.Moves.{Moves, Reads, got, over}
use Rattle.scan.specs.Steps.Readers.{BlanksRead, SpaceRead, MaybeRead, taken, left, NameGot, NameLong, NameRead, Differs, here, later, WordRead}
use Rattle.scan.specs.declared.Stop.{Stop}
use Rattle.scan.specs.declared.Stop.TheVariants.{Bad, Over}
use Rattle.scan.proofs.Agreeing.{agree_sym, byte_local, of_local, span_le, span_local, literal_le, span_same}
use Rattle.scan.proofs.Moving.{moves_on, reads_on, Good, stuck_here, exceeds_by, turn, step, good_piece, good_then, Avoids}

-- words
pub good_literal : {K : Claim} (cs : List ℕ) → Good K → Good (LiteralThen cs K)
good_literal cs g = good_piece (λ u a b l. literal_le l) (record { word = cs; is = λ u a b l. l }) g

pub avoids_literal : {class : ℕ → Bool} {K : Claim} {c : ℕ} {cs : List ℕ} → class c ≡ false → Avoids class (LiteralThen (c ∷ cs) K)
avoids_literal {class} {K} {c} {cs} e = record { free_of = λ a m u p. go a u p.piece }
  where
    go : (a : ℕ) (u : List ℕ) {b : ℕ} → Literal u (c ∷ cs) a b → ¬ Of class u a
    go a u (byte g l) o = off g e o

-- the first byte of a word
byte_moves : {K : Claim} {t cs : List ℕ} {c a : ℕ} → Good K → Byte t a c → Moves (LiteralThen (c ∷ cs) K) (LiteralThen cs K) t a (suc a)
byte_moves {K} {t} {cs} {c} {a} g b = step (good_literal (c ∷ cs) g) (good_literal cs g) b.within
    (λ m u h q. record { end = q.end; piece = byte (byte_local h (omega arith) b) q.piece; rest = q.rest })
    (λ m u h p. tail m u p.end p.piece p.rest)
  where
    tail : (m : Mode) (u : List ℕ) (e : ℕ) → Literal u (c ∷ cs) a e → K e m u → LiteralThen cs K (suc a) m u
    tail m u e (byte d l) q = record { end = e; piece = l; rest = q }

no_word : {K : Claim} {t : List ℕ} {a : ℕ} → Good K → a ≤ length t → Moves (LiteralThen [] K) K t a a
no_word {K} {t} {a} g l = turn (good_literal [] g) l (λ m u h q. record { end = a; piece = done; rest = q }) (λ m u h p. at_once m u p.end p.piece p.rest)
  where
    at_once : (m : Mode) (u : List ℕ) (e : ℕ) → Literal u [] a e → K e m u → K a m u
    at_once m u e done q = q

pub literal_moves : {K : Claim} {t cs : List ℕ} {a b : ℕ} → Good K → b ≤ length t → Literal t cs a b → Moves (LiteralThen cs K) K t a b
literal_moves g l done = no_word g l
literal_moves g l (byte b r) = moves_on (byte_moves g b) (literal_moves g l r)

differs : {K : Claim} {t cs : List ℕ} {a k : ℕ} → Good K → Differs t cs a k → Reads (LiteralThen cs K) K t a (Err (Bad k))
differs {K} {t} g (here {c} {a} {cs} l f) = stuck_here (good_literal (c ∷ cs) g) t a l (λ u h p. go u h p.piece)
  where
    go : (u : List ℕ) → Agree t u (suc a) → {e : ℕ} → Literal u (c ∷ cs) a e → ⊥
    go u h (byte d r) = f (byte_local (agree_sym h) (omega arith) d)
differs g (later b d) = reads_on (byte_moves g b) (differs g d)

pub word_reads : {K : Claim} {t cs : List ℕ} {a : ℕ} → Good K → (r : Result ℕ Stop) → WordRead t cs a r → Reads (LiteralThen cs K) K t a r
word_reads g (Ok e) x = got (literal_moves g x.0 x.1)
word_reads g (Err (Bad k)) x = differs g x
word_reads g (Err (Over k)) x = absurd x

-- a piece that ends where it must
pub piece_moves : {R : List ℕ → ℕ → ℕ → Type 0} {K : Claim} {t : List ℕ} {a b : ℕ} → Good K → a ≤ b → b ≤ length t
    → ((u : List ℕ) → Agree t u b → R u a b)
    → ((m : Mode) (u : List ℕ) (c n : ℕ) → Agree t u n → (b < n) ⊎ (c < n) → R u a c → K c m u → b ≡ c) → Moves (Piece R K) K t a b
piece_moves {R} {K} {t} {a} {b} g l i f only = record {
  from = l;
  inside = i;
  up = λ m u h q. record { end = b; piece = f u h; rest = q };
  down = λ m u h p. (let z = only m u p.end (suc b) h (inl (omega arith)) p.piece p.rest in rw (sym z) at p.rest);
  free = record {
    none = λ j n h k u y p. (let z = g.behind p.end j n u p.rest in
        let e = only (limit j n) u p.end n y (inr (omega arith)) p.piece p.rest in omega arith);
  };
}

-- white space
pub good_blanks : {K : Claim} → Good K → Good (BlanksThen K)
good_blanks g = good_piece (λ u a b s. span_le s) (record { word = []; is = λ u a b l. nothing l }) g
  where
    nothing : {u : List ℕ} {a b : ℕ} → Literal u [] a b → Blanks u a b
    nothing done = stop

pub good_space : {K : Claim} → Good K → Good (SpaceThen K)
good_space g = good_piece (λ u a b s. omega (arith, span_le s.rest)) (record { word = ascii " "; is = λ u a b l. blank l }) g
  where
    blank : {u : List ℕ} {a b : ℕ} → Literal u (ascii " ") a b → Space u a b
    blank (byte g done) = record { start = record { within = g.within; is = ap is_space g.is }; rest = stop }

pub avoids_blanks : {class : ℕ → Bool} {K : Claim} → ((b : ℕ) → is_space b ≡ true → class b ≡ false) → Avoids class K → Avoids class (BlanksThen K)
avoids_blanks {class} {K} e f = record { free_of = λ a m u p. go m p.piece p.rest }
  where
    go : {a b : ℕ} {u : List ℕ} (m : Mode) → Blanks u a b → K b m u → ¬ Of class u a
    go {a} {u = u} m stop q = f.free_of a m u q
    go m (go_on o s) q = apart e o

pub avoids_space : {class : ℕ → Bool} {K : Claim} → ((b : ℕ) → is_space b ≡ true → class b ≡ false) → Avoids class (SpaceThen K)
avoids_space e = record { free_of = λ a m u p. apart e p.piece.start }

pub blanks_moves : {K : Claim} {t : List ℕ} {a b : ℕ} → Good K → Avoids is_space K → BlanksRead t a b → Moves (BlanksThen K) K t a b
blanks_moves g f x = piece_moves g (span_le x.blanks) x.inside (λ u h. span_local h (omega arith) x.blanks)
    (λ m u c n h l s q. span_same x.blanks x.over s (f.free_of c m u q) h l)

space_moves : {K : Claim} {t : List ℕ} {a b : ℕ} → Good K → Avoids is_space K → Of is_space t a → BlanksRead t (suc a) b → Moves (SpaceThen K) K t a b
space_moves g f o x = piece_moves g (omega (arith, span_le x.blanks)) x.inside
    (λ u h. record { start = of_local h (omega (arith, span_le x.blanks)) o; rest = span_local h (omega arith) x.blanks })
    (λ m u c n h l s q. span_same x.blanks x.over s.rest (f.free_of c m u q) h l)

pub space_reads : {K : Claim} {t : List ℕ} {a : ℕ} → Good K → Avoids is_space K → a ≤ length t → (r : Result ℕ Stop) → SpaceRead t a r → Reads (SpaceThen K) K t a r
space_reads g f l (Ok e) x = got (space_moves g f x.0 x.1)
space_reads {t = t} {a = a} g f l (Err (Bad k)) x = rw x.0 (stuck_here (good_space g) t a l (λ u h p. x.1 (of_local (agree_sym h) (omega arith) p.piece.start)))
space_reads g f l (Err (Over k)) x = absurd x

-- one byte of a class, or none
pub good_maybe : {K : Claim} (class : ℕ → Bool) → Good K → Good (MaybeThen class K)
good_maybe class g = good_piece (λ u a b s. le s) (record { word = []; is = λ u a b l. nothing l }) g
  where
    le : {u : List ℕ} {a b : ℕ} → Maybe class u a b → a ≤ b
    le (one o) = omega arith
    le none = omega arith

    nothing : {u : List ℕ} {a b : ℕ} → Literal u [] a b → Maybe class u a b
    nothing done = none

pub maybe_moves : {class : ℕ → Bool} {K : Claim} {t : List ℕ} {a b : ℕ} → Good K → Avoids class K → a ≤ length t → MaybeRead class t a b → Moves (MaybeThen class K) K t a b
maybe_moves {class} {K} {t} g f i (taken {a} o) = piece_moves g (omega arith) o.within (λ u h. one (of_local h (omega arith) o)) (λ m u c n h l s q. only m u n h l s q)
  where
    only : (m : Mode) (u : List ℕ) {c : ℕ} (n : ℕ) → Agree t u n → (suc a < n) ⊎ (c < n) → Maybe class u a c → K c m u → suc a ≡ c
    only m u n h l (one p) q = refl
    only m u n h l none q = absurd (f.free_of a m u q (of_local h (elim l [ inl x ↦ omega arith | inr x ↦ x ]) o))
maybe_moves {class} {K} {t} g f i (left {a} o) = piece_moves g (omega arith) i (λ u h. none) (λ m u c n h l s q. only m u n h l s q)
  where
    only : (m : Mode) (u : List ℕ) {c : ℕ} (n : ℕ) → Agree t u n → (a < n) ⊎ (c < n) → Maybe class u a c → K c m u → a ≡ c
    only m u n h l (one p) q = absurd (o (of_local (agree_sym h) (elim l [ inl x ↦ x | inr x ↦ omega arith ]) p))
    only m u n h l none q = refl

-- names
pub span_in : {class : ℕ → Bool} {t : List ℕ} {a b : ℕ} → Span class t a b → a ≤ length t → b ≤ length t
span_in stop l = l
span_in (go_on o s) l = span_in s o.within

-- a span that nothing of its class follows is at least as long as one of a text that agrees
span_longer : {class : ℕ → Bool} {t u : List ℕ} {a b c n : ℕ} → Span class t a b → Span class u a c → ¬ Of class u c → Agree t u n → c < n → b ≤ c
span_longer stop r g h l = span_le r
span_longer (go_on o s) stop g h l = absurd (g (of_local h l o))
span_longer (go_on o s) (go_on p r) g h l = span_longer s r g h l

pub name_lt : {u x : List ℕ} {a b : ℕ} → Name u a b x → a < b
name_lt y = span_le y.rest

pub name_size : {u x : List ℕ} {a b : ℕ} → Name u a b x → length x + a ≡ b
name_size {u} {x} {a} {b} y =
    let i = span_in y.rest y.start.within in
    let e = ap {A = List ℕ} length y.is in
    omega (arith, length-slice a b u i, name_lt y)

pub good_name : {K : Claim} → Good K → Good (NameThen K)
good_name g = good_then (λ u a b x y. omega (arith, name_lt y)) (λ u a b x j n y l. omega (arith, l.1)) (record { word = ascii "a"; is = λ u a b l. letter l }) g
  where
    letter : {u : List ℕ} {a b : ℕ} → Literal u (ascii "a") a b → (x : List ℕ) × Name u a b x
    letter {u} {a} {b} (byte g done) = (slice a b u, record { is = refl; start = record { within = g.within; is = ap is_name_start g.is }; rest = stop })

module _ {K : Claim} {t : List ℕ} {a : ℕ} (g : Good K) (f : Avoids is_name_byte K) where
  name_got : {e : ℕ} → NameGot t a e → Moves (NameThen K) K t a e
  name_got {e} x = record {
    from = omega (arith, span_le x.rest);
    inside = x.inside;
    up = λ m u h q. record { end = e; tree = slice a e u; piece = local u h; rest = behind_it q };
    down = λ m u h p. into m u h p.piece p.rest;
    free = record { none = λ j n l k u h p. low j n l k u h p.piece p.rest };
  }
    where
      local : (u : List ℕ) → Agree t u e → Name u a e (slice a e u)
      local u h = record { is = refl; start = of_local h (span_le x.rest) x.start; rest = span_local h (omega arith) x.rest }

      same : (m : Mode) (u : List ℕ) (n : ℕ) {b : ℕ} {y : List ℕ} → Agree t u n → (e < n) ⊎ (b < n) → Name u a b y → K b m u → e ≡ b
      same m u n {b} h l y q = span_same x.rest x.over y.rest (f.free_of b m u q) h l

      into : (m : Mode) (u : List ℕ) → Agree t u (suc e) → {b : ℕ} {y : List ℕ} → Name u a b y → With (LongAt a y) (λ o. K b o u) m → K e m u
      into m u h {b} y (behind_it q) = let z = same m u (suc e) h (inl (omega arith)) y q in rw (sym z) at q
      into m u h {b} y (in_it q l) = absurd (let z = same plain u (suc e) h (inl (omega arith)) y q in omega (arith, x.short, name_size y, l.0))

      low : (j n : ℕ) → j < e → j < n → (u : List ℕ) → Agree t u n → {b : ℕ} {y : List ℕ} → Name u a b y → With (LongAt a y) (λ o. K b o u) (limit j n) → ⊥
      low j n l k u h {b} y (behind_it q) = let w = g.behind b j n u q in let z = same (limit j n) u n h (inr (omega arith)) y q in omega arith
      low j n l k u h y (in_it q w) = omega (arith, x.short, w.1)

  name_long : {k : ℕ} → NameLong t a k → Reads (NameThen K) K t a (Err (Over k))
  name_long {k} x = over {k = k} (exceeds_by g t a k (suc k) (omega (arith, x.long)) (omega arith) x.goes_on.within passes) (record { none = λ j n l o u h p. low j n l o u h p.piece p.rest })
    where
      passes : (u : List ℕ) → Agree t u (suc k) → K (suc k) plain u → NameThen K a (limit k (suc k)) u
      passes u h q =
          let y : Name u a (suc k) (slice a (suc k) u) = record { is = refl; start = of_local h (omega (arith, x.long)) x.start; rest = span_local h (omega arith) (span_more x.rest x.goes_on) } in
          record { end = suc k; tree = slice a (suc k) u; piece = y; rest = in_it q (omega (arith, name_size y, x.long), x.long, refl) }
        where
          span_more : {class : ℕ → Bool} {t : List ℕ} {a b : ℕ} → Span class t a b → Of class t b → Span class t a (suc b)
          span_more stop o = go_on o stop
          span_more (go_on p s) o = go_on p (span_more s o)

      low : (j n : ℕ) → j < k → j < n → (u : List ℕ) → Agree t u n → {b : ℕ} {y : List ℕ} → Name u a b y → With (LongAt a y) (λ o. K b o u) (limit j n) → ⊥
      low j n l o u h {b} y (behind_it q) = let w = g.behind b j n u q in let z = span_longer x.rest y.rest (f.free_of b (limit j n) u q) h (omega arith) in omega arith
      low j n l o u h y (in_it q w) = omega (arith, x.long, w.1)

  pub name_reads : a ≤ length t → (r : Result ℕ Stop) → NameRead t a r → Reads (NameThen K) K t a r
  name_reads l (Ok e) x = got (name_got x)
  name_reads l (Err (Bad k)) x = rw x.0 (stuck_here (good_name g) t a l (λ u h p. x.1 (of_local (agree_sym h) (omega arith) p.piece.start)))
  name_reads l (Err (Over k)) x = name_long x
