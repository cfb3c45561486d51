-- The names that a content uses, gone through one by one: the first that is never declared is the lowest. Assumes nothing.
use Rattle.std.proofs.Common.{ℕ, suc, ◌≤◌, ◌<◌, ◌≡◌, refl, List, [], ◌∷◌, arith, length}
use Prim.Native.Char.{code}
use Rattle.grammar.specs.Bytes.{is_name_start, is_name_byte, Byte, Of, Span, stop, go_on}
use Rattle.grammar.specs.Tree.{Use, Declaration, Nth, first, later}
use Rattle.grammar.specs.Grammar.{Name}
use Rattle.grammar.proofs.Pieces.{off}
use Rattle.scan.proofs.Agreeing.{span_le}
use Rattle.model.specs.Tables.{number_of}
use Rattle.std.proofs.Common.{Option, Some, None}
use Rattle.names.specs.Steps.Walk.{NameAt}
use Rattle.names.specs.Steps.Pieces.{NameEnd}
use Rattle.names.specs.Steps.Names.{NumberRead}
use Rattle.names.specs.Steps.Uses.{Flat, at_end, no_use, a_use}
use Rattle.names.specs.Steps.Wrong.{Counted, Lowest, Unknown, UnknownRead}
use Rattle.names.proofs.Spans.{start_byte, name_span, ends_there}
use Rattle.names.proofs.Flats.{flat_le, flat_within}
use Rattle.names.proofs.Nths.{nth_below}

pub lowest_as : {P Q : ℕ → Type 0} → ((k : ℕ) → P k → Q k) → ((k : ℕ) → Q k → P k) → (r : Option ℕ) → Lowest P r → Lowest Q r
lowest_as f g (Some k) x = (f k x.0, λ j l q. x.1 j l (g j q))
lowest_as f g None x = λ j q. x j (g j q)

-- a name at a place moves the reader on
pub name_end_past : {t : List ℕ} {a e : ℕ} → Of is_name_start t a → NameEnd t a e → a < e
name_end_past o x = go o x.bytes x.over
  where
    go : {t : List ℕ} {a e : ℕ} → Of is_name_start t a → Span is_name_byte t a e → ¬ Of is_name_byte t e → a < e
    go o stop f = absurd (f (start_byte o))
    go o (go_on p s) f = span_le s

no_unknown : {number : List ℕ → ℕ} {declared k : ℕ} → Unknown number declared [] k → ⊥
no_unknown x = omega (arith, nth_below x.there)

-- the first used name is declared, or it is the one
module _ {number : List ℕ → ℕ} {declared : ℕ} {u : Use} {us : List Use} where
  unknown_later : (k : ℕ) → Unknown number declared us k → Unknown number declared (u ∷ us) k
  unknown_later k x = record { index = suc x.index; used = x.used; there = later x.there; high = x.high; is = x.is }

  unknown_back : number u.bytes < declared → (k : ℕ) → Unknown number declared (u ∷ us) k → Unknown number declared us k
  unknown_back h k x = go x.there x.high x.is
    where
      go : {j : ℕ} {v : Use} → Nth (u ∷ us) j v → declared ≤ number v.bytes → v.place ≡ k → Unknown number declared us k
      go first l e = absurd (omega arith)
      go (later {a = v} {i = i} m) l e = record { index = i; used = v; there = m; high = l; is = e }

name_at : {t n : List ℕ} {a b : ℕ} → Name t a b n → ¬ Of is_name_byte t b → NameAt t a n
name_at {b = b} n f = record { end = b; is_name = n; over = f }

module _ {t list : List ℕ} {count i : ℕ} where
  pub unknown_over : length t ≤ i → UnknownRead t list count i None
  unknown_over l = record { of = λ ds us c f g x. absurd (omega (arith, flat_le f, g.within)) }

  pub unknown_none : Byte t i (code ">") → UnknownRead t list count i None
  unknown_none b = record { of = λ ds us c f g x. go ds us c f }
    where
      go : (ds : List Declaration) (us : List Use) (c : ℕ) → Flat t i c us → (j : ℕ) → ¬ Unknown (number_of ds) count us j
      go ds [] c at_end j x = no_unknown x
      go ds us c (no_use f g r) j x = g b
      go ds (u ∷ us) c (a_use e n f r) j x = off b refl n.start

  pub unknown_skip : ¬ Byte t i (code ">") → ¬ Of is_name_start t i → (r : Option ℕ) → UnknownRead t list count (suc i) r
      → UnknownRead t list count i r
  unknown_skip b o r y = record { of = λ ds us c f g x. y.of ds us c (go f g) g x }
    where
      go : {us : List Use} {c : ℕ} → Flat t i c us → Byte t c (code ">") → Flat t (suc i) c us
      go at_end g = absurd (b g)
      go (no_use p q f) g = f
      go (a_use e n p f) g = absurd (o n.start)

  module _ (b : ¬ Byte t i (code ">")) (o : Of is_name_start t i) where
    pub unknown_hit : {n : ℕ} → NumberRead t list count i n → count ≤ n → UnknownRead t list count i (Some i)
    unknown_hit {n} m l = record { of = λ ds us c f g x. (go ds f g x, λ j h y. omega (arith, low f y)) }
      where
        go : {us : List Use} {c : ℕ} (ds : List Declaration) → Flat t i c us → Byte t c (code ">") → Counted t ds list count
            → Unknown (number_of ds) count us i
        go ds at_end g x = absurd (b g)
        go ds (no_use p q f) g x = absurd (p o)
        go ds (a_use {u = u} e k p f) g x =
            let z = m.of ds u.bytes x.size x.few x.listed (name_at k p) in
            record { index = 0; used = u; there = first; high = omega arith; is = e }

        low : {us : List Use} {c j : ℕ} {number : List ℕ → ℕ} → Flat t i c us → Unknown number count us j → i ≤ j
        low f y = omega (arith, (flat_within f y.there).0, y.is)

    pub unknown_past : {n e : ℕ} → NumberRead t list count i n → n < count → NameEnd t i e → (r : Option ℕ) → UnknownRead t list count e r
        → UnknownRead t list count i r
    unknown_past {n} {e} m l w r y = record { of = λ ds us c f g x. go ds f g x }
      where
        go : {us : List Use} {c : ℕ} (ds : List Declaration) → Flat t i c us → Byte t c (code ">") → Counted t ds list count
            → Lowest (Unknown (number_of ds) count us) r
        go ds at_end g x = absurd (b g)
        go ds (no_use p q f) g x = absurd (p o)
        go {c = c} ds (a_use {u = u} {us = us} d k p f) g x =
            let z = m.of ds u.bytes x.size x.few x.listed (name_at k p) in
            let q = ends_there w (name_span k) p in
            lowest_as unknown_later (unknown_back (omega arith)) r (y.of ds us c (rw q at f) g x)
