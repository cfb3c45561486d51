-- The moves through a comment. Assumes nothing.
use Rattle.std.proofs.Common.{ℕ, suc, ◌≤◌, ◌≡◌, refl, ap, Bool, List, arith, length, Err}
use Prim.Native.Char.{code}
use Rattle.grammar.specs.Bytes.{ascii, is_no_dash, Byte, Of, Literal, byte}
use Rattle.grammar.specs.Grammar.{Remark, ends, no_dash, one_dash}
use Rattle.grammar.proofs.Pieces.{off, literal_start}
use Rattle.scan.specs.Steps.Agree.{Agree}
use Rattle.scan.specs.Steps.Claims.{Mode, Claim, Piece, Or, this, that, LiteralThen, FromItems, FromRemark}
use Rattle.scan.specs.Steps.Moves.{Moves, Reads}
use Rattle.scan.specs.declared.Stop.TheVariants.{Bad}
use Rattle.scan.proofs.Agreeing.{agree_sym, byte_local, of_local}
use Rattle.scan.proofs.Moving.{Good, stuck_here, turn, step, good_piece, good_or}
use Rattle.scan.proofs.Pieces.{good_literal}
use Rattle.scan.proofs.Items.{good_items, good_remark}

-- one byte other than '-'
pub record Other (u : List ℕ) (a b : ℕ) : Type 0 where
  pub is : Of is_no_dash u a
  pub end : b ≡ suc a

-- behind a '-': the comment's end, or another byte and more of the comment
abbrev pub FromDash : Bool → Claim
FromDash seen = Or (LiteralThen (ascii "->") (FromItems seen)) (Piece Other (FromRemark seen))

good_dash : (seen : Bool) → Good (FromDash seen)
good_dash seen = good_or (good_literal (ascii "->") (good_items seen)) (good_piece (λ u a b o. omega (arith, o.end)) (record { word = ascii "a"; is = λ u a b l. letter l }) (good_remark seen))
  where
    letter : {u : List ℕ} {a b : ℕ} → Literal u (ascii "a") a b → Other u a b
    letter (byte g Literal.done) = record { is = record { within = g.within; is = ap is_no_dash g.is }; end = refl }

module _ (seen : Bool) {t : List ℕ} {a : ℕ} where
  pub remark_skips : Of is_no_dash t a → Moves (FromRemark seen) (FromRemark seen) t a (suc a)
  remark_skips o = step (good_remark seen) (good_remark seen) o.within
      (λ m u h q. record { end = q.end; piece = no_dash (of_local h (omega arith) o) q.piece; rest = q.rest })
      (λ m u h p. go m u (of_local h (omega arith) o) p.piece p.rest)
    where
      go : (m : Mode) (u : List ℕ) → Of is_no_dash u a → {b : ℕ} → Remark u a b → FromItems seen b m u → FromRemark seen (suc a) m u
      go m u n (ends l) q = absurd (off (literal_start l) refl n)
      go m u n (no_dash d r) q = record { end = _; piece = r; rest = q }
      go m u n (one_dash g d r) q = absurd (off g refl n)

  pub remark_dash : Byte t a (code "-") → Moves (FromRemark seen) (FromDash seen) t a (suc a)
  remark_dash b = step (good_remark seen) (good_dash seen) b.within
      (λ m u h q. into m u (byte_local h (omega arith) b) q)
      (λ m u h p. go m u (byte_local h (omega arith) b) p.piece p.rest)
    where
      other : (m : Mode) (u : List ℕ) → Byte u a (code "-") → {c : ℕ} → Of is_no_dash u (suc a) → c ≡ suc (suc a) → FromRemark seen c m u → FromRemark seen a m u
      other m u g o e q = record { end = q.end; piece = one_dash g o (rw e at q.piece); rest = q.rest }

      into : (m : Mode) (u : List ℕ) → Byte u a (code "-") → FromDash seen (suc a) m u → FromRemark seen a m u
      into m u g (this q) = record { end = q.end; piece = ends (byte g q.piece); rest = q.rest }
      into m u g (that q) = other m u g q.piece.is q.piece.end q.rest

      go : (m : Mode) (u : List ℕ) → Byte u a (code "-") → {c : ℕ} → Remark u a c → FromItems seen c m u → FromDash seen (suc a) m u
      go m u g (ends (byte h l)) q = this (record { end = _; piece = l; rest = q })
      go m u g (no_dash o r) q = absurd (off g refl o)
      go m u g (one_dash h o r) q = that (record { end = suc (suc a); piece = record { is = o; end = refl }; rest = record { end = _; piece = r; rest = q } })

  pub remark_stuck : {Q : Claim} → a ≤ length t → ¬ Of is_no_dash t a → ¬ Byte t a (code "-") → Reads (FromRemark seen) Q t a (Err (Bad a))
  remark_stuck l f g = stuck_here (good_remark seen) t a l (λ u h p. go u h p.piece)
    where
      go : (u : List ℕ) → Agree t u (suc a) → {b : ℕ} → Remark u a b → ⊥
      go u h (ends k) = g (byte_local (agree_sym h) (omega arith) (literal_start k))
      go u h (no_dash o r) = f (of_local (agree_sym h) (omega arith) o)
      go u h (one_dash b o r) = g (byte_local (agree_sym h) (omega arith) b)

  -- behind a '-'
  pub dash_skips : Of is_no_dash t a → Moves (FromDash seen) (FromRemark seen) t a (suc a)
  dash_skips o = step (good_dash seen) (good_remark seen) o.within
      (λ m u h q. that (record { end = suc a; piece = record { is = of_local h (omega arith) o; end = refl }; rest = q }))
      (λ m u h p. go m u (of_local h (omega arith) o) p)
    where
      go : (m : Mode) (u : List ℕ) → Of is_no_dash u a → FromDash seen a m u → FromRemark seen (suc a) m u
      go m u n (this p) = absurd (off (literal_start p.piece) refl n)
      go m u n (that p) = let e = p.piece.end in rw e at p.rest

  pub dash_ends : a ≤ length t → ¬ Of is_no_dash t a → Moves (FromDash seen) (LiteralThen (ascii "->") (FromItems seen)) t a a
  dash_ends l f = turn (good_dash seen) l (λ m u h q. this q) (λ m u h p. go m u h p)
    where
      go : (m : Mode) (u : List ℕ) → Agree t u (suc a) → FromDash seen a m u → LiteralThen (ascii "->") (FromItems seen) a m u
      go m u h (this p) = p
      go m u h (that p) = absurd (f (of_local (agree_sym h) (omega arith) p.piece.is))
