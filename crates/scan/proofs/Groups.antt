-- Particles, choices and sequences: the moves from a particle into its group, from one particle of a row to the next, and to its `)`. Assumes nothing.
use Rattle.std.proofs.Common.{ℕ, zero, suc, ◌≤◌, ◌≡◌, refl, ap, inl, inr, Bool, true, false, ◌||◌, List, [], ◌∷◌, arith, eqb, eqb→eq, length, get_or, Err}
use Prim.Native.Char.{code}
use Rattle.std.proofs.Math.Seq.{slice}
use Rattle.grammar.specs.Bytes.{ascii, is_space, is_name_start, is_mark, Byte, Of, stop, Literal, done, byte}
use Rattle.grammar.specs.Tree.{Mark, Particle, Particles, name, choice, sequence, last, more}
use Rattle.grammar.specs.Grammar.{Blanks, Name, MarkAt, no_mark, question, asterisk, plus, Cp, cp_name, cp_group, Children, as_choice, as_sequence, Row, closed, separated}
use Rattle.grammar.proofs.Pieces.{true_false, clash, off}
use Rattle.grammar.proofs.Unique.{Separator, row_no_space}
use Rattle.scan.specs.Steps.Agree.{Agree}
use Rattle.scan.specs.Steps.Claims.{Mode, plain, limit, Claim, With, behind_it, in_it, this, that, LiteralThen, BlanksThen, Maybe, one, none, MaybeThen, LongAt, NameThen}
use Rattle.scan.specs.Steps.Claims.{WideAt, WideIn, ParticleThen, RowThen, Inside, of_choice, of_sequence, InsideThen, Closing, Opening}
use Rattle.scan.specs.Steps.Moves.{Moves, Reads, over}
use Rattle.scan.specs.declared.Stop.TheVariants.{Over}
use Rattle.scan.proofs.Agreeing.{agree_sym, byte_local}
use Rattle.scan.proofs.Moving.{Good, free_before, exceeds_by, turn, step, with_map, with_two, then_map, good_then, good_or, Avoids, avoids_or}
use Rattle.scan.proofs.Pieces.{good_literal, avoids_literal, good_blanks, good_maybe}
use Rattle.scan.proofs.Orders.{cp_lt, row_lt, inside_lt, cp_low, row_low, inside_low}

-- a mark is one byte of its class, or none
pub mark_maybe : {u : List ℕ} {a b : ℕ} {k : Mark} → MarkAt u a b k → Maybe is_mark u a b
mark_maybe no_mark = none
mark_maybe (question g) = one (record { within = g.within; is = ap is_mark g.is })
mark_maybe (asterisk g) = one (record { within = g.within; is = ap is_mark g.is })
mark_maybe (plus g) = one (record { within = g.within; is = ap is_mark g.is })

pub maybe_mark : {u : List ℕ} {a b : ℕ} → Maybe is_mark u a b → (k : Mark) × MarkAt u a b k
maybe_mark none = (Mark.once, no_mark)
maybe_mark {u} (one {a} o) = which (eqb b (code "?")) refl (eqb b (code "*")) refl (eqb b (code "+")) refl o.is
  where
    b : ℕ
    b = get_or u a 0

    there : (c : ℕ) → eqb b c ≡ true → Byte u a c
    there c h = record { within = o.within; is = eqb→eq b c (rw h tt) }

    which : (x : Bool) → eqb b (code "?") ≡ x → (y : Bool) → eqb b (code "*") ≡ y → (z : Bool) → eqb b (code "+") ≡ z → (x || (y || (z || false))) ≡ true → (k : Mark) × MarkAt u a (suc a) k
    which true p y q z r h = (Mark.maybe, question (there (code "?") p))
    which false p true q z r h = (Mark.any, asterisk (there (code "*") q))
    which false p false q true r h = (Mark.several, plus (there (code "+") r))
    which false p false q false r h = absurd (true_false h refl)

-- words that are particles
name_a : {u : List ℕ} {a : ℕ} → Byte u a (code "a") → Cp u a (suc a) (name a (slice a (suc a) u) Mark.once)
name_a g = cp_name (record { is = refl; start = record { within = g.within; is = ap is_name_start g.is }; rest = stop }) no_mark

row_a : (s : ℕ) {u : List ℕ} {a b : ℕ} → Literal u (ascii "a)") a b → (ps : Particles) × Row u s a b ps
row_a s (byte g (byte h done)) = (last _, closed (name_a g) stop h)

-- claims can go on
pub good_particle : {K : Claim} (depth : ℕ) → Good K → Good (ParticleThen depth K)
good_particle depth g = good_then (λ u a b p c. omega (arith, cp_lt c)) (λ u a b p j n c w. cp_low c depth j n w) (record { word = ascii "a"; is = λ u a b l. letter l }) g
  where
    letter : {u : List ℕ} {a b : ℕ} → Literal u (ascii "a") a b → (p : Particle) × Cp u a b p
    letter (byte g done) = (name _ _ _, name_a g)

pub good_row : {K : Claim} (s depth : ℕ) → Good K → Good (RowThen s depth K)
good_row s depth g = good_then (λ u a b p c. omega (arith, row_lt c)) (λ u a b p j n c w. row_low c depth j n w) (record { word = ascii "a)"; is = λ u a b l. row_a s l }) g

pub good_inside : {K : Claim} (depth : ℕ) → Good K → Good (InsideThen depth K)
good_inside depth g = good_then (λ u a b p c. omega (arith, inside_lt c)) (λ u a b p j n c w. inside_low c depth j n w) (record { word = ascii "a)"; is = λ u a b l. (let r = row_a (code ",") l in (r.0, of_sequence r.1)) }) g

pub good_closing : {K : Claim} (s depth : ℕ) → Good K → Good (Closing s depth K)
good_closing s depth g = good_or (good_literal (ascii ")") g) (good_literal (s ∷ []) (good_blanks (good_row s depth g)))

pub good_opening : {K : Claim} (depth : ℕ) → Good K → Good (Opening depth K)
good_opening depth g = good_or (good_closing (code "|") depth g) (good_closing (code ",") depth g)

-- where they begin
pub row_tight : {K : Claim} (s depth : ℕ) → Avoids is_space (RowThen s depth K)
row_tight s depth = record { free_of = λ a m u p. row_no_space p.piece }

pub inside_tight : {K : Claim} (depth : ℕ) → Avoids is_space (InsideThen depth K)
inside_tight depth = record { free_of = λ a m u p. go p.piece }
  where
    go : {u : List ℕ} {a b : ℕ} {ps : Particles} → Inside u a b ps → ¬ Of is_space u a
    go (of_choice r) = row_no_space r
    go (of_sequence r) = row_no_space r

pub avoids_closing : {class : ℕ → Bool} {K : Claim} (s depth : ℕ) → class (code ")") ≡ false → class s ≡ false → Avoids class (Closing s depth K)
avoids_closing s depth e f = avoids_or (avoids_literal e) (avoids_literal f)

pub avoids_opening : {class : ℕ → Bool} {K : Claim} (depth : ℕ) → class (code ")") ≡ false → class (code "|") ≡ false → class (code ",") ≡ false → Avoids class (Opening depth K)
avoids_opening depth e f g = avoids_or (avoids_closing (code "|") depth e f) (avoids_closing (code ",") depth e g)

-- a particle that is no group is a name and its mark
pub as_name : {K : Claim} {t : List ℕ} {a : ℕ} (depth : ℕ) → Good K → a ≤ length t → ¬ Byte t a (code "(") → Moves (ParticleThen depth K) (NameThen (MaybeThen is_mark K)) t a a
as_name {K} {t} {a} depth g l f = turn (good_particle depth g) l (λ m u h q. up m u q.piece q.rest) (λ m u h p. down m u h p.piece p.rest)
  where
    up : (m : Mode) (u : List ℕ) {b : ℕ} {x : List ℕ} → Name u a b x → With (LongAt a x) (λ o. MaybeThen is_mark K b o u) m → ParticleThen depth K a m u
    up m u {b} {x} n (behind_it q) = let k = maybe_mark q.piece in record { end = q.end; tree = name a x k.0; piece = cp_name n k.1; rest = behind_it q.rest }
    up m u {b} {x} n (in_it q l) = let k = maybe_mark q.piece in record { end = q.end; tree = name a x k.0; piece = cp_name n k.1; rest = in_it q.rest l }

    no_group : (u : List ℕ) → Agree t u (suc a) → {b : ℕ} {p : Particle} → Children u a b p → ⊥
    no_group u h (as_choice x s r k) = f (byte_local (agree_sym h) (omega arith) x)
    no_group u h (as_sequence x s r k) = f (byte_local (agree_sym h) (omega arith) x)

    down : (m : Mode) (u : List ℕ) → Agree t u (suc a) → {b : ℕ} {p : Particle} → Cp u a b p → With (WideAt depth p) (λ o. K b o u) m → NameThen (MaybeThen is_mark K) a m u
    down m u h {b = c} (cp_name {b = b} {n = x} n k) w = record { end = b; tree = x; piece = n; rest = with_map (λ o q. record { end = c; piece = mark_maybe k; rest = q }) (λ j n l. l) w }
    down m u h (cp_group c) w = absurd (no_group u h c)

-- a group around these particles
record Grouped (u : List ℕ) (a d : ℕ) (ps : Particles) : Type 0 where
  tree : Particle
  piece : Cp u a d tree
  wide : (depth j n : ℕ) → WideIn depth ps j n → WideAt (suc depth) tree j n
  deep : WideAt zero tree a (suc a)

grouped : {u : List ℕ} {a b c d : ℕ} {ps : Particles} → Byte u a (code "(") → Blanks u (suc a) b → Inside u b c ps → Maybe is_mark u c d → Grouped u a d ps
grouped {a = a} g s (of_choice {p} {ps} r) k = let m = maybe_mark k in record { tree = choice a (more p ps) m.0; piece = cp_group (as_choice g s r m.1); wide = λ depth j n w. w; deep = inl (refl, refl) }
grouped {a = a} g s (of_sequence {ps} r) k = let m = maybe_mark k in record { tree = sequence a ps m.0; piece = cp_group (as_sequence g s r m.1); wide = λ depth j n w. w; deep = inl (refl, refl) }

-- a group: its `(`, white space and its inside
pub into_group : {K : Claim} {t : List ℕ} {a : ℕ} (depth : ℕ) → Good K → Byte t a (code "(") → Moves (ParticleThen (suc depth) K) (BlanksThen (InsideThen depth (MaybeThen is_mark K))) t a (suc a)
into_group {K} {t} {a} depth g b = step (good_particle (suc depth) g) (good_blanks (good_inside depth (good_maybe is_mark g))) b.within
    (λ m u h q. up m u (byte_local h (omega arith) b) q.piece q.rest.piece q.rest.rest)
    (λ m u h p. down m u (byte_local h (omega arith) b) p.piece p.rest)
  where
    up : (m : Mode) (u : List ℕ) → Byte u a (code "(") → {b c : ℕ} {ps : Particles} → Blanks u (suc a) b → Inside u b c ps → With (WideIn depth ps) (λ o. MaybeThen is_mark K c o u) m → ParticleThen (suc depth) K a m u
    up m u h s i (behind_it q) = let x = grouped h s i q.piece in record { end = q.end; tree = x.tree; piece = x.piece; rest = behind_it q.rest }
    up m u h s i (in_it {j} {n} q w) = let x = grouped h s i q.piece in record { end = q.end; tree = x.tree; piece = x.piece; rest = in_it q.rest (x.wide depth j n w) }

    marked : (u : List ℕ) {c d : ℕ} {k : Mark} → MarkAt u c d k → (o : Mode) → K d o u → MaybeThen is_mark K c o u
    marked u {c} {d} k o q = record { end = d; piece = mark_maybe k; rest = q }

    children : (m : Mode) (u : List ℕ) {d : ℕ} {p : Particle} → Children u a d p → With (WideAt (suc depth) p) (λ o. K d o u) m → BlanksThen (InsideThen depth (MaybeThen is_mark K)) (suc a) m u
    children m u (as_choice {b = b} {c = c} {p = p} {ps = ps} h s r k) w = record { end = b; piece = s; rest = record { end = c; tree = more p ps; piece = of_choice r; rest = with_map (marked u k) (λ j n l. l) w } }
    children m u (as_sequence {b = b} {c = c} {ps = ps} h s r k) w = record { end = b; piece = s; rest = record { end = c; tree = ps; piece = of_sequence r; rest = with_map (marked u k) (λ j n l. l) w } }

    down : (m : Mode) (u : List ℕ) → Byte u a (code "(") → {d : ℕ} {p : Particle} → Cp u a d p → With (WideAt (suc depth) p) (λ o. K d o u) m → BlanksThen (InsideThen depth (MaybeThen is_mark K)) (suc a) m u
    down m u h (cp_name n k) w = absurd (off h refl n.start)
    down m u h (cp_group c) w = children m u c w

-- a group where none is allowed
pub too_deep : {K Q : Claim} {t : List ℕ} {a : ℕ} → Good K → Byte t a (code "(") → Reads (ParticleThen zero K) Q t a (Err (Over a))
too_deep {K} {Q} {t} {a} g b = over {k = a} (exceeds_by (good_inside zero (good_maybe is_mark g)) t a a (suc a) (omega arith) (omega arith) b.within (λ u h q. passes u (byte_local h (omega arith) b) q.piece q.rest)) (free_before (good_particle zero g) t a)
  where
    passes : (u : List ℕ) → Byte u a (code "(") → {c : ℕ} {ps : Particles} → Inside u (suc a) c ps → With (WideIn zero ps) (λ o. MaybeThen is_mark K c o u) plain → ParticleThen zero K a (limit a (suc a)) u
    passes u h i (behind_it q) = let x = grouped h stop i q.piece in record { end = q.end; tree = x.tree; piece = x.piece; rest = in_it q.rest x.deep }

-- a row, once its first particle is known: what it still holds, and the limits of that
abbrev WideBehind : ℕ → Particles → ℕ → ℕ → Type 0
WideBehind depth (last p) j n = ⊥
WideBehind depth (more p ps) j n = WideIn depth ps j n

abbrev first_of : Particles → Particle
first_of (last p) = p
first_of (more p ps) = p

record Behind (K : Claim) (s depth a : ℕ) (p : Particle) (m : Mode) (u : List ℕ) : Type 0 where
  end : ℕ
  trees : Particles
  piece : Row u s a end trees
  headed : first_of trees ≡ p
  rest : With (WideBehind depth trees) (λ o. K end o u) m

row_behind : {K : Claim} {s depth a b : ℕ} {p : Particle} {u : List ℕ} (m : Mode) → Cp u a b p → BlanksThen (Closing s depth K) b m u → Behind K s depth a p m u
row_behind {K} {s} {depth} {a} {b} {p} {u} m c q = go q.piece q.rest
  where
    ended : {e f : ℕ} → Blanks u b e → Literal u (ascii ")") e f → K f m u → Behind K s depth a p m u
    ended w (byte g done) k = record { end = suc _; trees = last p; piece = closed c w g; headed = refl; rest = behind_it k }

    again : {e f : ℕ} → Blanks u b e → Literal u (s ∷ []) e f → BlanksThen (RowThen s depth K) f m u → Behind K s depth a p m u
    again w (byte g done) k = record { end = k.rest.end; trees = more p k.rest.tree; piece = separated c w g k.piece k.rest.piece; headed = refl; rest = k.rest.rest }

    go : {e : ℕ} → Blanks u b e → Closing s depth K e m u → Behind K s depth a p m u
    go w (this k) = ended w k.piece k.rest
    go w (that k) = again w k.piece k.rest

first_wide : (depth : ℕ) (ps : Particles) (p : Particle) (j n : ℕ) → first_of ps ≡ p → WideAt depth p j n → WideIn depth ps j n
first_wide depth (last p) q j n e w = rw e w
first_wide depth (more p ps) q j n e w = inl (rw e w)

rest_wide : (depth : ℕ) (ps : Particles) (j n : ℕ) → WideBehind depth ps j n → WideIn depth ps j n
rest_wide depth (last p) j n w = absurd w
rest_wide depth (more p ps) j n w = inr w

-- a row is its first particle and what follows it
row_up : {K : Claim} {s depth a : ℕ} {m : Mode} {u : List ℕ} → ParticleThen depth (BlanksThen (Closing s depth K)) a m u → RowThen s depth K a m u
row_up {K} {s} {depth} {a} {m} {u} p = go m p.piece p.rest
  where
    go : {b : ℕ} {x : Particle} (m : Mode) → Cp u a b x → With (WideAt depth x) (λ o. BlanksThen (Closing s depth K) b o u) m → RowThen s depth K a m u
    go m c (behind_it q) = let r = row_behind m c q in record { end = r.end; tree = r.trees; piece = r.piece; rest = with_map (λ o k. k) (rest_wide depth r.trees) r.rest }
    go {x = x} m c (in_it {j} {n} q w) = let r = row_behind plain c q in record { end = r.end; tree = r.trees; piece = r.piece; rest = at_last r.rest (first_wide depth r.trees x j n r.headed w) }
      where
        at_last : {L M : ℕ → ℕ → Type 0} {P : Mode → Type 0} {j n : ℕ} → With L P plain → M j n → With M P (limit j n)
        at_last (behind_it x) l = in_it x l

row_down : {K : Claim} {s depth a : ℕ} {m : Mode} {u : List ℕ} → RowThen s depth K a m u → ParticleThen depth (BlanksThen (Closing s depth K)) a m u
row_down {K} {s} {depth} {a} {m} {u} p = go p.piece p.rest
  where
    go : {e : ℕ} {ps : Particles} → Row u s a e ps → With (WideIn depth ps) (λ o. K e o u) m → ParticleThen depth (BlanksThen (Closing s depth K)) a m u
    go (closed {b = b} {c = c} {p = x} y w g) k = record { end = b; tree = x; piece = y; rest = with_map (λ o q. record { end = c; piece = w; rest = this (record { end = suc c; piece = byte g done; rest = q }) }) (λ j n l. l) k }
    go {e} (separated {b = b} {c = c} {d = d} {p = x} {ps = ps} y w g v r) k = record {
      end = b;
      tree = x;
      piece = y;
      rest = with_map (λ o q. record { end = c; piece = w; rest = that (record { end = suc c; piece = byte g done; rest = record { end = d; piece = v; rest = record { end = e; tree = ps; piece = r; rest = q } } }) }) (λ j n l. l) (with_two (λ j n l. l) k);
    }

pub row_begins : {K : Claim} {t : List ℕ} {a : ℕ} (s depth : ℕ) → Good K → a ≤ length t → Moves (RowThen s depth K) (ParticleThen depth (BlanksThen (Closing s depth K))) t a a
row_begins s depth g l = turn (good_row s depth g) l (λ m u h q. row_up q) (λ m u h p. row_down p)

-- and so is the inside of a group
inside_of : {u : List ℕ} {a b : ℕ} {ps : Particles} → Row u (code "|") a b ps → Inside u a b ps
inside_of (closed c s g) = of_sequence (closed c s g)
inside_of (separated c s g v r) = of_choice (separated c s g v r)

pub inside_begins : {K : Claim} {t : List ℕ} {a : ℕ} (depth : ℕ) → Good K → a ≤ length t → Moves (InsideThen depth K) (ParticleThen depth (BlanksThen (Opening depth K))) t a a
inside_begins {K} {t} {a} depth g l = turn (good_inside depth g) l (λ m u h q. up m u q.piece q.rest) (λ m u h p. down m u p.piece p.rest)
  where
    of : (s : ℕ) (m : Mode) (u : List ℕ) → ((b : ℕ) (ps : Particles) → Row u s a b ps → Inside u a b ps) → ParticleThen depth (BlanksThen (Closing s depth K)) a m u → InsideThen depth K a m u
    of s m u f p = let r = row_up p in record { end = r.end; tree = r.tree; piece = f r.end r.tree r.piece; rest = r.rest }

    up : (m : Mode) (u : List ℕ) {b : ℕ} {x : Particle} → Cp u a b x → With (WideAt depth x) (λ o. BlanksThen (Opening depth K) b o u) m → InsideThen depth K a m u
    up m u {b} {x} c (behind_it q) = go q.piece q.rest
      where
        go : {e : ℕ} → Blanks u b e → Opening depth K e m u → InsideThen depth K a m u
        go w (this k) = of (code "|") m u (λ e ps r. inside_of r) (record { end = b; tree = x; piece = c; rest = behind_it (record { end = _; piece = w; rest = k }) })
        go w (that k) = of (code ",") m u (λ e ps r. of_sequence r) (record { end = b; tree = x; piece = c; rest = behind_it (record { end = _; piece = w; rest = k }) })
    up m u {b} {x} c (in_it {j} {n} q l) = go q.piece q.rest
      where
        go : {e : ℕ} → Blanks u b e → Opening depth K e plain u → InsideThen depth K a (limit j n) u
        go w (this k) = of (code "|") (limit j n) u (λ e ps r. inside_of r) (record { end = b; tree = x; piece = c; rest = in_it (record { end = _; piece = w; rest = k }) l })
        go w (that k) = of (code ",") (limit j n) u (λ e ps r. of_sequence r) (record { end = b; tree = x; piece = c; rest = in_it (record { end = _; piece = w; rest = k }) l })

    down : (m : Mode) (u : List ℕ) {b : ℕ} {ps : Particles} → Inside u a b ps → With (WideIn depth ps) (λ o. K b o u) m → ParticleThen depth (BlanksThen (Opening depth K)) a m u
    down m u (of_choice r) w = then_map (λ e o q. record { end = q.end; piece = q.piece; rest = this q.rest }) (row_down (record { end = _; tree = _; piece = r; rest = w }))
    down m u (of_sequence r) w = then_map (λ e o q. record { end = q.end; piece = q.piece; rest = that q.rest }) (row_down (record { end = _; tree = _; piece = r; rest = w }))

-- behind a particle and white space
literal_byte : {u : List ℕ} {a b c : ℕ} → Literal u (c ∷ []) a b → Byte u a c
literal_byte (byte g l) = g

module _ {K : Claim} {t : List ℕ} {a : ℕ} (depth : ℕ) (g : Good K) (l : a ≤ length t) where
  pub opens_choice : Byte t a (code "|") → Moves (Opening depth K) (Closing (code "|") depth K) t a a
  opens_choice b = turn (good_opening depth g) l (λ m u h q. this q) (λ m u h p. down m u (byte_local h (omega arith) b) p)
    where
      down : (m : Mode) (u : List ℕ) → Byte u a (code "|") → Opening depth K a m u → Closing (code "|") depth K a m u
      down m u h (this p) = p
      down m u h (that (this p)) = this p
      down m u h (that (that p)) = absurd (let z = clash h (literal_byte p.piece) in omega arith)

  pub opens_sequence : ¬ Byte t a (code "|") → Moves (Opening depth K) (Closing (code ",") depth K) t a a
  opens_sequence f = turn (good_opening depth g) l (λ m u h q. that q) (λ m u h p. down m u h p)
    where
      down : (m : Mode) (u : List ℕ) → Agree t u (suc a) → Opening depth K a m u → Closing (code ",") depth K a m u
      down m u h (this (this p)) = this p
      down m u h (this (that p)) = absurd (f (byte_local (agree_sym h) (omega arith) (literal_byte p.piece)))
      down m u h (that p) = p

  pub closes : (s : ℕ) → ¬ Byte t a s → Moves (Closing s depth K) (LiteralThen (ascii ")") K) t a a
  closes s f = turn (good_closing s depth g) l (λ m u h q. this q) (λ m u h p. down m u h p)
    where
      down : (m : Mode) (u : List ℕ) → Agree t u (suc a) → Closing s depth K a m u → LiteralThen (ascii ")") K a m u
      down m u h (this p) = p
      down m u h (that p) = absurd (f (byte_local (agree_sym h) (omega arith) (literal_byte p.piece)))

  pub separates : {s : ℕ} → Separator s → Byte t a s → Moves (Closing s depth K) (BlanksThen (RowThen s depth K)) t a (suc a)
  separates {s} x b = step (good_closing s depth g) (good_blanks (good_row s depth g)) b.within (λ m u h q. that (record { end = suc a; piece = byte (byte_local h (omega arith) b) done; rest = q })) (λ m u h p. down m u (byte_local h (omega arith) b) p)
    where
      tail : {m : Mode} {u : List ℕ} {e : ℕ} → Literal u (s ∷ []) a e → BlanksThen (RowThen s depth K) e m u → BlanksThen (RowThen s depth K) (suc a) m u
      tail (byte y done) q = q

      down : (m : Mode) (u : List ℕ) → Byte u a s → Closing s depth K a m u → BlanksThen (RowThen s depth K) (suc a) m u
      down m u h (this p) = absurd (x.open_still (clash h (literal_byte p.piece)))
      down m u h (that p) = tail p.piece p.rest
