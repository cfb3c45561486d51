-- What a declaration holds: EMPTY, ANY, text, mixed content and children. Assumes nothing.
use Rattle.std.proofs.Common.{ℕ, suc, ◌+◌, ◌≤◌, ◌<◌, ◌≡◌, refl, sym, ◌∙◌, ap, inl, inr, List, [], ◌∷◌, arith, eqb→eq, length, get_or, Err}
use Prim.Native.Char.{code}
use Rattle.std.proofs.Math.Seq.{slice}
use Rattle.grammar.specs.Bytes.{ascii, is_space, is_name_start, is_mark, Byte, Of, stop, Literal, done, byte}
use Rattle.grammar.specs.Tree.{Particle, Particles, Use, Content, is-empty, is_text, is_any, is_mixed, is_children}
use Rattle.grammar.specs.Grammar.{Blanks, Children, as_choice, as_sequence, Names, no_name, one_name, Pcdata, Spec, spec_empty, spec_any, spec_text, spec_starred, spec_mixed, spec_children}
use Rattle.grammar.proofs.Pieces.{off, clash, point, literal_start}
use Rattle.grammar.proofs.OneTree.{row_no_number_sign}
use Rattle.scan.specs.Steps.Agree.{peek, Agree}
use Rattle.scan.specs.Steps.Claims.{Mode, plain, limit, Claim, With, behind_it, in_it, Then, this, that, LiteralThen, BlanksThen, Maybe, one, none, MaybeThen}
use Rattle.scan.specs.Steps.Claims.{WideIn, Inside, of_choice, of_sequence, InsideThen, Mixed, mixed, MixedLimit, ContentLimit, SpecThen, is_star, TextThen, GroupThen}
use Rattle.scan.specs.Steps.Moves.{Exceeds, Free, Moves, Reads, bad, over}
use Rattle.scan.specs.Steps.Readers.{Differs, here, later}
use Rattle.scan.specs.declared.Stop.TheVariants.{Bad, Over}
use Rattle.grammar.proofs.Stopping.{le_or_lt}
use Rattle.scan.proofs.Agreeing.{peek_byte, agree_sym, byte_local, span_le, literal_local}
use Rattle.scan.proofs.Moving.{Good, free_before, Goes, goes_on, stuck_here, exceeds_by, turn, step, with_map, with_never, good_then, good_or, Avoids, avoids_or}
use Rattle.scan.proofs.Pieces.{good_literal, avoids_literal, good_blanks, good_maybe, name_lt, word_reads}
use Rattle.scan.proofs.Orders.{names_le, names_low}
use Rattle.scan.proofs.Groups.{good_inside, inside_tight, mark_maybe, maybe_mark}
use Rattle.scan.proofs.Items.{good_spec}

children_open : {t : List ℕ} {a b : ℕ} {p : Particle} → Children t a b p → Byte t a (code "(")
children_open (as_choice g s r m) = g
children_open (as_sequence g s r m) = g

-- what a content begins with
data Begin (u : List ℕ) (a b : ℕ) (x : Content) : Type 0 where
  with_e : Byte u a (code "E") → Literal u (ascii "EMPTY") a b → x ≡ is-empty → Begin u a b x
  with_a : Byte u a (code "A") → Literal u (ascii "ANY") a b → x ≡ is_any a → Begin u a b x
  with_open : Byte u a (code "(") → Begin u a b x

begin : {u : List ℕ} {a b : ℕ} {x : Content} → Spec u a b x → Begin u a b x
begin (spec_empty l) = with_e (literal_start l) l refl
begin (spec_any l) = with_a (literal_start l) l refl
begin (spec_text p s g) = with_open p.open_it
begin (spec_starred p n) = with_open p.open_it
begin (spec_mixed p s g n) = with_open p.open_it
begin (spec_children c) = with_open (children_open c)

any_only : {u : List ℕ} {a e : ℕ} {x : Content} → Byte u a (code "A") → Begin u a e x → Literal u (ascii "ANY") a e × (x ≡ is_any a)
any_only h (with_e c l q) = absurd (let z = clash h c in omega arith)
any_only h (with_a c l q) = (l, q)
any_only h (with_open c) = absurd (let z = clash h c in omega arith)

three : {u : List ℕ} {a e : ℕ} → Literal u (ascii "ANY") a e → e ≡ 3 + a
three (byte x (byte y (byte z done))) = omega arith

differs_le : {t cs : List ℕ} {b k : ℕ} → Differs t cs b k → b ≤ k
differs_le (here l f) = omega arith
differs_le (later c d) = let z = differs_le d in omega arith

differs_not : {t cs : List ℕ} {b c k : ℕ} → Differs t cs b k → Literal t cs b c → ⊥
differs_not (here l f) (byte c r) = f c
differs_not (later b d) (byte c r) = differs_not d r

module _ {K : Claim} {t : List ℕ} {a : ℕ} (g : Good K) where
  pub content_stuck : {Q : Claim} → a ≤ length t → ¬ Byte t a (code "E") → ¬ Byte t a (code "A") → ¬ Byte t a (code "(") → Reads (SpecThen K) Q t a (Err (Bad a))
  content_stuck l e f o = stuck_here (good_spec g) t a l (λ u h p. go u h (begin p.piece))
    where
      back : (u : List ℕ) {c : ℕ} → Agree t u (suc a) → Byte u a c → Byte t a c
      back u h b = byte_local (agree_sym h) (omega arith) b

      go : (u : List ℕ) → Agree t u (suc a) → {b : ℕ} {x : Content} → Begin u a b x → ⊥
      go u h (with_e b l q) = e (back u h b)
      go u h (with_a b l q) = f (back u h b)
      go u h (with_open b) = o (back u h b)

  -- EMPTY
  pub content_empty : Byte t a (code "E") → Moves (SpecThen K) (LiteralThen (ascii "EMPTY") K) t a a
  content_empty b = turn (good_spec g) (omega (arith, b.within)) (λ m u h q. record { end = q.end; tree = is-empty; piece = spec_empty q.piece; rest = behind_it q.rest })
      (λ m u h p. go m u (byte_local h (omega arith) b) (begin p.piece) p.rest)
    where
      go : (m : Mode) (u : List ℕ) → Byte u a (code "E") → {e : ℕ} {x : Content} → Begin u a e x → With (ContentLimit x) (λ o. K e o u) m → LiteralThen (ascii "EMPTY") K a m u
      go m u h {e} {x} (with_e c l q) w = record { end = e; piece = l; rest = with_never (λ j n y. never x j n q y) w }
        where
          never : (x : Content) (j n : ℕ) → x ≡ is-empty → ¬ ContentLimit x j n
          never x j n q y = rw q at y
      go m u h (with_a c l q) w = absurd (let z = clash h c in omega arith)
      go m u h (with_open c) w = absurd (let z = clash h c in omega arith)

  -- ANY
  pub any_over : {Q : Claim} {e : ℕ} → e ≤ length t → Literal t (ascii "ANY") a e → Reads (SpecThen K) Q t a (Err (Over a))
  any_over {e = e} i l = over {k = a} (exceeds_by g t a a e (omega arith) (omega (arith, three l)) i passes) (free_before (good_spec g) t a)
    where
      passes : (u : List ℕ) → Agree t u e → K e plain u → SpecThen K a (limit a e) u
      passes u h q = record { end = e; tree = is_any a; piece = spec_any (literal_local h (omega arith) l); rest = in_it q (refl, three l) }

  pub any_bad : {Q : Claim} {k : ℕ} → Byte t a (code "A") → Differs t (ascii "ANY") a k → Reads (SpecThen K) Q t a (Err (Bad k))
  any_bad {Q} {k} b d = go (word_reads g (Err (Bad k)) d)
    where
      low : Free (LiteralThen (ascii "ANY") K) t a k → (j n : ℕ) → j < k → j < n → (u : List ℕ) → Agree t u n → {e : ℕ} {x : Content} → Spec u a e x → a ≤ j → With (ContentLimit x) (λ o. K e o u) (limit j n) → ⊥
      low f j n l i u h {e} s o (behind_it q) = f.none j n l i u h (record { end = e; piece = (any_only (byte_local h (omega arith) b) (begin s)).0; rest = q })
      low f j n l i u h {e} {x} s o (in_it q w) =
          let y = any_only (byte_local h (omega arith) b) (begin s) in
          let v : (j ≡ a) × (n ≡ 3 + a) = rw y.1 at w in
          differs_not d (literal_local (agree_sym h) (omega (arith, v.1, three y.0)) y.0)

      go : Reads (LiteralThen (ascii "ANY") K) K t a (Err (Bad k)) → Reads (SpecThen K) Q t a (Err (Bad k))
      go (bad s f) = bad {k = k} (record {
        from = s.from;
        inside = s.inside;
        other = s.other;
        alike = s.alike;
        part = record { end = s.part.end; tree = is_any a; piece = spec_any s.part.piece; rest = behind_it s.part.rest };
        cannot = λ u h p. s.cannot u h (record { end = p.end; piece = (any_only (byte_local h (omega (arith, differs_le d)) b) (begin p.piece)).0; rest = plainly p.rest });
      }) (record { none = λ j n l i u h p. low f j n l i u h p.piece ((good_spec g).behind a j n u p) p.rest })
        where
          plainly : {L : ℕ → ℕ → Type 0} {P : Mode → Type 0} → With L P plain → P plain
          plainly (behind_it x) = x

-- mixed content, and what follows '#PCDATA' and white space
name_b : {u : List ℕ} {a b : ℕ} → Literal u (ascii "|a)*") a b → (us : List Use) × Mixed u a b us
name_b {u} {a} (byte i (byte g (byte j (byte k done)))) = (
  record { place = suc a; bytes = slice (suc a) (suc (suc a)) u } ∷ [],
  mixed i stop (record { is = refl; start = record { within = g.within; is = ap is_name_start g.is }; rest = stop }) refl (no_name stop (byte j (byte k done))),
)

mixed_lt : {u : List ℕ} {a b : ℕ} {us : List Use} → Mixed u a b us → a < b
mixed_lt (mixed g s n e m) = omega (arith, span_le s, name_lt n, names_le m)

mixed_low : {u : List ℕ} {a b : ℕ} {us : List Use} (j n : ℕ) → Mixed u a b us → MixedLimit a us j n → a ≤ j
mixed_low j k m (inl w) = omega (arith, w.0)
mixed_low j k (mixed g s n e m) (inr (inl w)) = omega (arith, span_le s, w.1)
mixed_low j k (mixed g s n e m) (inr (inr w)) = omega (arith, span_le s, name_lt n, names_low j k m w)

good_mixed : {K : Claim} → Good K → Good (Then Mixed MixedLimit K)
good_mixed g = good_then (λ u a b us m. omega (arith, mixed_lt m)) (λ u a b us j n m w. mixed_low j n m w) (record { word = ascii "|a)*"; is = λ u a b l. name_b l }) g

pub good_text : {K : Claim} → Good K → Good (TextThen K)
good_text g = good_or (good_literal (ascii ")") (good_maybe is_star g)) (good_mixed g)

bar_first : {u : List ℕ} {a b : ℕ} {us : List Use} → Mixed u a b us → Byte u a (code "|")
bar_first (mixed g s n e m) = g

pub text_tight : {K : Claim} → Avoids is_space (TextThen K)
text_tight = avoids_or (avoids_literal refl) (record { free_of = λ a m u p. off (bar_first p.piece) refl })

pub good_pcdata : {K : Claim} → Good K → Good (LiteralThen (ascii "#PCDATA") (BlanksThen (TextThen K)))
good_pcdata g = good_literal (ascii "#PCDATA") (good_blanks (good_text g))

pub good_group : {K : Claim} → Good K → Good (GroupThen K)
good_group g = good_or (good_pcdata g) (good_inside 15 (good_maybe is_mark g))

pub group_tight : {K : Claim} → Avoids is_space (GroupThen K)
group_tight = avoids_or (avoids_literal refl) (inside_tight 15)

agree_more : {t u : List ℕ} {n c : ℕ} → Agree t u n → Byte t n c → Byte u n c → Agree t u (suc n)
agree_more {t} {u} {n} h b d = record { same = λ i l. elim (le_or_lt n i) [ inl y ↦ here_too i (omega arith) | inr y ↦ h.same i y ] }
  where
    here_too : (i : ℕ) → i ≡ n → peek u i ≡ peek t i
    here_too i e = rw e (peek_byte u n d.within ∙ ap suc (d.is ∙ sym b.is) ∙ sym (peek_byte t n b.within))

module _ {K : Claim} {t : List ℕ} {a : ℕ} (g : Good K) where
  pub text_closes : Byte t a (code ")") → Moves (TextThen K) (LiteralThen (ascii ")") (MaybeThen is_star K)) t a a
  text_closes b = turn (good_text g) (omega (arith, b.within)) (λ m u h q. this q) (λ m u h p. go m u (byte_local h (omega arith) b) p)
    where
      go : (m : Mode) (u : List ℕ) → Byte u a (code ")") → TextThen K a m u → LiteralThen (ascii ")") (MaybeThen is_star K) a m u
      go m u h (this p) = p
      go m u h (that p) = absurd (let z = clash h (bar_first p.piece) in omega arith)

  pub text_mixed : {Q : Claim} → Byte t a (code "|") → Reads (TextThen K) Q t a (Err (Over a))
  text_mixed b = over {k = a} (passes (goes_on (good_mixed g) t a (omega (arith, b.within)))) (free_before (good_text g) t a)
    where
      passes : Goes (Then Mixed MixedLimit K) t a → Exceeds (TextThen K) t a a
      passes x = record {
        from = omega arith;
        size = suc a;
        order = omega arith;
        inside = b.within;
        other = x.other;
        alike = agree_more x.alike b (bar_first x.part.piece);
        part = that (record { end = x.part.end; tree = x.part.tree; piece = x.part.piece; rest = told x.part.tree x.part.rest });
      }
        where
          told : (us : List Use) {P : Mode → Type 0} → With (MixedLimit a us) P plain → With (MixedLimit a us) P (limit a (suc a))
          told us (behind_it q) = in_it q (inl (refl, refl))

  pub text_stuck : {Q : Claim} → a ≤ length t → ¬ Byte t a (code ")") → ¬ Byte t a (code "|") → Reads (TextThen K) Q t a (Err (Bad a))
  text_stuck l e f = stuck_here (good_text g) t a l (λ u h p. go u h p)
    where
      go : (u : List ℕ) → Agree t u (suc a) → ¬ TextThen K a plain u
      go u h (this p) = e (byte_local (agree_sym h) (omega arith) (literal_start p.piece))
      go u h (that p) = f (byte_local (agree_sym h) (omega arith) (bar_first p.piece))

  -- behind a content's '(' and white space: '#', or not
  pub group_text : Byte t a (code "#") → Moves (GroupThen K) (LiteralThen (ascii "#PCDATA") (BlanksThen (TextThen K))) t a a
  group_text b = turn (good_group g) (omega (arith, b.within)) (λ m u h q. this q) (λ m u h p. go m u (byte_local h (omega arith) b) p)
    where
      no_row : {u : List ℕ} {e : ℕ} {ps : Particles} → Inside u a e ps → Byte u a (code "#") → ⊥
      no_row (of_choice r) h = row_no_number_sign r h
      no_row (of_sequence r) h = row_no_number_sign r h

      go : (m : Mode) (u : List ℕ) → Byte u a (code "#") → GroupThen K a m u → LiteralThen (ascii "#PCDATA") (BlanksThen (TextThen K)) a m u
      go m u h (this p) = p
      go m u h (that p) = absurd (no_row p.piece h)

  pub group_children : a ≤ length t → ¬ Byte t a (code "#") → Moves (GroupThen K) (InsideThen 15 (MaybeThen is_mark K)) t a a
  group_children l f = turn (good_group g) l (λ m u h q. that q) (λ m u h p. go m u h p)
    where
      go : (m : Mode) (u : List ℕ) → Agree t u (suc a) → GroupThen K a m u → InsideThen 15 (MaybeThen is_mark K) a m u
      go m u h (this p) = absurd (f (byte_local (agree_sym h) (omega arith) (literal_start p.piece)))
      go m u h (that p) = p

  -- a content that begins with '('
  pub content_opens : Byte t a (code "(") → Moves (SpecThen K) (BlanksThen (GroupThen K)) t a (suc a)
  content_opens b = step (good_spec g) (good_blanks (good_group g)) b.within
      (λ m u h q. up m u (byte_local h (omega arith) b) q.piece q.rest)
      (λ m u h p. down m u (byte_local h (omega arith) b) p.piece p.rest)
    where
      star_byte : {u : List ℕ} {e : ℕ} → Of is_star u e → Byte u e (code "*")
      star_byte {u} {e} o = record { within = o.within; is = eqb→eq (get_or u e 0) (code "*") (rw o.is tt) }

      starred : (m : Mode) (u : List ℕ) {c d e f : ℕ} → Pcdata u a c → Blanks u c d → Literal u (ascii ")") d e → Maybe is_star u e f → K f m u → SpecThen K a m u
      starred m u p s (byte i done) (one o) q = record { end = _; tree = is_text; piece = spec_starred p (no_name s (byte i (byte (star_byte o) done))); rest = behind_it q }
      starred m u p s (byte i done) none q = record { end = _; tree = is_text; piece = spec_text p s i; rest = behind_it q }

      names : {u : List ℕ} {c d e : ℕ} {us : List Use} → Blanks u c d → Mixed u d e us → Names u c e us
      names s (mixed i r n e m) = one_name s i r n e m

      with_names : {u : List ℕ} {c d e : ℕ} {us : List Use} → Pcdata u a c → Blanks u c d → Mixed u d e us → Spec u a e (is_mixed d us)
      with_names p s (mixed i r n e m) = spec_mixed p s i (one_name s i r n e m)

      text : (m : Mode) (u : List ℕ) {c d : ℕ} → Pcdata u a c → Blanks u c d → TextThen K d m u → SpecThen K a m u
      text m u p s (this q) = starred m u p s q.piece q.rest.piece q.rest.rest
      text m u p s (that q) = record { end = q.end; tree = is_mixed _ q.tree; piece = with_names p s q.piece; rest = q.rest }

      group : {u : List ℕ} {c d e : ℕ} {ps : Particles} → Byte u a (code "(") → Blanks u (suc a) c → Inside u c d ps → Maybe is_mark u d e → (p : Particle) × (Spec u a e (is_children p)) × ((j n : ℕ) → WideIn 15 ps j n → ContentLimit (is_children p) j n)
      group h s (of_choice {p} {ps} r) k = (Particle.choice a (Particles.more p ps) (maybe_mark k).0, spec_children (as_choice h s r (maybe_mark k).1), λ j n w. w)
      group h s (of_sequence {ps} r) k = (Particle.sequence a ps (maybe_mark k).0, spec_children (as_sequence h s r (maybe_mark k).1), λ j n w. w)

      children : (m : Mode) (u : List ℕ) → Byte u a (code "(") → {c d : ℕ} {ps : Particles} → Blanks u (suc a) c → Inside u c d ps → With (WideIn 15 ps) (λ o. MaybeThen is_mark K d o u) m → SpecThen K a m u
      children m u h s i (behind_it q) = let x = group h s i q.piece in record { end = q.end; tree = is_children x.0; piece = x.1; rest = behind_it q.rest }
      children m u h s i (in_it {j} {n} q w) = let x = group h s i q.piece in record { end = q.end; tree = is_children x.0; piece = x.1; rest = in_it q.rest (x.2 j n w) }

      up : (m : Mode) (u : List ℕ) → Byte u a (code "(") → {c : ℕ} → Blanks u (suc a) c → GroupThen K c m u → SpecThen K a m u
      up m u h s (this q) = text m u (record { mid = _; open_it = h; blanks = s; word = q.piece }) q.rest.piece q.rest.rest
      up m u h s (that q) = children m u h s q.piece q.rest

      of_text : (m : Mode) (u : List ℕ) {c d : ℕ} → Pcdata u a c → Blanks u c d → TextThen K d m u → BlanksThen (GroupThen K) (suc a) m u
      of_text m u p s q = record { end = p.mid; piece = p.blanks; rest = this (record { end = _; piece = p.word; rest = record { end = _; piece = s; rest = q } }) }

      of_mixed : (m : Mode) (u : List ℕ) {c d e : ℕ} {x : Use} {us : List Use} → Pcdata u a c → Blanks u c d → Byte u d (code "|") → Names u c e (x ∷ us) → With (MixedLimit d (x ∷ us)) (λ o. K e o u) m → BlanksThen (GroupThen K) (suc a) m u
      of_mixed m u p s i (one_name v j r n y k) w =
          let z = point v s j i refl refl in
          of_text m u p s (that (record { end = _; tree = _; piece = mixed i (rw z at r) n y k; rest = w }))

      of_starred : (m : Mode) (u : List ℕ) {c e : ℕ} → Pcdata u a c → Names u c e [] → K e m u → BlanksThen (GroupThen K) (suc a) m u
      of_starred m u p (no_name s (byte i (byte j done))) q = of_text m u p s (this (record { end = _; piece = byte i done; rest = record { end = _; piece = one (record { within = j.within; is = ap is_star j.is }); rest = q } }))

      of_children : (m : Mode) (u : List ℕ) {e : ℕ} {p : Particle} → Children u a e p → With (ContentLimit (is_children p)) (λ o. K e o u) m → BlanksThen (GroupThen K) (suc a) m u
      of_children m u (as_choice h s r k) w = record { end = _; piece = s; rest = that (record { end = _; tree = _; piece = of_choice r; rest = with_map (λ o q. record { end = _; piece = mark_maybe k; rest = q }) (λ j n y. y) w }) }
      of_children m u (as_sequence h s r k) w = record { end = _; piece = s; rest = that (record { end = _; tree = _; piece = of_sequence r; rest = with_map (λ o q. record { end = _; piece = mark_maybe k; rest = q }) (λ j n y. y) w }) }

      down : (m : Mode) (u : List ℕ) → Byte u a (code "(") → {e : ℕ} {x : Content} → Spec u a e x → With (ContentLimit x) (λ o. K e o u) m → BlanksThen (GroupThen K) (suc a) m u
      down m u h (spec_empty l) w = absurd (let z = clash h (literal_start l) in omega arith)
      down m u h (spec_any l) w = absurd (let z = clash h (literal_start l) in omega arith)
      down m u h (spec_text p s i) w = of_text m u p s (this (record { end = _; piece = byte i done; rest = record { end = _; piece = none; rest = with_never (λ j n y. y) w } }))
      down m u h (spec_starred p n) w = of_starred m u p n (with_never (λ j n y. y) w)
      down m u h (spec_mixed p s i n) w = of_mixed m u p s i n w
      down m u h (spec_children c) w = of_children m u c w
