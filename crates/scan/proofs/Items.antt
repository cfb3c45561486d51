-- The claims of declarations and items, and the moves between them. Assumes nothing.
use Rattle.std.proofs.Common.{ℕ, suc, ◌≤◌, ◌<◌, ◌≡◌, refl, inl, inr, Bool, true, false, List, [], ◌∷◌, arith, length, Err}
use Prim.Native.Char.{code}
use Rattle.grammar.specs.Bytes.{ascii, is_space, is_mark, Byte, Of, stop, go_on, Literal, done, byte}
use Rattle.grammar.specs.Tree.{Content, is-empty, Declaration}
use Rattle.grammar.specs.Grammar.{Remark, ends}
use Rattle.grammar.specs.Grammar.{Blanks, Space, Name, Spec, spec_empty, Element, element, Items, no_more, a_space, a_comment, a_declaration}
use Rattle.grammar.proofs.Pieces.{off, apart, space_no_start, literal_start}
use Rattle.grammar.proofs.OneTree.{spec_no_space}
use Rattle.scan.specs.Steps.Agree.{Agree}
use Rattle.scan.specs.Steps.Claims.{Mode, plain, limit, Claim, With, behind_it, in_it, this, that, LiteralThen, LongAt, NameThen, ContentLimit, SpecThen}
use Rattle.scan.specs.Steps.Claims.{InSome, Enough, FromItems, FromEnd, FromNamed, FromElement, FromRemark, FromOpen, FromItem}
use Rattle.scan.specs.Steps.Claims.{Frame, first, behind, Rest, RestMarked}
use Rattle.scan.specs.Steps.Moves.{Moves, Reads}
use Rattle.scan.specs.declared.Stop.TheVariants.{Bad}
use Rattle.scan.proofs.Agreeing.{peek_byte, peek_end, agree_same, agree_sym, byte_local, of_local}
use Rattle.scan.proofs.Moving.{moves_on, Good, stuck_here, turn, step, with_map, good_piece, good_then, good_or, Avoids}
use Rattle.scan.proofs.Pieces.{good_literal, avoids_literal, good_blanks, good_space, avoids_blanks, good_maybe, good_name}
use Rattle.scan.proofs.Orders.{spec_le, spec_low, remark_le, items_low}
use Rattle.scan.proofs.Groups.{good_closing, good_opening}

-- the rest of a declaration
good_seen : Good (FromItems true)
good_seen = record {
  behind = λ a j n u p. items_low j n p.items p.limits;
  complete = λ p. record { other = p; alike = agree_same p (length p); part = record { trees = []; items = no_more refl; enough = tt; limits = tt } };
}

pub good_end : Good FromEnd
good_end = good_blanks (good_literal (ascii ">") good_seen)

pub end_avoids : (class : ℕ → Bool) → class (code ">") ≡ false → ((b : ℕ) → is_space b ≡ true → class b ≡ false) → Avoids class FromEnd
end_avoids class e f = avoids_blanks f (avoids_literal e)

pub good_spec : {K : Claim} → Good K → Good (SpecThen K)
good_spec g = good_then (λ u a b x s. spec_le s) (λ u a b x j n s w. spec_low j n s w) (record { word = ascii "EMPTY"; is = λ u a b l. (is-empty, spec_empty l) }) g

pub spec_tight : {K : Claim} → Avoids is_space (SpecThen K)
spec_tight = record { free_of = λ a m u p. spec_no_space p.piece }

pub good_named : Good FromNamed
good_named = good_space (good_spec good_end)

pub name_tight : {K : Claim} → Avoids is_space (NameThen K)
name_tight = record { free_of = λ a m u p o. apart space_no_start o p.piece.start }

pub good_element : Good FromElement
good_element = good_space (good_name good_named)

-- what follows a particle in its groups
pub good_rest : (fs : List Frame) → Good (Rest fs)
good_rest [] = good_end
good_rest (first depth ∷ fs) = good_blanks (good_opening depth (good_maybe is_mark (good_rest fs)))
good_rest (behind s x depth ∷ fs) = good_blanks (good_closing s depth (good_maybe is_mark (good_rest fs)))

pub good_marked : (fs : List Frame) → Good (RestMarked fs)
good_marked fs = good_maybe is_mark (good_rest fs)

-- a declaration and what follows it, from its pieces
some_more : (m : Mode) (d : Declaration) (ds : List Declaration) → InSome m ds → InSome m (d ∷ ds)
some_more plain d ds w = tt
some_more (limit j n) d ds w = inr w

enough_some : (seen : Bool) (d : Declaration) (ds : List Declaration) → Enough seen (d ∷ ds)
enough_some true d ds = tt
enough_some false d ds = tt

module _ (seen : Bool) {u : List ℕ} {a : ℕ} where
  closed_up : {f : ℕ} (M m : Mode) (d : Declaration) → ((g : ℕ) → Blanks u f g → Byte u g (code ">") → Element u a (suc g) d) → ((ds : List Declaration) → InSome m ds → InSome M (d ∷ ds)) → FromEnd f m u → FromItems seen a M u
  closed_up {f} M m d head limits e = go e.piece e.rest.piece e.rest.rest
    where
      go : {g h : ℕ} → Blanks u f g → Literal u (ascii ">") g h → FromItems true h m u → FromItems seen a M u
      go v (byte i done) it = record { trees = d ∷ it.trees; items = a_declaration (head _ v i) it.items; enough = enough_some seen d it.trees; limits = limits it.trees it.limits }

  pub element_up : {b : ℕ} (m : Mode) → Literal u (ascii "<!ELEMENT") a b → FromElement b m u → FromItems seen a m u
  element_up m l p = at_name m p.rest.piece p.rest.rest
    where
      c : ℕ
      c = p.end

      head : {d e f : ℕ} {nm : List ℕ} {x : Content} → Name u c d nm → Space u d e → Spec u e f x → (g : ℕ) → Blanks u f g → Byte u g (code ">") → Element u a (suc g) (record { place = c; named = nm; content = x })
      head n r s g v i = element l p.piece n refl r s v i

      at_spec : {d e f : ℕ} {nm : List ℕ} {x : Content} (m : Mode) → Name u c d nm → Space u d e → Spec u e f x → With (ContentLimit x) (λ o. FromEnd f o u) m → FromItems seen a m u
      at_spec m n r s (behind_it q) = closed_up m m _ (head n r s) (λ ds w. some_more m _ ds w) q
      at_spec m n r s (in_it {j} {n = k} q w) = closed_up (limit j k) plain _ (head n r s) (λ ds z. inl (inr w)) q

      long : {d e f j k : ℕ} {nm : List ℕ} {x : Content} → Name u c d nm → Space u d e → Spec u e f x → LongAt c nm j k → With (ContentLimit x) (λ o. FromEnd f o u) plain → FromItems seen a (limit j k) u
      long {j = j} {k = k} n r s w (behind_it q) = closed_up (limit j k) plain _ (head n r s) (λ ds z. inl (inl w)) q

      at_name : {d : ℕ} {nm : List ℕ} (m : Mode) → Name u c d nm → With (LongAt c nm) (λ o. FromNamed d o u) m → FromItems seen a m u
      at_name m n (behind_it q) = at_spec m n q.piece q.rest.piece q.rest.rest
      at_name m n (in_it q w) = long n q.piece q.rest.piece w q.rest.rest

-- and into its pieces
parted : (m : Mode) (d : Declaration) (ds : List Declaration) → InSome m (d ∷ ds) → With (LongAt d.place d.named) (With (ContentLimit d.content) (λ o. InSome o ds)) m
parted plain d ds w = behind_it (behind_it tt)
parted (limit j n) d ds (inl (inl w)) = in_it (behind_it tt) w
parted (limit j n) d ds (inl (inr w)) = behind_it (in_it tt w)
parted (limit j n) d ds (inr w) = behind_it (behind_it w)

pub element_down : (m : Mode) {u : List ℕ} {a b : ℕ} {d : Declaration} {ds : List Declaration} → Element u a b d → Items u b ds → InSome m (d ∷ ds) → LiteralThen (ascii "<!ELEMENT") FromElement a m u
element_down m {u} {a} {ds = ds} (element {b = b} {c = c} {d = d} {e = e} {f = f} {g = g} {x = x} l s n p r sp v i) it w = record { end = b; piece = l; rest = record { end = c; piece = s; rest = record { end = d; tree = x.named; piece = n; rest = with_map (λ o q. record { end = e; piece = r; rest = record { end = f; tree = x.content; piece = sp; rest = with_map (λ o z. record { end = g; piece = v; rest = record { end = suc g; piece = byte i done; rest = record { trees = ds; items = it; enough = tt; limits = z } } }) (λ j k y. y) q } }) (λ j k y. (y.0, omega (arith, y.1), y.2)) (parted m x ds w) } } }

-- items can go on
pub good_items : (seen : Bool) → Good (FromItems seen)
good_items true = good_seen
good_items false = record {
  behind = λ a j n u p. items_low j n p.items p.limits;
  complete = λ p. (let c = (good_literal (ascii "<!ELEMENT") good_element).complete p in record { other = c.other; alike = c.alike; part = element_up false plain c.part.piece c.part.rest });
}

pub good_remark : (seen : Bool) → Good (FromRemark seen)
good_remark seen = good_piece (λ u a b r. remark_le r) (record { word = ascii "-->"; is = λ u a b l. ends l }) (good_items seen)

pub good_open : (seen : Bool) → Good (FromOpen seen)
good_open seen = good_or (good_literal (ascii "ELEMENT") good_element) (good_literal (ascii "--") (good_remark seen))

-- the moves between items
item_up : (seen : Bool) (m : Mode) (u : List ℕ) (a : ℕ) → FromItem seen a m u → FromItems seen a m u
item_up seen m u a p = go p.piece p.rest
  where
    comment : {c d : ℕ} → Literal u (ascii "<!--") a c → Remark u c d → FromItems seen d m u → FromItems seen a m u
    comment l r q = record { trees = q.trees; items = a_comment (record { mid = _; open_it = l; rest = r }) q.items; enough = q.enough; limits = q.limits }

    go : {b : ℕ} → Literal u (ascii "<!") a b → FromOpen seen b m u → FromItems seen a m u
    go (byte g (byte h done)) (this q) = element_up seen m (byte g (byte h q.piece)) q.rest
    go (byte g (byte h done)) (that q) = comment (byte g (byte h q.piece)) q.rest.piece q.rest.rest

module _ (seen : Bool) (t : List ℕ) (a : ℕ) where
  pub item_begins : a < length t → ¬ Of is_space t a → Moves (FromItems seen) (FromItem seen) t a a
  item_begins l f = turn (good_items seen) (omega arith) (λ m u h q. item_up seen m u a q) (λ m u h p. go m u h p.items p.enough p.limits)
    where
      comment : (m : Mode) (u : List ℕ) {c b : ℕ} → Literal u (ascii "<!--") a c → Remark u c b → FromItems seen b m u → FromItem seen a m u
      comment m u (byte i (byte j k)) r q = record { end = suc (suc a); piece = byte i (byte j done); rest = that (record { end = _; piece = k; rest = record { end = _; piece = r; rest = q } }) }

      declared : (m : Mode) (u : List ℕ) {c : ℕ} → Literal u (ascii "<!ELEMENT") a c → FromElement c m u → FromItem seen a m u
      declared m u (byte i (byte j k)) q = record { end = suc (suc a); piece = byte i (byte j done); rest = this (record { end = _; piece = k; rest = q }) }

      go : (m : Mode) (u : List ℕ) → Agree t u (suc a) → {ds : List Declaration} → Items u a ds → Enough seen ds → InSome m ds → FromItem seen a m u
      go m u h (no_more e) n w = absurd (let y = h.same a (omega arith) in omega (arith, peek_byte t a l, peek_end u a (omega arith)))
      go m u h (a_space o r) n w = absurd (f (of_local (agree_sym h) (omega arith) o))
      go m u h (a_comment {ds = ds} c r) n w = comment m u c.open_it c.rest (record { trees = ds; items = r; enough = n; limits = w })
      go m u h (a_declaration d r) n w = let x = element_down m d r w in declared m u x.piece x.rest

  items_blank : Of is_space t a → Moves (FromItems seen) (FromItems seen) t a (suc a)
  items_blank o = step (good_items seen) (good_items seen) o.within
      (λ m u h q. record { trees = q.trees; items = a_space (of_local h (omega arith) o) q.items; enough = q.enough; limits = q.limits })
      (λ m u h p. go m u (of_local h (omega arith) o) p.items p.enough p.limits)
    where
      go : (m : Mode) (u : List ℕ) → Of is_space u a → {ds : List Declaration} → Items u a ds → Enough seen ds → InSome m ds → FromItems seen (suc a) m u
      go m u h (no_more e) n w = absurd (omega (arith, h.within))
      go m u h (a_space {ds = ds} p r) n w = record { trees = ds; items = r; enough = n; limits = w }
      go m u h (a_comment c r) n w = absurd (off (literal_start c.open_it) refl h)
      go m u h (a_declaration (element l s x p y z v g) r) n w = absurd (off (literal_start l) refl h)

  -- behind '<!': '-', or not
  pub open_comment : Byte t a (code "-") → Moves (FromOpen seen) (LiteralThen (ascii "--") (FromRemark seen)) t a a
  open_comment b = turn (good_open seen) (omega (arith, b.within)) (λ m u h q. that q) (λ m u h p. go m u (byte_local h (omega arith) b) p)
    where
      go : (m : Mode) (u : List ℕ) → Byte u a (code "-") → FromOpen seen a m u → LiteralThen (ascii "--") (FromRemark seen) a m u
      go m u h (this p) = absurd (let z = Rattle.grammar.proofs.Pieces.clash h (literal_start p.piece) in omega arith)
      go m u h (that p) = p

  pub open_element : a ≤ length t → ¬ Byte t a (code "-") → Moves (FromOpen seen) (LiteralThen (ascii "ELEMENT") FromElement) t a a
  open_element l f = turn (good_open seen) l (λ m u h q. this q) (λ m u h p. go m u h p)
    where
      go : (m : Mode) (u : List ℕ) → Agree t u (suc a) → FromOpen seen a m u → LiteralThen (ascii "ELEMENT") FromElement a m u
      go m u h (this p) = p
      go m u h (that p) = absurd (f (byte_local (agree_sym h) (omega arith) (literal_start p.piece)))

pub items_blanks : (seen : Bool) {t : List ℕ} {a b : ℕ} → b ≤ length t → Blanks t a b → Moves (FromItems seen) (FromItems seen) t a b
items_blanks seen l stop = turn (good_items seen) l (λ m u h q. q) (λ m u h p. p)
items_blanks seen {t} {a} l (go_on o s) = moves_on (items_blank seen t a o) (items_blanks seen l s)

-- a text without a declaration ends too early
pub ends_early : {Q : Claim} (t : List ℕ) → Reads (FromItems false) Q t (length t) (Err (Bad (length t)))
ends_early t = stuck_here (good_items false) t (length t) (omega arith) (λ u h p. go u h p.items p.enough)
  where
    ended : (u : List ℕ) → Agree t u (suc (length t)) → length t < length u → ⊥
    ended u h l = let y = h.same (length t) (omega arith) in omega (arith, peek_end t (length t) (omega arith), peek_byte u (length t) l)

    go : (u : List ℕ) → Agree t u (suc (length t)) → {ds : List Declaration} → Items u (length t) ds → ¬ Enough false ds
    go u h (no_more e) n = n
    go u h (a_space o r) n = ended u h o.within
    go u h (a_comment c r) n = ended u h (literal_start c.open_it).within
    go u h (a_declaration (element l s x p y z v g) r) n = ended u h (literal_start l).within
