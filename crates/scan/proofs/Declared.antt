-- What the readers of contents, declarations and comments answer, one after another. Assumes nothing.
use Rattle.std.proofs.Common.{ℕ, suc, ◌≤◌, ◌<◌, ◌≡◌, refl, sym, ap, subst, Bool, true, false, List, [], arith, length, eqb-true, Result, Ok, Err}
use Prim.Native.Char.{code}
use Rattle.grammar.specs.Bytes.{ascii, is_mark, is_no_dash, Byte, Of, Literal, done, byte}
use Rattle.grammar.specs.Tree.{Declaration}
use Rattle.grammar.specs.Grammar.{element, Items, no_more, a_space, a_comment, a_declaration}
use Rattle.grammar.proofs.Pieces.{avoid, space_no_name, literal_start}
use Rattle.scan.specs.Steps.Claims.{Mode, plain, limit, Claim, InSome, BlanksThen, GroupThen, NameThen, MaybeThen, InsideThen, TextThen, PcdataThen, SpecThen, is_star, FromItems, FromEnd, FromNamed, FromElement, FromKeyword, FromRemark, FromDashes, FromOpen, FromItem}
use Rattle.scan.specs.Steps.Agree.{Agree}
use Rattle.scan.specs.Steps.Moves.{Moves, Reads, got}
use Rattle.scan.specs.Steps.Readers.{BlanksRead, SpaceRead, MaybeRead, taken, left, NameRead, WordRead}
use Rattle.scan.specs.Steps.Items.{Told, ItemRead, declared_of, remarked_of, finish_of, Nothing, ItemsRead}
use Rattle.scan.specs.declared.Stop.{Stop}
use Rattle.scan.specs.declared.Stop.TheVariants.{Bad, Over}
use Rattle.scan.specs.declared.item.Item.{Item}
use Rattle.scan.specs.declared.item.Item.TheVariants.{Declared, Remarked}
use Rattle.scan.proofs.Agreeing.{peek_byte, peek_end, span_le}
use Rattle.scan.proofs.Moving.{moves_on, reads_on, turn, Avoids}
use Rattle.scan.proofs.Pieces.{avoids_literal, avoids_space, good_literal, good_maybe, blanks_moves, literal_moves, maybe_moves, name_reads, space_reads, word_reads, good_name}
use Rattle.scan.proofs.Items.{good_end, end_avoids, good_spec, spec_tight, good_named, name_tight, good_element, good_items, good_remark, good_open, item_begins, open_comment, open_element, items_blanks, ends_early}
use Rattle.scan.proofs.Readings.{reads_other, reads_moves}
use Rattle.scan.proofs.Contents.{content_empty, any_over, any_bad, good_text, text_tight, text_closes, good_group, group_tight, group_text, group_children, content_opens}
use Rattle.scan.proofs.Remarks.{remark_skips, remark_dash, dash_skips, dash_ends}

-- text
star_byte : {t : List ℕ} {a : ℕ} → Byte t a (code "*") → Of is_star t a
star_byte g = record { within = g.within; is = ap is_star g.is }

byte_star : {t : List ℕ} {a : ℕ} → ¬ Byte t a (code "*") → ¬ Of is_star t a
byte_star f o = f (record { within = o.within; is = eqb-true _ _ o.is })

end_no_star : Avoids is_star FromEnd
end_no_star = end_avoids is_star refl (avoid is_star (ascii " \t\r\n") (refl, (refl, (refl, (refl, tt)))))

module _ {t : List ℕ} {a : ℕ} where
  closed : {e : ℕ} → Byte t a (code ")") → MaybeRead is_star t (suc a) e → Reads (TextThen FromEnd) FromEnd t a (Ok e)
  closed g x = got (moves_on (text_closes good_end g) (moves_on (literal_moves (good_maybe is_star good_end) g.within (byte g done)) (maybe_moves good_end end_no_star g.within x)))

  pub text_starred : {e : ℕ} → Byte t a (code ")") → Byte t (suc a) (code "*") → e ≡ suc (suc a) → Reads (TextThen FromEnd) FromEnd t a (Ok e)
  text_starred g h e = rw e (closed g (taken (star_byte h)))

  pub text_plain : {e : ℕ} → Byte t a (code ")") → ¬ Byte t (suc a) (code "*") → e ≡ suc a → Reads (TextThen FromEnd) FromEnd t a (Ok e)
  text_plain g h e = rw e (closed g (left (byte_star h)))

pub text_reads : {t : List ℕ} {a e b : ℕ} {r : Result ℕ Stop} → Moves (PcdataThen FromEnd) (BlanksThen (TextThen FromEnd)) t a e → BlanksRead t e b → Reads (TextThen FromEnd) FromEnd t b r → Reads (PcdataThen FromEnd) FromEnd t a r
text_reads m s x = reads_on m (reads_on (blanks_moves (good_text good_end) text_tight s) x)

-- a content
module _ {t : List ℕ} {a : ℕ} (g : Byte t a (code "(")) where
  opens : {b : ℕ} → BlanksRead t (suc a) b → Moves (SpecThen FromEnd) (GroupThen FromEnd) t a b
  opens s = moves_on (content_opens good_end g) (blanks_moves (good_group good_end) group_tight s)

  pub opened_text : {b : ℕ} {r : Result ℕ Stop} → BlanksRead t (suc a) b → Byte t b (code "#") → Reads (PcdataThen FromEnd) FromEnd t b r → Reads (SpecThen FromEnd) FromEnd t a r
  opened_text s h x = reads_on (opens s) (reads_on (group_text good_end h) x)

  pub opened_group : {b : ℕ} {r : Result ℕ Stop} → BlanksRead t (suc a) b → ¬ Byte t b (code "#") → Reads (InsideThen 15 (MaybeThen is_mark FromEnd)) FromEnd t b r → Reads (SpecThen FromEnd) FromEnd t a r
  opened_group s h x = reads_on (opens s) (reads_on (group_children good_end s.inside h) x)

module _ {t : List ℕ} {a : ℕ} where
  pub any_passes : {e : ℕ} → WordRead t (ascii "ANY") a (Ok e) → Reads (SpecThen FromEnd) FromEnd t a (Err (Over a))
  any_passes x = any_over good_end x.0 x.1

  pub any_stops : Byte t a (code "A") → (s : Stop) → WordRead t (ascii "ANY") a (Err s) → Reads (SpecThen FromEnd) FromEnd t a (Err s)
  any_stops g (Bad k) x = any_bad good_end g x
  any_stops g (Over k) x = absurd x

  pub empty_reads : Byte t a (code "E") → (r : Result ℕ Stop) → WordRead t (ascii "EMPTY") a r → Reads (SpecThen FromEnd) FromEnd t a r
  empty_reads g r x = reads_on (content_empty good_end g) (word_reads good_end r x)

-- a declaration
pub end_reads : {P : Claim} {t : List ℕ} {a e b : ℕ} → Moves P FromEnd t a e → BlanksRead t e b → (r : Result ℕ Stop) → WordRead t (ascii ">") b r → Reads P (FromItems true) t a r
end_reads m s r x = reads_on m (reads_on (blanks_moves (good_literal (ascii ">") (good_items true)) (avoids_literal refl) s) (word_reads (good_items true) r x))

pub named_space : {t : List ℕ} {a : ℕ} → a ≤ length t → (r : Result ℕ Stop) → SpaceRead t a r → Reads FromNamed (SpecThen FromEnd) t a r
named_space l r x = space_reads (good_spec good_end) spec_tight l r x

pub declared_name : {t : List ℕ} {a : ℕ} → a ≤ length t → (r : Result ℕ Stop) → NameRead t a r → Reads (NameThen FromNamed) FromNamed t a r
declared_name l r x = name_reads good_named (avoids_space space_no_name) l r x

pub element_space : {t : List ℕ} {a : ℕ} → a ≤ length t → (r : Result ℕ Stop) → SpaceRead t a r → Reads FromElement (NameThen FromNamed) t a r
element_space l r x = space_reads (good_name good_named) name_tight l r x

pub keyword_reads : {t : List ℕ} {a : ℕ} → (r : Result ℕ Stop) → WordRead t (ascii "ELEMENT") a r → Reads FromKeyword FromElement t a r
keyword_reads r x = word_reads good_element r x

-- a comment
pub dashes_read : (seen : Bool) {t : List ℕ} {a : ℕ} → (r : Result ℕ Stop) → WordRead t (ascii "--") a r → Reads (FromDashes seen) (FromRemark seen) t a r
dashes_read seen r x = word_reads (good_remark seen) r x

module _ (seen : Bool) {t : List ℕ} {i : ℕ} where
  pub remark_starts : i ≤ length t → Moves (FromRemark seen) (FromRemark seen) t i i
  remark_starts l = turn (good_remark seen) l (λ m u h q. q) (λ m u h p. p)

  pub remark_two : {j : ℕ} → Byte t i (code "-") → Of is_no_dash t (suc i) → j ≡ suc (suc i) → Moves (FromRemark seen) (FromRemark seen) t i j
  remark_two g o e = rw e (moves_on (remark_dash seen g) (dash_skips seen o))

  pub remark_one : {j : ℕ} → Of is_no_dash t i → j ≡ suc i → Moves (FromRemark seen) (FromRemark seen) t i j
  remark_one o e = rw e (remark_skips seen o)

  pub remark_ends : Byte t i (code "-") → ¬ Of is_no_dash t (suc i) → (r : Result ℕ Stop) → WordRead t (ascii "->") (suc i) r → Reads (FromRemark seen) (FromItems seen) t i r
  remark_ends g o r x = reads_on (moves_on (remark_dash seen g) (dash_ends seen g.within o)) (word_reads (good_items seen) r x)

-- items
pub declared_told : (t : List ℕ) (a : ℕ) → a ≤ length t → ¬ Byte t a (code "-") → (r : Result ℕ Stop) → Reads FromKeyword (FromItems true) t a r → Told FromOpen t a (declared_of r)
declared_told t a l f (Ok e) (got m) = λ seen. moves_on (open_element seen t a l f) m
declared_told t a l f (Err s) x = λ seen. reads_on (open_element seen t a l f) (reads_other x)

pub remarked_told : (t : List ℕ) (a : ℕ) → Byte t a (code "-") → (r : Result ℕ Stop) → ((seen : Bool) → Reads (FromDashes seen) (FromItems seen) t a r) → Told FromOpen t a (remarked_of r)
remarked_told t a g (Ok e) x = λ seen. moves_on (open_comment seen t a g) (reads_moves (x seen))
remarked_told t a g (Err s) x = λ seen. reads_on (open_comment seen t a g) (x seen)

two_on : {t : List ℕ} {a b : ℕ} → Literal t (ascii "<!") a b → a < b
two_on (byte g (byte h done)) = omega arith

pub item_told : (t : List ℕ) (a b : ℕ) → WordRead t (ascii "<!") a (Ok b) → (r : Result Item Stop) → Told FromOpen t b r → ItemRead t a r
item_told t a b w r x = go r x
  where
    start : (seen : Bool) → Moves (FromItem seen) (FromOpen seen) t a b
    start seen = literal_moves (good_open seen) w.0 w.1

    go : (r : Result Item Stop) → Told FromOpen t b r → ItemRead t a r
    go (Ok (Declared e)) y = record { told = λ seen. moves_on (start seen) (y seen); on = omega (arith, two_on w.1, (y true).from) }
    go (Ok (Remarked e)) y = record { told = λ seen. moves_on (start seen) (y seen); on = omega (arith, two_on w.1, (y true).from) }
    go (Err s) y = record { told = λ seen. reads_on (start seen) (y seen); on = tt }

pub item_refused : (t : List ℕ) (a : ℕ) (s : Stop) → WordRead t (ascii "<!") a (Err s) → ItemRead t a (Err s)
item_refused t a s w = record { told = λ seen. reads_other (word_reads (good_open seen) (Err s) w); on = tt }

-- the end of the text
over_here : {t u : List ℕ} → Agree t u (suc (length t)) → length t < length u → ⊥
over_here {t} {u} h l = let y = h.same (length t) (omega arith) in omega (arith, peek_end t (length t) (omega arith), peek_byte u (length t) l)

nothing_left : (t : List ℕ) → Moves (FromItems true) Nothing t (length t) (length t)
nothing_left t = turn (good_items true) (omega arith) (λ m u h q. up m u q.ended q.no_limit) (λ m u h p. down m u h p.items p.limits)
  where
    up : (m : Mode) (u : List ℕ) → length t ≡ length u → m ≡ plain → FromItems true (length t) m u
    up m u e p = rw p (record { trees = []; items = no_more e; enough = tt; limits = tt })

    no_limit : (m : Mode) → InSome m [] → m ≡ plain
    no_limit plain w = refl
    no_limit (limit j n) w = absurd w

    down : (m : Mode) (u : List ℕ) → Agree t u (suc (length t)) → {ds : List Declaration} → Items u (length t) ds → InSome m ds → Nothing (length t) m u
    down m u h (no_more e) w = record { ended = e; no_limit = no_limit m w }
    down m u h (a_space o r) w = absurd (over_here h o.within)
    down m u h (a_comment c r) w = absurd (over_here h (literal_start c.open_it).within)
    down m u h (a_declaration (element l s x p y z v g) r) w = absurd (over_here h (literal_start l).within)

pub finish_told : (seen : Bool) (t : List ℕ) (b : ℕ) → b ≡ length t → Moves (FromItems false) (FromItems seen) t 0 b → ItemsRead t (finish_of seen b)
finish_told true t b e m = let n : Moves (FromItems true) Nothing t b b = rw e (nothing_left t) in record { read = got (moves_on m n); ends = e }
finish_told false t b e m = record { read = reads_on m (rw e (ends_early t)); ends = tt }

pub start : (t : List ℕ) → Moves (FromItems false) (FromItems false) t 0 0
start t = turn (good_items false) (omega arith) (λ m u h q. q) (λ m u h p. p)

-- the loop over the items
module _ (seen : Bool) (t : List ℕ) (i b : ℕ) (m : Moves (FromItems false) (FromItems seen) t 0 i) (gap : BlanksRead t i b) where
  behind_blanks : Moves (FromItems false) (FromItems seen) t 0 b
  behind_blanks = moves_on m (items_blanks seen gap.inside gap.blanks)

  pub at_the_end : b ≡ length t → {r : Result ℕ Stop} → r ≡ finish_of seen b → ItemsRead t r
  at_the_end e h = subst (ItemsRead t) (sym h) (finish_told seen t b e behind_blanks)

  module _ (l : b < length t) where
    at_item : Moves (FromItems false) (FromItem seen) t 0 b
    at_item = moves_on behind_blanks (item_begins seen t b l gap.over)

    pub after_declared : (e : ℕ) → ItemRead t b (Ok (Declared e)) → (i < e) × (e ≤ length t) × Moves (FromItems false) (FromItems true) t 0 e
    after_declared e x = let y = moves_on at_item (x.told seen) in (omega (arith, span_le gap.blanks, x.on), y.inside, y)

    pub after_remarked : (e : ℕ) → ItemRead t b (Ok (Remarked e)) → (i < e) × (e ≤ length t) × Moves (FromItems false) (FromItems seen) t 0 e
    after_remarked e x = let y = moves_on at_item (x.told seen) in (omega (arith, span_le gap.blanks, x.on), y.inside, y)

    pub at_refused : (s : Stop) → ItemRead t b (Err s) → ItemsRead t (Err s)
    at_refused s x = record { read = reads_on at_item (reads_other (x.told seen)); ends = tt }
