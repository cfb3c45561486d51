-- What each pass over a text of the grammar leaves, and what it refuses. Assumes nothing.
use Rattle.std.proofs.Common.{Some, None, ℕ, zero, suc, ◌+◌, ◌*◌, ◌≤◌, ◌<◌, ◌≡◌, refl, sym, ◌∙◌, ap, subst, inl, inr, List, arith, length, take, drop, length-take, take-append-drop, ext_get_or, get_or-take}
use Rattle.grammar.specs.Tree.{Particle, Particles, Content, Declaration, Nth, first, later}
use Rattle.grammar.specs.Grammar.{Cp, cp_name, cp_group, Children, as_choice, as_sequence, Row, closed, separated, Spec, spec_empty, spec_any, spec_text, spec_starred, spec_mixed, spec_children}
use Rattle.grammar.specs.Grammar.{element, Items, no_more, a_space, a_comment, a_declaration}
use Rattle.grammar.specs.Stops.{Begins, Stops}
use Rattle.grammar.specs.Limits.{DeepAt, DeepIn, deep_group, long_text}
use Rattle.grammar.proofs.OneTree.{one_tree}
use Rattle.grammar.proofs.Stopping.{le_or_lt, text_no_stop, over_within}
use Rattle.model.specs.Tables.{rules_of, kids_of_all, number_of, table_of}
use Rattle.model.proofs.Counts.{declared_few}
use Rattle.model.proofs.Shape.{table_length}
use Rattle.scan.specs.Steps.Scanned as scanned
use Rattle.scan.specs.Steps.Scanned.{Stopped, Passed}
use Rattle.write.specs.Steps.Code.{code_of_all, Counted, untotalled, Written}
use Rattle.code.specs.Steps.Holding as holding
use Rattle.code.specs.Steps.Putting.{ShallowIn, AllShallowIn, AllPut}
use Rattle.code.proofs.Entries.{code_short}
use Rattle.names.specs.Steps.Names as names
use Rattle.dtd.specs.Answer.{Large, many_types, many_children, Read, NoTable, no_text, too_large, misnamed, no_table, DtdAnswer, refused, too_short, done}
use Rattle.dtd.specs.Steps.Last.{Last, last_refused, last_short, last_done}
use Rattle.dtd.specs.Steps.Stages.{declarations, Collected, Encoded, Writable}

-- a group of a text stands within it
mutual
  deep_cp : {t : List ℕ} {a b : ℕ} {p : Particle} → Cp t a b p → (n k : ℕ) → DeepAt p n k → k < length t
  deep_cp (cp_name x m) n k w = absurd w
  deep_cp (cp_group c) n k w = deep_children c n k w

  deep_children : {t : List ℕ} {a b : ℕ} {p : Particle} → Children t a b p → (n k : ℕ) → DeepAt p n k → k < length t
  deep_children (as_choice g s r m) zero k (inl e) = omega (arith, g.within)
  deep_children (as_choice g s r m) zero k (inr w) = deep_row r zero k w
  deep_children (as_choice g s r m) (suc n) k w = deep_row r n k w
  deep_children (as_sequence g s r m) zero k (inl e) = omega (arith, g.within)
  deep_children (as_sequence g s r m) zero k (inr w) = deep_row r zero k w
  deep_children (as_sequence g s r m) (suc n) k w = deep_row r n k w

  deep_row : {t : List ℕ} {s a b : ℕ} {ps : Particles} → Row t s a b ps → (n k : ℕ) → DeepIn ps n k → k < length t
  deep_row (closed c s g) n k w = deep_cp c n k w
  deep_row (separated c s g u r) n k (inl w) = deep_cp c n k w
  deep_row (separated c s g u r) n k (inr w) = deep_row r n k w

-- the refusals of the scan
module _ {t : List ℕ} {format k : ℕ} where
  pub stopped_answer : Stopped t k → NoTable t format 20 k
  stopped_answer x = no_text refl x.stops (λ j h o. elim o [ inl y ↦ x.first j h y | inr y ↦ large_stops y x.stops ])
    where
      large_stops : {j : ℕ} → Large t j → Stops t k → ⊥
      large_stops (many_types e g n) s = text_no_stop g s
      large_stops (many_children e g n) s = text_no_stop g s

  pub passed_answer : Passed t k → NoTable t format 21 k
  passed_answer x = too_large refl (inl x.passes) (λ j h o. elim o [ inl y ↦ x.first j h y | inr y ↦ late h y ]) x.before
    where
      late : {j : ℕ} → j < k → Large t j → ⊥
      late h (many_types e g n) = omega (arith, over_within x.passes)
      late h (many_children e g n) = omega (arith, over_within x.passes)

at_length : {t : List ℕ} {j : ℕ} → Large t j → j ≡ length t
at_length (many_types e g n) = e
at_length (many_children e g n) = e

-- a text that was scanned
module _ {t : List ℕ} (r : scanned.Read t) where
  pub large_answer : {format : ℕ} → Large t (length t) → NoTable t format 21 (length t)
  large_answer x = too_large refl (inr x) (λ j h o. elim o [ inl y ↦ r.small j y | inr y ↦ omega (arith, at_length y) ]) (λ j h s. text_no_stop r.text s)

  pub short_text : length t ≤ 65536
  short_text = elim (le_or_lt (length t) 65536) [ inl h ↦ h | inr h ↦ absurd (r.small 65536 (long_text refl h)) ]

  begins_whole : (n : ℕ) → n ≤ length t → Begins t n r.head r.tail
  begins_whole n h = record { inside = h; more_bytes = drop n t; text = rw (take-append-drop n t) r.text }

  shallow_spec : {a b i : ℕ} {d : Declaration} {x : Content} → Nth (declarations r) i d → d.content ≡ x → Spec t a b x → ShallowIn x
  shallow_spec h e (spec_empty l) = tt
  shallow_spec h e (spec_any l) = tt
  shallow_spec h e (spec_text p s g) = tt
  shallow_spec h e (spec_starred p n) = tt
  shallow_spec h e (spec_mixed p s g n) = tt
  shallow_spec {i = i} h e (spec_children {p = p} c) = λ k w. r.small k (deep_group (record { head = r.head; tail = r.tail; begins = begins_whole (suc k) (deep_children c 16 k w); number = i; there = h }) e w)

  shallow_items : {a : ℕ} {es : List Declaration} → Items t a es → ((d : Declaration) (i : ℕ) → Nth es i d → (j : ℕ) × Nth (declarations r) j d) → AllShallowIn es
  shallow_items (no_more e) f = tt
  shallow_items (a_space o i) f = shallow_items i f
  shallow_items (a_comment c i) f = shallow_items i f
  shallow_items (a_declaration {d = d} (element l s n p u x v g) i) f = (shallow_spec (f d 0 first).1 refl x, shallow_items i (λ e k h. f e (suc k) (later h)))

  pub all_shallow : AllShallowIn (declarations r)
  all_shallow = shallow_items r.text.items (λ d i h. (i, h))

-- the declared names
module _ {t list : List ℕ} {count : ℕ} (r : scanned.Read t) (x : names.Collected t list count) where
  pub collected : count ≤ 256 → Collected t list count
  collected h =
      let y = x.of (declarations r) r.text.items (short_text r) in
      record { read = r; known = record { all = sym y.0; few = h; listed = y.1 h; short = short_text r } }

  pub many_declared : {format : ℕ} → 256 < count → NoTable t format 21 (length t)
  many_declared h =
      let y = x.of (declarations r) r.text.items (short_text r) in
      large_answer r (many_types refl r.text (omega (arith, y.0, declared_few (declarations r))))

-- the code
module _ {t list buffer : List ℕ} {count size : ℕ} (c : Collected t list count) (x : AllPut t list count buffer size) where
  held : holding.Holds buffer size (code_of_all (number_of (declarations c.read)) (declarations c.read))
  held = x.of (declarations c.read) c.read.text.items c.known (all_shallow c.read)

  pub encoded : {front : List ℕ} (m : ℕ) → m ≡ size → size ≤ 1280 → front ≡ take m buffer → Encoded t list count front
  encoded {front} m z h d = record { collected = c; coded = record { is = e ∙ same; few = omega (arith, c.known.all, c.known.few); short = omega (arith, ap {A = List ℕ} length e, length-take size buffer, x.kept) } }
    where
      e : front ≡ take size buffer
      e = d ∙ ap (λ (k : ℕ). take k buffer) z

      code_of : List ℕ
      code_of = code_of_all (number_of (declarations c.read)) (declarations c.read)

      n : length buffer ≡ 1280
      n = x.kept

      whole : length code_of ≡ size
      whole = let z = held.sized in omega arith

      same : take size buffer ≡ code_of
      same = ext_get_or 0 (take size buffer) code_of (omega (arith, whole, length-take size buffer)) (λ i l. (get_or-take size buffer i 0 (omega (arith, length-take size buffer)) ∙ held.same i (omega (arith, whole, length-take size buffer)) (omega (arith, length-take size buffer))))

  pub code_long : {format : ℕ} → 1280 < size → NoTable t format 21 (length t)
  code_long h =
      let ds = declarations c.read in
      large_answer c.read (many_children refl c.read.text (let z = held.sized in omega (arith, code_short (number_of ds) ds, c.known.all, c.known.few)))

-- the counts
module _ {t list code-words : List ℕ} {count types kids : ℕ} (c : Encoded t list count code-words) (x : Counted (declarations c.collected.read) types kids) where
  pub too_many_types : {format : ℕ} → 256 < types → NoTable t format 21 (length t)
  too_many_types h = large_answer c.collected.read (many_types refl c.collected.read.text (omega (arith, x.types_are)))

  pub too_many_kids : {format : ℕ} → 1024 < kids → NoTable t format 21 (length t)
  too_many_kids h = large_answer c.collected.read (many_children refl c.collected.read.text (omega (arith, x.kids_are)))

  module _ (few : types ≤ 256) (short : kids ≤ 1024) where
    read_it : Read t c.collected.read.head c.collected.read.tail
    read_it = record { text = c.collected.read.text; small = λ k o. elim o [ inl y ↦ c.collected.read.small k y | inr y ↦ no_large y ] }
      where
        no_large : {k : ℕ} → Large t k → ⊥
        no_large (many_types e g n) = let z = subst (λ (s : List Declaration). 256 < length (rules_of s)) (one_tree g c.collected.read.text) n in omega (arith, x.types_are)
        no_large (many_children e g n) = let z = subst (λ (s : List Declaration). 1024 < length (kids_of_all (rules_of s))) (one_tree g c.collected.read.text) n in omega (arith, x.kids_are)

    pub wrong_name : {format k : ℕ} → names.FirstMisnamed (declarations c.collected.read) (Some k) → NoTable t format 22 k
    wrong_name y = misnamed refl read_it y.0 y.1

    pub writable : Writable (declarations c.collected.read) code-words count types kids
    writable = record { coded = c.coded; all = c.collected.known.all; counted = x; small = record { some = omega arith; types_few = omega (arith, x.types_are); kids_few = omega (arith, x.kids_are) } }

    pub last_answer : {out after : List ℕ} {format n p : ℕ} → names.FirstMisnamed (declarations c.collected.read) None
        → Last (table_of format (declarations c.collected.read)) out n p after → DtdAnswer t out format n p after
    last_answer y (last_refused k e r z) = refused (no_table k e (record { read = read_it; right = y }) r) z
    last_answer y (last_short e q a l z) = too_short e q (record { named = record { read = read_it; right = y }; accepted = a }) l z
    last_answer y (last_done e q a l z) = done e q (record { named = record { read = read_it; right = y }; accepted = a }) l z

-- the words that were written
module _ {words front : List ℕ} (n : ℕ) {ds : List Declaration} {code-words : List ℕ} {declared types kids : ℕ} (w : Writable ds code-words declared types kids) (x : Written code-words words declared types kids)
    (e : n ≡ 8 + 3 * types + kids) (f : front ≡ take n words) where
  size_is : n ≡ length (table_of 1 ds)
  size_is = omega (arith, table_length 1 ds, w.counted.types_are, w.counted.kids_are)

  pub front_is : front ≡ untotalled ds
  front_is = f ∙ ap (λ (k : ℕ). take k words) size_is ∙ x.table ds w.coded w.all w.counted (omega (arith, w.counted.types_are, w.small.types_few)) (omega (arith, w.counted.kids_are, w.small.kids_few))
