-- The replacements at a type by the kinds they name: each is that of an edit that names them, and each such edit is one of them; and where they go. Assumes
-- nothing.
use Prim.Native.Nat.{ℕ, ◌≤◌, ◌<◌}
use mathlib.Core.Path.{◌≡◌, refl, sym, ap, ◌∙◌}
use mathlib.Core.List.{List}
use native.Mathlib.Omega.{arith}
use lib.ListN.{length, get_or}
use Rattle.table.specs.Words.{types}
use Rattle.table.specs.Rule.{rule_at, kind_in, count_of, child_at, children_at, IsStar}
use Rattle.table.specs.Privilege.{gap_of, privileges, exchange_of, Edit, text, insert, delete, exchange, replace, Offers, privilege_of}
use Rattle.table.specs.Named.{replaces, name_of}
use Rattle.table.specs.Check.{Accepted}
use Rattle.table.specs.Steps.Numbering.{Small, replace_in, ReplaceableIn}
use Rattle.table.specs.declared.privilege.Numbering.{Numbering}
use Rattle.table.proofs.Facts.{facts}
use Rattle.table.proofs.Privileges.{gap_two, two_gap, edit_below, replaceable_in, in_replaceable, replace_in_lem}
use Rattle.policy.specs.Steps.Squares.{Room}
use Rattle.carry.specs.Numbers.{new_number}
use Rattle.carry.specs.Carries.{mapped}
use Rattle.carry.specs.Steps.Scattering.{Scattered}
use Rattle.carry.specs.Steps.Placing.{ReplacesAs, choice, star, none, Place, there, nowhere, Places, RowsTo, Replaces}
use Rattle.carry.specs.Steps.Moving.{BecomesBy, ReplacesAt, exchange_at, replace_at}
use Rattle.table.proofs.Named.{kind_of, type_in}
use Rattle.carry.proofs.Scattering.{scattered_none}

-- one that is not behind the last holds the type, and is the only one
pub place_holds : {kids : List ℕ} {n c r : ℕ} → Place kids n c r → r < n → get_or kids r 0 ≡ c
place_holds (there l e) h = e
place_holds (nowhere e f) h = absurd (omega arith)

-- the first privilege behind a star's insert and delete is low
star_low : {ws : List ℕ} {x : ℕ} → Accepted ws → IsStar ws x → exchange_of ws x ≤ 4096
star_low {ws} {x} a s = omega (arith, (facts a).privileges_few, edit_below ws (delete x) s)

module _ {ws : List ℕ} {x : ℕ} (a : Accepted ws) (l : x < types ws) where
  abbrev kind : ℕ
  kind = kind_in (rule_at ws x)

  pub replaces_star : {first gap : ℕ} → kind ≡ 4 → first ≡ exchange_of ws x → gap ≡ gap_of ws → gap ≤ 1
      → ReplacesAs ws x (record { first = first; count = 1; gap = gap })
  replaces_star e f g few =
      let s : IsStar ws x = record { type = l; kind_is = e } in
      star s (record { low = omega (arith, star_low a s); few = omega arith; narrow = few }) f refl g

-- an edit that names a replacement is one, and the kinds that it names are two
names_replacement : (ws : List ℕ) (e : Edit) {y a b : ℕ} → name_of ws e ≡ replaces y a b → ReplacesAt y e
names_replacement ws (text x) q = absurd (omega (arith, ap kind_of q))
names_replacement ws (insert x) q = absurd (omega (arith, ap kind_of q))
names_replacement ws (delete x) q = absurd (omega (arith, ap kind_of q))
names_replacement ws (exchange x) q = let e : x ≡ _ = ap type_in q in rw e exchange_at
names_replacement ws (replace x i j) q = let e : x ≡ _ = ap type_in q in rw e (replace_at i j)

replaces_one : {y a b c d : ℕ} → replaces y a b ≡ replaces y c d → (a ≡ c) × (b ≡ d)
replaces_one q = (cc, cc)

-- the replacement at i and j of type x is that of an edit which names the children there
pub record NamesAt (ws : List ℕ) (x : ℕ) (n : Numbering) (i j : ℕ) (e : Edit) : Type 0 where
  pub at : ReplacesAt x e
  pub offers : Offers ws e
  pub named : name_of ws e ≡ replaces x (child_at ws x i) (child_at ws x j)
  pub is : privilege_of ws e ≡ replace_in n i j

module _ {ws : List ℕ} {x : ℕ} {n : Numbering} where
  pub replaces_small : ReplacesAs ws x n → Small n
  replaces_small (choice c h) = record { low = h.low; few = h.few; narrow = h.narrow }
  replaces_small (star s small f k g) = small
  replaces_small (none c s small k) = small

  -- it has no more kinds than the type has children
  pub replaces_few : Accepted ws → ReplacesAs ws x n → n.count ≤ count_of ws x
  replaces_few a (choice c h) = omega (arith, h.count)
  replaces_few a (star s small f k g) = omega (arith, (facts a).star_one x s)
  replaces_few a (none c s small k) = omega arith

  pub replaced_edit : (i j : ℕ) → ReplacesAs ws x n → ReplaceableIn n i j → (e : Edit) × NamesAt ws x n i j e
  replaced_edit i j (choice c h) r = (
    replace x i j,
    record { at = replace_at i j; offers = in_replaceable h c r; named = refl; is = sym (replace_in_lem h i j) },
  )
  replaced_edit i j (star s small f k g) r =
      let zero_i : i ≡ 0 = omega (arith, r.from) in
      let zero_j : j ≡ 0 = omega (arith, r.to) in
      let none = r.same_kind (zero_i ∙ sym zero_j) in (
        exchange x,
        record {
          at = exchange_at;
          offers = record { star = s; same_kind = two_gap ws (sym g ∙ none) };
          named = rw (zero_i, zero_j);
          is = rw (zero_i, zero_j) (omega (arith, f));
        },
      )
  replaced_edit i j (none c s small k) r = absurd (omega (arith, r.from))

  pub edit_replaced : {e : Edit} → ReplacesAs ws x n → ReplacesAt x e → Offers ws e → (i : ℕ) × (j : ℕ) × ReplaceableIn n i j × NamesAt ws x n i j e
  edit_replaced (choice c h) exchange_at o = absurd (omega (arith, c.kind_is, o.star.kind_is))
  edit_replaced (choice c h) (replace_at i j) o =
      (i, j, replaceable_in h o, record { at = replace_at i j; offers = o; named = refl; is = sym (replace_in_lem h i j) })
  edit_replaced (star s small f k g) exchange_at o = (
    0,
    0,
    record { from = omega arith; to = omega arith; same_kind = λ e. g ∙ gap_two ws o.same_kind },
    record { at = exchange_at; offers = o; named = refl; is = omega (arith, f) },
  )
  edit_replaced (star s small f k g) (replace_at i j) o = absurd (omega (arith, s.kind_is, o.choice.kind_is))
  edit_replaced (none c s small k) exchange_at o = absurd (s o.star)
  edit_replaced (none c s small k) (replace_at i j) o = absurd (c o.choice)

-- a type without any has no edit that is one
pub replaces_never : (old new numbers : List ℕ) {marks out lost : List ℕ} {x : ℕ} {n : Numbering} → ReplacesAs old x n → n.count ≡ 0
    → Scattered (BecomesBy (ReplacesAt x) old new numbers) marks out lost out lost
replaces_never old new numbers {marks} {out} {lost} {x} f e = scattered_none (BecomesBy (ReplacesAt x) old new numbers) marks out lost (λ p q b.
    let r = edit_replaced f b.asked b.becomes.offered in omega (arith, r.2.from))

-- there is room for them where there is for all privileges
pub replaces_room : {ws l : List ℕ} {x : ℕ} {n : Numbering} → ReplacesAs ws x n → length l ≡ privileges ws → Room n l
replaces_room {ws} f s = record {
  small = replaces_small f;
  room = λ i j r. let e = replaced_edit i j f r in omega (arith, s, e.1.is, edit_below ws e.0 e.1.offers);
}

-- The replacements of the old type x go where their kinds stand at the new type y
module _ (old new numbers at : List ℕ) (x y : ℕ) (y_is : y ≡ new_number numbers x) (from to : Numbering) (b : Accepted new) (m : y < types new)
    (f : ReplacesAs old x from) (g : ReplacesAs new y to) (placed : Places (children_at old x) from.count numbers (children_at new y) to.count at) where
  -- the kind at i stands at its place, if it has one, and at no other
  kind_there : (i : ℕ) → i < from.count → get_or at i 0 < to.count → child_at new y (get_or at i 0) ≡ new_number numbers (child_at old x i)
  kind_there i h k = place_holds (placed i h) k

  only_there : (i k : ℕ) → i < from.count → k < to.count → child_at new y k ≡ new_number numbers (child_at old x i) → get_or at i 0 ≡ k
  only_there i k h z e = by (placed i h)
    where
      few : to.count ≤ count_of new y
      few = replaces_few b g

      by : Place (children_at new y) to.count (new_number numbers (child_at old x i)) (get_or at i 0) → get_or at i 0 ≡ k
      by (there r is) = (facts b).child_once y (get_or at i 0) k m (omega (arith, few)) (omega (arith, few)) (is ∙ sym e)
      by (nowhere r never) = absurd (never k z e)

  pub replaces_become : (p q : ℕ) → Replaces from to at (RowsTo from.count) p q → BecomesBy (ReplacesAt x) old new numbers p q
  replaces_become p q r =
      let e = replaced_edit r.i r.j f r.old in
      let d = replaced_edit (get_or at r.i 0) (get_or at r.j 0) g r.new in
      let from_is = kind_there r.i r.old.from r.new.from in
      let to_is = kind_there r.j r.old.to r.new.to in
      record {
        becomes = record {
          before = e.0;
          offered = e.1.offers;
          old_is = e.1.is ∙ sym r.old_is;
          after = d.0;
          offers = d.1.offers;
          new_is = d.1.is ∙ sym r.new_is;
          same = d.1.named ∙ rw (from_is, to_is, y_is) (sym (ap (mapped (new_number numbers)) e.1.named));
        };
        asked = e.1.at;
      }

  pub become_replaces : (p q : ℕ) → BecomesBy (ReplacesAt x) old new numbers p q → Replaces from to at (RowsTo from.count) p q
  become_replaces p q h =
      let s = h.becomes in
      let e = edit_replaced f h.asked s.offered in
      let i = e.0 in
      let j = e.1 in
      let name : name_of new s.after ≡ replaces y (new_number numbers (child_at old x i)) (new_number numbers (child_at old x j))
      = rw y_is (s.same ∙ ap (mapped (new_number numbers)) e.3.named) in
      let d = edit_replaced g (names_replacement new s.after name) s.offers in
      let both = replaces_one (sym d.3.named ∙ name) in
      let from_is = only_there i d.0 e.2.from d.2.from both.0 in
      let to_is = only_there j d.1 e.2.to d.2.to both.1 in
      record {
        i = i;
        j = j;
        within = e.2.from;
        old = e.2;
        old_is = sym s.old_is ∙ e.3.is;
        new = rw (from_is, to_is) d.2;
        new_is = sym s.new_is ∙ d.3.is ∙ rw (from_is, to_is);
      }
