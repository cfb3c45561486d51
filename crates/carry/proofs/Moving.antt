-- Which pairs each kind of edit moves, and that type by type all pairs are moved: what both results hold at the end. Assumes nothing.
use Prim.Native.Nat.{ℕ, zero, suc, ◌+◌, ◌≤◌, ◌<◌}
use mathlib.Core.Path.{◌≡◌, refl, sym, ap, ◌∙◌}
use mathlib.Core.Logic.{◌≢◌, ◌⊎◌, inl, inr}
use mathlib.Core.List.{List}
use native.Mathlib.Omega.{arith}
use lib.ListN.{length, get_or}
use Rattle.table.specs.Words.{types}
use Rattle.table.specs.Rule.{child_at, IsText, IsStar}
use Rattle.table.specs.Privilege.{privileges, first_privilege, Edit, text, insert, delete, exchange, replace, type_of, Offers, privilege_of}
use Rattle.table.specs.Named.{texts, inserts, deletes, name_of}
use Rattle.table.proofs.Named.{kind_of, type_in}
use Rattle.table.proofs.Privileges.{edit_belongs, edit_below}
use Rattle.carry.specs.Numbers.{new_number}
use Rattle.carry.specs.Carries.{mapped, Becomes, NewMark, kept, fresh, LostByte, lost, unset, housed, Carries}
use Rattle.carry.specs.Steps.Scattering.{MarkMoved, moved, unmoved, ByteMoved, found, unfound, Scattered, Pair, set_byte}
use Rattle.carry.specs.Steps.Moving.{Moving, OfType, TypesTo, BecomesBy, TextAt, text_at, EndsAt, insert_at, delete_at, ReplacesAt, exchange_at, replace_at}
use Rattle.carry.proofs.Scattering.{Either, scattered_none, scattered_as, scattered_then, below_next}

-- the edits that name the change of a text, an insert and a delete
names_text : (ws : List ℕ) (e : Edit) {x : ℕ} → name_of ws e ≡ texts x → e ≡ text x
names_text ws (text y) q = ap text (ap type_in q)
names_text ws (insert y) q = absurd (omega (arith, ap kind_of q))
names_text ws (delete y) q = absurd (omega (arith, ap kind_of q))
names_text ws (exchange y) q = absurd (omega (arith, ap kind_of q))
names_text ws (replace y i j) q = absurd (omega (arith, ap kind_of q))

names_insert : (ws : List ℕ) (e : Edit) {x c : ℕ} → name_of ws e ≡ inserts x c → e ≡ insert x
names_insert ws (text y) q = absurd (omega (arith, ap kind_of q))
names_insert ws (insert y) q = ap insert (ap type_in q)
names_insert ws (delete y) q = absurd (omega (arith, ap kind_of q))
names_insert ws (exchange y) q = absurd (omega (arith, ap kind_of q))
names_insert ws (replace y i j) q = absurd (omega (arith, ap kind_of q))

names_delete : (ws : List ℕ) (e : Edit) {x c : ℕ} → name_of ws e ≡ deletes x c → e ≡ delete x
names_delete ws (text y) q = absurd (omega (arith, ap kind_of q))
names_delete ws (insert y) q = absurd (omega (arith, ap kind_of q))
names_delete ws (delete y) q = ap delete (ap type_in q)
names_delete ws (exchange y) q = absurd (omega (arith, ap kind_of q))
names_delete ws (replace y i j) q = absurd (omega (arith, ap kind_of q))

module _ (old new numbers : List ℕ) (x y : ℕ) (y_is : y ≡ new_number numbers x) where
  abbrev By : (Edit → Type 0) → ℕ → ℕ → Type 0
  By Asked = BecomesBy Asked old new numbers

  -- what becomes of the change of the text of x is that of y, and of insert and delete those
  record TextMoves (p q : ℕ) : Type 0 where
    old_text : IsText old x
    new_text : IsText new y
    old_is : p ≡ first_privilege old x
    new_is : q ≡ first_privilege new y

  text_moves : (p q : ℕ) → By (TextAt x) p q → TextMoves p q
  text_moves p q h = go h.becomes.before h.asked h.becomes.offered h.becomes.old_is h.becomes.same
    where
      s : Becomes old new numbers p q
      s = h.becomes

      go : (e : Edit) → TextAt x e → Offers old e → privilege_of old e ≡ p → name_of new s.after ≡ mapped (new_number numbers) (name_of old e) → TextMoves p q
      go e text_at o is n =
          let f = names_text new s.after (n ∙ ap texts (sym y_is)) in
          record { old_text = o; new_text = rw f at s.offers; old_is = sym is; new_is = sym s.new_is ∙ ap (privilege_of new) f }

  pub text_none_old : {marks out gone : List ℕ} → ¬ IsText old x → Scattered (By (TextAt x)) marks out gone out gone
  text_none_old {marks} {out} {gone} d = scattered_none (By (TextAt x)) marks out gone (λ p q h. d (text_moves p q h).old_text)

  pub text_none_new : {marks out gone : List ℕ} → ¬ IsText new y → Scattered (By (TextAt x)) marks out gone out gone
  text_none_new {marks} {out} {gone} d = scattered_none (By (TextAt x)) marks out gone (λ p q h. d (text_moves p q h).new_text)

  pub text_moved : {marks out lost m l : List ℕ} {first onto : ℕ} → IsText old x → IsText new y → first ≡ first_privilege old x → onto ≡ first_privilege new y
      → Scattered (Pair first onto) marks out lost m l → Scattered (By (TextAt x)) marks out lost m l
  text_moved {first = first} {onto = onto} o n e f = scattered_as (Pair first onto) (By (TextAt x))
      (λ p q h. record {
        becomes = record { before = text x; offered = o; old_is = sym (h.0 ∙ e); after = text y; offers = n; new_is = sym (h.1 ∙ f); same = ap texts y_is };
        asked = text_at;
      })
      (λ p q h. let t = text_moves p q h in (t.old_is ∙ sym e, t.new_is ∙ sym f))

  record EndsMove (p q : ℕ) : Type 0 where
    old_star : IsStar old x
    new_star : IsStar new y
    child : new_number numbers (child_at old x 0) ≡ child_at new y 0
    is : Pair (first_privilege old x) (first_privilege new y) p q ⊎ Pair (first_privilege old x + 1) (first_privilege new y + 1) p q

  ends_move : (p q : ℕ) → By (EndsAt x) p q → EndsMove p q
  ends_move p q h = go h.becomes.before h.asked h.becomes.offered h.becomes.old_is h.becomes.same
    where
      s : Becomes old new numbers p q
      s = h.becomes

      go : (e : Edit) → EndsAt x e → Offers old e → privilege_of old e ≡ p → name_of new s.after ≡ mapped (new_number numbers) (name_of old e) → EndsMove p q
      go e insert_at o is n =
          let named : name_of new s.after ≡ inserts y (new_number numbers (child_at old x 0)) = rw y_is n in
          let f = names_insert new s.after named in
          let name : inserts y (child_at new y 0) ≡ inserts y (new_number numbers (child_at old x 0)) = rw f at named in
          record {
            old_star = o;
            new_star = rw f at s.offers;
            child = cc;
            is = inl (sym is, sym s.new_is ∙ ap (privilege_of new) f);
          }
      go e delete_at o is n =
          let named : name_of new s.after ≡ deletes y (new_number numbers (child_at old x 0)) = rw y_is n in
          let f = names_delete new s.after named in
          let name : deletes y (child_at new y 0) ≡ deletes y (new_number numbers (child_at old x 0)) = rw f at named in
          record {
            old_star = o;
            new_star = rw f at s.offers;
            child = cc;
            is = inr (sym is, sym s.new_is ∙ ap (privilege_of new) f);
          }

  pub ends_none_old : {marks out gone : List ℕ} → ¬ IsStar old x → Scattered (By (EndsAt x)) marks out gone out gone
  ends_none_old {marks} {out} {gone} d = scattered_none (By (EndsAt x)) marks out gone (λ p q h. d (ends_move p q h).old_star)

  pub ends_none_new : {marks out gone : List ℕ} → ¬ IsStar new y → Scattered (By (EndsAt x)) marks out gone out gone
  ends_none_new {marks} {out} {gone} d = scattered_none (By (EndsAt x)) marks out gone (λ p q h. d (ends_move p q h).new_star)

  pub ends_none_child : {marks out gone : List ℕ} → new_number numbers (child_at old x 0) ≢ child_at new y 0 → Scattered (By (EndsAt x)) marks out gone out gone
  ends_none_child {marks} {out} {gone} d = scattered_none (By (EndsAt x)) marks out gone (λ p q h. d (ends_move p q h).child)

  pub ends_moved : {marks out lost m l n k : List ℕ} {first onto : ℕ} → IsStar old x → IsStar new y → new_number numbers (child_at old x 0) ≡ child_at new y 0
      → first ≡ first_privilege old x → onto ≡ first_privilege new y → Scattered (Pair first onto) marks out lost m l
      → Scattered (Pair (first + 1) (onto + 1)) marks m l n k → Scattered (By (EndsAt x)) marks out lost n k
  ends_moved {first = first} {onto = onto} o n c e f = scattered_then (Pair first onto) (Pair (first + 1) (onto + 1)) (By (EndsAt x)) (record {
    first = λ p q h. record {
      becomes = record {
        before = insert x;
        offered = o;
        old_is = sym (h.0 ∙ e);
        after = insert y;
        offers = n;
        new_is = sym (h.1 ∙ f);
        same = ap (inserts y) (sym c) ∙ ap (λ (z : ℕ). inserts z (new_number numbers (child_at old x 0))) y_is;
      };
      asked = insert_at;
    };
    second = λ p q h. record {
      becomes = record {
        before = delete x;
        offered = o;
        old_is = sym (h.0 ∙ ap (λ (z : ℕ). z + 1) e);
        after = delete y;
        offers = n;
        new_is = sym (h.1 ∙ ap (λ (z : ℕ). z + 1) f);
        same = ap (deletes y) (sym c) ∙ ap (λ (z : ℕ). deletes z (new_number numbers (child_at old x 0))) y_is;
      };
      asked = delete_at;
    };
    split = λ p q h. elim (ends_move p q h).is [
      | inl i ↦ inl (i.0 ∙ sym e, i.1 ∙ sym f)
      | inr d ↦ inr (d.0 ∙ sym (ap (λ (z : ℕ). z + 1) e), d.1 ∙ sym (ap (λ (z : ℕ). z + 1) f))
    ];
  })

-- there is room for the marks of an old edit and a new one
pub room_for : {old marks new numbers out lost : List ℕ} → Moving old marks new numbers out lost → (e f : Edit) → Offers old e → Offers new f
    → (privilege_of old e < length marks) × (privilege_of old e < length lost) × (privilege_of new f < length out)
room_for {old} {new = new} m e f o n = (
  omega (arith, edit_below old e o, m.move.policy.fit.size),
  omega (arith, edit_below old e o, m.lost_size),
  omega (arith, edit_below new f n, m.out_size),
)

-- one set of old edits after another
module _ (old new numbers : List ℕ) where
  as_asked : (X Y : Edit → Type 0) {p q : ℕ} (b : BecomesBy X old new numbers p q) → Y b.becomes.before → BecomesBy Y old new numbers p q
  as_asked X Y b a = record { becomes = b.becomes; asked = a }

  more : (X Y Z : Edit → Type 0) → ((e : Edit) → X e → Z e) → ((e : Edit) → Y e → Z e) → ((e : Edit) → Z e → X e ⊎ Y e)
      → Either (BecomesBy X old new numbers) (BecomesBy Y old new numbers) (BecomesBy Z old new numbers)
  more X Y Z f g h = record {
    first = λ p q b. as_asked X Z b (f b.becomes.before b.asked);
    second = λ p q b. as_asked Y Z b (g b.becomes.before b.asked);
    split = λ p q b. elim (h b.becomes.before b.asked) [ inl z ↦ inl (as_asked Z X b z) | inr z ↦ inr (as_asked Z Y b z) ];
  }

  -- the edits at a type are of three kinds
  abbrev Plain : ℕ → Edit → Type 0
  Plain x e = TextAt x e ⊎ EndsAt x e

  kinds : (x : ℕ) (e : Edit) → OfType x e → Plain x e ⊎ ReplacesAt x e
  kinds x (text y) q = inl (inl (rw q text_at))
  kinds x (insert y) q = inl (inr (rw q insert_at))
  kinds x (delete y) q = inl (inr (rw q delete_at))
  kinds x (exchange y) q = inr (rw q exchange_at)
  kinds x (replace y i j) q = inr (rw q (replace_at i j))

  plain_type : (x : ℕ) (e : Edit) → Plain x e → OfType x e
  plain_type x e (inl text_at) = refl
  plain_type x e (inr insert_at) = refl
  plain_type x e (inr delete_at) = refl

  replaces_type : (x : ℕ) (e : Edit) → ReplacesAt x e → OfType x e
  replaces_type x e exchange_at = refl
  replaces_type x e (replace_at i j) = refl

  pub type_moved : {marks out lost m l n k o j : List ℕ} (x : ℕ) → Scattered (BecomesBy (TextAt x) old new numbers) marks out lost m l
      → Scattered (BecomesBy (EndsAt x) old new numbers) marks m l n k → Scattered (BecomesBy (ReplacesAt x) old new numbers) marks n k o j
      → Scattered (BecomesBy (OfType x) old new numbers) marks out lost o j
  type_moved x a b c =
      scattered_then (BecomesBy (Plain x) old new numbers) (BecomesBy (ReplacesAt x) old new numbers) (BecomesBy (OfType x) old new numbers)
      (more (Plain x) (ReplacesAt x) (OfType x) (plain_type x) (replaces_type x) (kinds x))
      (scattered_then (BecomesBy (TextAt x) old new numbers) (BecomesBy (EndsAt x) old new numbers) (BecomesBy (Plain x) old new numbers)
      (more (TextAt x) (EndsAt x) (Plain x) (λ e h. inl h) (λ e h. inr h) (λ e h. h)) a b)
      c

  pub types_start : (marks out gone : List ℕ) → Scattered (BecomesBy (TypesTo 0) old new numbers) marks out gone out gone
  types_start marks out gone = scattered_none (BecomesBy (TypesTo 0) old new numbers) marks out gone (λ p q b. omega (arith, b.asked))

  pub types_more : {marks out lost m l n k : List ℕ} (x : ℕ) → Scattered (BecomesBy (TypesTo x) old new numbers) marks out lost m l
      → Scattered (BecomesBy (OfType x) old new numbers) marks m l n k → Scattered (BecomesBy (TypesTo (x + 1)) old new numbers) marks out lost n k
  types_more x = scattered_then (BecomesBy (TypesTo x) old new numbers) (BecomesBy (OfType x) old new numbers) (BecomesBy (TypesTo (x + 1)) old new numbers)
      (more (TypesTo x) (OfType x) (TypesTo (x + 1)) (λ e h. omega arith) (λ e h. omega arith) (λ e h. below_next (type_of e) x h))

  -- all types moved, into unset marks and with every set mark counted as lost before
  pub types_all : {marks out gone m l : List ℕ} (x : ℕ) → types old ≤ x → length out ≡ privileges new → length gone ≡ privileges old
      → ((q : ℕ) → q < privileges new → get_or out q 0 ≡ 0) → ((p : ℕ) → p < privileges old → get_or gone p 0 ≡ set_byte (get_or marks p 0))
      → Scattered (BecomesBy (TypesTo x) old new numbers) marks out gone m l → Carries old marks new numbers m l
  types_all {marks} {out} {gone} {m} {l} x high v w clear all s = record {
    size = s.out_size ∙ v;
    marks_are = λ q h. mark q h (s.marks_at q);
    bytes_size = s.lost_size ∙ w;
    bytes_are = λ p h. byte p h (s.bytes_at p) (get_or marks p 0) refl;
  }
    where
      by : {p q : ℕ} → Becomes old new numbers p q → BecomesBy (TypesTo x) old new numbers p q
      by b = record { becomes = b; asked = omega (arith, (edit_belongs old b.before b.offered).type) }

      mark : (q : ℕ) → q < privileges new → MarkMoved (λ p. BecomesBy (TypesTo x) old new numbers p q) marks (get_or out q 0) (get_or m q 0)
          → NewMark (λ p. Becomes old new numbers p q) marks (get_or m q 0)
      mark q h (moved p b e) = kept p b.becomes e
      mark q h (unmoved none e) = fresh (λ p b. none p (by b)) (e ∙ clear q h)

      byte : (p : ℕ) → p < privileges old → ByteMoved (BecomesBy (TypesTo x) old new numbers p) (get_or gone p 0) (get_or l p 0) → (a : ℕ) → get_or marks p 0 ≡ a
          → LostByte (Becomes old new numbers p) (get_or marks p 0) (get_or l p 0)
      byte p h (found q b e) a is = housed q b.becomes e
      byte p h (unfound none e) zero is = unset is (e ∙ all p h ∙ ap set_byte is)
      byte p h (unfound none e) (suc a) is = lost (λ z. omega (arith, is, z)) (λ q b. none q (by b)) (e ∙ all p h ∙ ap set_byte is)
