-- Carrying over to the same table with its types renumbered, by a list that says their new numbers: each edit keeps its mark, none is lost, the way back gives
-- the old marks, and what is clean stays so; over to the table itself, nothing changes. Assumes nothing.
use Prim.Native.Nat.{ℕ, ◌<◌}
use mathlib.Core.Path.{◌≡◌, refl, sym, ap, ◌∙◌}
use mathlib.Core.Logic.{◌≢◌, inr, ◌↔◌}
use mathlib.Core.List.{List, ◌++◌, map-id}
use native.Mathlib.Omega.{arith}
use lib.ListN.{length, get_or, drop, replicate, length-replicate, get_or-replicate}
use lib.Seq.{ext_get_or}
use Rattle.table.specs.Words.{types}
use Rattle.table.specs.Rule.{children_at, IsStar, child_at}
use Rattle.table.specs.Privilege.{privileges, Edit, text, insert, delete, exchange, replace, Offers, privilege_of}
use Rattle.table.specs.Named.{inserts, deletes, replaces, name_of}
use Rattle.table.specs.Check.{Accepted}
use Rattle.table.specs.Renumbered.{Renumbered, moved}
use Rattle.table.proofs.Privileges.{edit_some}
use Rattle.table.proofs.Facts.{facts, accepted_childed}
use Rattle.table.proofs.Named.{names_types}
use Rattle.table.proofs.Renumbered.{renumbered_back, position_there, offers_there}
use Rattle.policy.specs.Marks.{Policy}
use Rattle.verdict.specs.Conditions.{Clean}
use Rattle.verdict.specs.Answers.{done}
use Rattle.verdict.specs.declared.Answer.{Answer}
use Rattle.verdict.specs.Carried.{Carried}
use Rattle.verdict.proofs.Carried.{carried_back, carried_one}
use Rattle.verdict.proofs.Renumbered as verdict
use Rattle.carry.specs.Numbers.{new_number}
use Rattle.carry.specs.Carries.{mapped, Becomes, Carries, Move}
use Rattle.carry.specs.Answers.{Room, CarryAnswer, refused, short, carried}
use Rattle.carry.proofs.Answers.{move_not}
use Rattle.carry.proofs.Becoming.{each_map, mapped_same}
use Rattle.carry.proofs.Keeping.{carries_policy, home_mark, home_byte}

-- the list gives each type the number f
abbrev pub NumberedBy : (ℕ → ℕ) → List ℕ → List ℕ → Type 0
NumberedBy f ws numbers = (x : ℕ) → x < types ws → new_number numbers x ≡ f x

module _ {f g : ℕ → ℕ} {ws vs : List ℕ} (r : Renumbered f g ws vs) (a : Accepted ws) (b : Accepted vs) where
  child_there : {x : ℕ} → IsStar ws x → child_at vs (f x) 0 ≡ f (child_at ws x 0)
  child_there {x} s = position_there r (accepted_childed a) (accepted_childed b) 0 s.type (omega (arith, (facts a).star_one x s))

  -- an edit afterwards names what f maps the types onto that it named before
  name_there : (e : Edit) → Offers ws e → name_of vs (moved f e) ≡ mapped f (name_of ws e)
  name_there (text x) o = refl
  name_there (insert x) o = ap (inserts (f x)) (child_there o)
  name_there (delete x) o = ap (deletes (f x)) (child_there o)
  name_there (exchange x) o = ap (λ (c : ℕ). replaces (f x) c c) (child_there o.star)
  name_there (replace x i j) o =
      let at = position_there r (accepted_childed a) (accepted_childed b) in
      let from : child_at vs (f x) i ≡ f (child_at ws x i) = at i o.choice.type o.from in
      let to : child_at vs (f x) j ≡ f (child_at ws x j) = at j o.choice.type o.to in
      cc

  -- so its privilege before becomes its privilege afterwards
  pub moved_becomes : {numbers : List ℕ} → NumberedBy f ws numbers → (e : Edit) → Offers ws e
      → Becomes ws vs numbers (privilege_of ws e) (privilege_of vs (moved f e))
  moved_becomes {numbers} h e o = record {
    before = e;
    offered = o;
    old_is = refl;
    after = moved f e;
    offers = offers_there r (accepted_childed a) (accepted_childed b) e o;
    new_is = refl;
    same = name_there e o ∙ mapped_same f (new_number numbers) (name_of ws e)
        (each_map (λ t. t < types ws) (λ t. f t ≡ new_number numbers t) (λ t l. sym (h t l)) (name_of ws e) (names_types a e o));
  }

-- the list passes, so that such a policy can be carried
pub renumbered_move : {f g : ℕ → ℕ} {ws vs marks numbers : List ℕ} → Renumbered f g ws vs → Policy ws marks → Accepted vs → length numbers ≡ types ws
    → NumberedBy f ws numbers → Move ws marks vs numbers
renumbered_move {f} {g} {ws} {vs} {marks} {numbers} r p b size h = record {
  policy = p;
  accepted = b;
  listed = record {
    size = size;
    entries = λ x l. record {
      inside = inr (rw (h x l, r.as_many) (r.permutes.there x l));
      once = λ d z k q. differ x z l k (sym (h z (omega arith)) ∙ q ∙ h x l);
    };
  };
}
  where
    differ : (x z : ℕ) → x < types ws → z < x → f z ≢ f x
    differ x z l k q = omega (arith, sym (r.permutes.there_back z (omega arith)) ∙ ap g q ∙ r.permutes.there_back x l)

module _ {f g : ℕ → ℕ} {ws vs marks numbers n bytes : List ℕ} (r : Renumbered f g ws vs) (v : Move ws marks vs numbers) (h : NumberedBy f ws numbers)
    (c : Carries ws marks vs numbers n bytes) where
  becomes : (e : Edit) → Offers ws e → Becomes ws vs numbers (privilege_of ws e) (privilege_of vs (moved f e))
  becomes = moved_becomes r v.policy.accepted v.accepted h

  none_lost : (p : ℕ) → (e : Edit) × Offers ws e × (privilege_of ws e ≡ p) → get_or bytes p 0 ≡ 0
  none_lost p (e, o, q) = rw (← q) (home_byte c (becomes e o))

  -- each edit keeps its mark, and none is lost
  pub renumbered_carries : Carried f ws marks vs n × (bytes ≡ replicate (privileges ws) 0)
  renumbered_carries = (
    record { keeps = λ e o. home_mark v.policy.accepted v.accepted v.listed c (becomes e o) },
    ext_get_or 0 bytes (replicate (privileges ws) 0) (c.bytes_size ∙ sym (length-replicate (privileges ws) 0)) (λ p l.
        let w : p < privileges ws = omega (arith, c.bytes_size) in
        none_lost p (edit_some ws p w) ∙ sym (get_or-replicate {A = ℕ} (privileges ws) p 0 0 w)),
  )

  -- and a policy is clean afterwards if and only if it was
  pub renumbered_clean : Clean ws marks ↔ Clean vs n
  renumbered_clean = verdict.renumbered_clean r v.policy.accepted v.accepted renumbered_carries.0

-- carried there and back, the marks are the old ones
pub there_and_back : {f g : ℕ → ℕ} {ws vs marks numbers n b back m c : List ℕ} → Renumbered f g ws vs → Move ws marks vs numbers → NumberedBy f ws numbers
    → Carries ws marks vs numbers n b → length back ≡ types vs → NumberedBy g vs back → Carries vs n ws back m c
    → (m ≡ marks) × (c ≡ replicate (privileges vs) 0)
there_and_back r v h there size k again =
    let a = v.policy.accepted in
    let behind = renumbered_back r (accepted_childed a) in
    let w = renumbered_move behind (carries_policy v there) a size k in
    let made = renumbered_carries behind w k again in (
      carried_one behind v.accepted a made.0 (carried_back r a v.accepted (renumbered_carries r v h there).0) again.size v.policy.fit.size,
      made.1,
    )

-- a table is itself renumbered, each type keeping its number
pub itself_renumbered : (ws : List ℕ) → Renumbered (λ x. x) (λ x. x) ws ws
itself_renumbered ws = record {
  permutes = record { there = λ t l. l; back = λ t l. l; there_back = λ t l. refl; back_there = λ t l. refl };
  format = refl;
  as_many = refl;
  root_is = refl;
  kind = λ t l. refl;
  children = λ t l. sym (map-id (children_at ws t));
}

moved_same : (e : Edit) → moved (λ x. x) e ≡ e
moved_same (text x) = refl
moved_same (insert x) = refl
moved_same (delete x) = refl
moved_same (exchange x) = refl
moved_same (replace x i j) = refl

-- over to the table itself, by a list in which each type keeps its number, the marks stay and none is lost
pub identity_carries : {ws marks numbers n bytes : List ℕ} → Move ws marks ws numbers → ((x : ℕ) → x < types ws → new_number numbers x ≡ x)
    → Carries ws marks ws numbers n bytes → (n ≡ marks) × (bytes ≡ replicate (privileges ws) 0)
identity_carries {ws} {marks} v h c =
    let a = v.policy.accepted in
    let r = itself_renumbered ws in
    let k = renumbered_carries r v h c in
    let stay : Carried (λ x. x) ws marks ws marks = record { keeps = λ e o. ap (λ (d : Edit). get_or marks (privilege_of ws d) 0) (moved_same e) } in
    (carried_one r a a k.0 stay c.size v.policy.fit.size, k.1)

-- so the call: with room it is done, and says so
pub carry_renumbered : {f g : ℕ → ℕ} {ws vs marks numbers out lost x l : List ℕ} {a : Answer} → Renumbered f g ws vs → Policy ws marks → Accepted vs
    → length numbers ≡ types ws → NumberedBy f ws numbers → Room ws vs out lost → CarryAnswer ws marks vs numbers out lost a x l
    → (a ≡ done 0) × (l ≡ replicate (privileges ws) 0 ++ drop (privileges ws) lost)
    × ((n : List ℕ) × Carried f ws marks vs n × (x ≡ n ++ drop (privileges vs) out))
carry_renumbered r p b size h room (refused why e s t) = absurd (move_not (renumbered_move r p b size h) why)
carry_renumbered r p b size h room (short v none e s t) = absurd (none room)
carry_renumbered {ws = ws} {lost = lost} r p b size h room (carried v g c e s t) =
    let k = renumbered_carries r v h c in (e, t ∙ ap (λ (k : List ℕ). k ++ drop (privileges ws) lost) k.1, (_, k.0, s))

pub carry_identity : {ws marks numbers out lost x l : List ℕ} {a : Answer} → Policy ws marks → length numbers ≡ types ws
    → ((x : ℕ) → x < types ws → new_number numbers x ≡ x) → Room ws ws out lost → CarryAnswer ws marks ws numbers out lost a x l
    → (a ≡ done 0) × (x ≡ marks ++ drop (privileges ws) out) × (l ≡ replicate (privileges ws) 0 ++ drop (privileges ws) lost)
carry_identity {ws} p size h room (refused why e s t) = absurd (move_not (renumbered_move (itself_renumbered ws) p p.accepted size h) why)
carry_identity p size h room (short v none e s t) = absurd (none room)
carry_identity {ws} {out = out} {lost = lost} p size h room (carried v g c e s t) =
    let k = identity_carries v h c in (
      e,
      s ∙ ap (λ (k : List ℕ). k ++ drop (privileges ws) out) k.0,
      t ∙ ap (λ (k : List ℕ). k ++ drop (privileges ws) lost) k.1,
    )
