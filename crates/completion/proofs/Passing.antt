-- What a type passes on to its children, and what is granted of its own privileges, by its kind. Assumes nothing.
use Rattle.std.proofs.Common.{ℕ, ◌+◌, ◌≤◌, ◌<◌, ◌≡◌, refl, sym, ap, ◌∙◌, ◌≢◌, ◌⊎◌, inl, inr, ◌↔◌, Bool, true, false, true≢false, List, arith, length, get_or, set, length-set, get_or-set_same, get_or-set_other}
use native.Mathlib.Decide.{ℕ_discrete}
use Rattle.table.specs.Words.{types}
use Rattle.table.specs.Rule.{rule_at, kind_in, count_of, children_at, IsChoice, IsStar}
use Rattle.table.specs.Privilege.{privileges_at, first_privilege, Belongs, exchange_of, replace_of, Exchangeable, Replaceable, Edit, text, insert, delete, exchange, replace, type_of, Offers, privilege_of}
use Rattle.table.specs.Steps.Numbering.{NumberedAs, exchange_in, ExchangeableIn}
use Rattle.table.specs.declared.privilege.Numbering.{Numbering}
use Rattle.table.specs.Check.{Accepted}
use Rattle.table.proofs.Lists.{le_or_lt}
use Rattle.table.proofs.Privileges.{first_next, first_within, belongs_one, edit_belongs, edit_below, edit_of, exchange_in_lem, exchangeable_in, in_exchangeable, in_replaceable, replaceable_in, replace_in_lem}
use Rattle.table.proofs.Facts.{facts}
use Rattle.policy.specs.Marks.{Allowed}
use Rattle.policy.specs.Reached.{Reached}
use Rattle.policy.specs.Renewed.{Both, Renewed}
use Rattle.policy.specs.Steps.Squares.{marked, Square}
use Rattle.verdict.specs.Forces.{chain}
use Rattle.verdict.specs.Forces as forces
use Rattle.policy.proofs.Renewals.{both_out, both_into}
use Rattle.policy.proofs.SquareLaws.{marked_told, told_marked}
use Rattle.completion.specs.Granted.{Granted}
use Rattle.completion.specs.Steps.Opens.{star, cycle, Opened, PassesOn}
use Rattle.completion.specs.Steps.Passes.{Visited}
use Rattle.policy.specs.Steps.Writing.{Decision, ChoiceWritten, RangeWritten}
use Rattle.completion.specs.Steps.Writing.{KidsOpened, ExchangeWritten, drawn, kept, TypeWritten}
use Rattle.completion.proofs.Closed.{opened_forces, Drawn, Own, forces_cases, step_source}
use Rattle.completion.proofs.Openings.{kids_as}
use Rattle.policy.proofs.Writings.{decision_as}

-- the marks from a type's first privilege on are its own
range_own : {ws : List ℕ} {P Q : ℕ → Type 0} {x first n : ℕ} {old new : List ℕ} → x < types ws → first ≡ first_privilege ws x → n ≡ privileges_at ws x
    → ((p : ℕ) → Belongs ws p x → P p → Q p) → ((p : ℕ) → Belongs ws p x → Q p → P p) → RangeWritten P first (first + n) old new → TypeWritten ws Q x old new
range_own {ws} {P} {Q} {x} {first} {n} {old} {new} l e f out into w = record {
  size = w.size;
  own = λ p b. decision_as (out p b) (into p b) (w.within p (omega (arith, b.from)) (omega (arith, b.until)));
  rest = λ p d. w.rest p (go p d (le_or_lt first p) (le_or_lt (first + n) p));
}
  where
    go : (p : ℕ) → ¬ Belongs ws p x → (first ≤ p) ⊎ (p < first) → (first + n ≤ p) ⊎ (p < first + n) → (p < first) ⊎ (first + n ≤ p)
    go p d (inr k) m = inl k
    go p d (inl k) (inl m) = inr m
    go p d (inl k) (inr m) = absurd (d (record { type = l; from = omega arith; until = omega arith }))

module _ {ws : List ℕ} {S : ℕ → Type 0} {x : ℕ} (shut : ¬ Opened ws S x) where
  -- at a type that is not opened, and neither a star nor a choice, what is granted is allowed
  granted_plain : kind_in (rule_at ws x) ≢ 3 → kind_in (rule_at ws x) ≢ 4 → {p : ℕ} → Belongs ws p x → Granted ws S p → S p
  granted_plain d s b (inl a) = a
  granted_plain d s {p} b (inr f) = go (forces_cases f)
    where
      drawn : (e : Edit) → Offers ws e → Drawn ws S e → type_of e ≡ x → S p
      drawn (text y) o f q = absurd f
      drawn (insert y) o f q = absurd f
      drawn (delete y) o f q = absurd f
      drawn (exchange y) o f q = absurd (s (rw q at o.star.kind_is))
      drawn (replace y i j) o f q = absurd (d (rw q at o.choice.kind_is))

      go : ((y : ℕ) × Belongs ws p y × Opened ws S y) ⊎ Own ws S p → S p
      go (inl (y, c, o)) = let q : y ≡ x = belongs_one c b in absurd (shut (rw q at o))
      go (inr c) = drawn c.edit c.offers c.drawn (belongs_one (rw c.is (edit_belongs ws c.edit c.offers)) b)

  -- at a star that is not opened, what is allowed, and the exchange by insert and delete
  granted_star : IsStar ws x → {p : ℕ} → Belongs ws p x → Granted ws S p → S p ⊎ ((p ≡ exchange_of ws x) × Exchangeable ws x × Both ws S x)
  granted_star s b (inl a) = inl a
  granted_star s {p} b (inr f) = go (forces_cases f)
    where
      drawn : (e : Edit) → Offers ws e → Drawn ws S e → p ≡ privilege_of ws e → type_of e ≡ x → S p ⊎ ((p ≡ exchange_of ws x) × Exchangeable ws x × Both ws S x)
      drawn (text y) o f r q = absurd f
      drawn (insert y) o f r q = absurd f
      drawn (delete y) o f r q = absurd f
      drawn (exchange y) o f r q = inr (rw q at r, rw q at o, rw q at f)
      drawn (replace y i j) o f r q = let k = rw q at o.choice.kind_is in absurd (omega (arith, s.kind_is))

      go : ((y : ℕ) × Belongs ws p y × Opened ws S y) ⊎ Own ws S p → S p ⊎ ((p ≡ exchange_of ws x) × Exchangeable ws x × Both ws S x)
      go (inl (y, c, o)) = let q : y ≡ x = belongs_one c b in absurd (shut (rw q at o))
      go (inr c) = drawn c.edit c.offers c.drawn c.is (belongs_one (rw c.is (edit_belongs ws c.edit c.offers)) b)

  -- at a choice that is not opened, what is reached
  granted_reached : {i j : ℕ} → Replaceable ws x i j → Granted ws S (replace_of ws x i j) → Reached ws S x i j
  granted_reached r g = elim (step_source (record { can = r; allowed = g })) [ inl o ↦ absurd (shut o) | inr q ↦ q ]

  -- a type that is neither a star nor a choice passes nothing on
  pub plain_passes : kind_in (rule_at ws x) ≢ 3 → kind_in (rule_at ws x) ≢ 4 → {i : ℕ} → ¬ PassesOn ws S x i
  plain_passes d e (inl o) = shut o
  plain_passes d e (inr (star s r z)) = e s.kind_is
  plain_passes d e (inr (cycle s r)) = d s.kind_is

  -- a star passes on to its child if it can be renewed
  pub star_passes : IsStar ws x → {i : ℕ} → PassesOn ws S x i → Renewed ws S x
  star_passes k (inl o) = absurd (shut o)
  star_passes k (inr (star s r z)) = r
  star_passes k (inr (cycle s r)) = absurd (omega (arith, k.kind_is, s.kind_is))

  -- a choice passes on to the child at i if it can be replaced and replaced back
  choice_passes : IsChoice ws x → {i : ℕ} → PassesOn ws S x i → Reached ws S x i i
  choice_passes k (inl o) = absurd (shut o)
  choice_passes k (inr (star s r z)) = absurd (omega (arith, k.kind_is, s.kind_is))
  choice_passes k (inr (cycle s r)) = r

-- the child of a star is opened
pub star_kids : {ws : List ℕ} {S : ℕ → Type 0} {x : ℕ} {old new : List ℕ} → Accepted ws → IsStar ws x → Renewed ws S x
    → KidsOpened (λ i. Unit) (children_at ws x) old new → KidsOpened (PassesOn ws S x) (children_at ws x) old new
star_kids {ws} {x = x} a s b = kids_as (λ k l u. inr (star s b (first k l))) (λ k l p. tt)
  where
    first : (k : ℕ) → k < length (children_at ws x) → k ≡ 0
    first k l = omega (arith, (facts a).children_here x s.type, (facts a).star_one x s)

-- the privileges of a choice are those of its replacements
choice_edit : {ws : List ℕ} {x : ℕ} → IsChoice ws x → (e : Edit) → Offers ws e → type_of e ≡ x
    → (i : ℕ) × (j : ℕ) × Replaceable ws x i j × (privilege_of ws e ≡ replace_of ws x i j)
choice_edit c (text y) o q = let k = rw q at o.kind_is in absurd (omega (arith, c.kind_is))
choice_edit c (insert y) o q = let k = rw q at o.kind_is in absurd (omega (arith, c.kind_is))
choice_edit c (delete y) o q = let k = rw q at o.kind_is in absurd (omega (arith, c.kind_is))
choice_edit c (exchange y) o q = let k = rw q at o.star.kind_is in absurd (omega (arith, c.kind_is))
choice_edit c (replace y i j) o q = (i, j, rw q at o, rw q)

replacement_of : {ws : List ℕ} {p x : ℕ} → IsChoice ws x → Belongs ws p x → (i : ℕ) × (j : ℕ) × Replaceable ws x i j × (p ≡ replace_of ws x i j)
replacement_of {ws} c b =
    let e = edit_of ws b in
    let r = choice_edit c e.0 e.1 e.2 in
    (r.0, r.1, r.2, sym e.3 ∙ r.3)

module _ {ws : List ℕ} {S : ℕ → Type 0} {x : ℕ} {square : List ℕ} (shut : ¬ Opened ws S x) (c : IsChoice ws x)
    (tells : Square (count_of ws x) (Reached ws S x) square) {old new : List ℕ} where
  -- the children of a choice on a cycle are opened
  pub choice_kids : Accepted ws → KidsOpened (λ i. marked square i i ≡ true) (children_at ws x) old new → KidsOpened (PassesOn ws S x) (children_at ws x) old new
  choice_kids a = kids_as
      (λ i l e. inr (cycle c (marked_told tells i i (record { from = here i l; to = here i l; is = e }))))
      (λ i l p. (told_marked tells i i (here i l) (here i l) (choice_passes shut c p)).is)
    where
      here : (i : ℕ) → i < length (children_at ws x) → i < count_of ws x
      here i l = omega (arith, (facts a).children_here x c.type)

  -- and the replacements that are reached are granted
  pub choice_own : {n : Numbering} → NumberedAs ws x n → ChoiceWritten n square old new → TypeWritten ws (Granted ws S) x old new
  choice_own h w = record {
    size = w.size;
    own = λ p b. go p (replacement_of c b);
    rest = λ p d. w.rest p (λ i j r e. d (rw (e, replace_in_lem h i j) (edit_belongs ws (replace x i j) (in_replaceable h c r))));
  }
    where
      grant : {i j : ℕ} → Replaceable ws x i j → marked square i j ≡ true → Granted ws S (replace_of ws x i j)
      grant {i} {j} r e = inr (chain x i j c (marked_told tells i j (record { from = r.from; to = r.to; is = e })) r refl)

      lead : {i j : ℕ} → Replaceable ws x i j → Granted ws S (replace_of ws x i j) → marked square i j ≡ true
      lead {i} {j} r g = (told_marked tells i j r.from r.to (granted_reached shut r g)).is

      go : (p : ℕ) → (i : ℕ) × (j : ℕ) × Replaceable ws x i j × (p ≡ replace_of ws x i j) → Decision (Granted ws S p) (get_or new p 0)
      go p (i, j, r, e) = rw e (decision_as (grant r) (lead r) (rw (replace_in_lem h i j) at (w.all i j (replaceable_in h r))))

-- a type's children are few, and their numbers are indices of the flags
module _ {ws kids : List ℕ} {x : ℕ} (a : Accepted ws) (e : kids ≡ children_at ws x) (t : x < types ws) where
  kids_count : length kids ≡ count_of ws x
  kids_count = ap length e ∙ (facts a).children_here x t

  pub kids_few : length kids ≤ 16
  kids_few = omega (arith, kids_count, (facts a).children_few x t)

  pub kids_small : (i : ℕ) → i < length kids → get_or kids i 0 < 256
  kids_small i l = let f = facts a in rw e (omega (arith, f.few, f.child_inside x i t (rw (← kids_count) l)))

-- the marks of the star x with what insert and delete make of its exchange
record Exchanged (ws marks : List ℕ) (x : ℕ) (mid : List ℕ) : Type 0 where
  size : length mid ≡ length marks
  own : (p : ℕ) → Belongs ws p x → Allowed mid p ↔ Granted ws (Allowed marks) p
  rest : (p : ℕ) → ¬ Belongs ws p x → get_or mid p 0 ≡ get_or marks p 0

-- at a type that is visited
module _ {ws marks opened : List ℕ} {x first : ℕ} (v : Visited ws marks x first opened) where
  -- its own marks end within the policy's
  pub visit_end : {n : ℕ} → n ≡ privileges_at ws x → first + n ≤ length marks
  visit_end e = omega (arith, e, v.first_is, first_next ws x, first_within ws (x + 1) (omega (arith, v.type)), v.policy.fit.size)

  pub visit_fits : {n : ℕ} → n ≡ privileges_at ws x → first + n ≤ 4096
  visit_fits e = omega (arith, visit_end e, v.policy.fit.size, (facts v.policy.accepted).privileges_few)

  -- all of them are granted where it is opened, else those that are allowed, unless it is a star or a choice
  pub opened_own : {n : ℕ} {new : List ℕ} → Opened ws (Allowed marks) x → n ≡ privileges_at ws x
      → RangeWritten (λ p. (◌≡◌ {A = Bool} true true) ⊎ Allowed marks p) first (first + n) marks new → TypeWritten ws (Granted ws (Allowed marks)) x marks new
  opened_own o e = range_own v.type v.first_is e (λ p b g. inr (opened_forces o b)) (λ p b g. inl refl)

  pub plain_own : {n : ℕ} {new : List ℕ} → ¬ Opened ws (Allowed marks) x → kind_in (rule_at ws x) ≢ 3 → kind_in (rule_at ws x) ≢ 4 → n ≡ privileges_at ws x
      → RangeWritten (λ p. (false ≡ true) ⊎ Allowed marks p) first (first + n) marks new → TypeWritten ws (Granted ws (Allowed marks)) x marks new
  plain_own shut d s e = range_own v.type v.first_is e
      (λ p b g. elim g [ inl z ↦ absurd (true≢false (sym z)) | inr a ↦ inl a ])
      (λ p b g. inr (granted_plain shut d s b g))

  -- room for the exchange of a star
  pub exchange_room : {k : Numbering} → IsStar ws x → NumberedAs ws x k → ExchangeableIn k → exchange_in k < length marks
  exchange_room s h c = omega (arith, exchange_in_lem h, edit_below ws (exchange x) (in_exchangeable h s c), v.policy.fit.size)

  -- at a star what is allowed with the exchange is granted
  module _ (shut : ¬ Opened ws (Allowed marks) x) (s : IsStar ws x) {k : Numbering} (h : NumberedAs ws x k) where
    star_exchanged : {mid : List ℕ} → ExchangeWritten k marks mid → Exchanged ws marks x mid
    star_exchanged (kept d q) = rw q (record {
      size = refl;
      own = λ p b. (inl, λ g. elim (granted_star shut s b g) [ inl a ↦ a | inr (z, c, f) ↦ absurd (d (exchangeable_in h c, both_into h f)) ]);
      rest = λ p d. refl;
    })
    star_exchanged (drawn c b q) = rw q (record {
      size = length-set marks (exchange_in k) 1;
      own = λ p z. mark p z (ℕ_discrete p (exchange_in k));
      rest = λ p z. get_or-set_other marks (exchange_in k) p 1 0 (λ y. z (rw (y, exchange_in_lem h) (edit_belongs ws (exchange x) (in_exchangeable h s c))));
    })
      where
        mark : (p : ℕ) → Belongs ws p x → Dec (p ≡ exchange_in k) → Allowed (set marks (exchange_in k) 1) p ↔ Granted ws (Allowed marks) p
        mark p z (yes y) = (
          λ a. inr (forces.exchange x (in_exchangeable h s c) (both_out h b) (y ∙ exchange_in_lem h)),
          λ g. rw y (get_or-set_same marks (exchange_in k) 1 0 (exchange_room s h c)),
        )
        mark p z (no y) = rw (get_or-set_other marks (exchange_in k) p 1 0 y) (
          inl,
          λ g. elim (granted_star shut s z g) [ inl a ↦ a | inr (r, e, f) ↦ absurd (y (r ∙ sym (exchange_in_lem h))) ],
        )

    -- so they are decided
    pub star_own : {n : ℕ} {mid new : List ℕ} → n ≡ privileges_at ws x → ExchangeWritten k marks mid
        → RangeWritten (λ p. (false ≡ true) ⊎ Allowed mid p) first (first + n) mid new → TypeWritten ws (Granted ws (Allowed marks)) x marks new
    star_own {n} {mid} {new} e t w = record { size = own.size ∙ drew.size; own = own.own; rest = λ p d. own.rest p d ∙ drew.rest p d }
      where
        drew : Exchanged ws marks x mid
        drew = star_exchanged t

        own : TypeWritten ws (Granted ws (Allowed marks)) x mid new
        own = range_own {P = λ p. (false ≡ true) ⊎ Allowed mid p} v.type v.first_is e
            (λ p b g. elim g [ inl z ↦ absurd (true≢false (sym z)) | inr a ↦ (drew.own p b).0 a ])
            (λ p b g. inr ((drew.own p b).1 g))
            w
