-- A name is misnamed exactly if its number says so; those of later declarations stand further on, so the first found is the lowest. Assumes
-- nothing.
use Rattle.std.proofs.Common.{ℕ, suc, ◌≤◌, ◌<◌, ◌≡◌, ◌⊎◌, inl, inr, List, ◌∷◌, arith, length}
use Rattle.grammar.specs.Tree.{Declaration, Nth, first, later, uses_of}
use Rattle.grammar.specs.Grammar.{no_more, Element, element, Remark, ends, no_dash, one_dash, Items, a_space, a_comment, a_declaration}
use Rattle.grammar.proofs.Stopping.{le_or_lt}
use Rattle.scan.proofs.Agreeing.{span_le, literal_le}
use Rattle.model.specs.Names.{Misnamed}
use Rattle.model.specs.Tables.{number_of}
use Rattle.model.proofs.Numbers.{number_below}
use Rattle.std.proofs.Common.{Option, Some, None}
use Rattle.names.specs.Steps.Walk.{DeclaredAt}
use Rattle.names.specs.Steps.Uses.{UsesRead}
use Rattle.names.specs.Steps.Names.{Listed, NumberRead, FirstMisnamed}
use Rattle.names.specs.Steps.Wrong.{Counted, Lowest, Unknown, Wrong, again, unknown, UnknownRead, WrongRead}
use Rattle.names.proofs.Contents.{spec_le, declared_le, used_from, use_within}
use Rattle.names.proofs.Numbered.{number_le, number_there}
use Rattle.names.proofs.Nths.{nth_below, left_first, Where, passed, is_left, left_where}
use Rattle.names.proofs.Gone.{Stepped}
use Rattle.names.proofs.Unknowns.{lowest_as}

pub counted : {t list : List ℕ} {ds : List Declaration} {count : ℕ} → length ds ≡ count → count ≤ 256 → Listed t ds list count
    → Counted t ds list count
counted e l x = record { size = e; few = l; listed = x }

-- one declaration's names
module _ {t list : List ℕ} {count m name body n : ℕ} (x : NumberRead t list count name n) where
  pub wrong_again : n < m → WrongRead t list count m name body (Some name)
  wrong_again l = record {
    of = λ ds d rest y k. (let e = x.of ds d.named k.size k.few k.listed y.named in
        (again (omega arith) y.place, λ j h w. low ds d rest y j h w));
  }
    where
      low : (ds : List Declaration) (d : Declaration) (rest : List Declaration) → DeclaredAt t d rest name body → (j : ℕ) → j < name
          → ¬ Wrong (number_of ds) count m d j
      low ds d rest y j h (again w e) = omega (arith, y.place)
      low ds d rest y j h (unknown u) = omega (arith, u.is, (use_within y u.index u.used u.there).0, y.before)

  pub wrong_used : {e : ℕ} {r : Option ℕ} → m ≤ n → UsesRead t body e → UnknownRead t list count e r → WrongRead t list count m name body r
  wrong_used {r = r} l u w = record {
    of = λ ds d rest y k. (let e = x.of ds d.named k.size k.few k.listed y.named in
        lowest_as (λ j. unknown) (only ds d (omega arith)) r (w.of ds (uses_of d.content) y.close (u.of d rest name y) y.ends k));
  }
    where
      only : (ds : List Declaration) (d : Declaration) → m ≤ number_of ds d.named → (j : ℕ) → Wrong (number_of ds) count m d j
          → Unknown (number_of ds) count (uses_of d.content) j
      only ds d h j (again w e) = absurd (omega arith)
      only ds d h j (unknown v) = v

-- what is misnamed in all of them
pub record WrongIn (ds : List Declaration) (k : ℕ) : Type 0 where
  pub index : ℕ
  pub declaration : Declaration
  pub there : Nth ds index declaration
  pub wrong : Wrong (number_of ds) (length ds) index declaration k

pub misnamed_wrong : {ds : List Declaration} {k : ℕ} → Misnamed ds k → WrongIn ds k
misnamed_wrong {ds} (inl b) = record {
  index = b.j;
  declaration = b.other;
  there = b.at_other;
  wrong = again (let h : number_of ds b.other.named ≤ b.i = rw b.same at (number_le b.at_one) in omega (arith, b.earlier)) b.is;
}
misnamed_wrong {ds} (inr b) = record {
  index = b.i;
  declaration = b.declaration;
  there = b.at_declaration;
  wrong = unknown (record {
    index = b.j;
    used = b.used;
    there = b.at_used;
    high = high (le_or_lt (length ds) (number_of ds b.used.bytes));
    is = b.is;
  });
}
  where
    high : (length ds ≤ number_of ds b.used.bytes) ⊎ (number_of ds b.used.bytes < length ds) → length ds ≤ number_of ds b.used.bytes
    high (inl h) = h
    high (inr h) =
        let d = number_there ds b.used.bytes h in
        absurd (b.never (record { number = number_of ds b.used.bytes; declaration = d.declaration; there = d.there; same = d.same }))

pub wrong_misnamed : {ds : List Declaration} {m k : ℕ} {d : Declaration} → Nth ds m d → Wrong (number_of ds) (length ds) m d k → Misnamed ds k
wrong_misnamed {ds} {m} {d = d} n (again h e) =
    let b = number_there ds d.named (omega (arith, nth_below n)) in
    inl (record {
      i = number_of ds d.named;
      j = m;
      one = b.declaration;
      other = d;
      earlier = h;
      at_one = b.there;
      at_other = n;
      same = b.same;
      is = e;
    })
wrong_misnamed {ds} {m} {d = d} n (unknown u) = inr (record {
  i = m;
  j = u.index;
  declaration = d;
  used = u.used;
  at_declaration = n;
  at_used = u.there;
  never = λ x. (let l : number_of ds u.used.bytes < length ds = rw x.same at (number_below x.there) in omega (arith, u.high));
  is = u.is;
})

-- where wrong names stand
remark_le : {t : List ℕ} {a b : ℕ} → Remark t a b → a ≤ b
remark_le (ends l) = literal_le l
remark_le (no_dash o r) = omega (arith, remark_le r)
remark_le (one_dash g o r) = omega (arith, remark_le r)

element_le : {t : List ℕ} {a b : ℕ} {d : Declaration} → Element t a b d → a ≤ b
element_le (element l s n p u x v g) = omega (arith, literal_le l, span_le s.rest, span_le n.rest, span_le u.rest, spec_le x, span_le v)

module _ {number : List ℕ → ℕ} {declared : ℕ} where
  wrong_before : {t : List ℕ} {name body m k : ℕ} {d : Declaration} {ds : List Declaration} (x : DeclaredAt t d ds name body)
      → Wrong number declared m d k → k < x.close
  wrong_before x (again h e) = omega (arith, x.place, x.before, declared_le x)
  wrong_before x (unknown u) = omega (arith, u.is, (use_within x u.index u.used u.there).1)

  element_from : {t : List ℕ} {a b m k : ℕ} {d : Declaration} → Element t a b d → Wrong number declared m d k → a ≤ k
  element_from (element l s n p u x v g) (again h e) = omega (arith, literal_le l, span_le s.rest)
  element_from (element l s n p u x v g) (unknown y) =
      omega (arith, literal_le l, span_le s.rest, span_le n.rest, span_le u.rest, y.is, (used_from x y.index y.used y.there).0)

  items_from : {t : List ℕ} {a i m k : ℕ} {d : Declaration} {ds : List Declaration} → Items t a ds → Nth ds i d → Wrong number declared m d k → a ≤ k
  items_from {t = t} {i = i} {m = m} {k = k} {d = d} (no_more {a = a} _) n w = elim n [ ]
  items_from (a_space o r) n w = omega (arith, items_from r n w)
  items_from (a_comment c r) n w = omega (arith, literal_le c.open_it, remark_le c.rest, items_from r n w)
  items_from (a_declaration x r) first w = element_from x w
  items_from (a_declaration x r) (later n) w = omega (arith, element_le x, items_from r n w)

-- no name of the first m declarations is misnamed
pub record Right (ds : List Declaration) (m : ℕ) : Type 0 where
  pub none : (i k : ℕ) (d : Declaration) → Nth ds i d → i < m → ¬ Wrong (number_of ds) (length ds) i d k

pub right_start : {ds : List Declaration} → Right ds 0
right_start = record { none = λ i k d n h. absurd (omega arith) }

module _ {t list : List ℕ} {ds : List Declaration} {m name body count : ℕ} (s : Stepped t ds m name body) (x : Right ds m)
    (c : Counted t ds list count) where
  -- what was read of declaration m
  read : {r : Option ℕ} → WrongRead t list count m name body r → Lowest (Wrong (number_of ds) (length ds) m s.declaration) r
  read {r} w = rw c.size (w.of ds s.declaration s.rest s.there c)

  pub right_more : WrongRead t list count m name body None → Right ds (suc m)
  right_more y = record { none = λ i k d n h. go i k d h (left_where s.left n) n }
    where
      go : (i k : ℕ) (d : Declaration) → i < suc m → Where (s.declaration ∷ s.rest) m i d → Nth ds i d → ¬ Wrong (number_of ds) (length ds) i d k
      go i k d h (passed l) n w = x.none i k d n l w
      go i k d h (is_left e first) n w = let q : i ≡ m = omega arith in read y k (rw q at w)
      go i k d h (is_left e (later o)) n w = omega arith

  pub right_found : {k : ℕ} → WrongRead t list count m name body (Some k) → FirstMisnamed ds (Some k)
  right_found {k} y = (
    wrong_misnamed (left_first s.left) (read y).0,
    λ j l z.
        (let b = misnamed_wrong z in go j l b.index b.declaration (left_where s.left b.there) b.there b.wrong),
  )
    where
      go : (j : ℕ) → j < k → (i : ℕ) (d : Declaration) → Where (s.declaration ∷ s.rest) m i d → Nth ds i d → ¬ Wrong (number_of ds) (length ds) i d j
      go j l i d (passed h) n w = x.none i j d n h w
      go j l i d (is_left e first) n w = let q : i ≡ m = omega arith in (read y).1 j l (rw q at w)
      go j l i d (is_left e (later o)) n w = omega (arith, wrong_before s.there (read y).0, items_from s.there.rest o w)

pub right_all : {ds : List Declaration} {m : ℕ} → m ≡ length ds → Right ds m → FirstMisnamed ds None
right_all e x j z = let b = misnamed_wrong z in x.none b.index j b.declaration b.there (omega (arith, nth_below b.there)) b.wrong
