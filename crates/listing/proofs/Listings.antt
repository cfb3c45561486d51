-- A policy has one listing and a listing one policy: at each start of a listing stands the line of a set privilege, each set privilege has a line,
-- and lines ascend; so no listing has a fault, and a text has one first fault. Assumes nothing.
use Rattle.std.proofs.Common.{ℕ, suc, ◌≤◌, ◌<◌, ◌≡◌, refl, sym, ap, subst, ◌∙◌, ◌≢◌, ◌⊎◌, inl, inr, List, ◌++◌, arith, length, get_or, take, drop, take-append-drop, ext_get_or, length-take-le}
use native.Mathlib.Decide.{ℕ_discrete}
use Rattle.table.specs.Words.{types}
use Rattle.table.specs.Named.{name_of}
use Rattle.table.specs.Check.{Accepted}
use Rattle.table.proofs.Privileges.{edit_one}
use Rattle.table.proofs.Lists.{le_or_lt}
use Rattle.labels.specs.Steps.Booked.{Labelled}
use Rattle.listing.specs.Line.{line_of}
use Rattle.listing.specs.Listing.{LineOf, Lists, none, unset, set}
use Rattle.listing.specs.Faults.{Starts, IsSet, LineAt, Fault, no_line, not_above, FirstFault}
use Rattle.listing.proofs.Lines.{line_ended, line_one}
use Rattle.listing.proofs.Prefixes.{starts_below, starts_less, Closed, closed_line, start_split, line_more, line_less, line_behind}

pub mark_set : {m : ℕ} → m ≢ 0 → m ≤ 2 → IsSet m
mark_set {m} d h = elim (ℕ_discrete m 1) [ yes e ↦ inl e | no f ↦ inr (omega arith) ]

-- a privilege has one line with a mark
pub line_of_one : {label : ℕ → List ℕ} {ws : List ℕ} {p m : ℕ} {line other : List ℕ} → LineOf label ws p m line → LineOf label ws p m other → line ≡ other
line_of_one {label} {ws} {p} {m} g h =
    let e = edit_one ws g.edit h.edit g.offered h.offered (g.number ∙ sym h.number) in
    g.is ∙ ap (λ e. line_of label m (name_of ws e)) e ∙ sym h.is

pub listing_one : {label : ℕ → List ℕ} {ws marks : List ℕ} {n : ℕ} {t u : List ℕ} → Lists label ws marks n t → Lists label ws marks n u → t ≡ u
listing_one none none = refl
listing_one (unset g e) (unset h f) = listing_one g h
listing_one (unset g e) (set h d line is) = absurd (d e)
listing_one (set g d line is) (unset h f) = absurd (d f)
listing_one (set {line = line} g d one is) (set {lines = others} h c two as-well) =
    is ∙ ap (λ (s : List ℕ). s ++ line) (listing_one g h) ∙ ap (λ (s : List ℕ). others ++ s) (line_of_one one two) ∙ sym as-well

-- the line of a set privilege that starts at k
pub record Listed (label : ℕ → List ℕ) (ws marks : List ℕ) (n : ℕ) (t : List ℕ) (k : ℕ) : Type 0 where
  pub end : ℕ
  pub privilege : ℕ
  pub mark : ℕ
  pub line : LineAt label ws t k end privilege mark
  pub below : privilege < n
  pub marked : get_or marks privilege 0 ≡ mark

-- where the line of privilege p stands
pub record Placed (label : ℕ → List ℕ) (ws t : List ℕ) (p mark : ℕ) : Type 0 where
  pub start : ℕ
  pub end : ℕ
  pub line : LineAt label ws t start end p mark

module _ {ws : List ℕ} {label : ℕ → List ℕ} (a : Accepted ws) (l : Labelled label (types ws)) where
  pub lists_closed : {marks : List ℕ} {n : ℕ} {t : List ℕ} → Lists label ws marks n t → Closed t
  lists_closed none = inl refl
  lists_closed (unset h e) = lists_closed h
  lists_closed (set {lines = lines} {line = line} h d one is) = subst Closed (sym is) (closed_line lines line (line_ended a l one))

  -- at each start stands the line of a set privilege
  pub line_listed : {marks : List ℕ} {n : ℕ} {t : List ℕ} {k : ℕ} → Lists label ws marks n t → ((p : ℕ) → p < n → get_or marks p 0 ≤ 2) → Starts t k
      → Listed label ws marks n t k
  line_listed none legal s = absurd (omega (arith, starts_below s))
  line_listed (unset h e) legal s =
      let r = line_listed h (λ p m. legal p (omega arith)) s in
      record { end = r.end; privilege = r.privilege; mark = r.mark; line = r.line; below = omega (arith, r.below); marked = r.marked }
  line_listed {marks} {k = k} (set {n = n} {lines = lines} {line = line} h d one is) legal s =
      subst (λ (t : List ℕ). Listed label ws marks (suc n) t k) (sym is)
      (go (line_listed h (λ p m. legal p (omega arith))) (start_split lines line (line_ended a l one) (subst (λ (t : List ℕ). Starts t k) is s)))
    where
      go : (Starts lines k → Listed label ws marks n lines k) → Starts lines k ⊎ (k ≡ length lines) → Listed label ws marks (suc n) (lines ++ line) k
      go f (inl q) =
          let r = f q in
          record { end = r.end; privilege = r.privilege; mark = r.mark; line = line_more line r.line; below = omega (arith, r.below); marked = r.marked }
      go f (inr q) = rw q record {
        end = length (lines ++ line);
        privilege = n;
        mark = get_or marks n 0;
        line = line_behind a l lines (lists_closed h) (mark_set d (legal n (omega arith))) one;
        below = omega arith;
        marked = refl;
      }

  -- each set privilege has a line
  pub listed_line : {marks : List ℕ} {n : ℕ} {t : List ℕ} {p m : ℕ} → Lists label ws marks n t → ((p : ℕ) → p < n → get_or marks p 0 ≤ 2) → p < n
      → get_or marks p 0 ≡ m → m ≢ 0 → Placed label ws t p m
  listed_line none legal low e d = absurd (omega arith)
  listed_line {marks} {p = p} {m = m} (unset {n = n} h z) legal low e d = elim (le_or_lt n p) [
    | inl g ↦ let q : p ≡ n = omega arith in absurd (d (sym e ∙ ap (λ (i : ℕ). get_or marks i 0) q ∙ z))
    | inr g ↦ listed_line h (λ i k. legal i (omega arith)) g e d
  ]
  listed_line {marks} {p = p} {m = m} (set {n = n} {lines = lines} {line = line} h c one is) legal low e d =
      subst (λ (t : List ℕ). Placed label ws t p m) (sym is) (go (λ g. listed_line h (λ i k. legal i (omega arith)) g e d) (le_or_lt n p))
    where
      go : (p < n → Placed label ws lines p m) → (n ≤ p) ⊎ (p < n) → Placed label ws (lines ++ line) p m
      go f (inl g) =
          let q : n ≡ p = omega arith in
          let k : get_or marks n 0 ≡ m = ap (λ (i : ℕ). get_or marks i 0) q ∙ e in
          subst (λ (i : ℕ). Placed label ws (lines ++ line) i m) q (subst (λ (i : ℕ). Placed label ws (lines ++ line) n i) k record {
            start = length lines;
            end = length (lines ++ line);
            line = line_behind a l lines (lists_closed h) (mark_set c (legal n (omega arith))) one;
          })
      go f (inr g) = let r = f g in record { start = r.start; end = r.end; line = line_more line r.line }

  -- one line behind another has a higher privilege
  pub lists_ascend : {marks : List ℕ} {n : ℕ} {t : List ℕ} {c k b q p m o : ℕ} → Lists label ws marks n t → ((p : ℕ) → p < n → get_or marks p 0 ≤ 2)
      → LineAt label ws t c k q m → LineAt label ws t k b p o → q < p
  lists_ascend none legal g h = absurd (omega (arith, starts_below g.starts))
  lists_ascend (unset x z) legal g h = lists_ascend x (λ i k. legal i (omega arith)) g h
  lists_ascend {marks} {c = c} {k = k} {b = b} {q = q} {p = p} {m = m} {o = o} (set {n = n} {lines = lines} {line = line} x d one is) legal g h =
      let first : LineAt label ws (lines ++ line) c k q m = subst (λ (t : List ℕ). LineAt label ws t c k q m) is g in
      let second : LineAt label ws (lines ++ line) k b p o = subst (λ (t : List ℕ). LineAt label ws t k b p o) is h in
      let fewer : (i : ℕ) → i < n → get_or marks i 0 ≤ 2 = λ i e. legal i (omega arith) in
      elim (start_split lines line (line_ended a l one) second.starts) [
        | inl s ↦
            let r = line_listed x fewer s in
            let same = line_one a l second (line_more line r.line) in
            omega (arith, same.1, lists_ascend x fewer (line_less a l lines line first (omega (arith, starts_below s))) r.line)
        | inr e ↦
            let before = line_less a l lines line first (omega arith) in
            let r = line_listed x fewer before.starts in
            let here : LineAt label ws (lines ++ line) k (length (lines ++ line)) n (get_or marks n 0) =
            rw e (line_behind a l lines (lists_closed x) (mark_set d (legal n (omega arith))) one) in
            omega (arith, (line_one a l before r.line).1, r.below, (line_one a l second here).1)
      ]

  -- no listing has a fault
  pub no_fault : {marks : List ℕ} {n : ℕ} {t : List ℕ} → Lists label ws marks n t → ((p : ℕ) → p < n → get_or marks p 0 ≤ 2) → (number place : ℕ)
      → ¬ Fault label ws t number place
  no_fault h legal number place (no_line e f) = let r = line_listed h legal f.starts in f.none r.end r.privilege r.mark r.line
  no_fault h legal number place (not_above e f) = omega (arith, lists_ascend h legal f.before f.line, f.not_above)

  -- a text that begins with a listing has no fault in it
  pub no_fault_before : {marks : List ℕ} {n : ℕ} {t : List ℕ} → Lists label ws marks n t → ((p : ℕ) → p < n → get_or marks p 0 ≤ 2) → (rest : List ℕ)
      → (number place : ℕ) → place < length t → ¬ Fault label ws (t ++ rest) number place
  no_fault_before {t = t} h legal rest number place low (no_line e f) =
      let r = line_listed h legal (starts_less t rest f.starts low) in
      f.none r.end r.privilege r.mark (line_more rest r.line)
  no_fault_before {t = t} h legal rest number place low (not_above e f) =
      let r = line_listed h legal (starts_less t rest f.line.starts low) in
      let same = line_one a l f.line (line_more rest r.line) in
      omega (arith, f.not_above, same.1, lists_ascend h legal (line_less a l t rest f.before (omega arith)) r.line)

  -- so a fault behind a listing is the first
  pub first_fault : {marks : List ℕ} {n : ℕ} {t : List ℕ} {number place : ℕ} → Lists label ws marks n (take place t) → ((p : ℕ) → p < n → get_or marks p 0 ≤ 2)
      → place ≤ length t → Fault label ws t number place → FirstFault label ws t number place
  first_fault {t = t} {place = place} h legal low f = record {
    fault = f;
    earliest = λ other k less g. no_fault_before h legal (drop place t) other k (omega (arith, length-take-le place t low))
        (subst (λ (u : List ℕ). Fault label ws u other k) (sym (take-append-drop place t)) g);
  }

  -- a mark that is set is told by the line
  pub mark_told : {marks others : List ℕ} {n : ℕ} {t : List ℕ} {p : ℕ} → Lists label ws marks n t → ((p : ℕ) → p < n → get_or marks p 0 ≤ 2)
      → Lists label ws others n t → ((p : ℕ) → p < n → get_or others p 0 ≤ 2) → p < n → get_or marks p 0 ≢ 0 → get_or others p 0 ≡ get_or marks p 0
  mark_told {marks} {others} g legal h right low d =
      let r = listed_line g legal low refl d in
      let s = line_listed h right r.line.starts in
      let same = line_one a l r.line s.line in
      ap (λ (i : ℕ). get_or others i 0) same.1 ∙ s.marked ∙ sym same.2

  -- a listing has one policy
  pub marks_one : {marks others : List ℕ} {n : ℕ} {t : List ℕ} → length marks ≡ n → ((p : ℕ) → p < n → get_or marks p 0 ≤ 2)
      → length others ≡ n → ((p : ℕ) → p < n → get_or others p 0 ≤ 2) → Lists label ws marks n t → Lists label ws others n t → marks ≡ others
  marks_one {marks} {others} {n} size legal long right g h = ext_get_or 0 marks others (size ∙ sym long) (λ p low. each p (omega arith))
    where
      each : (p : ℕ) → p < n → get_or marks p 0 ≡ get_or others p 0
      each p low = elim (ℕ_discrete (get_or marks p 0) 0) [
        | yes e ↦ elim (ℕ_discrete (get_or others p 0) 0) [ yes f ↦ e ∙ sym f | no d ↦ mark_told h right g legal low d ]
        | no d ↦ sym (mark_told g legal h right low d)
      ]

-- there is one first fault
pub fault_one : {label : ℕ → List ℕ} {ws t : List ℕ} {n m p q : ℕ} → FirstFault label ws t n p → FirstFault label ws t m q → (n ≡ m) × (p ≡ q)
fault_one {label} {ws} {t} {n} {m} {p} {q} g h = (number g.fault (subst (Fault label ws t m) (sym place) h.fault), place)
  where
    place : p ≡ q
    place = elim (le_or_lt p q) [
      | inl x ↦ elim (le_or_lt q p) [ inl y ↦ omega arith | inr y ↦ absurd (h.earliest n p y g.fault) ]
      | inr x ↦ absurd (g.earliest m q x h.fault)
    ]

    number : Fault label ws t n p → Fault label ws t m p → n ≡ m
    number (no_line e x) (no_line f y) = e ∙ sym f
    number (no_line e x) (not_above f y) = absurd (x.none y.end y.privilege y.mark y.line)
    number (not_above e x) (no_line f y) = absurd (y.none x.end x.privilege x.mark x.line)
    number (not_above e x) (not_above f y) = e ∙ sym f
