-- Marks carried along: they can be carried back, there are such marks for each renumbering, and one list of them. Assumes nothing.
use Rattle.std.proofs.Common.{ℕ, zero, suc, ◌≤◌, ◌<◌, ◌≡◌, refl, sym, ap, ◌∙◌, List, [], ◌∷◌, arith, length, get_or, ext_get_or}
use Rattle.table.specs.Words.{types}
use Rattle.table.specs.Privilege.{privileges, Edit, Offers, privilege_of}
use Rattle.table.specs.Check.{Accepted}
use Rattle.table.specs.Renumbered.{Permutes, Renumbered, moved, renumber}
use Rattle.table.proofs.Privileges.{edit_below, edit_some, edit_one}
use Rattle.table.proofs.Facts.{accepted_childed}
use Rattle.table.proofs.Renumbered.{renumbered_back, moved_back, offers_there}
use Rattle.table.proofs.Renumber.{renumbered, renumbered_accepted}
use Rattle.policy.specs.Marks.{Fit, Policy}
use Rattle.verdict.specs.Carried.{Carried}

-- a list of n numbers, each as its place asks
listed : {P : ℕ → ℕ → Type 0} (n : ℕ) → ((k : ℕ) → k < n → (m : ℕ) × P k m) → (l : List ℕ) × (length l ≡ n) × ((k : ℕ) → k < n → P k (get_or l k 0))
listed zero h = ([], refl, λ k l. absurd (omega arith))
listed {P} (suc n) h =
    let first = h 0 (omega arith) in
    let rest = listed {P = λ k. P (suc k)} n (λ k l. h (suc k) (omega arith)) in
    (first.0 ∷ rest.0, ap suc rest.1, at first.0 first.1 rest.0 rest.2)
  where
    at : (m : ℕ) → P 0 m → (l : List ℕ) → ((k : ℕ) → k < n → P (suc k) (get_or l k 0)) → (k : ℕ) → k < suc n → P k (get_or (m ∷ l) k 0)
    at m p l r zero i = p
    at m p l r (suc k) i = r k (omega arith)

-- m suits as the mark of privilege q afterwards
record Suits (f : ℕ → ℕ) (ws marks vs : List ℕ) (q m : ℕ) : Type 0 where
  legal : m ≤ 2
  is : (e : Edit) → Offers ws e → privilege_of vs (moved f e) ≡ q → m ≡ get_or marks (privilege_of ws e) 0

module _ {f g : ℕ → ℕ} {ws vs : List ℕ} (r : Renumbered f g ws vs) (a : Accepted ws) (b : Accepted vs) where
  back : Renumbered g f vs ws
  back = renumbered_back r (accepted_childed a)

  offers_now : (e : Edit) → Offers ws e → Offers vs (moved f e)
  offers_now = offers_there r (accepted_childed a) (accepted_childed b)

  offers_before : (e : Edit) → Offers vs e → Offers ws (moved g e)
  offers_before = offers_there back (accepted_childed b) (accepted_childed a)

  -- an edit of the table afterwards has the mark that it had before
  mark_now : {marks carried : List ℕ} → Carried f ws marks vs carried → (e : Edit) → Offers vs e
      → get_or carried (privilege_of vs e) 0 ≡ get_or marks (privilege_of ws (moved g e)) 0
  mark_now {carried = carried} c e o =
      ap (λ (d : Edit). get_or carried (privilege_of vs d) 0) (sym (moved_back back e o)) ∙ c.keeps (moved g e) (offers_before e o)

  pub carried_back : {marks carried : List ℕ} → Carried f ws marks vs carried → Carried g vs carried ws marks
  carried_back c = record { keeps = λ e o. sym (mark_now c e o) }

  pub carried_one : {marks m n : List ℕ} → Carried f ws marks vs m → Carried f ws marks vs n
      → length m ≡ privileges vs → length n ≡ privileges vs → m ≡ n
  carried_one {marks} {m} {n} c d s t = ext_get_or 0 m n (s ∙ sym t) (λ i l. same i (edit_some vs i (rw s at l)))
    where
      same : (i : ℕ) → (e : Edit) × Offers vs e × (privilege_of vs e ≡ i) → get_or m i 0 ≡ get_or n i 0
      same i (e, o, q) = rw (← q) (mark_now c e o ∙ sym (mark_now d e o))

  -- each privilege has one that suits
  mark_some : {marks : List ℕ} → Fit (privileges ws) marks → (q : ℕ) → (e : Edit) × Offers vs e × (privilege_of vs e ≡ q) → (m : ℕ) × Suits f ws marks vs q m
  mark_some {marks} fit q (e, o, z) = (
    get_or marks (privilege_of ws (moved g e)) 0,
    record {
      legal = fit.legal (privilege_of ws (moved g e)) (edit_below ws (moved g e) (offers_before e o));
      is = λ d h y.
          let same : moved f d ≡ e = edit_one vs (moved f d) e (offers_now d h) o (y ∙ sym z) in
          ap (λ (x : Edit). get_or marks (privilege_of ws x) 0) (ap (λ (x : Edit). moved g x) (sym same) ∙ moved_back r d h);
    },
  )

  pub carried_some : {marks : List ℕ} → Fit (privileges ws) marks → (carried : List ℕ) × Fit (privileges vs) carried × Carried f ws marks vs carried
  carried_some {marks} fit =
      let made = listed {P = Suits f ws marks vs} (privileges vs) (λ q l. mark_some fit q (edit_some vs q l)) in
      let each = made.2 in (
        made.0,
        record { size = made.1; legal = λ q l. (each q l).legal },
        record { keeps = λ e o. (each (privilege_of vs (moved f e)) (edit_below vs (moved f e) (offers_now e o))).is e o refl },
      )

pub carried_marks : {f g : ℕ → ℕ} {ws marks : List ℕ} → Policy ws marks → Permutes (types ws) f g
    → (carried : List ℕ) × Policy (renumber f g ws) carried × Carried f ws marks (renumber f g ws) carried
carried_marks p q =
    let b = renumbered_accepted p.accepted q in
    let made = carried_some (renumbered (accepted_childed p.accepted) q) p.accepted b p.fit in
    (made.0, record { accepted = b; fit = made.1 }, made.2)
