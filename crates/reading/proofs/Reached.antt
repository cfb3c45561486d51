-- Reading line by line: the text before the place reached is the listing of the marks so far, so the first line at fault is the first fault. Assumes nothing.
use Rattle.std.proofs.Common.{None, ℕ, suc, ◌+◌, ◌≤◌, ◌<◌, ◌≡◌, refl, sym, ap, subst, ◌∙◌, ◌≢◌, inl, inr, List, arith, length, get_or, set, take, length-set, length-take-le, take_all, get_or-take, get_or-set_same, get_or-set_other}
use native.Mathlib.Decide.{ℕ_discrete}
use Rattle.std.proofs.Math.Seq.{length-slice}
use Rattle.table.specs.Words.{types}
use Rattle.table.specs.Privilege.{privileges}
use Rattle.table.specs.Check.{Accepted}
use Rattle.table.proofs.Facts.{facts}
use Rattle.table.proofs.Privileges.{edit_below}
use Rattle.labels.specs.Steps.Booked.{Labelled}
use Rattle.listing.specs.Listing.{Lists, none}
use Rattle.listing.specs.Faults.{Starts, at_front, IsSet, LineAt, Fault, no_line, not_above}
use Rattle.listing.proofs.Lines.{line_some}
use Rattle.listing.proofs.Listings.{first_fault}
use Rattle.listing.proofs.Appending.{start_next, lists_more, lists_marks, lists_line}
use Rattle.reading.specs.Steps.Edits.{Standing, LineEnded, LineRead}
use Rattle.reading.specs.declared.lines.Line.{Line}
use Rattle.reading.specs.Steps.Reading.{LinesRead, faulty, listed}

-- the line that ends at a place, and one more than its privilege; 0 at the front
pub data LastLine (label : ℕ → List ℕ) (ws t : List ℕ) (at from : ℕ) : Type 0 where
  front : from ≡ 0 → LastLine label ws t at from
  behind : (start last mark : ℕ) → LineAt label ws t start at last mark → from ≡ suc last → LastLine label ws t at from

-- the lines before a place are read into marks, all below `from`
pub record Reached (label : ℕ → List ℕ) (ws t marks : List ℕ) (at from near : ℕ) : Type 0 where
  pub size : length marks ≡ 4096
  pub legal : (p : ℕ) → get_or marks p 0 ≤ 2
  pub unset : (p : ℕ) → from ≤ p → get_or marks p 0 ≡ 0
  pub within : at ≤ length t
  pub few : from ≤ privileges ws
  pub near_type : near < types ws
  pub starts : at < length t → Starts t at
  pub lists : Lists label ws marks from (take at t)
  pub last : LastLine label ws t at from

set_few : {m : ℕ} → IsSet m → m ≤ 2
set_few (inl e) = omega arith
set_few (inr e) = omega arith

module _ {label : ℕ → List ℕ} {ws t : List ℕ} where
  standing_line : {a b p m : ℕ} → Starts t a → Standing label ws t a p m b → LineAt label ws t a b p m
  standing_line s h = record {
    starts = s;
    within = h.line.within;
    mark_set = h.mark_set;
    line = record { edit = h.edit; offered = h.offered; number = h.number; is = h.line.is };
  }

  pub line_below : {a : ℕ} {r : Line} → Accepted ws → LineEnded label ws t a r → r.privilege < 4096
  line_below a r =
      let s = r.standing in
      omega (arith, (facts a).privileges_few, edit_below ws s.edit s.offered, s.number)

  pub reached_start : {marks : List ℕ} → Accepted ws → length marks ≡ 4096 → ((p : ℕ) → get_or marks p 0 ≡ 0) → Reached label ws t marks 0 0 0
  reached_start a n z = record {
    size = n;
    legal = λ p. omega (arith, z p);
    unset = λ p h. z p;
    within = omega arith;
    few = omega arith;
    near_type = omega (arith, (facts a).some);
    starts = at_front;
    lists = none;
    last = front refl;
  }

module _ {label : ℕ → List ℕ} {ws t : List ℕ} (a : Accepted ws) (l : Labelled label (types ws)) where
  line_standing : {from b p m : ℕ} → LineAt label ws t from b p m → Standing label ws t from p m b
  line_standing {from} {b} h = record {
    edit = h.line.edit;
    offered = h.line.offered;
    number = h.line.number;
    mark_set = h.mark_set;
    line = record {
      end = omega (arith, line_some a l h, length-slice from b t h.within, ap length h.line.is);
      within = h.within;
      is = h.line.is;
    };
  }

  module _ {marks : List ℕ} {at from near : ℕ} (r : Reached label ws t marks at from near) where
    pub reached_more : {n : Line} → at < length t → LineEnded label ws t at n → from ≤ n.privilege
        → Reached label ws t (set marks n.privilege n.mark) n.end (n.privilege + 1) n.x
    reached_more {n} h read low =
        let p = n.privilege in
        let mark = n.mark in
        let end = n.end in
        let found = read.standing in
        let this : LineAt label ws t at end p mark = standing_line (r.starts h) found in
        let inside : p < length marks = omega (arith, line_below a read, r.size) in
        let here : get_or (set marks p mark) p 0 ≡ mark = get_or-set_same marks p mark 0 inside in
        let others : (q : ℕ) → q ≢ p → get_or (set marks p mark) q 0 ≡ get_or marks q 0 = λ q e. get_or-set_other marks p q mark 0 e in
        let more : Lists label ws (set marks p mark) p (take at t) =
        lists_marks (λ q less. sym (others q (λ e. omega arith))) (lists_more r.lists low (λ q g k. r.unset q g)) in
        let next : suc p ≡ p + 1 = omega arith in
        record {
          size = length-set marks p mark ∙ r.size;
          legal = λ q. elim (ℕ_discrete q p) [
            | yes e ↦ omega (arith, ap (λ (z : ℕ). get_or (set marks p mark) z 0) e, here, set_few this.mark_set)
            | no e ↦ omega (arith, others q e, r.legal q)
          ];
          unset = λ q g. others q (λ e. omega arith) ∙ r.unset q (omega arith);
          within = this.within;
          few = omega (arith, edit_below ws found.edit found.offered, found.number);
          near_type = read.type;
          starts = λ g. start_next a l this g;
          lists = subst (λ (q : ℕ). Lists label ws (set marks p mark) q (take end t)) next (lists_line a l more here this);
          last = behind at p mark this (sym next);
        }

    pub reached_on : {n : Line} → at < length t → LineEnded label ws t at n → at < n.end
    reached_on h read = line_some a l (standing_line (r.starts h) read.standing)

    at_fault : {number : ℕ} → Fault label ws t number at → LinesRead label ws t number at marks
    at_fault f = faulty (first_fault a l r.lists (λ p h. r.legal p) r.within f)

    pub reached_none : at < length t → LineRead label ws t at None → LinesRead label ws t 25 at marks
    reached_none h f = at_fault (no_line refl record { starts = r.starts h; none = λ b p m g. f p m b (line_standing g) })

    pub reached_not : {n : Line} → at < length t → LineEnded label ws t at n → n.privilege < from → LinesRead label ws t 26 at marks
    reached_not {n} h read low = go r.last
      where
        this : LineAt label ws t at n.end n.privilege n.mark
        this = standing_line (r.starts h) read.standing

        go : LastLine label ws t at from → LinesRead label ws t 26 at marks
        go (front e) = absurd (omega arith)
        go (behind start last m before e) = at_fault (not_above refl record {
          start = start;
          last = last;
          last_mark = m;
          end = n.end;
          privilege = n.privilege;
          mark = n.mark;
          before = before;
          line = this;
          not_above = omega arith;
        })

    pub reached_end : length t ≤ at → LinesRead label ws t 0 0 marks
    reached_end h =
        let v = privileges ws in
        let few : v ≤ length marks = omega (arith, (facts a).privileges_few, r.size) in
        let all : take at t ≡ t = take_all at t h in
        let whole : Lists label ws marks v t = subst (Lists label ws marks v) all (lists_more r.lists r.few (λ p g k. r.unset p g)) in
        let front : (p : ℕ) → p < v → get_or (take v marks) p 0 ≡ get_or marks p 0 = λ p k. get_or-take v marks p 0 k in
        listed refl refl (record { size = length-take-le v marks few; legal = λ p k. omega (arith, front p k, r.legal p) }) (lists_marks (λ p k. sym (front p k)) whole)
