-- Labels that agree on the table's types give the same lines, listings and faults: an edit names no other type. Assumes nothing.
use Rattle.std.proofs.Common.{ℕ, ◌<◌, ◌≡◌, sym, ap, ◌∙◌, List}
use Rattle.table.specs.Words.{types}
use Rattle.table.specs.Named.{Named, texts, inserts, deletes, replaces, name_of}
use Rattle.table.specs.Check.{Accepted}
use Rattle.table.proofs.Named.{Each, names_types}
use Rattle.labels.specs.Steps.Booked.{Alike}
use Rattle.listing.specs.Line.{sign_of, parts_of, spaced}
use Rattle.listing.specs.Listing.{LineOf, Lists, none, unset, set}
use Rattle.listing.specs.Faults.{LineAt, Fault, no_line, not_above, FirstFault}

pub alike_back : {label other : ℕ → List ℕ} {e : ℕ} → Alike label other e → Alike other label e
alike_back k x h = sym (k x h)

pub parts_as : {label other : ℕ → List ℕ} {e : ℕ} → Alike label other e → (n : Named) → Each (λ x. x < e) n → parts_of label n ≡ parts_of other n
unfolding parts_of
parts_as k (texts x) h = rw (k x h)
parts_as k (inserts x c) h = rw (k x h.0, k c h.1)
parts_as k (deletes x c) h = rw (k x h.0, k c h.1)
parts_as k (replaces x c d) h = rw (k x h.0, k c h.1, k d h.2)

module _ {ws : List ℕ} (a : Accepted ws) where
  pub line_as : {label other : ℕ → List ℕ} {p m : ℕ} {line : List ℕ} → Alike label other (types ws)
      → LineOf label ws p m line → LineOf other ws p m line
  line_as {m = m} k h = record {
    edit = h.edit;
    offered = h.offered;
    number = h.number;
    is = h.is ∙ ap (spaced (sign_of m)) (parts_as k (name_of ws h.edit) (names_types a h.edit h.offered));
  }

  pub lists_as : {label other : ℕ → List ℕ} {marks : List ℕ} {n : ℕ} {t : List ℕ} → Alike label other (types ws)
      → Lists label ws marks n t → Lists other ws marks n t
  lists_as k none = none
  lists_as k (unset h e) = unset (lists_as k h) e
  lists_as k (set h d one is) = set (lists_as k h) d (line_as k one) is

  pub line_at_as : {label other : ℕ → List ℕ} {t : List ℕ} {from b p m : ℕ} → Alike label other (types ws)
      → LineAt label ws t from b p m → LineAt other ws t from b p m
  line_at_as k h = record { starts = h.starts; within = h.within; mark_set = h.mark_set; line = line_as k h.line }

  pub any_fault_as : {label other : ℕ → List ℕ} {t : List ℕ} {number place : ℕ} → Alike label other (types ws)
      → Fault label ws t number place → Fault other ws t number place
  any_fault_as k (no_line e f) = no_line e record { starts = f.starts; none = λ b p m h. f.none b p m (line_at_as (alike_back k) h) }
  any_fault_as k (not_above e f) = not_above e record {
    start = f.start;
    last = f.last;
    last_mark = f.last_mark;
    end = f.end;
    privilege = f.privilege;
    mark = f.mark;
    before = line_at_as k f.before;
    line = line_at_as k f.line;
    not_above = f.not_above;
  }

  pub fault_as : {label other : ℕ → List ℕ} {t : List ℕ} {n p : ℕ} → Alike label other (types ws) → FirstFault label ws t n p → FirstFault other ws t n p
  fault_as k h = record { fault = any_fault_as k h.fault; earliest = λ other i low f. h.earliest other i low (any_fault_as (alike_back k) f) }
