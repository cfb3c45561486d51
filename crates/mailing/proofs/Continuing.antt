-- Lines that follow on those before: none, those of one privilege, one after another, and all of them. Assumes nothing.
use Rattle.std.proofs.Common.{ℕ, ◌+◌, ◌*◌, ◌≤◌, ◌≡◌, refl, sym, ap, subst, ◌∙◌, ◌≢◌, List, [], ◌++◌, append-nil, append_assoc, arith, length, get_or, length-append}
use Rattle.table.specs.Words.{types}
use Rattle.table.specs.Privilege.{first_privilege, privileges}
use Rattle.runs.specs.Putting.{Fits}
use Rattle.runs.proofs.Texts.{fits_none, fits_then}
use Rattle.listing.specs.Listing.{LineOf, Lists, none, unset, set}
use Rattle.listing.specs.Line.{line_of}
use Rattle.mailing.specs.Steps.Putting.{LinesPut}
use Rattle.mailing.specs.Steps.Naming.{named_by, EditAt}
use Rattle.mailing.specs.Steps.Continuing.{Continues}
use Rattle.mailing.specs.declared.edit.Naming.{Naming}

pub privileges_are : (ws : List ℕ) → first_privilege ws (types ws) ≡ privileges ws
unfolding privileges
privileges_are ws = refl

-- the line of the edit that is the k-th at its type
pub edit_line : {ws : List ℕ} {x k p : ℕ} {r : Naming} (label : ℕ → List ℕ) (mark : ℕ) → EditAt ws x k r → first_privilege ws x + k ≡ p → LineOf label ws p mark (line_of label mark (named_by r))
edit_line label mark e q = record { edit = e.edit; offered = e.offered; number = e.number ∙ q; is = ap (line_of label mark) e.is }

module _ {label : ℕ → List ℕ} {ws marks : List ℕ} where
  lists_as : {m n : ℕ} {lines other : List ℕ} → m ≡ n → lines ≡ other → Lists label ws marks m lines → Lists label ws marks n other
  lists_as {m} {n} {lines} {other} e q l = subst (λ (k : ℕ). Lists label ws marks k other) e (subst (Lists label ws marks m) q l)

  pub continues_none : {a : ℕ} {d : List ℕ} {at : ℕ} → Continues label ws marks a a d at d at
  continues_none = record {
    part = [];
    more = λ lines l. lists_as refl (sym (append-nil lines)) l;
    short = omega arith;
    fits = fits_none;
  }

  pub continues_unset : {p : ℕ} {d : List ℕ} {at : ℕ} → get_or marks p 0 ≡ 0 → Continues label ws marks p (p + 1) d at d at
  continues_unset e = record {
    part = [];
    more = λ lines l. lists_as (omega arith) (sym (append-nil lines)) (unset l e);
    short = omega arith;
    fits = fits_none;
  }

  pub continues_set : {p : ℕ} {line d f : List ℕ} {at r : ℕ} → get_or marks p 0 ≢ 0 → LineOf label ws p (get_or marks p 0) line → length line ≤ 109 → Fits line d at f r
      → Continues label ws marks p (p + 1) d at f r
  continues_set {line = line} s l few f = record {
    part = line;
    more = λ lines b. lists_as (omega arith) refl (set b s l refl);
    short = omega arith;
    fits = f;
  }

  pub continues_then : {a b c : ℕ} {d e f : List ℕ} {at r q : ℕ} → Continues label ws marks a b d at e r → Continues label ws marks b c e r f q → Continues label ws marks a c d at f q
  continues_then p o = record {
    part = p.part ++ o.part;
    more = λ lines l. lists_as refl (append_assoc lines p.part o.part) (o.more (lines ++ p.part) (p.more lines l));
    short = omega (arith, p.short, o.short, length-append p.part o.part);
    fits = fits_then p.fits o.fits;
  }

  -- the place behind them is no further than 109 bytes for each privilege
  pub continues_few : {a b : ℕ} {d e : List ℕ} {at r : ℕ} → at ≤ 109 * a → Continues label ws marks a b d at e r → r ≤ 109 * b
  continues_few h c = omega (arith, c.short, c.fits.end)

  pub continues_all : {n : ℕ} {d e : List ℕ} {r : ℕ} → n ≡ privileges ws → Continues label ws marks 0 n d 0 e r → LinesPut label ws marks d e r
  continues_all q c = record { lines = c.part; lists = lists_as q refl (c.more [] none); fits = c.fits }
