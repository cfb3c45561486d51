-- Roles as listings, byte for byte: S1 to S9 of document 01 and the vendor's over the sample schema, two over it in format 2, and one over a schema with made types.
-- Assumes nothing.
use Rattle.std.proofs.Common.{ℕ, zero, suc, ◌<◌, ◌≡◌, refl, Bool, true, false, cond, List, [], ◌∷◌, ◌++◌, map, arith, eqb-true, eqb, get_or}
use Prim.Native.String.{String}
use borrow.Author.Tests.{eqb-false}
use Rattle.table.specs.Sum.{sum_below}
use Rattle.table.specs.Rule.{rule_of, rule_at, children_at, count_of}
use Rattle.table.specs.Privilege.{gap_of, privileges_at, first_privilege, privileges, replace_of}
use Rattle.table.specs.Privilege.{Edit, text, insert, delete, exchange, replace, Offers, privilege_of}
use Rattle.table.specs.Named.{name_of}
use Rattle.table.proofs.Tables.{marks_of, sample, sample_two}
use Rattle.table.proofs.Test.{Test, is_equal, both, every}
use Rattle.table.proofs.TableTests.{of_kind, exchangeable, replaceable}
use Rattle.grammar.specs.Bytes.{ascii}
use Rattle.labels.specs.Labels.{decimal, label_of}
use Rattle.listing.specs.Line.{sign_of, parts_of, spaced, line_of}
use Rattle.listing.specs.Listing.{Lists, none, unset, set, ListingOf}

-- the listing of marks, where the edits are given in the order of their privileges
module _ (label : ℕ → List ℕ) (ws : List ℕ) (edits : List Edit) (marks : List ℕ) where
  abbrev edit_at : ℕ → Edit
  edit_at k = get_or edits k (text 0)

  abbrev lines_to : ℕ → List ℕ
  lines_to zero = []
  lines_to (suc n) = cond (eqb (get_or marks n 0) 0) (lines_to n) (lines_to n ++ line_of label (get_or marks n 0) (name_of ws (edit_at n)))

  abbrev Stands : ℕ → Type 0
  Stands k = Offers ws (edit_at k) × (privilege_of ws (edit_at k) ≡ k)

  lists_to : (n : ℕ) → ((k : ℕ) → k < n → Stands k) → Lists label ws marks n (lines_to n)
  lists_to zero h = none
  lists_to (suc n) h = go (lists_to n (λ k l. h k (omega arith))) (eqb (get_or marks n 0) 0) refl
    where
      go : Lists label ws marks n (lines_to n) → (b : Bool) → eqb (get_or marks n 0) 0 ≡ b
          → Lists label ws marks (suc n) (cond b (lines_to n) (lines_to n ++ line_of label (get_or marks n 0) (name_of ws (edit_at n))))
      go before true e = unset before (eqb-true (get_or marks n 0) 0 e)
      go before false e =
          let own = h n (omega arith) in
          set before (eqb-false (get_or marks n 0) 0 e) (record { edit = edit_at n; offered = own.0; number = own.1; is = refl }) refl

abbrev offers : (ws : List ℕ) (e : Edit) → Test (Offers ws e)
offers ws (text x) = of_kind ws x 1
offers ws (insert x) = of_kind ws x 4
offers ws (delete x) = of_kind ws x 4
offers ws (exchange x) = exchangeable ws x
offers ws (replace x i j) = replaceable ws x i j

-- the declared names, and the edits of both formats
abbrev names : List (List ℕ)
names = map ascii ("job" ∷ "layer" ∷ "name" ∷ "range" ∷ "state" ∷ "draft" ∷ "held" ∷ "final" ∷ [])

abbrev edits : List Edit
edits =
    insert 0 ∷ delete 0 ∷ text 2 ∷ text 3 ∷ replace 4 0 1 ∷ replace 4 0 2 ∷ replace 4 1 0 ∷ replace 4 1 2 ∷ replace 4 2 0 ∷ replace 4 2 1 ∷ text 7 ∷ []

abbrev edits_two : List Edit
edits_two =
    insert 0 ∷ delete 0 ∷ exchange 0 ∷ text 2 ∷ text 3
    ∷ replace 4 0 0 ∷ replace 4 0 1 ∷ replace 4 0 2 ∷ replace 4 1 0 ∷ replace 4 1 1 ∷ replace 4 1 2 ∷ replace 4 2 0 ∷ replace 4 2 1 ∷ replace 4 2 2 ∷ text 7 ∷ []

stands : (k : ℕ) → k < 11 → Stands (label_of names) sample edits [] k
unfolding sum_below rule_of rule_at children_at count_of gap_of privileges_at first_privilege privileges replace_of
stands = (every 11 (λ k. both (offers sample (get_or edits k (text 0))) (is_equal (privilege_of sample (get_or edits k (text 0))) k))).out tt

stands_two : (k : ℕ) → k < 15 → Stands (label_of names) sample_two edits_two [] k
unfolding sum_below rule_of rule_at children_at count_of gap_of privileges_at first_privilege privileges replace_of
stands_two = (every 15 (λ k. both (offers sample_two (get_or edits_two k (text 0))) (is_equal (privilege_of sample_two (get_or edits_two k (text 0))) k))).out tt

-- the table of `<!ELEMENT shot (take+, note?)>` with take and note text: 3 is `take+`, 4 its star, 5 `note?` and 6 its empty
abbrev shot_names : List (List ℕ)
shot_names = map ascii ("shot" ∷ "take" ∷ "note" ∷ [])

abbrev shot : List ℕ
shot =
    1 ∷ 36 ∷ 7 ∷ 0 ∷ 8 ∷ 7 ∷ 29 ∷ 6
    ∷ 2 ∷ 2 ∷ 0 ∷ 1 ∷ 0 ∷ 2 ∷ 1 ∷ 0 ∷ 2 ∷ 2 ∷ 2 ∷ 2 ∷ 4 ∷ 1 ∷ 4 ∷ 3 ∷ 2 ∷ 5 ∷ 0 ∷ 0 ∷ 7
    ∷ 3 ∷ 5 ∷ 1 ∷ 4 ∷ 1 ∷ 2 ∷ 6 ∷ []

abbrev shot_edits : List Edit
shot_edits = text 1 ∷ text 2 ∷ insert 4 ∷ delete 4 ∷ replace 5 0 1 ∷ replace 5 1 0 ∷ []

shot_stands : (k : ℕ) → k < 6 → Stands (label_of shot_names) shot shot_edits [] k
unfolding sum_below rule_of rule_at children_at count_of gap_of privileges_at first_privilege privileges replace_of
shot_stands = (every 6 (λ k. both (offers shot (get_or shot_edits k (text 0))) (is_equal (privilege_of shot (get_or shot_edits k (text 0))) k))).out tt

-- these marks, as V digits, have this listing
abbrev pub SaysBy : List (List ℕ) → List ℕ → ℕ → String → Type 0
SaysBy declared words digits listing = ListingOf (label_of declared) words (marks_of words digits) (ascii listing)

abbrev pub Says : List ℕ → ℕ → String → Type 0
Says = SaysBy names

pub record Told : Type 0 where
  pub s1 : Says sample 00000000000 ""
  pub s2 : Says sample 11020000000 "+ job insert layer\n+ job delete layer\n- range text\n"
  pub s3 : Says sample 11000000000 "+ job insert layer\n+ job delete layer\n"
  pub s4 : Says sample 10020000000 "+ job insert layer\n- range text\n"
  pub s5 : Says sample 00001201000 "+ state replace draft held\n- state replace draft final\n+ state replace held final\n"
  pub s6 : Says sample 00001001000 "+ state replace draft held\n+ state replace held final\n"
  pub s7 : Says sample 00000001012 "+ state replace held final\n+ state replace final held\n- final text\n"
  pub s8 : Says sample 00000001010 "+ state replace held final\n+ state replace final held\n"
  pub s9 : Says sample 11021201000 "+ job insert layer\n+ job delete layer\n- range text\n+ state replace draft held\n- state replace draft final\n+ state replace held final\n"
  pub vendor : Says sample 11021212002 "+ job insert layer\n+ job delete layer\n- range text\n+ state replace draft held\n- state replace draft final\n+ state replace held draft\n- state replace held final\n- final text\n"
  pub vendor_two : Says sample_two 121020121020002 "+ job insert layer\n- job delete layer\n+ job replace layer layer\n- range text\n+ state replace draft held\n- state replace draft final\n+ state replace held draft\n- state replace held final\n- final text\n"
  pub own_kind : Says sample_two 001001000100010 "+ job replace layer layer\n+ state replace draft draft\n+ state replace held held\n+ state replace final final\n"
  pub made : SaysBy shot_names shot 102010 "+ take text\n- #4 insert take\n+ #5 replace note #6\n"

pub told : Told
unfolding sum_below rule_of rule_at children_at count_of gap_of privileges_at first_privilege privileges replace_of decimal label_of sign_of parts_of spaced
told = record {
  s1 = lists_to (label_of names) sample edits (marks_of sample 00000000000) 11 stands;
  s2 = lists_to (label_of names) sample edits (marks_of sample 11020000000) 11 stands;
  s3 = lists_to (label_of names) sample edits (marks_of sample 11000000000) 11 stands;
  s4 = lists_to (label_of names) sample edits (marks_of sample 10020000000) 11 stands;
  s5 = lists_to (label_of names) sample edits (marks_of sample 00001201000) 11 stands;
  s6 = lists_to (label_of names) sample edits (marks_of sample 00001001000) 11 stands;
  s7 = lists_to (label_of names) sample edits (marks_of sample 00000001012) 11 stands;
  s8 = lists_to (label_of names) sample edits (marks_of sample 00000001010) 11 stands;
  s9 = lists_to (label_of names) sample edits (marks_of sample 11021201000) 11 stands;
  vendor = lists_to (label_of names) sample edits (marks_of sample 11021212002) 11 stands;
  vendor_two = lists_to (label_of names) sample_two edits_two (marks_of sample_two 121020121020002) 15 stands_two;
  own_kind = lists_to (label_of names) sample_two edits_two (marks_of sample_two 001001000100010) 15 stands_two;
  made = lists_to (label_of shot_names) shot shot_edits (marks_of shot 102010) 6 shot_stands;
}
