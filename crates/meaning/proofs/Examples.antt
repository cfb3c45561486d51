-- Two small tables of format 2 (document 02, order 9), on which the verdict and what the policy means part, in either direction: edits that replace an
-- element by one of its own kind can be imitated by edits inside the element, and where there is one tree of the kind only they change nothing.
-- Assumes nothing.
use Prim.Native.Nat.{ℕ, zero, suc}
use mathlib.Core.Path.{◌≡◌, refl, sym, ap, subst, ◌∙◌}
use mathlib.Core.List.{List, [], ◌∷◌}
use native.Mathlib.Omega.{arith}
use lib.ListN.{length}
use Rattle.table.specs.Sum.{sum_below}
use Rattle.table.specs.Rule.{rule_of, rule_at, children_at, count_of, OfKind, IsText, IsStar}
use Rattle.table.specs.Privilege.{gap_of, privileges_at, first_privilege, privileges, replace_of, Exchangeable, Edit, text, exchange, privilege_of}
use Rattle.table.specs.Check.{Accepted}
use Rattle.table.proofs.Privileges.{edit_one}
use Rattle.policy.specs.Marks.{Allowed, Forbidden}
use Rattle.verdict.specs.Conditions.{Clean}
use Rattle.verdict.specs.Breaches.{no_breach, spot_of, FirstBreach, Verdict, clean, broken}
use Rattle.verdict.specs.declared.Breach.{Breach}
use Rattle.verdict.specs.declared.Condition.TheVariants.{InsertDelete}
use Rattle.verdict.proofs.Firsts.{clean_none}
use Rattle.verdict.proofs.PolicyTests.{accepted_out, at as told, verdict_by, verdict_by_lem}
use Rattle.meaning.specs.Trees.{Forest, bare, tree, as_text, as_star, no_tree, conforming, ConformsAt, Document, Same, anew_first}
use Rattle.meaning.specs.Edits.{set_text, put_anew, at, below, stay, go}
use Rattle.meaning.specs.Consistent.{Imitates, Consistent}
use Rattle.meaning.specs.SameKind.{Idle, BreachIdle}
use Rattle.meaning.proofs.Orders.{same_refl, same_lone}
use Rattle.meaning.proofs.Conforming.{makes_offers}
use Rattle.meaning.proofs.Differing.{empty_one}
use Rattle.meaning.proofs.Theorem.{up_to_order, idle_never}

-- the verdict that is computed
computed : {ws marks : List ℕ} {b : Breach} → verdict_by ws marks ≡ b → Verdict ws marks b
computed {ws} {marks} e = subst (λ (b : Breach). Verdict ws marks b) e (verdict_by_lem ws marks)

zeros_clean : {ws marks : List ℕ} → Verdict ws marks no_breach → Clean ws marks
zeros_clean (clean c e) = c
zeros_clean (broken f) = absurd f.breach

-- CLEAN, AND NOT CONSISTENT. A list of texts, R → B*; B → str: privileges 0 to insert, 1 to delete, 2 to exchange, 3 the text of B. The text may be
-- changed, to exchange an element is forbidden.
abbrev texts : List ℕ
texts = 2 ∷ 15 ∷ 2 ∷ 0 ∷ 8 ∷ 1 ∷ 14 ∷ 4 ∷ 4 ∷ 1 ∷ 0 ∷ 1 ∷ 0 ∷ 1 ∷ 1 ∷ []

abbrev rewriting : List ℕ
rewriting = 0 ∷ 0 ∷ 2 ∷ 1 ∷ []

pub texts_accepted : Accepted texts
unfolding gap_of privileges_at first_privilege privileges children_at count_of rule_at rule_of sum_below
texts_accepted = accepted_out refl

pub texts_clean : Clean texts rewriting
unfolding sum_below rule_of rule_at children_at count_of gap_of privileges_at first_privilege privileges replace_of
texts_clean = zeros_clean (computed refl)

texts_star : IsStar texts 0
unfolding rule_at rule_of
texts_star = record { type = omega arith; kind_is = refl }

texts_text : IsText texts 1
unfolding rule_at rule_of
texts_text = record { type = omega arith; kind_is = refl }

-- a list of one text
abbrev listed : List ℕ → Forest
listed s = tree 0 [] (tree 1 s bare bare) bare

text_conforms : (s : List ℕ) → ConformsAt texts 1 (tree 1 s bare bare)
text_conforms s = conforming (as_text texts_text refl) no_tree no_tree

listed_conforms : (s : List ℕ) → Document texts (listed s)
unfolding children_at rule_at rule_of
listed_conforms s = conforming (as_star 1 texts_star refl refl) (text_conforms s) no_tree

-- to change the text does what the exchange would do
pub exchange_imitated : Imitates texts Same (Allowed rewriting) (exchange 0)
unfolding gap_of privileges_at first_privilege children_at rule_at rule_of sum_below
exchange_imitated = record {
  start = listed [];
  goal = listed (0 ∷ []);
  simulates = record {
    document = listed_conforms [];
    made = at (put_anew (record { star = texts_star; same_kind = refl }) refl (text_conforms (0 ∷ [])) anew_first);
    end = listed (0 ∷ []);
    leads = go (text 1) refl (below (at (set_text texts_text))) stay;
    same_end = same_refl (listed (0 ∷ []));
  };
  changes = λ a. omega (arith, ap {A = List ℕ} length (same_lone (same_lone a).2).1);
}

pub texts_inconsistent : ¬ Consistent texts rewriting
unfolding gap_of privileges_at first_privilege rule_at rule_of sum_below
texts_inconsistent c = c (record { edit = exchange 0; forbidden = refl; imitates = exchange_imitated })

-- CONSISTENT, AND NOT CLEAN. A list of empty elements, R → B*; B → ε: to insert and to delete is allowed, to exchange an element is forbidden, and would
-- change nothing.
abbrev empties : List ℕ
empties = 2 ∷ 15 ∷ 2 ∷ 0 ∷ 8 ∷ 1 ∷ 14 ∷ 3 ∷ 4 ∷ 1 ∷ 0 ∷ 0 ∷ 0 ∷ 1 ∷ 1 ∷ []

abbrev renewing : List ℕ
renewing = 1 ∷ 1 ∷ 2 ∷ []

pub empties_accepted : Accepted empties
unfolding gap_of privileges_at first_privilege privileges children_at count_of rule_at rule_of sum_below
empties_accepted = accepted_out refl

-- condition 1 at type 0, with the privilege to exchange
abbrev barred : Breach
barred = told InsertDelete 0 0 0 2 1 []

pub empties_broken : FirstBreach empties renewing barred
unfolding sum_below rule_of rule_at children_at count_of gap_of privileges_at first_privilege privileges replace_of
empties_broken = first (computed refl)
  where
    first : Verdict empties renewing barred → FirstBreach empties renewing barred
    first (clean c e) = absurd (omega (arith, ap (λ (b : Breach). b.privilege) e))
    first (broken f) = f

pub empties_unclean : ¬ Clean empties renewing
empties_unclean c = clean_none empties renewing c (spot_of barred) 2 empties_broken.breach

empties_exchange : Exchangeable empties 0
unfolding rule_at rule_of
empties_exchange = record { star = record { type = omega arith; kind_is = refl }; same_kind = refl }

empties_empty : OfKind empties 1 0
unfolding rule_at rule_of
empties_empty = record { type = omega arith; kind_is = refl }

exchange_idle : Idle empties (exchange 0)
unfolding children_at rule_at rule_of
exchange_idle = record { same_kind = tt; one_tree = empty_one empties_empty }

exchange_is : privilege_of empties (exchange 0) ≡ 2
unfolding first_privilege sum_below
exchange_is = refl

pub empties_idle : BreachIdle empties renewing barred
empties_idle = record { edit = exchange 0; offers = empties_exchange; is = exchange_is; forbidden = refl; idle = exchange_idle }

forbidden_two : (p : ℕ) → Forbidden renewing p → p ≡ 2
forbidden_two zero f = absurd (omega arith)
forbidden_two (suc zero) f = absurd (omega arith)
forbidden_two (suc (suc zero)) f = refl
forbidden_two (suc (suc (suc p))) f = absurd (omega arith)

pub empties_consistent : Consistent empties renewing
empties_consistent i =
    let o = makes_offers i.imitates.simulates.made in
    let p : privilege_of empties i.edit ≡ privilege_of empties (exchange 0) = forbidden_two (privilege_of empties i.edit) i.forbidden ∙ sym exchange_is in
    let is : i.edit ≡ exchange 0 = edit_one empties i.edit (exchange 0) o empties_exchange p in
    idle_never up_to_order exchange_idle (subst (λ (e : Edit). Imitates empties Same (Allowed renewing) e) is i.imitates)
