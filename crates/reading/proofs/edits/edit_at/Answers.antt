-- By the cases of the rule. Assumes nothing.
use Rattle.std.proofs.Common.{ℕ, ◌<◌, List, ◌≡◌, sym, ap, subst, ◌∙◌, arith}
use Rattle.table.specs.Words.{types}
use Rattle.table.specs.Rule.{rule_at, kind_in, OfKind}
use Rattle.table.specs.declared.rule.Rule.{Rule}
use Rattle.table.proofs.Facts.{has_record, has_children}
use Rattle.labels.specs.Steps.Booked.{label_in}
use Rattle.reading.specs.Steps.Edits.{Kinds, StarRead, ChoiceRead}
use Rattle.reading.proofs.Editing.{edit_text, edit_no_text, edit_star, edit_choice, kinds_at, star_low}
use Rattle.reading.proofs.edits.edit_at.Goals as goal

-- the kind of the type is that of its rule
of_kind : {ws : List ℕ} {x : ℕ} {r : Rule} (k : Rule) → x < types ws → rule_at ws x ≡ r → r ≡ k → OfKind ws x (kind_in k)
of_kind k l e q = record { type = l; kind_is = ap kind_in (e ∙ q) }

pub rule_at-requires : goal.rule_at-requires
rule_at-requires c = let p = c.requires in has_record p.0.accepted p.1

pub children-requires : goal.children-requires
children-requires c = let p = c.requires in has_children p.0.accepted p.1

pub choice_at-requires : goal.choice_at-requires
choice_at-requires c = let a = c.args in
    let p = c.requires in (
      subst (λ (kids : List ℕ). Kinds (label_in a.labels.names.now a.labels.starts.now) kids c.numbers_at-n.result) (sym c.children.ensures) (kinds_at p.0.accepted p.0.labelled p.1 c.numbers_at-n.ensures),
      p.3,
    )

pub child_at-requires : goal.child_at-requires
child_at-requires c = let p = c.requires in has_children p.0.accepted p.1

pub label-requires : goal.label-requires
label-requires c = let p = c.requires in
    omega (arith, c.child_at.ensures, star_low p.0.accepted (of_kind _ p.1 (sym c.rule_at.ensures.is) c.in-Star.is))

pub returns-in_err-end-in-Text : goal.returns-in_err-end-in-Text
returns-in_err-end-in-Text c = let a = c.args in
    rw c.from_residual.ensures
    (edit_no_text (label_in a.labels.names.now a.labels.starts.now) a.l.now a.at (of_kind _ c.requires.1 (sym c.rule_at.ensures.is) c.in-Text.is) c.in_err-end-in-Text.ensures)

pub returns-in_ok-end-in-Text : goal.returns-in_ok-end-in-Text
returns-in_ok-end-in-Text c = let a = c.args in
    edit_text (label_in a.labels.names.now a.labels.starts.now) a.l.now a.at (of_kind _ c.requires.1 (sym c.rule_at.ensures.is) c.in-Text.is) c.requires.2 c.in_ok-end-in-Text.ensures

pub returns-in-Choice : goal.returns-in-Choice
returns-in-Choice c = let a = c.args in
    let label = label_in a.labels.names.now a.labels.starts.now in
    let r = c.choice_at.result in
    edit_choice label a.l.now a.at r (of_kind _ c.requires.1 (sym c.rule_at.ensures.is) c.in-Choice.is) c.numbers_at-n.ensures
    (subst (λ (kids : List ℕ). ChoiceRead label kids c.numbers_at-n.result a.l.now a.at r) c.children.ensures c.choice_at.ensures)

pub returns-in-Star : goal.returns-in-Star
returns-in-Star c = let a = c.args in
    let label = label_in a.labels.names.now a.labels.starts.now in
    let r = c.star_at.result in
    edit_star label a.l.now a.at r (of_kind _ c.requires.1 (sym c.rule_at.ensures.is) c.in-Star.is) c.numbers_at-n.ensures
    (subst (λ (child : List ℕ). StarRead c.numbers_at-n.result child a.l.now a.at r) (c.label.ensures ∙ ap label c.child_at.ensures) c.star_at.ensures)
