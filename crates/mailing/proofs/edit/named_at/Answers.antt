-- By the cases of the rule; of those without a privilege none is asked for. Assumes nothing.
use Rattle.std.proofs.Common.{sym, ◌∙◌, inl, inr}
use Rattle.table.proofs.Facts.{has_record}
use Rattle.mailing.proofs.Naming.{empty_none, sequence_none, text_edit}
use Rattle.mailing.proofs.edit.named_at.Goals as goal

pub rule_at-requires : goal.rule_at-requires
rule_at-requires c = let p = c.requires in has_record p.0 p.1

pub returns-in-Empty : goal.returns-in-Empty
returns-in-Empty c = let p = c.requires in
    let is = sym c.rule_at.ensures.is in
    elim c.in-Empty.is [
      | inl e ↦ absurd (empty_none _ _ _ (is ∙ e) p.2)
      | inr (inl e) ↦ text_edit _ _ _ p.1 (is ∙ e) p.2
      | inr (inr s) ↦ absurd (sequence_none _ _ _ (is ∙ s.2) p.2)
    ]
