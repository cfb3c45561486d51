-- By the cases of the rule. Assumes nothing.
use Rattle.std.proofs.Common.{ℕ, ◌≡◌, ◌≢◌, ◌⊎◌, inl, inr, sym, ap, ◌∙◌, arith}
use Rattle.mending.proofs.Next.{plain_next}
use Rattle.mending.specs.Steps.Taking.{start}
use Rattle.table.proofs.Facts.{has_record, has_children}
use Rattle.table.specs.declared.rule.Rule.{Rule}
use Rattle.table.specs.declared.rule.Rule.TheVariants.{Empty, Text, Sequence}
use Rattle.table.specs.Rule.{kind_in}
use Rattle.mending.proofs.mend_types.mend_type.Goals as goal

-- an empty type, a text or a sequence is neither a star nor a choice
plain : {here rule : Rule} → here ≡ rule → (rule ≡ Empty) ⊎ (rule ≡ Text) ⊎ ((f : ℕ) × (n : ℕ) × rule ≡ Sequence f n) → (kind_in here ≢ 3) × (kind_in here ≢ 4)
plain e (inl r) = let k = ap kind_in (e ∙ r) in (λ q. omega arith, λ q. omega arith)
plain e (inr (inl r)) = let k = ap kind_in (e ∙ r) in (λ q. omega arith, λ q. omega arith)
plain e (inr (inr s)) = let k = ap kind_in (e ∙ s.2) in (λ q. omega arith, λ q. omega arith)

pub rule_at-requires : goal.rule_at-requires
rule_at-requires c = has_record c.requires.0.accepted c.requires.2

pub children-requires : goal.children-requires
children-requires c = has_children c.requires.0.accepted c.requires.2

pub children-requires-in-Star : goal.children-requires-in-Star
children-requires-in-Star c = has_children c.requires.0.accepted c.requires.2

pub returns-in-Empty : goal.returns-in-Empty
returns-in-Empty c =
    let p = c.requires in
    let neither = plain (sym c.rule_at.ensures.is) c.in-Empty.is in
    record { follows = start; policy = p.0; spoilt = p.1; clean = plain_next p.3 neither.0 neither.1 }
