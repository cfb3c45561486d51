-- By the type's flag, and then by the cases of its rule. Assumes nothing.
use Rattle.std.proofs.Common.{ℕ, ◌≡◌, sym, ap, ◌∙◌, ◌≢◌, ◌⊎◌, inl, inr, arith, get_or, ne_eqb}
use Rattle.table.specs.Rule.{kind_in}
use Rattle.table.specs.declared.rule.Rule.{Rule}
use Rattle.table.specs.declared.rule.Rule.TheVariants.{Empty, Text, Sequence}
use Rattle.table.proofs.Facts.{facts, has_record}
use Rattle.table.proofs.Lowest.{told_no}
use Rattle.policy.specs.Marks.{Allowed}
use Rattle.completion.specs.Steps.Opens.{Opened}
use Rattle.completion.specs.Steps.Writing.{is_open}
use Rattle.completion.proofs.Openings.{kids_none}
use Rattle.completion.proofs.Passing.{plain_own, plain_passes, visit_end, visit_fits}
use Rattle.completion.proofs.pass.complete_type.Goals as goal

-- the last arm's rule is neither a star nor a choice
plain : {here rule : Rule} → here ≡ rule → (rule ≡ Empty) ⊎ (rule ≡ Text) ⊎ ((f : ℕ) × (n : ℕ) × rule ≡ Sequence f n) → (kind_in here ≢ 3) × (kind_in here ≢ 4)
plain e (inl r) = let k = ap kind_in (e ∙ r) in (λ q. omega arith, λ q. omega arith)
plain e (inr (inl r)) = let k = ap kind_in (e ∙ r) in (λ q. omega arith, λ q. omega arith)
plain e (inr (inr s)) = let k = ap kind_in (e ∙ s.2) in (λ q. omega arith, λ q. omega arith)

pub bounds-opened-x : goal.bounds-opened-x
bounds-opened-x c = omega (arith, c.requires.type, (facts c.requires.policy.accepted).few)

pub rule_at-requires : goal.rule_at-requires
rule_at-requires c = let visit = c.requires in has_record visit.policy.accepted visit.type

pub privileges_at-requires : goal.privileges_at-requires
privileges_at-requires c = let visit = c.requires in has_record visit.policy.accepted visit.type

pub overflow_add-first : goal.overflow_add-first
overflow_add-first c = omega (arith, visit_fits c.requires c.privileges_at.ensures.is)

pub write_range-requires : goal.write_range-requires
write_range-requires c = visit_end c.requires c.privileges_at.ensures.is

pub returns-in-Empty : goal.returns-in-Empty
returns-in-Empty c =
    let a = c.args in
    let neither = plain (sym c.rule_at.ensures.is) c.in-Empty.is in
    let shut : ¬ Opened a.words.now (Allowed a.m.now) a.x = told_no (is_open c.args.opened.now c.args.x) c.requires.told (ne_eqb (get_or c.args.opened.now c.args.x 0) 1 (λ e. omega arith)) in
    record {
      kids = kids_none c.requires.size (λ i l. plain_passes shut neither.0 neither.1);
      own = plain_own c.requires shut neither.0 neither.1 c.privileges_at.ensures.is c.write_range.ensures;
    }
