-- The row and the column of a number below as many rows as there are children. Assumes nothing.
use Rattle.std.proofs.Common.{ℕ, ◌-◌, ◌/◌, ◌%◌, ◌<◌, ◌≡◌, ap, ◌∙◌, List, length, get_or, arith}
use Rattle.table.specs.Rule.{count_of, IsChoice}
use Rattle.table.specs.Privilege.{gap_of, privileges_at}
use Rattle.table.specs.Check.{Accepted}
use Rattle.table.proofs.Facts.{facts, has_children}
use Rattle.mailing.proofs.Naming.{row_column, choice_low, choice_replaces}
use Rattle.mailing.proofs.edit.choice_edit.Goals as goal

-- a row has a column, and fewer than 16
row : (ws : List ℕ) (x k : ℕ) {kids gap : ℕ} → Accepted ws → IsChoice ws x → kids ≡ count_of ws x → gap ≡ gap_of ws → k < privileges_at ws x
    → (0 < kids - gap) × (k % (kids - gap) < 16)
row ws x k {kids} {gap} a s e g h =
    let d = row_column k kids (kids - gap) (choice_low ws x k s e g h) in
    (d.0, omega (arith, d.2, e, (facts a).children_few x s.type))

pub children-kids-requires : goal.children-kids-requires
children-kids-requires c = let p = c.requires in has_children p.0 p.1.type

pub overflow_sub-width : goal.overflow_sub-width
overflow_sub-width c = let p = c.requires in
    let count = ap length c.children-kids.ensures ∙ (facts p.0).children_here _ p.1.type in
    omega (arith, (row _ _ _ p.0 p.1 count c.gap_of-gap.ensures.is p.2).0)

pub nonzero_div-i : goal.nonzero_div-i
nonzero_div-i c = let p = c.requires in
    let count = ap length c.children-kids.ensures ∙ (facts p.0).children_here _ p.1.type in
    (row _ _ _ p.0 p.1 count c.gap_of-gap.ensures.is p.2).0

pub nonzero_rem-k : goal.nonzero_rem-k
nonzero_rem-k c = let p = c.requires in
    let count = ap length c.children-kids.ensures ∙ (facts p.0).children_here _ p.1.type in
    (row _ _ _ p.0 p.1 count c.gap_of-gap.ensures.is p.2).0

pub position-j-requires : goal.position-j-requires
position-j-requires c = let p = c.requires in
    let count = ap length c.children-kids.ensures ∙ (facts p.0).children_here _ p.1.type in
    (omega (arith, (row _ _ _ p.0 p.1 count c.gap_of-gap.ensures.is p.2).1), omega (arith, c.gap_of-gap.ensures.small))

pub returns : goal.returns
returns c = let p = c.requires in
    let kids = c.children-kids.ensures in
    let k = c.args.k in
    let width : ℕ = length c.children-kids.result.now - c.gap_of-gap.result in
    choice_replaces _ _ k p.1 (ap length kids ∙ (facts p.0).children_here _ p.1.type) c.gap_of-gap.ensures.is p.2 c.position-j.ensures
    (c.word_at.ensures.is ∙ ap (λ (l : List ℕ). get_or l (k / width) 0) kids)
    (c.word_at-2.ensures.is ∙ ap (λ (l : List ℕ). get_or l c.position-j.result 0) kids)
