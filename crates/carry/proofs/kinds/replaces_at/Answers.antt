-- By the kind of the type: a choice's own numbering, a star's exchange, or none. Assumes nothing.
use Rattle.std.proofs.Common.{sym, ap, ◌∙◌}
use Rattle.table.specs.Rule.{kind_in}
use Rattle.table.proofs.Facts.{has_record}
use Rattle.table.proofs.Privileges.{exchange_in_lem}
use Rattle.carry.proofs.Placing.{replaces_star}
use Rattle.carry.proofs.kinds.replaces_at.Goals as goal

pub rule_at-requires : goal.rule_at-requires
rule_at-requires c = has_record c.requires.0 c.requires.1

pub returns-in-Star : goal.returns-in-Star
returns-in-Star c = let n = c.numbers_at-n.ensures in
    replaces_star c.requires.0 c.requires.1 (ap kind_in (sym c.rule_at.ensures.is ∙ c.in-Star.is)) (c.exchange.ensures ∙ exchange_in_lem n) n.gap n.narrow
