-- By the cases of the rule. Assumes nothing.
use Rattle.table.proofs.Facts.{has_record, has_children}
use Rattle.verdict.proofs.breaches.breach_at.Goals as goal

pub rule_at-requires : goal.rule_at-requires
rule_at-requires c = let p = c.requires in has_record p.0.accepted p.1

pub children-requires : goal.children-requires
children-requires c = let p = c.requires in has_children p.0.accepted p.1

pub children-requires-in-Star : goal.children-requires-in-Star
children-requires-in-Star c = let p = c.requires in has_children p.0.accepted p.1
