-- The three words of the record decide the rule. Assumes nothing.
use Rattle.table.proofs.Rules.{rule_small}
use Rattle.table.specs.Rule.{rule_at}
use Rattle.table.proofs.rule.rule_at.Goals as goal

pub returns : goal.returns
unfolding rule_at
returns c = rule_small c.rule_of.ensures c.record_word.ensures c.record_word-2.ensures c.record_word-3.ensures
