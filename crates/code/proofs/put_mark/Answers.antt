-- One case for each mark.
use Rattle.std.proofs.Common.{add-one}
use Rattle.code.proofs.Marking.{as_maybe, as_any, as_several, mark_put, no_mark_put}
use Rattle.code.proofs.put_mark.Goals as goal

pub returns-then-is : goal.returns-then-is
returns-then-is c = mark_put as_maybe c.if-is.ensures (add-one c.args.at) c.insert.ensures

pub returns-then-is-2 : goal.returns-then-is-2
returns-then-is-2 c = mark_put as_any c.if-is-2.ensures (add-one c.args.at) c.insert-then-is-2.ensures

pub returns-then-is-3 : goal.returns-then-is-3
returns-then-is-3 c = mark_put as_several c.if-is-3.ensures (add-one c.args.at) c.insert-then-is-3.ensures

pub returns : goal.returns
returns c = no_mark_put c.requires c.if-is.ensures c.if-is-2.ensures c.if-is-3.ensures
