-- From counts that are 0 each role is counted, or there is nothing to count. Assumes nothing.
use Rattle.std.proofs.Common.{◌≡◌, ◌*◌, replicate, sym, ◌∙◌, rules}
use Rattle.sheet.proofs.Counting.{counted_empty}
use Rattle.sheet.proofs.roles.count_roles.Goals as goal

pub returns-then-v-eq0 : goal.returns-then-v-eq0
returns-then-v-eq0 c =
    let pre = c.requires in
    let zeros : c.fill.new.self ≡ replicate (3 * c.args.v) 0 = rw (← pre.4) (search rules) in
    rw (c.no_figures.ensures, zeros, pre.2) (counted_empty c.args.roles (sym pre.2 ∙ c.if-v-eq0.true))
