-- The loop has passed no place at which the check fails. Assumes nothing.
use Rattle.std.proofs.Common.{◌≡◌, ℕ, ap, ◌∙◌, arith}
use Rattle.table.specs.Check.{places_in, places_of}
use Rattle.table.proofs.Lowest.{told_yes, passed_more}
use Rattle.table.proofs.check.lowest_failing.Goals as goal

pub loop-p-preserved : goal.loop-p-preserved
loop-p-preserved c = let size : c.places_in-p-end.result ≡ places_of c.args.words.now c.args.check = c.places_in-p-end.ensures ∙ ap (λ (e : ℕ). places_in e c.args.check) c.types.ensures.is in
    passed_more c.loop-p.invariant (omega (arith, c.loop-p-test.true, size)) (told_yes c.holds_at.result c.holds_at.ensures c.if-not-holds_at.false)
