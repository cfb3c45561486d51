-- The loop has opened the children up to i that are on a cycle. Assumes nothing.
use Rattle.std.proofs.Common.{◌<◌, sym, ◌∙◌, true≢false, arith}
use Rattle.completion.proofs.Openings.{open_mark, open_pass}
use Rattle.completion.proofs.open.open_cycles.Goals as goal
use Rattle.completion.proofs.open.open_cycles.Goals.{then-leads, else-leads}

pub loop-i-preserved : goal.loop-i-preserved
loop-i-preserved c = elim c.if-leads.branch [
  | then-leads w ↦
      let small : w.from.result < 256 = omega (arith, w.from.ensures, c.requires.1 c.loop-i.i c.loop-i-test.true) in
      rw w.opened-is (open_mark c.loop-i.invariant c.loop-i-test.true w.from.result w.from.ensures small (sym c.leads.ensures ∙ w.if-leads.true))
  | else-leads w ↦ rw w.opened-is (open_pass c.loop-i.invariant c.loop-i-test.true (λ e. true≢false (sym e ∙ sym c.leads.ensures ∙ w.if-leads.false)))
]
