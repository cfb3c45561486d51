-- The loop has the words of fewer steps. Assumes nothing.
use Rattle.std.proofs.Common.{◌≡◌, ℕ, ◌<◌, false, List, sym, ◌∙◌, arith}
use Rattle.table.specs.Plus.{Plus}
use Rattle.policy.specs.Steps.Squares.{bit, Marked}
use Rattle.chain.proofs.Ways.{Grown, plus_from, plus_to, level_start, level_more, grown_start, grown_within, grown_more}
use Rattle.chain.proofs.fewest_steps.Goals as goal

-- fewer than n steps were tried where i is not among the positions yet
tried : {rows sets : List ℕ} {n i j m word : ℕ} → Plus (Marked n rows) i j → Grown (Marked n rows) n i j m sets word → bit word i ≡ false → m < n
tried reached grown not_yet = grown_within grown (plus_from reached) not_yet (λ a b s. s.to) reached

pub only-end-requires : goal.only-end-requires
only-end-requires c = omega (arith, plus_to c.requires.1)

pub leading_into-word-requires : goal.leading_into-word-requires
leading_into-word-requires c = (c.requires.0, (level_start {R = Marked c.args.n c.args.rows.now} (plus_to c.requires.1) c.requires.0 c.only-end.ensures).inside)

pub loop-sets-init : goal.loop-sets-init
loop-sets-init c =
    let ends = level_start {R = Marked c.args.n c.args.rows.now} (plus_to c.requires.1) c.requires.0 c.only-end.ensures in
    grown_start c.args.sets.now c.told-sets (plus_to c.requires.1) ends (level_more ends c.leading_into-word.ensures)

pub has-requires : goal.has-requires
has-requires c = omega (arith, plus_from c.requires.1)

pub bounds-sets-m : goal.bounds-sets-m
bounds-sets-m c = omega (arith, tried c.requires.1 c.loop-sets.invariant (sym c.has.ensures ∙ c.loop-sets-test.true))

pub loop-sets-smaller : goal.loop-sets-smaller
loop-sets-smaller c = omega (arith, tried c.requires.1 c.loop-sets.invariant (sym c.has.ensures ∙ c.loop-sets-test.true))

pub loop-sets-preserved : goal.loop-sets-preserved
loop-sets-preserved c =
    let not_yet : bit c.loop-sets.word c.args.i ≡ false = sym c.has.ensures ∙ c.loop-sets-test.true in
    grown_more c.loop-sets.invariant (plus_from c.requires.1) not_yet c.requires.0 (tried c.requires.1 c.loop-sets.invariant not_yet)
    (level_more c.loop-sets.invariant.level c.leading_into-word-in-loop-sets.ensures)
