-- The lowest that leads is taken at the first spot. Assumes nothing.
use Rattle.std.proofs.Common.{arith}
use Rattle.table.proofs.Privileges.{numbered_small}
use Rattle.policy.proofs.Reaches.{reached_to}
use Rattle.mending.proofs.Next.{some_lead, lowest_out, next_none, choice_reached, cycle_same, choice_next}
use Rattle.mending.proofs.taking.next_taken.Goals as goal

pub returns-in_default : goal.returns-in_default
returns-in_default c = next_none c.requires.0 c.in_default.ensures

pub lowest_lead-requires : goal.lowest_lead-requires
lowest_lead-requires c = let p = c.requires in
    let n = p.0.numbered in
    let r = rw (cycle_same p.0 c.in-Some.ensures p.1 c.in-Cycle.is) at (choice_reached p.0 c.in-Some.ensures p.1) in
    (numbered_small n, omega (arith, reached_to r, n.count, n.few), some_lead n p.1 p.2 r, p.3.steps)

pub returns-in-Cycle : goal.returns-in-Cycle
returns-in-Cycle c = let p = c.requires in
    let same = cycle_same p.0 c.in-Some.ensures p.1 c.in-Cycle.is in
    let r = choice_reached p.0 c.in-Some.ensures p.1 in (
      c.lowest_lead.ensures.leads.step,
      choice_next p.0 c.in-Some.ensures p.1 (lowest_out p.0.numbered p.1 p.2 (reached_to r) (rw same c.lowest_lead.ensures)),
    )

pub lowest_lead-requires-2 : goal.lowest_lead-requires-2
lowest_lead-requires-2 c = let p = c.requires in
    let n = p.0.numbered in
    let r = choice_reached p.0 c.in-Some.ensures p.1 in
    (numbered_small n, omega (arith, reached_to r, n.count, n.few), some_lead n p.1 p.2 r, p.3.steps)

pub returns : goal.returns
returns c = let p = c.requires in
    let r = choice_reached p.0 c.in-Some.ensures p.1 in (
      c.lowest_lead-2.ensures.leads.step,
      choice_next p.0 c.in-Some.ensures p.1 (lowest_out p.0.numbered p.1 p.2 (reached_to r) c.lowest_lead-2.ensures),
    )
