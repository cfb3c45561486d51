-- The steps by the numbering were closed, and those are the steps at the choice. Assumes nothing.
use Rattle.policy.proofs.Closures.{plus_map}
use Rattle.policy.proofs.SquareLaws.{square_as, marked_told, told_marked, step_out, step_into}
use Rattle.policy.proofs.reach.reached_by.Goals as goal

pub returns : goal.returns
returns c = let n = c.requires.2 in
    let choice = c.requires.1 in
    let marks = c.args.marks.now in
    let steps = c.requires.3 in
    rw (← n.count)
    (square_as (λ i j. plus_map (λ a b m. step_out n choice marks a b (marked_told steps a b m)))
    (λ i j. plus_map (λ a b s. let t = step_into n choice marks a b s in told_marked steps a b t.can.from t.can.to t))
    c.close.ensures)
