-- The first privilege at which the test fails. Assumes nothing.
use Rattle.std.proofs.Common.{ℕ, ◌≤◌, ◌<◌, Option, Some, None, MatchOption, arith, rules, tests}
use Rattle.std.proofs.lemmas.Iterator.{first_from_Range}
use Rattle.table.specs.Steps.Found.{Lowest}
use Rattle.adding.specs.Steps.Checking.{CountsHeld}
use Rattle.adding.proofs.lowest_over.Goals as goal

-- what `find` says of a range from 0 on
lowest_found : (Good : ℕ → Type 0) (n : ℕ) (r : Option ℕ) → MatchOption r ((k : ℕ) → 0 ≤ k → k < n → Good k) (λ i. (0 ≤ i) × (i < n) × ¬ Good i × ((k : ℕ) → 0 ≤ k → k < i → Good k))
    → Lowest Good n r
lowest_found Good n None f = λ k l. f k (omega arith) l
lowest_found Good n (Some i) f = record { within = f.1; fails = f.2; before = λ k l. f.3 k (omega arith) l }

pub returns : goal.returns
returns c =
    let held = CountsHeld c.args.counts.now c.args.more.now in
    lowest_found held c.args.v c.find.result
    (first_from_Range _ _ _ _ (λ p. ¬ held p) held c.find.ensures.ran (λ x q k. search (rules, tests)) (λ x q k. (search rules, search (rules, tests))))
