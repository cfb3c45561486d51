-- A role with a mark above 2 is refused; else its marks are counted, and the conditions that it breaks. Assumes nothing.
use Rattle.std.proofs.Common.{ℕ, ◌<◌, ◌≤◌, Bool, true, List, ◌≡◌, length, get_or, arith}
use Rattle.table.specs.Steps.Found.{Tells}
use Rattle.table.proofs.Lowest.{told_yes}
use Rattle.policy.specs.Marks.{Fit}
use Rattle.sheet.specs.Steps.Counting.{counted}
use Rattle.sheet.proofs.roles.count_role.Goals as goal

-- past the test no mark is above 2
fits : {v : ℕ} {marks : List ℕ} {low : Bool} → length marks ≡ v → Tells ((p : ℕ) → p < length marks → get_or marks p 0 ≤ 2) low → low ≡ true → Fit v marks
fits {low = low} size told is = let all = told_yes low told is in record { size = size; legal = λ p l. all p (omega (arith, size)) }

pub returns : goal.returns
returns c = counted c.broken_in.result (fits c.requires.2 c.none_above.ensures c.if-not-none_above.false) c.broken_in.ensures c.with_role.ensures c.count_marks.ensures
