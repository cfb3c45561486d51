-- The rows tell the steps at the choice. Assumes nothing.
use Rattle.std.proofs.Common.{ℕ, List}
use Rattle.table.specs.Rule.{IsChoice}
use Rattle.table.specs.Steps.Numbering.{NumberedAs}
use Rattle.table.specs.declared.privilege.Numbering.{Numbering}
use Rattle.policy.specs.Marks.{Allowed}
use Rattle.policy.specs.Reached.{Step}
use Rattle.policy.specs.Steps.Squares.{Marked, Square, StepIn}
use Rattle.policy.proofs.Closures.{plus_map}
use Rattle.policy.proofs.SquareLaws.{marked_told, told_marked, step_out, step_into, policy_readable}
use Rattle.chain.proofs.Chains.{chain_as}
use Rattle.chain.proofs.chain_between.Goals as goal

-- a step at the choice is marked in its rows
into : {ws marks rows : List ℕ} {x : ℕ} {n : Numbering} → IsChoice ws x → NumberedAs ws x n → Square n.count (StepIn marks n) rows → (a b : ℕ) → Step ws (Allowed marks) x a b → Marked n.count rows a b
into {marks = marks} choice numbers rows a b s =
    let t = step_into numbers choice marks a b s in
    told_marked rows a b t.can.from t.can.to t

pub allowed_rows-rows-requires : goal.allowed_rows-rows-requires
allowed_rows-rows-requires c = policy_readable c.requires.0 c.requires.1 c.requires.2

pub chain_of-requires : goal.chain_of-requires
chain_of-requires c = (c.requires.2.few, plus_map (into c.requires.1 c.requires.2 c.allowed_rows-rows.ensures) c.requires.3)

pub returns : goal.returns
returns c = chain_as (λ a b m. step_out c.requires.2 c.requires.1 c.args.marks.now a b (marked_told c.allowed_rows-rows.ensures a b m)) (into c.requires.1 c.requires.2 c.allowed_rows-rows.ensures) c.chain_of.ensures
