-- What is no table, not V marks for each role, or has no room is refused; else each role is counted. Assumes nothing.
use Rattle.std.proofs.Common.{ℕ, List, ◌-◌, ◌*◌, ◌≤◌, refl, mul-le-mul, arith}
use Rattle.table.specs.Check.{TableAnswer}
use Rattle.table.proofs.Answers.{refusal_not}
use Rattle.table.proofs.Facts.{facts}
use Rattle.policy.proofs.Policies.{table_accepted}
use Rattle.policy.specs.Roles.{table, length_off, short}
use Rattle.sheet.specs.Answers.{refused}
use Rattle.sheet.proofs.Given.{month_given}
use Rattle.sheet.proofs.month_sheet.Goals as goal

-- a table's privileges are few
few : {ws : List ℕ} {v : ℕ} → TableAnswer ws 0 v → v ≤ 4096
few a = let t = table_accepted refl a in omega (arith, t.1, (facts t.0).privileges_few)

pub returns-in-Err : goal.returns-in-Err
returns-in-Err c = refused (table (refusal_not c.in-Err.refusal) c.in-Err.ensures.answer) c.from.ensures refl

pub overflow_mul-roles : goal.overflow_mul-roles
overflow_mul-roles c =
    let most = mul-le-mul {n₁ = c.args.roles} {m₁ = c.in-Ok.v} {n₂ = 4294967295} {m₂ = 4096} (omega arith) (few c.in-Ok.ensures.answer) in
    omega (arith, most)

pub returns-then-marks-roles : goal.returns-then-marks-roles
returns-then-marks-roles c =
    let t = table_accepted refl c.in-Ok.ensures.answer in
    refused (length_off t.0 (rw t.1 at c.if-marks-roles.true) refl refl) c.from-then-marks-roles.ensures refl

pub overflow_mul-n : goal.overflow_mul-n
overflow_mul-n c = omega (arith, few c.in-Ok.ensures.answer)

pub returns-then-counts-n : goal.returns-then-counts-n
returns-then-counts-n c =
    let t = table_accepted refl c.in-Ok.ensures.answer in
    refused (short t.0 (rw t.1 at c.if-marks-roles.false) (omega (arith, c.if-counts-n.true, t.1)) refl refl) c.from-then-counts-n.ensures refl

pub returns : goal.returns
returns c =
    let t = table_accepted refl c.in-Ok.ensures.answer in
    month_given c.args.counts.now (3 * c.in-Ok.v - 0) (omega (arith, t.1)) t.0 (rw t.1 at c.if-marks-roles.false) (omega (arith, c.if-counts-n.false, t.1))
    c.count_roles-figures.ensures c.leaders_of.ensures c.done_with.ensures
