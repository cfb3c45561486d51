-- A show of six roles on the sample schema: S1, S2, S3, one with a mark of 3, S7 and S8. What a call leaves of each, whatever was lent, was worked out by
-- hand: one table of rows, and one statement, proved by one computation. Assumes nothing.
use Rattle.std.proofs.Common.{ℕ, ◌≤◌, ◌<◌, ◌≡◌, refl, List, [], ◌∷◌, ◌++◌, map, arith, length, get_or}
use Rattle.table.specs.Sum.{sum_below}
use Rattle.table.specs.Rule.{rule_of, rule_at, children_at, count_of}
use Rattle.table.specs.Privilege.{gap_of, privileges_at, first_privilege, privileges, replace_of}
use Rattle.table.specs.Check.{Accepted}
use Rattle.table.proofs.Tables.{Each, each_computed, marks_of, sample}
use Rattle.verdict.specs.Answers as answers
use Rattle.verdict.specs.declared.Answer.{Answer}
use Rattle.completion.proofs.Least.{least_one}
use Rattle.completion.proofs.Granting.{Outcome, unfit, none, least, Comes, outcome_by, outcome_by_lem}
use Rattle.policy.specs.Roles.{stretch}
use Rattle.roles.specs.Answers.{RoleAnswer, RolesCompleted, RolesAnswer, refused, done}
use Rattle.policy.proofs.Stretches.{stretch_within, part_size}
use Rattle.roles.proofs.Roles.{Becomes, bent, broken, completed, role_becomes}
use Rattle.policy.proofs.Roles.{roles_not}

-- a role's number by the outcome of its marks, and what its stretch holds then
abbrev pub number_of : Outcome → ℕ
number_of unfit = 11
number_of none = 16
number_of (least n) = 0

abbrev pub leaves : Outcome → List ℕ → List ℕ
leaves unfit out = out
leaves none out = out
leaves (least n) out = n

-- a role comes to them
pub role_comes : {ws marks out x : List ℕ} {n : ℕ} (o : Outcome) → Accepted ws → length marks ≡ privileges ws → length out ≡ privileges ws
    → RoleAnswer ws marks out n x → Comes ws marks o → (n ≡ number_of o) × (x ≡ leaves o out)
role_comes {ws} {marks} {out} {x} {n} o accepted s t role = go o (role_becomes role accepted s t)
  where
    go : (o : Outcome) → Becomes ws marks out n x → Comes ws marks o → (n ≡ number_of o) × (x ≡ leaves o out)
    go unfit (bent d e k) c = (e, k)
    go unfit (broken p h e k) c = absurd (c p)
    go unfit (completed p h e) c = absurd (c p)
    go none (bent d e k) c = absurd (d c.0)
    go none (broken p h e k) c = (e, k)
    go none (completed p h e) c = absurd (c.1 x h.completes)
    go (least m) (bent d e k) c = absurd (d c.0)
    go (least m) (broken p h e k) c = absurd (h m c.1.completes)
    go (least m) (completed p h e) c = (e, least_one h c.1)

-- the roles' marks one after another
abbrev pub show : List ℕ
show = marks_of sample 00000000000 ++ marks_of sample 11020000000 ++ marks_of sample 11000000000 ++ marks_of sample 00003000000
    ++ marks_of sample 00000001012 ++ marks_of sample 00000001010

pub record Row : Type 0 where
  pub role : ℕ
  pub outcome : Outcome

abbrev row : ℕ → Outcome → Row
row r o = record { role = r; outcome = o }

abbrev pub rows : List Row
rows =
    row 0 (least (marks_of sample 22222222222))
    ∷ row 1 none
    ∷ row 2 (least (marks_of sample 11111111111))
    ∷ row 3 unfit
    ∷ row 4 none
    ∷ row 5 (least (marks_of sample 22222221211))
    ∷ []

abbrev Right : Row → Type 0
Right r = Comes sample (stretch sample r.role show) r.outcome

abbrev again : Row → Row
again r = row r.role (outcome_by sample (stretch sample r.role show))

computed : map again rows ≡ rows
unfolding sum_below rule_of rule_at children_at count_of gap_of privileges_at first_privilege privileges replace_of
computed = refl

outcomes : Each Right rows
outcomes = each_computed Right again (λ r. outcome_by_lem sample (stretch sample r.role show)) rows computed

few : Each (λ (r : Row). r.role < 6) rows
few = (omega arith, (omega arith, (omega arith, (omega arith, (omega arith, (omega arith, tt))))))

-- what each row has gives it another property
each_as : {P Q R : Row → Type 0} → ((r : Row) → P r → Q r → R r) → (rows : List Row) → Each P rows → Each Q rows → Each R rows
each_as h [] e f = tt
each_as h (r ∷ rest) e f = (h r e.0 f.0, each_as h rest e.1 f.1)

accepted : Accepted sample
accepted = outcomes.0.0.accepted

eleven : privileges sample ≡ 11
unfolding sum_below rule_of rule_at gap_of privileges_at first_privilege privileges
eleven = refl

-- a role has its row's number, and its stretch what that leaves
abbrev pub Left : List ℕ → List ℕ → List ℕ → Row → Type 0
Left out i x r = (get_or i r.role 0 ≡ number_of r.outcome) × (stretch sample r.role x ≡ leaves r.outcome (stretch sample r.role out))

module _ {numbers out i x : List ℕ} (six : length numbers ≡ 6) (room : 66 ≤ length out) where
  left : RolesCompleted sample show numbers out i x → (r : Row) → r.role < 6 → Right r → Left out i x r
  left c r l comes =
      let w = stretch_within r.role 6 (privileges sample) l in
      role_comes r.outcome accepted (part_size (privileges sample) r.role show (omega (arith, eleven)))
      (part_size (privileges sample) r.role out (omega (arith, eleven))) (c.role r.role (omega arith)) comes

  pub six_roles : {a : Answer} → RolesAnswer sample show numbers out a i x → (a ≡ answers.done 0) × Each (Left out i x) rows
  six_roles (refused n e h k) = absurd (roles_not accepted (rw (six, eleven)) (rw (six, eleven) room) n)
  six_roles (done t s h e c) = (e, each_as (left c) rows few outcomes)
