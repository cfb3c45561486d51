-- The monthly sheet: "for a 32-bit number of roles over one schema, report exactly how many are clean, how many break each condition somewhere, how often
-- each privilege is allowed, forbidden and unset (three 32-bit numbers), and the three privileges allowed in most roles" (document 02, order 12). Each
-- figure is how many roles have something. Assumes nothing.
use Rattle.std.specs.Prelude.{ℕ, ◌+◌, ◌*◌, ◌<◌, ◌≡◌, List, [], ◌∷◌, get_or}
use Rattle.table.specs.HowMany.{HowMany}
use Rattle.table.specs.Privilege.{privileges}
use Rattle.policy.specs.Marks.{Fit}
use Rattle.policy.specs.Roles.{stretch}
use Rattle.verdict.specs.Conditions.{Clean}
use Rattle.verdict.specs.declared.Condition.TheVariants.{InsertDelete, Chain, Cycle}
use Rattle.broken.specs.Breaks.{Breaks}
use Rattle.leaders.specs.Leaders.{LeadersOf, often_of}
use Rattle.sheet.specs.declared.Figures.{Figures}
use Rattle.sheet.specs.declared.Sheet.{Sheet}

-- "a role with a mark above 2 is counted as refused"
abbrev pub RefusedRole : List ℕ → List ℕ → Type 0
RefusedRole ws m = ¬ Fit (privileges ws) m

-- "and in no other count": a role is counted among those whose marks have P if they do, and it is not refused
pub record Has (ws : List ℕ) (P : List ℕ → Type 0) (m : List ℕ) : Type 0 where
  pub fit : Fit (privileges ws) m
  pub has : P m

-- of so many roles, each with its own stretch of the marks, c have P
abbrev pub RolesWith : List ℕ → ℕ → List ℕ → (List ℕ → Type 0) → ℕ → Type 0
RolesWith ws roles marks P c = HowMany (λ r. P (stretch ws r marks)) roles c

pub record FiguresOf (ws : List ℕ) (roles : ℕ) (marks : List ℕ) (f : Figures) : Type 0 where
  pub clean : RolesWith ws roles marks (Has ws (Clean ws)) f.clean
  pub insert_delete : RolesWith ws roles marks (Has ws (Breaks ws InsertDelete)) f.insert_delete
  pub chain : RolesWith ws roles marks (Has ws (Breaks ws Chain)) f.chain
  pub cycle : RolesWith ws roles marks (Has ws (Breaks ws Cycle)) f.cycle
  pub refused : RolesWith ws roles marks (RefusedRole ws) f.refused

-- the mark that each of a privilege's three numbers counts: allowed, forbidden, unset
abbrev pub mark_at : ℕ → ℕ
mark_at k = get_or (1 ∷ 2 ∷ 0 ∷ []) k 0

-- three numbers for each privilege, those of privilege p from 3 p on
pub record CountsOf (ws : List ℕ) (roles : ℕ) (marks counts : List ℕ) : Type 0 where
  pub each : (p k : ℕ) → p < privileges ws → k < 3 → RolesWith ws roles marks (Has ws (λ m. get_or m p 0 ≡ mark_at k)) (get_or counts (3 * p + k) 0)

pub record SheetOf (ws : List ℕ) (roles : ℕ) (marks : List ℕ) (s : Sheet) (counts : List ℕ) : Type 0 where
  pub figures : FiguresOf ws roles marks s.figures
  pub numbers : CountsOf ws roles marks counts
  pub leaders : LeadersOf (privileges ws) (often_of counts) s.leader_count s.leaders
