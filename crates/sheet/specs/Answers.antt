-- What counting the roles of a month answers, and what the lent counts hold afterwards (document 02, order 12). Assumes nothing.
use Rattle.std.specs.Prelude.{ℕ, ◌*◌, ◌≤◌, ◌≡◌, List, length, drop, replicate}
use Rattle.table.specs.Privilege.{privileges}
use Rattle.table.specs.Check.{Accepted}
use Rattle.policy.specs.Roles.{NoRoles}
use Rattle.leaders.specs.declared.Leaders.{Leaders}
use Rattle.sheet.specs.Sheets.{SheetOf}
use Rattle.sheet.specs.declared.Figures.{Figures}
use Rattle.sheet.specs.declared.Sheet.{Sheet}

abbrev pub no_figures : Figures
no_figures = record { clean = 0; insert_delete = 0; chain = 0; cycle = 0; refused = 0 }

-- a refusal: all but number and place is 0
abbrev pub refusal : ℕ → ℕ → Sheet
refusal number place = record { number = number; place = place; figures = no_figures; leader_count = 0; leaders = replicate 3 0 }

-- a sheet that is done: number and place are 0
abbrev pub with_leaders : Figures → Leaders → Sheet
with_leaders f l = record { number = 0; place = 0; figures = f; leader_count = l.count; leaders = l.at }

-- behind the first n all is as it was
pub record Kept (n : ℕ) (run after : List ℕ) : Type 0 where
  pub size : length after ≡ length run
  pub rest : drop n after ≡ drop n run

-- counts is what was lent, after what it holds then
pub data MonthAnswer (ws : List ℕ) (roles : ℕ) (marks counts : List ℕ) (s : Sheet) (after : List ℕ) : Type 0 where
  refused : {number place : ℕ} → NoRoles ws roles marks (length counts) (3 * privileges ws) number place → s ≡ refusal number place → after ≡ counts
      → MonthAnswer ws roles marks counts s after
  done : Accepted ws → length marks ≡ roles * privileges ws → 3 * privileges ws ≤ length counts → s.number ≡ 0 → s.place ≡ 0
      → SheetOf ws roles marks s after → Kept (3 * privileges ws) counts after → MonthAnswer ws roles marks counts s after
