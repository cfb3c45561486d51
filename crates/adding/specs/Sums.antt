-- Sheets add up: the sum of two sheets over one schema, figure by figure and count by count (document 02, order 12, whose sheet it is). Assumes nothing.
use Rattle.std.specs.Prelude.{ℕ, ◌+◌, ◌*◌, ◌<◌, ◌≡◌, List, get_or}
use Rattle.table.specs.Privilege.{privileges}
use Rattle.leaders.specs.Leaders.{LeadersOf, often_of}
use Rattle.sheet.specs.Answers.{Kept}
use Rattle.sheet.specs.declared.Figures.{Figures}
use Rattle.sheet.specs.declared.Sheet.{Sheet}

abbrev pub add : Figures → Figures → Figures
add f g = record {
  clean = f.clean + g.clean;
  insert_delete = f.insert_delete + g.insert_delete;
  chain = f.chain + g.chain;
  cycle = f.cycle + g.cycle;
  refused = f.refused + g.refused;
}

-- the three numbers of each of v privileges are added up, and what stands behind them is as it was
pub record CountsAdded (v : ℕ) (counts more after : List ℕ) : Type 0 where
  pub each : (a : ℕ) → a < 3 * v → get_or after a 0 ≡ get_or counts a 0 + get_or more a 0
  pub kept : Kept (3 * v) counts after

-- the leaders are those of the sum
pub record SumOf (ws : List ℕ) (s : Sheet) (counts : List ℕ) (t : Sheet) (more : List ℕ) (sum : Sheet) (after : List ℕ) : Type 0 where
  pub figures : sum.figures ≡ add s.figures t.figures
  pub numbers : CountsAdded (privileges ws) counts more after
  pub leaders : LeadersOf (privileges ws) (often_of after) sum.leader_count sum.leaders

-- 32 bits hold the number
abbrev pub Held : ℕ → Type 0
Held n = n < 4294967296

pub record FiguresHeld (f : Figures) : Type 0 where
  pub clean : Held f.clean
  pub insert_delete : Held f.insert_delete
  pub chain : Held f.chain
  pub cycle : Held f.cycle
  pub refused : Held f.refused

-- what 32 bits have to hold at place p: the sums of privilege p's three numbers; at place V those of the figures
pub record SumHeld (v : ℕ) (f g : Figures) (counts more : List ℕ) (p : ℕ) : Type 0 where
  pub numbers : p < v → (k : ℕ) → k < 3 → Held (get_or counts (3 * p + k) 0 + get_or more (3 * p + k) 0)
  pub figures : p ≡ v → FiguresHeld (add f g)
