-- One role more: what that does to the figures and the counts. Assumes nothing.
use Rattle.std.specs.Prelude.{ℕ, ◌+◌, ◌*◌, ◌<◌, ◌≡◌, Bool, cond, not, ◌||◌, List, length, get_or}
use Rattle.table.specs.Privilege.{privileges}
use Rattle.policy.specs.Marks.{Fit}
use Rattle.broken.specs.Steps.Asking.{BrokenIn}
use Rattle.broken.specs.declared.Broken.{Broken}
use Rattle.sheet.specs.Sheets.{RefusedRole, mark_at, FiguresOf, CountsOf}
use Rattle.sheet.specs.declared.Figures.{Figures}

-- one more where it is so
abbrev pub up : ℕ → Bool → ℕ
up c so = cond so (c + 1) c

-- a number to which one can be added in 32 bits
abbrev pub Room : ℕ → Type 0
Room c = c < 4294967295

pub record FiguresRoom (f : Figures) : Type 0 where
  pub clean : Room f.clean
  pub insert_delete : Room f.insert_delete
  pub chain : Room f.chain
  pub cycle : Room f.cycle
  pub refused : Room f.refused

-- no condition is broken
abbrev pub unbroken : Broken → Bool
unbroken b = not (b.insert_delete || b.chain || b.cycle)

-- a role that breaks these conditions is added, or one that is refused
abbrev pub with_role : Figures → Broken → Figures
with_role f b = record {
  clean = up f.clean (unbroken b);
  insert_delete = up f.insert_delete b.insert_delete;
  chain = up f.chain b.chain;
  cycle = up f.cycle b.cycle;
  refused = f.refused;
}

abbrev pub with_refused : Figures → Figures
with_refused f = record { clean = f.clean; insert_delete = f.insert_delete; chain = f.chain; cycle = f.cycle; refused = f.refused + 1 }

-- which of a privilege's three numbers counts the mark
pub record SlotOf (mark k : ℕ) : Type 0 where
  pub low : k < 3
  pub is : mark_at k ≡ mark

-- a number is one more where P holds, and else the same
pub data Adds (P : Type 0) (old new : ℕ) : Type 0 where
  one : P → new ≡ old + 1 → Adds P old new
  same : ¬ P → new ≡ old → Adds P old new

-- each mark is counted by one number of its privilege
pub record MarksCounted (m counts after : List ℕ) : Type 0 where
  pub size : length after ≡ length counts
  pub each : (p k : ℕ) → p < length m → k < 3 → Adds (get_or m p 0 ≡ mark_at k) (get_or counts (3 * p + k) 0) (get_or after (3 * p + k) 0)

-- a role is refused and its marks are not looked at, or it is counted
pub data RoleCounted (ws m : List ℕ) (f : Figures) (counts : List ℕ) (g : Figures) (after : List ℕ) : Type 0 where
  bent : RefusedRole ws m → g ≡ with_refused f → after ≡ counts → RoleCounted ws m f counts g after
  counted : (b : Broken) → Fit (privileges ws) m → BrokenIn ws m b → g ≡ with_role f b → MarksCounted m counts after → RoleCounted ws m f counts g after

-- the figures and the counts of so many roles
pub record Counted (ws : List ℕ) (roles : ℕ) (marks : List ℕ) (f : Figures) (counts : List ℕ) : Type 0 where
  pub size : length counts ≡ 3 * privileges ws
  pub figures : FiguresOf ws roles marks f
  pub numbers : CountsOf ws roles marks counts
