-- The privileges of each format as its document writes them. Laws cite it, and no contract does. Assumes nothing.
use Rattle.std.specs.Prelude.{ℕ, ◌+◌, ◌-◌, ◌*◌, ◌<◌, ◌≡◌, List}
use Rattle.table.specs.Rule.{count_of, IsChoice, IsStar}
use Rattle.table.specs.Privilege.{privileges_at, first_privilege, replace_of}

-- document 01: "star has two"; "a choice of n children has n(n - 1)", "first + i(n - 1) + j, less 1 if j is greater than i"
pub record NumbersOne (ws : List ℕ) : Type 0 where
  pub star : (x : ℕ) → IsStar ws x → privileges_at ws x ≡ 2
  pub choice : (x : ℕ) → IsChoice ws x → privileges_at ws x ≡ count_of ws x * (count_of ws x - 1)
  pub before : (x i j : ℕ) → j < i → replace_of ws x i j ≡ first_privilege ws x + i * (count_of ws x - 1) + j
  pub behind : (x i j : ℕ) → i < j → replace_of ws x i j ≡ first_privilege ws x + i * (count_of ws x - 1) + j - 1

-- document 02, order 9: "a star has insert, delete, replace, and a choice of n has n × n privileges, first + i × n + j"
pub record NumbersTwo (ws : List ℕ) : Type 0 where
  pub star : (x : ℕ) → IsStar ws x → privileges_at ws x ≡ 3
  pub choice : (x : ℕ) → IsChoice ws x → privileges_at ws x ≡ count_of ws x * count_of ws x
  pub replaced : (x i j : ℕ) → replace_of ws x i j ≡ first_privilege ws x + i * count_of ws x + j
