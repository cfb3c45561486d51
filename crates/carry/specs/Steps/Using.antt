-- The new numbers that a list has used so far, and what checking all that is read answers. Assumes nothing.
use Rattle.std.specs.Prelude.{ℕ, ◌<◌, ◌≡◌, ◌≢◌, ◌⊎◌, List, length, get_or}
use Rattle.carry.specs.Numbers.{new_number, NewNumbers, NoNumbers}
use Rattle.carry.specs.Carries.{Move}
use Rattle.carry.specs.Answers.{NoMove}

-- a flag for each number below 256: whether an entry before x uses it
pub record UsedBefore (numbers used : List ℕ) (x : ℕ) : Type 0 where
  pub size : length used ≡ 256
  pub free : (y : ℕ) → y < 256 → get_or used y 0 ≡ 0 → (z : ℕ) → z < x → new_number numbers z ≢ y
  pub taken : (y : ℕ) → y < 256 → get_or used y 0 ≢ 0 → (z : ℕ) × (z < x) × (new_number numbers z ≡ y)

-- an entry y fits, by what is used
abbrev pub Usable : List ℕ → ℕ → ℕ → Type 0
Usable used e y = (y ≡ 65535) ⊎ ((y < e) × (get_or used y 0 ≡ 0))

-- y is used too
pub record UsedToo (y : ℕ) (used after : List ℕ) : Type 0 where
  pub size : length after ≡ length used
  pub hit : y < 256 → get_or after y 0 ≡ 1
  pub rest : (z : ℕ) → z ≢ y → get_or after z 0 ≡ get_or used z 0

-- what checking a list answers
pub data NumbersAnswer (types e : ℕ) (numbers : List ℕ) (number place : ℕ) : Type 0 where
  unlisted : NoNumbers types e numbers number place → NumbersAnswer types e numbers number place
  listed : NewNumbers types e numbers → number ≡ 0 → NumbersAnswer types e numbers number place

-- what checking all that is read answers
pub data MoveAnswer (old marks new numbers : List ℕ) (number place : ℕ) : Type 0 where
  stays : number ≢ 0 → NoMove old marks new numbers number place → MoveAnswer old marks new numbers number place
  moves : Move old marks new numbers → number ≡ 0 → MoveAnswer old marks new numbers number place
