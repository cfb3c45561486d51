-- What the readers of items say, whether a declaration was seen before or not. Assumes nothing.
use Rattle.std.specs.Prelude.{ℕ, ◌<◌, ◌≡◌, Bool, true, false, List, length, Result, Ok, Err}
use Rattle.scan.specs.Steps.Claims.{Mode, plain, Claim, FromItems, FromOpen, FromItem}
use Rattle.scan.specs.Steps.Moves.{Moves, Reads}
use Rattle.scan.specs.declared.Stop.{Stop}
use Rattle.scan.specs.declared.Stop.TheVariants.{Bad}
use Rattle.scan.specs.declared.item.Item.{Item}
use Rattle.scan.specs.declared.item.Item.TheVariants.{Declared, Remarked}

-- what an item reads from a claim that depends on whether a declaration was seen before
abbrev pub Told : (Bool → Claim) → List ℕ → ℕ → Result Item Stop → Type 0
Told P t a (Ok (Declared e)) = (seen : Bool) → Moves (P seen) (FromItems true) t a e
Told P t a (Ok (Remarked e)) = (seen : Bool) → Moves (P seen) (FromItems seen) t a e
Told P t a (Err s) = (seen : Bool) → Reads (P seen) (FromItems seen) t a (Err s)

abbrev pub OpenRead : List ℕ → ℕ → Result Item Stop → Type 0
OpenRead t a r = Told FromOpen t a r

-- it ends behind its start
abbrev pub Advances : ℕ → Result Item Stop → Type 0
Advances a (Ok (Declared e)) = a < e
Advances a (Ok (Remarked e)) = a < e
Advances a (Err s) = Unit {0}

pub record ItemRead (t : List ℕ) (a : ℕ) (r : Result Item Stop) : Type 0 where
  pub told : Told FromItem t a r
  pub on : Advances a r

abbrev pub declared_of : Result ℕ Stop → Result Item Stop
declared_of (Ok e) = Ok (Declared e)
declared_of (Err s) = Err s

abbrev pub remarked_of : Result ℕ Stop → Result Item Stop
remarked_of (Ok e) = Ok (Remarked e)
remarked_of (Err s) = Err s

abbrev pub finish_of : Bool → ℕ → Result ℕ Stop
finish_of true b = Ok b
finish_of false b = Err (Bad b)

-- nothing follows
pub record Nothing (a : ℕ) (m : Mode) (u : List ℕ) : Type 0 where
  pub ended : a ≡ length u
  pub no_limit : m ≡ plain

-- the whole text
abbrev pub EndsAt : List ℕ → Result ℕ Stop → Type 0
EndsAt t (Ok e) = e ≡ length t
EndsAt t (Err s) = Unit {0}

pub record ItemsRead (t : List ℕ) (r : Result ℕ Stop) : Type 0 where
  pub read : Reads (FromItems false) Nothing t 0 r
  pub ends : EndsAt t r
