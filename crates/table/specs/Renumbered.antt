-- "Accept every numbering" (document 02, order 2): a table with its types renumbered, in which type t of the one is type f t of the other. Laws cite
-- it, and no contract does. Assumes nothing.
use Rattle.std.specs.Prelude.{ℕ, zero, suc, ◌<◌, ◌≡◌, List, [], ◌∷◌, ◌++◌, map, get_or}
use Rattle.table.specs.Sum.{sum_below}
use Rattle.table.specs.Words.{format_of, types, root, entries, kind_at, count_at}
use Rattle.table.specs.Rule.{children_at}
use Rattle.table.specs.Privilege.{Edit, text, insert, delete, exchange, replace}

-- f and g lead there and back among the numbers below e
pub record Permutes (e : ℕ) (f g : ℕ → ℕ) : Type 0 where
  pub there : (t : ℕ) → t < e → f t < e
  pub back : (t : ℕ) → t < e → g t < e
  pub there_back : (t : ℕ) → t < e → g (f t) ≡ t
  pub back_there : (t : ℕ) → t < e → f (g t) ≡ t

-- vs is ws with its records permuted and its numbers changed: the type f t has the kind of t, and the children of t under their new numbers
pub record Renumbered (f g : ℕ → ℕ) (ws vs : List ℕ) : Type 0 where
  pub permutes : Permutes (types ws) f g
  pub format : format_of vs ≡ format_of ws
  pub as_many : types vs ≡ types ws
  pub root_is : root vs ≡ f (root ws)
  pub kind : (t : ℕ) → t < types ws → kind_at vs (f t) ≡ kind_at ws t
  pub children : (t : ℕ) → t < types ws → children_at vs (f t) ≡ map f (children_at ws t)

-- the same edit afterwards: its type has a new number, and the children keep their positions
abbrev pub moved : (ℕ → ℕ) → Edit → Edit
moved f (text x) = text (f x)
moved f (insert x) = insert (f x)
moved f (delete x) = delete (f x)
moved f (exchange x) = exchange (f x)
moved f (replace x i j) = replace (f x) i j

-- the lists of the numbers below n, one behind the other
unfoldable pub blocks : (ℕ → List ℕ) → ℕ → List ℕ
blocks b zero = []
blocks b (suc n) = blocks b n ++ b n

-- the header as it was, but for the root
abbrev pub header_of : (ℕ → ℕ) → List ℕ → List ℕ
header_of f ws = format_of ws ∷ get_or ws 1 0 ∷ types ws ∷ f (root ws) ∷ get_or ws 4 0 ∷ entries ws ∷ get_or ws 6 0 ∷ get_or ws 7 0 ∷ []

-- the record of the type that is t now: the kind and the number of children that it had, and the running index
abbrev pub record_of : (ℕ → ℕ) → List ℕ → ℕ → List ℕ
record_of g ws t = kind_at ws (g t) ∷ count_at ws (g t) ∷ sum_below (λ k. count_at ws (g k)) t ∷ []

-- its children, under their new numbers
abbrev pub kids_of : (ℕ → ℕ) → (ℕ → ℕ) → List ℕ → ℕ → List ℕ
kids_of f g ws t = map f (children_at ws (g t))

-- the words of the table renumbered
unfoldable pub renumber : (ℕ → ℕ) → (ℕ → ℕ) → List ℕ → List ℕ
renumber f g ws = header_of f ws ++ (blocks (record_of g ws) (types ws) ++ blocks (kids_of f g ws) (types ws))
