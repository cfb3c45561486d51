-- Trees put into a forest: in either order, out again, and in the place of another; and the parts of a forest. Assumes nothing.
use Prim.Native.Nat.{ℕ}
use mathlib.Core.List.{List, []}
use Rattle.meaning.specs.Trees.{Forest, bare, tree, Put, put_first, put_later, Anew, anew_first, anew_later}

-- a forest with a tree
abbrev pub Some : Forest → Type 0
Some bare = ⊥
Some (tree x s k f) = Unit

-- its first tree's type, text and children, and the trees behind it
abbrev pub type_in : Forest → ℕ
type_in bare = 0
type_in (tree x s k f) = x

abbrev pub text_in : Forest → List ℕ
text_in bare = []
text_in (tree x s k f) = s

abbrev pub kids_of : Forest → Forest
kids_of bare = bare
kids_of (tree x s k f) = k

abbrev pub rest_of : Forest → Forest
rest_of bare = bare
rest_of (tree x s k f) = f

pub put_some : {x : ℕ} {s : List ℕ} {k f g : Forest} → Put x s k f g → Some g
put_some put_first = tt
put_some (put_later q) = tt

-- two trees put in, the other one first
pub record Swapped (x : ℕ) (s : List ℕ) (k : Forest) (y : ℕ) (r : List ℕ) (l f h : Forest) : Type 0 where
  pub between : Forest
  pub one : Put y r l f between
  pub other : Put x s k between h

pub put_swap : {x y : ℕ} {s r : List ℕ} {k l f g h : Forest} → Put x s k f g → Put y r l g h → Swapped x s k y r l f h
put_swap {y = y} {r = r} {l = l} {f = f} q put_first = record { between = tree y r l f; one = put_first; other = put_later q }
put_swap put_first (put_later {f = f} p) = record { between = _; one = p; other = put_first }
put_swap (put_later {y = z} {r = w} {l = m} q) (put_later p) =
    let b = put_swap q p in
    record { between = tree z w m b.between; one = put_later b.one; other = put_later b.other }

-- two trees that were put into one forest: they are one tree at one place, or each is there without the other
pub data TwoPut (x : ℕ) (s : List ℕ) (k : Forest) : ℕ → List ℕ → Forest → Forest → Forest → Type 0 where
  one_place : {f : Forest} → TwoPut x s k x s k f f
  two_places : {y : ℕ} {r : List ℕ} {l e f g : Forest} → Put y r l e f → Put x s k e g → TwoPut x s k y r l f g

two_later : {x y z : ℕ} {s r w : List ℕ} {k l m f g : Forest} → TwoPut x s k y r l f g → TwoPut x s k y r l (tree z w m f) (tree z w m g)
two_later one_place = one_place
two_later (two_places p q) = two_places (put_later p) (put_later q)

pub two_puts : {x y : ℕ} {s r : List ℕ} {k l f g h : Forest} → Put x s k f h → Put y r l g h → TwoPut x s k y r l f g
two_puts put_first put_first = one_place
two_puts put_first (put_later q) = two_places q put_first
two_puts (put_later p) put_first = two_places put_first p
two_puts (put_later p) (put_later q) = two_later (two_puts p q)

-- a tree in the place of another of its type: put in where that one was
pub record InPlace (x : ℕ) (s : List ℕ) (k f g : Forest) : Type 0 where
  pub text : List ℕ
  pub kids : Forest
  pub rest : Forest
  pub old : Put x text kids rest f
  pub new : Put x s k rest g

pub anew_puts : {x : ℕ} {s : List ℕ} {k f g : Forest} → Anew x s k f g → InPlace x s k f g
anew_puts (anew_first {r = r} {l = l} {f = f}) = record { text = r; kids = l; rest = f; old = put_first; new = put_first }
anew_puts (anew_later {y = y} {r = r} {l = l} q) =
    let p = anew_puts q in
    record { text = p.text; kids = p.kids; rest = tree y r l p.rest; old = put_later p.old; new = put_later p.new }

-- and where one was put in, there is room for the other
pub record Room (x : ℕ) (s : List ℕ) (k e f : Forest) : Type 0 where
  pub result : Forest
  pub anew : Anew x s k f result
  pub put : Put x s k e result

pub put_room : {x : ℕ} {r : List ℕ} {l e f : Forest} (s : List ℕ) (k : Forest) → Put x r l e f → Room x s k e f
put_room {x} {e = e} s k put_first = record { result = tree x s k e; anew = anew_first; put = put_first }
put_room s k (put_later {y = y} {r = w} {l = m} q) =
    let p = put_room s k q in
    record { result = tree y w m p.result; anew = anew_later p.anew; put = put_later p.put }
