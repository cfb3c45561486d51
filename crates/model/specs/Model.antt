-- "A group of one particle, its own mark apart, is that particle (`(a)*`: a star of a)" (document 02, order 3). Assumes nothing.
use Rattle.std.specs.Prelude.{ℕ, List}
use Rattle.grammar.specs.Tree.{Mark, once, maybe, any, several, Particle, Particles, name, choice, sequence, last, more}

-- a model is an element's name, or an operator over models
mutual
  pub data Model : Type 0 where
    element : List ℕ → Model
    made : Operator → Model

  pub data Operator : Type 0 where
    either in_order : Model → Models → Operator
    optional repeated positive : Model → Operator

  pub data Models : Type 0 where
    single : Model → Models
    then : Model → Models → Models

abbrev pub marked : Mark → Model → Model
marked once m = m
marked maybe m = made (optional m)
marked any m = made (repeated m)
marked several m = made (positive m)

-- a group of one is that one
abbrev pub either_of : Models → Model
either_of (single m) = m
either_of (then m ms) = made (either m ms)

abbrev pub in_order_of : Models → Model
in_order_of (single m) = m
in_order_of (then m ms) = made (in_order m ms)

abbrev mutual
  pub model_of : Particle → Model
  model_of (name at n k) = marked k (element n)
  model_of (choice at ps k) = marked k (either_of (models_of ps))
  model_of (sequence at ps k) = marked k (in_order_of (models_of ps))

  pub models_of : Particles → Models
  models_of (last p) = single (model_of p)
  models_of (more p ps) = then (model_of p) (models_of ps)
