-- The parts of a line, each with the byte that ends it. Assumes nothing.
use Rattle.std.proofs.Common.{ℕ, ◌<◌, ◌≡◌, refl, sym, List, [], ◌∷◌, ◌++◌, append_assoc, arith, length, length-append}
use Rattle.listing.specs.Line.{spaced}
use Rattle.reading.specs.Steps.Matching.{ended}

pub one_part : (u : List ℕ) → spaced u [] ≡ ended u 10
unfolding spaced
one_part u = refl

pub more_parts : (u v : List ℕ) (rest : List (List ℕ)) → spaced u (v ∷ rest) ≡ ended u 32 ++ spaced v rest
unfolding spaced
more_parts u v rest = sym (append_assoc u (32 ∷ []) (spaced v rest))

pub two_parts : (u v : List ℕ) → spaced u (v ∷ []) ≡ ended u 32 ++ ended v 10
unfolding spaced
two_parts u v = more_parts u v []

pub spaced_some : (u : List ℕ) (rest : List (List ℕ)) → 0 < length (spaced u rest)
unfolding spaced
spaced_some u [] = omega (arith, length-append u (10 ∷ []))
spaced_some u (v ∷ rest) = omega (arith, length-append u (32 ∷ spaced v rest))
