-- A reader that advances and advances again. Assumes nothing.
use Rattle.std.proofs.Common.{ℕ, List, ◌++◌, Option}
use Rattle.std.proofs.KnownBytes.{Consumes-trans}
use Rattle.stream.specs.Advances.{Advances}

pub advances_more : (a b c : Option (List ℕ)) → Advances a b → Advances b c → Advances a c
advances_more a b c p q = (p.0 ++ q.0, Consumes-trans a b c p.0 q.0 p.1 q.1)
