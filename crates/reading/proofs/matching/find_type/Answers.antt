-- From the near type on, and then before it. Assumes nothing.
use Rattle.labels.specs.Steps.Booked.{label_in}
use Rattle.reading.specs.Steps.Matching.{blanked}
use Rattle.reading.proofs.Standing.{sought_first, sought_then}
use Rattle.reading.proofs.matching.find_type.Goals as goal

pub returns-then-is_some : goal.returns-then-is_some
returns-then-is_some c = let a = c.args in
    sought_first (λ x. blanked (label_in a.labels.names.now a.labels.starts.now x)) a.l.now a.at a.near a.e c.find_between-behind.result c.if-is_some.ensures c.find_between-behind.ensures

pub returns : goal.returns
returns c = let a = c.args in
    sought_then (λ x. blanked (label_in a.labels.names.now a.labels.starts.now x)) a.l.now a.at a.near a.e c.find_between-behind.result c.find_between.result c.if-is_some.ensures
    c.requires.2 c.find_between-behind.ensures c.find_between.ensures
