-- The flags are right, so what is broken by them is broken. Assumes nothing.
use Rattle.verdict.proofs.Spoils.{flags_agree}
use Rattle.broken.proofs.Asking.{broken_in}
use Rattle.broken.proofs.broken_in.Goals as goal

pub returns : goal.returns
returns c = broken_in c.requires.0.accepted (flags_agree c.flag_spoilt.ensures) c.broken_by.ensures
