-- The labels that were put are the text's, and what is read by them is read by those. Assumes nothing.
use Rattle.mail.proofs.Opening.{opened_readable, read_given}
use Rattle.mail.proofs.read_opened.Goals as goal

pub read_by-requires : goal.read_by-requires
read_by-requires c = opened_readable c.requires c.put_labels.ensures c.types.ensures.is

pub returns : goal.returns
returns c = read_given c.requires c.put_labels.ensures c.types.ensures.is c.read_by.ensures
