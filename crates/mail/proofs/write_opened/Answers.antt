-- The labels that were put are the text's, and what is written by them is written by those. Assumes nothing.
use Rattle.mail.proofs.Opening.{opened_readable, written_given}
use Rattle.mail.proofs.write_opened.Goals as goal

pub write_by-requires : goal.write_by-requires
write_by-requires c = opened_readable c.requires c.put_labels.ensures c.types.ensures.is

pub returns : goal.returns
returns c = written_given c.requires c.put_labels.ensures c.types.ensures.is c.write_by.ensures
