-- One case for each way in which a content begins.
use Rattle.std.proofs.Common.{refl, inl, inr, arith}
use Rattle.code.proofs.Contents.{letter_put, text_put, children_put, lone_put}
use Rattle.code.proofs.content.put_content.Goals as goal

pub returns-then-is : goal.returns-then-is
returns-then-is c = letter_put c.if-is.ensures (inl refl) c.push.ensures

pub returns-then-is-2 : goal.returns-then-is-2
returns-then-is-2 c = letter_put c.if-is-2.ensures (inr refl) c.push-then-is-2.ensures

pub returns-then-is_text : goal.returns-then-is_text
returns-then-is_text c = text_put c.if-is_text.ensures c.push-then-is_text.ensures

pub returns-then-code-more : goal.returns-then-code-more
returns-then-code-more c = lone_put c.put_particle.ensures c.if-is.ensures c.if-is-2.ensures c.if-is_text.ensures c.more.ensures (omega arith) c.insert.ensures

pub returns-else-code-more : goal.returns-else-code-more
returns-else-code-more c = children_put c.put_particle.ensures c.if-is.ensures c.if-is-2.ensures c.if-is_text.ensures c.more.ensures (λ z. omega arith)
