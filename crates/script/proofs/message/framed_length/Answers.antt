-- `script::message::framed_length` meets its contract: the body is put whole, and its frame is short. Assumes nothing.
use borrow.Author.Rules.{rules}
use Rattle.script.proofs.MessageLaws.{framed_is, put_count}
use Rattle.script.proofs.message.framed_length.Goals as goal

pub returns : goal.returns
returns c = framed_is _ (put_count _ (search rules) c.put_body.ensures) c.frame_length.ensures
