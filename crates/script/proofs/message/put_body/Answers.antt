-- `script::message::put_body` meets its contract: the array has room for a number and for a text. Assumes nothing.
use borrow.Author.Rules.{rules}
use Rattle.script.proofs.MessageLaws.{number_put, text_put}
use Rattle.script.proofs.message.put_body.Goals as goal

pub returns-then-starts_with : goal.returns-then-starts_with
returns-then-starts_with c = number_put _ c.starts_with.ensures c.if-starts_with.true c.behind.ensures c.number.ensures c.octets_of-eight.ensures c.put_bytes.ensures

pub returns : goal.returns
returns c = text_put _ c.starts_with.ensures c.if-starts_with.false (search rules) c.decode.ensures
