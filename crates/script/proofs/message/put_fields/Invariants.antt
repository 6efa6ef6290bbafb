-- `script::message::put_fields` meets its contract: what is written, then the message of the rest. Assumes nothing.
use Rattle.std.proofs.Common.{length}
use Rattle.script.proofs.MessageLaws.{Sending}
use Rattle.script.proofs.message.put_fields.Given as goal

abbrev pub invariant-loop-front : goal.invariant-loop-front
invariant-loop-front l = Sending l.line l.initial.out l.rest l.at l.out

abbrev pub decreases-loop-front : goal.decreases-loop-front
decreases-loop-front l = length l.rest
