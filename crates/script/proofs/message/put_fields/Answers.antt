-- `script::message::put_fields` meets its contract: what is written, then the message of the rest. Assumes nothing.
use Rattle.script.proofs.LineLaws.{left_shorter}
use Rattle.script.proofs.MessageLaws.{send_begin, send_turn, send_done}
use Rattle.script.proofs.message.put_fields.Goals as goal

pub loop-front-init : goal.loop-front-init
loop-front-init c = send_begin _ _

pub loop-front-smaller : goal.loop-front-smaller
loop-front-smaller c = left_shorter _ c.in-Some.ensures.some c.in-Some.ensures.rest

pub loop-front-preserved : goal.loop-front-preserved
loop-front-preserved c =
    let e = c.in-Some.ensures in
    send_turn c.requires c.loop-front.invariant e.some e.front c.write_frame-at.ensures e.rest

pub returns : goal.returns
returns c = send_done c.requires c.loop-front.invariant c.in_default.ensures.none c.write_frame.ensures
