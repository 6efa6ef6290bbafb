-- `script::message::frames_length` meets its contract: the length so far, and that of the rest. Assumes nothing.
use Rattle.std.proofs.Common.{arith}
use Rattle.script.proofs.LineLaws.{left_shorter}
use Rattle.script.proofs.MessageLaws.{length_turn, length_done}
use Rattle.script.proofs.message.frames_length.Goals as goal

pub loop-front-init : goal.loop-front-init
loop-front-init c = omega arith

pub loop-front-smaller : goal.loop-front-smaller
loop-front-smaller c = left_shorter _ c.in-Some.ensures.some c.in-Some.ensures.rest

pub loop-front-preserved : goal.loop-front-preserved
loop-front-preserved c =
    let e = c.in-Some.ensures in
    length_turn _ _ _ c.loop-front.invariant e.some e.front c.framed_length.ensures c.add_lengths-n.ensures e.rest

pub returns : goal.returns
returns c = length_done _ _ _ c.loop-front.invariant c.in_default.ensures.none c.framed_length-2.ensures c.add_lengths.ensures
