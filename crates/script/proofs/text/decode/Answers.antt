-- `script::text::decode` meets its contract: the rest stands for the bytes that are still to be put. Assumes nothing.
use Rattle.std.proofs.Common.{arith}
use Rattle.std.proofs.lemmas.List.{set-get_or}
use Rattle.script.proofs.TextLaws.{decode_begin, decode_full, decode_done, decode_turn}
use Rattle.script.proofs.text.decode.Goals as goal

pub loop-at-init : goal.loop-at-init
loop-at-init c = decode_begin _ _

pub returns-in_default : goal.returns-in_default
returns-in_default c = rw set-get_or (decode_done c.loop-at.invariant (omega (arith, c.in_default.ensures.none)))

pub loop-at-preserved : goal.loop-at-preserved
loop-at-preserved c =
    let e = c.in-Some.ensures in
    decode_turn c.loop-at.invariant c.loop-at-test.true e.some e.byte e.rest

pub returns : goal.returns
returns c = decode_full c.loop-at.invariant (omega arith) (omega arith)
