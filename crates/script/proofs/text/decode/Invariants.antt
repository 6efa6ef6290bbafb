-- `script::text::decode` meets its contract: the rest stands for the bytes that are still to be put. Assumes nothing.
use Rattle.script.proofs.TextLaws.{Decoding}
use Rattle.script.proofs.text.decode.Given as goal

abbrev pub invariant-loop-at : goal.invariant-loop-at
invariant-loop-at l = Decoding l.s l.initial.out l.rest l.at l.out
