-- `numbers::sequence::read_sequence` meets its contract: eight octets are a number, as a sequence. Assumes nothing.
use Rattle.std.proofs.Common.{sym, ◌∙◌}
use Rattle.numbers.proofs.SequenceLaws.{numbered, unnumbered}
use Rattle.numbers.proofs.sequence.read_sequence.Goals as goal

pub returns-in_err-n : goal.returns-in_err-n
returns-in_err-n c = c.from_residual.ensures ∙ unnumbered _ (sym c.in_err-n.was ∙ c.read_eight.ensures)

pub returns : goal.returns
returns c = numbered _ _ (sym c.in_ok-n.was ∙ c.read_eight.ensures)
