-- `frames::step::long_size` meets its contract: the eight octets are a number, and nothing else can be read there. Assumes nothing.
use Rattle.std.proofs.Common.{sym, ◌∙◌}
use Rattle.frames.proofs.StepLaws.{long_none, long_never, long_read}
use Rattle.frames.proofs.step.long_size.Goals as goal

pub returns-in_err-size : goal.returns-in_err-size
returns-in_err-size c = c.from_residual.ensures ∙ long_none _ _ c.in_err-size.ensures.cases

pub returns-in_err-len : goal.returns-in_err-len
returns-in_err-len c = c.from_residual-in_err-len.ensures ∙ long_never _ _ _ _ c.in_ok-size.ensures.cases (sym c.in_err-len.was ∙ c.read_eight.ensures)

pub returns : goal.returns
returns c = c.hold.ensures ∙ long_read _ _ _ _ c.in_ok-size.ensures.cases _ (sym c.in_ok-len.was ∙ c.read_eight.ensures)
