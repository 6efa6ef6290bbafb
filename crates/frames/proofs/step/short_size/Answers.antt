-- `frames::step::short_size` meets its contract: the size octet is there or the frame is broken. Assumes nothing.
use Rattle.std.proofs.Common.{◌∙◌}
use Rattle.frames.proofs.StepLaws.{short_none}
use Rattle.frames.specs.Steps.{short_of}
use Rattle.frames.proofs.step.short_size.Goals as goal

pub returns-in_err-len : goal.returns-in_err-len
returns-in_err-len c = c.from_residual.ensures ∙ short_none _ _ c.in_err-len.ensures.cases

pub returns : goal.returns
unfolding short_of
returns c = rw (c.in_ok-len.ensures.cases.0, ← c.from.ensures) c.hold.ensures
