-- `frames::step::first_frame` meets its contract, by the flag octet. Assumes nothing.
use Rattle.std.proofs.Common.{refl, ◌∙◌, arith}
use Rattle.frames.proofs.StepLaws.{step_none, step_flag, flagged-refused}
use Rattle.frames.specs.Steps.{flagged}
use Rattle.frames.proofs.step.first_frame.Goals as goal

pub returns-in_err-flag : goal.returns-in_err-flag
returns-in_err-flag c = c.from_residual.ensures ∙ step_none _ c.in_err-flag.ensures.cases

pub returns-in-0 : goal.returns-in-0
unfolding flagged
returns-in-0 c = c.short_size.ensures ∙ step_flag _ _ _ 0 c.in_ok-flag.ensures.cases.0 c.in-0.is

pub returns-in-1 : goal.returns-in-1
unfolding flagged
returns-in-1 c = c.short_size-in-1.ensures ∙ step_flag _ _ _ 1 c.in_ok-flag.ensures.cases.0 c.in-1.is

pub returns-in-2 : goal.returns-in-2
unfolding flagged
returns-in-2 c = c.long_size.ensures ∙ step_flag _ _ _ 2 c.in_ok-flag.ensures.cases.0 c.in-2.is

pub returns-in-3 : goal.returns-in-3
unfolding flagged
returns-in-3 c = c.long_size-in-3.ensures ∙ step_flag _ _ _ 3 c.in_ok-flag.ensures.cases.0 c.in-3.is

pub returns-in-4-to-255 : goal.returns-in-4-to-255
returns-in-4-to-255 c = flagged-refused c.in_ok-flag.flag.now _ (omega arith) ∙ step_flag _ _ _ _ c.in_ok-flag.ensures.cases.0 refl
