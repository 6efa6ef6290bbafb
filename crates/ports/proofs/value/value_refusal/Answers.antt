-- `ports::value::value_refusal` meets its contract: the number of the framing's verdict. Assumes nothing.
use mathlib.Core.Path.{ap, ◌∙◌}
use Rattle.answers.specs.Refusals.{verdict_number}
use Rattle.ports.proofs.PortLaws.{verdict_is}
use Rattle.ports.proofs.value.value_refusal.Goals as goal

pub returns : goal.returns
returns c = c.verdict_number.ensures ∙ ap verdict_number (c.check_framing.ensures ∙ verdict_is _ _ c.split_message-split.ensures 5)
