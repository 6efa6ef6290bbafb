-- `framing::first_message` meets its contract: a message that is whole ends where the walk stops. Assumes nothing.
use mathlib.Core.Path.{sym, ap, ◌∙◌}
use Rattle.std.proofs.Common.{Err}
use Rattle.framing.proofs.SplitLaws.{message_none, message_whole}
use Rattle.framing.proofs.first_message.Goals as goal

pub returns-in-Ok : goal.returns-in-Ok
returns-in-Ok c = c.front.ensures ∙ message_whole _ _ c.split_message-framing.ensures (λ e. cc (c.in-Ok.is))

pub returns-in-Err-Surplus : goal.returns-in-Err-Surplus
returns-in-Err-Surplus c =
    let f = rw c.in-Err-Surplus.is at c.in-Err-Surplus.field-0-is in
    c.front-in-Err-Surplus.ensures ∙ message_whole _ _ c.split_message-framing.ensures (λ e. cc (f, c.in-Err-Surplus.is))

pub returns-in-Err-Broken : goal.returns-in-Err-Broken
returns-in-Err-Broken c =
    let f = rw c.in-Err-Broken.is at c.in-Err-Broken.field-0-is in
    message_none _ _ c.split_message-framing.ensures (sym (c.in-Err-Broken.is ∙ ap Err f))
