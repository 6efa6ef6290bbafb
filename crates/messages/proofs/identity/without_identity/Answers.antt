-- `messages::identity::without_identity` meets its contract: what is behind the body that the reader tells. Assumes
-- nothing.
use Rattle.std.proofs.Common.{sym, ◌∙◌, arith}
use Rattle.frames.proofs.StepLaws.{step_known}
use Rattle.messages.proofs.identity.without_identity.Goals as goal

pub overflow_add-frame : goal.overflow_add-frame
overflow_add-frame c = omega (arith, step_known _ _ _ _ (sym c.in-Some.is ∙ c.frame_at.ensures))
