-- `ports::value::value_frame` meets its contract: the body of the last of five frames, and else nothing. Assumes
-- nothing.
use native.Mathlib.Omega.{arith}
use mathlib.Core.Path.{◌≡◌, sym, ◌∙◌}
use Rattle.answers.proofs.VerdictLaws.{accepted, refused}
use Rattle.answers.specs.Refusals.{verdict}
use Rattle.base.specs.Checks.{first_refusal}
use Rattle.ports.proofs.PortLaws.{verdict_is, body_is}
use Rattle.ports.specs.Ports.{framed, value_in}
use Rattle.ports.proofs.value.value_frame.Goals as goal
use Rattle.ports.proofs.value.value_frame.Goals.{After-check_framing}

judged : (c : After-check_framing) → c.check_framing.result ≡ verdict (first_refusal (framed 5 c.args.msg.now))
judged c = c.check_framing.ensures ∙ verdict_is _ _ c.split_message-split.ensures 5

pub returns-in-Err : goal.returns-in-Err
unfolding value_in
returns-in-Err c = rw (refused _ (first_refusal (framed 5 c.args.msg.now)) (sym c.in-Err.is ∙ judged ((goal.at.returns-in-Err c).After-check_framing)))

pub returns-in-Ok : goal.returns-in-Ok
unfolding value_in
returns-in-Ok c =
    c.body.ensures
    ∙ body_is _ _ c.split_message-split.ensures 4 (omega arith)
    ∙ rw (accepted (first_refusal (framed 5 c.args.msg.now)) (sym c.in-Ok.is ∙ judged ((goal.at.returns-in-Ok c).After-check_framing)))
