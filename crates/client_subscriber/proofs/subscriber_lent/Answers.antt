-- `client_subscriber::subscriber_lent` meets its contract: the plan is that of the message, and it is carried out.
-- Assumes nothing.
use native.Mathlib.Omega.{arith}
use mathlib.Core.Path.{◌≡◌, ◌∙◌}
use Rattle.base.specs.Bytes.{Bytes}
use Rattle.client_calls.specs.Calls.{subscriber}
use Rattle.client_effects.proofs.CallLaws.{Sends}
use Rattle.client_effects.proofs.CarryLaws.{storable, carried}
use Rattle.client_effects.specs.Plans.{message_plan}
use Rattle.client_subscriber.proofs.SubscriberLaws.{published_table, subscriber-sends}
use Rattle.client_subscriber.specs.Plans.{published_effect, subscriber_plan}
use Rattle.client_state.specs.Views.{lent, is_waiting}
use Rattle.client_state.specs.declared.Client.{Client}
use Rattle.frames.specs.Messages.{frame_at}
use Rattle.ports.proofs.PortLaws.{body_is}
use Rattle.client_subscriber.proofs.subscriber_lent.Goals as goal
use Rattle.client_subscriber.proofs.subscriber_lent.Goals.{After-body-key, After-body-value, After-plan_subscriber-plan, Start}

abbrev state : (c : Start) → Client
state s = lent s.args.bytes.now s.args.lengths.now s.args.subtree.now s.args.header

abbrev message : (c : Start) → Bytes
message s = s.args.msg.now

sends : (s : Start)
    → Sends (state s) (subscriber (message s) s.args.tick.0) (message s) (published_effect (state s) (message s) s.args.tick.0) (published_table (state s) (message s) s.args.tick.0) (is_waiting s.args.header.phase)
sends s = subscriber-sends (state s) (message s) s.args.tick.0

planned : (c : After-plan_subscriber-plan) → c.plan_subscriber-plan.result ≡ message_plan (state ((goal.at.After-plan_subscriber-plan c).Start)) (subscriber (message ((goal.at.After-plan_subscriber-plan c).Start)) c.args.tick.0) (published_effect (state ((goal.at.After-plan_subscriber-plan c).Start)) (message ((goal.at.After-plan_subscriber-plan c).Start)) c.args.tick.0)
unfolding subscriber_plan
planned c = c.plan_subscriber-plan.ensures

key_is : (c : After-body-key) → c.body-key.result.now ≡ frame_at 0 (message ((goal.at.After-body-key c).Start))
key_is c = c.body-key.ensures ∙ body_is (message ((goal.at.After-body-key c).Start)) _ c.split_message-split.ensures 0 (omega arith)

value_is : (c : After-body-value) → c.body-value.result.now ≡ frame_at 4 (message ((goal.at.After-body-value c).Start))
value_is c = c.body-value.ensures ∙ body_is (message ((goal.at.After-body-value c).Start)) _ c.split_message-split.ensures 4 (omega arith)

pub carry_out-requires : goal.carry_out-requires
carry_out-requires c = storable (sends ((goal.at.carry_out-requires c).Start)) (planned ((goal.at.carry_out-requires c).After-plan_subscriber-plan)) (key_is ((goal.at.carry_out-requires c).After-body-key)) (value_is ((goal.at.carry_out-requires c).After-body-value))

pub returns : goal.returns
returns c = carried (sends ((goal.at.returns c).Start)) (planned ((goal.at.returns c).After-plan_subscriber-plan)) (key_is ((goal.at.returns c).After-body-key)) (value_is ((goal.at.returns c).After-body-value)) _ _ c.carry_out.result c.carry_out.ensures
