-- `client_snapshot::snapshot_lent` meets its contract: the plan is that of the message, and it is carried out. Assumes
-- nothing.
use native.Mathlib.Omega.{arith}
use mathlib.Core.Path.{◌≡◌, ◌∙◌}
use Rattle.base.specs.Bytes.{Bytes}
use Rattle.client_calls.specs.Calls.{snapshot}
use Rattle.client_calls.specs.Effects.{snapshot_effect}
use Rattle.client_effects.proofs.CarryLaws.{storable, carried}
use Rattle.client_effects.specs.Plans.{message_plan}
use Rattle.client_snapshot.proofs.SnapshotLaws.{snapshot-sends}
use Rattle.client_snapshot.specs.Plans.{snapshot_plan}
use Rattle.client_state.specs.Views.{lent}
use Rattle.client_state.specs.declared.Client.{Client}
use Rattle.frames.specs.Messages.{frame_at}
use Rattle.messages.specs.Fields.{fields_of}
use Rattle.ports.proofs.PortLaws.{body_is}
use Rattle.client_snapshot.proofs.snapshot_lent.Goals as goal
use Rattle.client_snapshot.proofs.snapshot_lent.Goals.{After-body-key, After-body-value, After-plan_snapshot-plan, Start}

abbrev state : (c : Start) → Client
state s = lent s.args.bytes.now s.args.lengths.now s.args.subtree.now s.args.header

abbrev message : (c : Start) → Bytes
message s = s.args.msg.now

planned : (c : After-plan_snapshot-plan) → c.plan_snapshot-plan.result ≡ message_plan (state ((goal.at.After-plan_snapshot-plan c).Start)) (snapshot (message ((goal.at.After-plan_snapshot-plan c).Start))) (snapshot_effect (fields_of (message ((goal.at.After-plan_snapshot-plan c).Start))))
unfolding snapshot_plan
planned c = c.plan_snapshot-plan.ensures

key_is : (c : After-body-key) → c.body-key.result.now ≡ frame_at 0 (message ((goal.at.After-body-key c).Start))
key_is c = c.body-key.ensures ∙ body_is (message ((goal.at.After-body-key c).Start)) _ c.split_message-split.ensures 0 (omega arith)

value_is : (c : After-body-value) → c.body-value.result.now ≡ frame_at 4 (message ((goal.at.After-body-value c).Start))
value_is c = c.body-value.ensures ∙ body_is (message ((goal.at.After-body-value c).Start)) _ c.split_message-split.ensures 4 (omega arith)

pub carry_out-requires : goal.carry_out-requires
carry_out-requires c = storable (snapshot-sends (state ((goal.at.carry_out-requires c).Start)) (message ((goal.at.carry_out-requires c).Start))) (planned ((goal.at.carry_out-requires c).After-plan_snapshot-plan)) (key_is ((goal.at.carry_out-requires c).After-body-key)) (value_is ((goal.at.carry_out-requires c).After-body-value))

pub returns : goal.returns
returns c = carried (snapshot-sends (state ((goal.at.returns c).Start)) (message ((goal.at.returns c).Start))) (planned ((goal.at.returns c).After-plan_snapshot-plan)) (key_is ((goal.at.returns c).After-body-key)) (value_is ((goal.at.returns c).After-body-value)) _ _ c.carry_out.result c.carry_out.ensures
