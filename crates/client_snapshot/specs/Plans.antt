-- What a message at the snapshot entry comes to.
use Rattle.std.specs.Prelude.{Result}
use Rattle.answers.specs.declared.refusal.Refusal.{Refusal}
use Rattle.base.specs.Bytes.{Bytes}
use Rattle.client_calls.specs.Calls.{snapshot}
use Rattle.client_calls.specs.Effects.{snapshot_effect}
use Rattle.client_effects.specs.Plans.{message_plan}
use Rattle.client_effects.specs.declared.Plan.{Plan}
use Rattle.client_state.specs.declared.Client.{Client}
use Rattle.messages.specs.Fields.{fields_of}

unfoldable pub snapshot_plan : Client → Bytes → Result Plan Refusal
snapshot_plan c msg = message_plan c (snapshot msg) (snapshot_effect (fields_of msg))
