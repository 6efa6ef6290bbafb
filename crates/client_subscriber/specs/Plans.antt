-- What a message at the subscriber entry comes to.
use Rattle.std.specs.Prelude.{ℕ, Result}
use Rattle.answers.specs.declared.refusal.Refusal.{Refusal}
use Rattle.base.specs.Bytes.{Bytes}
use Rattle.client_calls.specs.Calls.{subscriber}
use Rattle.client_calls.specs.Effects.{Effect, subscriber_effect}
use Rattle.client_effects.specs.Plans.{message_plan}
use Rattle.client_effects.specs.declared.Plan.{Plan}
use Rattle.client_state.specs.Views.{subtree_of}
use Rattle.client_state.specs.declared.Client.{Client}
use Rattle.messages.specs.Fields.{fields_of}

-- of a client's number and subtree, a message and a tick
abbrev pub published_effect : Client → Bytes → ℕ → Effect
published_effect c msg t = subscriber_effect c.header.number.0 (subtree_of c) (fields_of msg) t

unfoldable pub subscriber_plan : Client → Bytes → ℕ → Result Plan Refusal
subscriber_plan c msg t = message_plan c (subscriber msg t) (published_effect c msg t)
