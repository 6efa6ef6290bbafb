-- What a call makes of a client's replica. Only an accepted message changes it.
use Rattle.std.specs.Prelude.{true, cond}
use Rattle.answers.specs.Refusals.{if_accepted}
use Rattle.base.specs.Bytes.{Bytes, is_nil}
use Rattle.client_state.specs.Views.{Replica, view}
use Rattle.client_state.specs.declared.Client.{Client}
use Rattle.client_calls.specs.Calls.{Call, snapshot, subscriber, write_icanhaz, write_kvset, ask, lookup}
use Rattle.client_calls.specs.Effects.{Effect, sync, finish, hear, stale, outside, apply, snapshot_effect, subscriber_effect}
use Rattle.client_calls.specs.Refusals.{refusal_of}
use Rattle.messages.specs.Fields.{fields_of}
use Rattle.rows.specs.Rows.{Rows, set_row, remove_row}

-- the rows after an update of a key: an empty value removes its row, if there is one; another is set
abbrev pub rows_after : Bytes → Bytes → Rows Bytes → Rows Bytes
rows_after key value rows = cond (is_nil value) (remove_row key rows) (set_row key value rows)

unfoldable pub effect_next : Replica → Effect → Replica
effect_next v (sync key value) = record { live = v.live; number = v.number; clock = v.clock; subtree = v.subtree; rows = set_row key value v.rows }
effect_next v (finish n) = record { live = true; number = n; clock = v.clock; subtree = v.subtree; rows = v.rows }
effect_next v (hear t) = record { live = v.live; number = v.number; clock = t; subtree = v.subtree; rows = v.rows }
effect_next v stale = v
effect_next v (outside n) = record { live = v.live; number = n; clock = v.clock; subtree = v.subtree; rows = v.rows }
effect_next v (apply n key value) = record { live = v.live; number = n; clock = v.clock; subtree = v.subtree; rows = rows_after key value v.rows }

-- a call that is accepted; the writers, asking and lookup change nothing
unfoldable pub accepted_next : Replica → Call → Replica
accepted_next v (snapshot msg) = effect_next v (snapshot_effect (fields_of msg))
accepted_next v (subscriber msg t) = effect_next v (subscriber_effect v.number v.subtree (fields_of msg) t)
accepted_next v (write_icanhaz room) = v
accepted_next v (write_kvset key uuid properties value room) = v
accepted_next v (ask t) = v
accepted_next v (lookup key room) = v

unfoldable pub next_of : Client → Call → Replica
next_of c x = if_accepted (refusal_of c x) (accepted_next (view c) x) (view c)
