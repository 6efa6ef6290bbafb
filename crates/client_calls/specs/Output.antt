-- The bytes that a call writes.
use Rattle.std.specs.Prelude.{[]}
use Rattle.answers.specs.Refusals.{if_accepted}
use Rattle.base.specs.Bytes.{Bytes}
use Rattle.client_state.specs.Views.{Replica, view}
use Rattle.client_state.specs.declared.Client.{Client}
use Rattle.client_calls.specs.Calls.{Call, snapshot, subscriber, write_icanhaz, write_kvset, ask, lookup}
use Rattle.client_calls.specs.Refusals.{value_under, refusal_of}
use Rattle.messages.specs.Fields.{bytes_of, kvset, icanhaz}

-- a call that is accepted: the writers write their message, and lookup copies the value
unfoldable pub accepted_bytes : Replica → Call → Bytes
accepted_bytes v (snapshot msg) = []
accepted_bytes v (subscriber msg t) = []
accepted_bytes v (write_icanhaz room) = icanhaz v.subtree
accepted_bytes v (write_kvset key uuid properties value room) = bytes_of (kvset key uuid properties value)
accepted_bytes v (ask t) = []
accepted_bytes v (lookup key room) = value_under key v.rows

unfoldable pub bytes_for : Client → Call → Bytes
bytes_for c x = if_accepted (refusal_of c x) (accepted_bytes (view c) x) []
