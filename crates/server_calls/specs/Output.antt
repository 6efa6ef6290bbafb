-- The bytes that a call writes.
use Rattle.std.specs.Prelude.{ℕ, suc, []}
use Rattle.answers.specs.Refusals.{if_accepted}
use Rattle.base.specs.Bytes.{Bytes}
use Rattle.frames.specs.Messages.{frame_at}
use Rattle.messages.specs.Fields.{bytes_of, fields_of, hugz}
use Rattle.server_calls.specs.Calls.{Call, kvset, tick, icanhaz}
use Rattle.server_calls.specs.Deeds.{Deed, expire, beat, quiet, deed}
use Rattle.server_calls.specs.Refusals.{update, expiry, refusal_of}
use Rattle.server_calls.specs.Snapshots.{snapshot_bytes}
use Rattle.server_state.specs.Views.{Entry, Ledger, view, ledger_of}
use Rattle.server_state.specs.declared.Server.{Server}

unfoldable pub tick_bytes : ℕ → Deed → Bytes
tick_bytes n (expire key) = expiry (suc n) key
tick_bytes n beat = bytes_of hugz
tick_bytes n quiet = []

-- a call that is accepted: the KVPUB with the new number and the four other frames as received; what a Tick does; the
-- snapshot
unfoldable pub accepted_bytes : Ledger Entry → Call → Bytes
accepted_bytes v (kvset msg t room) = update (suc v.number) (fields_of msg)
accepted_bytes v (tick t room) = tick_bytes v.number (deed (ledger_of v) t)
accepted_bytes v (icanhaz msg room) = snapshot_bytes v.number (frame_at 0 msg) (frame_at 2 msg) v.rows

unfoldable pub bytes_for : Server → Call → Bytes
bytes_for s x = if_accepted (refusal_of s x) (accepted_bytes (view s) x) []
