-- What a server refuses, read over its ledger: a table of checks for each call, in the order of the refusals. That the
-- state handed in is ill-formed stands before all of them.
use Rattle.std.specs.Prelude.{ℕ, suc, Bool, not, ◌&&◌, List, [], ◌∷◌, ◌++◌, leb, ltb, eqb, length}
use Rattle.std.proofs.Math.Option.{Option}
use Rattle.answers.specs.declared.refusal.Refusal.TheVariants.{Full, Exhausted, ShortOutput}
use Rattle.answers.specs.declared.refusal.Refusal.{Refusal}
use Rattle.base.specs.Bytes.{Bytes, is_nil}
use Rattle.base.specs.Checks.Check.{when}
use Rattle.base.specs.Checks.{Check, first_refusal}
use Rattle.frames.specs.Messages.{frame_at}
use Rattle.messages.specs.Fields.{Fields, bytes_of, fields_of, kvpub, hugz}
use Rattle.numbers.specs.Sequences.{max_sequence}
use Rattle.ports.specs.Ports.{kvset_port, icanhaz_port, tick_checks}
use Rattle.row_cells.specs.Sizes.{max_rows}
use Rattle.rows.specs.Rows.{Rows, has_key, map_rows}
use Rattle.server_calls.specs.Calls.{Call, kvset, tick, icanhaz}
use Rattle.server_calls.specs.Deeds.{Deed, expire, beat, quiet, deed}
use Rattle.server_state.specs.IllFormed.{ill_forms}
use Rattle.server_calls.specs.Snapshots.{snapshot_length}
use Rattle.server_state.specs.Views.{Held, Ledger, view, ledger_of}
use Rattle.server_state.specs.declared.Server.{Server}

-- the KVPUB of an update that was asked for, and of a row that expired
unfoldable pub update : ℕ → Fields → Bytes
update n f = bytes_of (kvpub n f.head f.uuid f.properties f.value)

unfoldable pub expiry : ℕ → Bytes → Bytes
expiry n key = bytes_of (kvpub n key [] [] [])

-- a row would be added to as many as there is room for; a number is needed, and there is none; the output is too short. Of whether the key is held, how many rows there
-- are, the number, the frames and the length of the output
abbrev pub store_checks : Bool → ℕ → ℕ → Fields → ℕ → List (Check Refusal)
store_checks held count n f room =
    when (not (is_nil f.value) && (not held && leb max_rows count)) Full
    ∷ when (eqb n max_sequence) Exhausted
    ∷ when (ltb room (length (update (suc n) f))) ShortOutput
    ∷ []

abbrev pub deed_checks : ℕ → Deed → ℕ → List (Check Refusal)
deed_checks n (expire key) room =
    when (eqb n max_sequence) Exhausted
    ∷ when (ltb room (length (expiry (suc n) key))) ShortOutput
    ∷ []
deed_checks n beat room = when (ltb room (length (bytes_of hugz))) ShortOutput ∷ []
deed_checks n quiet room = []

abbrev pub held_length : Held → ℕ
held_length h = length h.value

-- the output is too short for the whole snapshot
abbrev pub room_checks : Rows ℕ → Bytes → Bytes → ℕ → List (Check Refusal)
room_checks lengths identity subtree room =
    when (ltb room (snapshot_length (length identity) subtree lengths)) ShortOutput
    ∷ []

-- ---- the calls
unfoldable pub call_checks : Ledger Held → Call → List (Check Refusal)
call_checks b (kvset msg t room) =
    kvset_port msg ++ (tick_checks b.last_tick t ++ store_checks (has_key (frame_at 0 msg) b.rows) (length b.rows) b.number (fields_of msg) room)
call_checks b (tick t room) = tick_checks b.last_tick t ++ deed_checks b.number (deed b t) room
call_checks b (icanhaz msg room) = icanhaz_port msg ++ room_checks (map_rows held_length b.rows) (frame_at 0 msg) (frame_at 2 msg) room

unfoldable pub refusal_of : Server → Call → Option Refusal
refusal_of s x = first_refusal (ill_forms s ++ call_checks (ledger_of (view s)) x)
