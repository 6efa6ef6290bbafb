-- A server and a client run through lists of calls. What a call refuses, does, writes and answers is what the contracts of the entries say, read over
-- what a well-formed state holds.
use Rattle.std.specs.Prelude.{ℕ, [], ◌∷◌, map}
use Rattle.std.proofs.Math.Option.{Option, none, some}
use Rattle.answers.specs.Answers.{answer_by}
use Rattle.answers.specs.Refusals.{if_accepted}
use Rattle.answers.specs.declared.answer.Answer.{Answer}
use Rattle.answers.specs.declared.refusal.Refusal.{Refusal}
use Rattle.base.specs.Bytes.{Bytes}
use Rattle.base.specs.Checks.{first_refusal}
use Rattle.client_calls.specs.Start.{start_of as waiting}
use Rattle.client_calls.specs.Answers.{accepted_kind as client_kind}
use Rattle.client_calls.specs.Calls.Call.{snapshot, subscriber, write_icanhaz, write_kvset, ask, lookup}
use Rattle.client_calls.specs.Calls.{Call as ClientCall}
use Rattle.client_calls.specs.Next.{accepted_next as client_becomes}
use Rattle.client_calls.specs.Output.{accepted_bytes as client_writes}
use Rattle.client_calls.specs.Refusals.{call_checks as client_checks}
use Rattle.client_state.specs.Views.{Replica}
use Rattle.frames.specs.Runs.{messages_in}
use Rattle.messages.specs.Fields.{without_identity}
use Rattle.numbers.specs.Sequences.{sequence}
use Rattle.server_calls.specs.Start.{start_of as begun}
use Rattle.server_calls.specs.Answers.{accepted_kind as server_kind}
use Rattle.server_calls.specs.Calls.Call.{kvset, tick, icanhaz}
use Rattle.server_calls.specs.Calls.{Call as ServerCall}
use Rattle.server_calls.specs.Next.{accepted_next as server_becomes}
use Rattle.server_calls.specs.Output.{accepted_bytes as server_writes}
use Rattle.server_calls.specs.Refusals.{call_checks as server_checks}
use Rattle.server_state.specs.Views.{Entry, Ledger, ledger_of}
use Rattle.joining.specs.Book.ServerStart.{begin}
use Rattle.joining.specs.Book.{ServerStart}
use Rattle.base.specs.Logs.Log.{empty, ◌▷◌}
use Rattle.base.specs.Logs.{Log, add, onto}

-- ---- a server
unfoldable pub server_start : ServerStart → Ledger Entry
server_start (begin n t) = begun n t

unfoldable pub server_refusal : Ledger Entry → ServerCall → Option Refusal
server_refusal v x = first_refusal (server_checks (ledger_of v) x)

unfoldable pub server_next : Ledger Entry → ServerCall → Ledger Entry
server_next v x = if_accepted (server_refusal v x) (server_becomes v x) v

unfoldable pub server_bytes : Ledger Entry → ServerCall → Bytes
server_bytes v x = if_accepted (server_refusal v x) (server_writes v x) []

unfoldable pub server_answer : Ledger Entry → ServerCall → Answer
server_answer v x = answer_by (server_refusal v x) (sequence v.number) (server_kind v x) (server_writes v x)

unfoldable pub server_after : ServerStart → Log ServerCall → Ledger Entry
server_after p empty = server_start p
server_after p (S ▷ x) = server_next (server_after p S) x

-- a message, where bytes were written
abbrev pub message : Bytes → Option Bytes
message [] = none
message (b ∷ bs) = some (b ∷ bs)

-- published: a KVPUB or HUGZ that KVSET or Tick writes
unfoldable pub publishes : Ledger Entry → ServerCall → Option Bytes
publishes v (kvset msg t room) = message (server_bytes v (kvset msg t room))
publishes v (tick t room) = message (server_bytes v (tick t room))
publishes v (icanhaz msg room) = none

unfoldable pub published : ServerStart → Log ServerCall → Log Bytes
published p empty = empty
published p (S ▷ x) = add (published p S) (publishes (server_after p S) x)

-- the answer to a snapshot request, one message at a time, each without the identity frame
unfoldable pub answer_to : Ledger Entry → Bytes → ℕ → Log Bytes
answer_to v msg room = onto empty (map without_identity (messages_in (server_bytes v (icanhaz msg room))))

-- ---- a client
-- a start of a client: a subtree and a tick
pub data ClientStart : Type 0 where
  wait : Bytes → ℕ → ClientStart

unfoldable pub client_start : ClientStart → Replica
client_start (wait subtree t) = waiting subtree t

-- the message that a call hands in, at either entry, and at the subscriber entry
abbrev pub handed : ClientCall → Option Bytes
handed (snapshot msg) = some msg
handed (subscriber msg t) = some msg
handed (write_icanhaz room) = none
handed (write_kvset key uuid properties value room) = none
handed (ask t) = none
handed (lookup key room) = none

abbrev pub told : ClientCall → Option Bytes
told (snapshot msg) = none
told (subscriber msg t) = some msg
told (write_icanhaz room) = none
told (write_kvset key uuid properties value room) = none
told (ask t) = none
told (lookup key room) = none

unfoldable pub client_refusal : Replica → ClientCall → Option Refusal
client_refusal v x = first_refusal (client_checks v x)

unfoldable pub client_next : Replica → ClientCall → Replica
client_next v x = if_accepted (client_refusal v x) (client_becomes v x) v

unfoldable pub client_bytes : Replica → ClientCall → Bytes
client_bytes v x = if_accepted (client_refusal v x) (client_writes v x) []

unfoldable pub client_answer : Replica → ClientCall → Answer
client_answer v x = answer_by (client_refusal v x) (sequence v.number) (client_kind v x) (client_writes v x)

unfoldable pub client_after : ClientStart → Log ClientCall → Replica
client_after q empty = client_start q
client_after q (C ▷ x) = client_next (client_after q C) x

-- a message is accepted where the refusal table, read over the client's state, does not refuse it
unfoldable pub accepts : Replica → ClientCall → Option Bytes
accepts v x = if_accepted (client_refusal v x) (handed x) none

unfoldable pub hears : Replica → ClientCall → Option Bytes
hears v x = if_accepted (client_refusal v x) (told x) none

-- the messages that a client accepted, and those of them that came in at the subscriber entry
unfoldable pub accepted : ClientStart → Log ClientCall → Log Bytes
accepted q empty = empty
accepted q (C ▷ x) = add (accepted q C) (accepts (client_after q C) x)

unfoldable pub heard : ClientStart → Log ClientCall → Log Bytes
heard q empty = empty
heard q (C ▷ x) = add (heard q C) (hears (client_after q C) x)
