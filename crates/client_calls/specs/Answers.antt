-- What a call answers: its kind, with the number of the state after it, and how many bytes it wrote.
use Rattle.std.specs.Prelude.{ℕ, ◌-◌, cond, ltb}
use Rattle.std.proofs.Math.Option.{Option, none, some}
use Rattle.answers.specs.Answers.{answer_by}
use Rattle.answers.specs.declared.answer.Answer.{Answer}
use Rattle.answers.specs.declared.answer.Kind.TheVariants.{Applied, Stale, Outside, Synced, Live, Heard, Wrote, Found, Absent, Present, Gone}
use Rattle.answers.specs.declared.answer.Kind.{Kind}
use Rattle.base.specs.Bytes.{Bytes}
use Rattle.client_state.specs.Views.{Replica, view}
use Rattle.client_state.specs.declared.Client.{Client}
use Rattle.client_calls.specs.Calls.{Call, snapshot, subscriber, write_icanhaz, write_kvset, ask, lookup}
use Rattle.client_calls.specs.Effects.{Effect, sync, finish, hear, stale, outside, apply, snapshot_effect, subscriber_effect}
use Rattle.client_calls.specs.Output.{accepted_bytes}
use Rattle.client_calls.specs.Refusals.{refusal_of}
use Rattle.messages.specs.Fields.{fields_of}
use Rattle.numbers.specs.Sequences.{sequence}
use Rattle.rows.specs.Rows.{held_under}

-- a message, at a client of number n
abbrev pub effect_kind : ℕ → Effect → Kind
effect_kind n (sync key value) = Synced (sequence n)
effect_kind n (finish m) = Live (sequence m)
effect_kind n (hear t) = Heard (sequence n)
effect_kind n stale = Stale (sequence n)
effect_kind n (outside m) = Outside (sequence m)
effect_kind n (apply m key value) = Applied (sequence m)

-- the server is presumed gone once it is silent for more than 5,000 ms
abbrev pub ask_kind : Replica → ℕ → Kind
ask_kind v t = cond (ltb 5000 (t - v.clock)) (Gone (sequence v.number)) (Present (sequence v.number))

abbrev pub lookup_kind : ℕ → Option Bytes → Kind
lookup_kind n (some value) = Found (sequence n)
lookup_kind n none = Absent (sequence n)

-- a call that is accepted
abbrev pub accepted_kind : Replica → Call → Kind
accepted_kind v (snapshot msg) = effect_kind v.number (snapshot_effect (fields_of msg))
accepted_kind v (subscriber msg t) = effect_kind v.number (subscriber_effect v.number v.subtree (fields_of msg) t)
accepted_kind v (write_icanhaz room) = Wrote (sequence v.number)
accepted_kind v (write_kvset key uuid properties value room) = Wrote (sequence v.number)
accepted_kind v (ask t) = ask_kind v t
accepted_kind v (lookup key room) = lookup_kind v.number (held_under key v.rows)

unfoldable pub answer_for : Client → Call → Answer
answer_for c x = answer_by (refusal_of c x) c.header.number (accepted_kind (view c) x) (accepted_bytes (view c) x)
