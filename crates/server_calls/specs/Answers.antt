-- What a call answers: its kind, with the number of the state after it, and how many bytes it wrote.
use Rattle.std.specs.Prelude.{ℕ, suc}
use Rattle.answers.specs.Answers.{answer_by}
use Rattle.answers.specs.declared.answer.Answer.{Answer}
use Rattle.answers.specs.declared.answer.Kind.TheVariants.{Wrote, Nothing}
use Rattle.answers.specs.declared.answer.Kind.{Kind}
use Rattle.numbers.specs.Sequences.{sequence}
use Rattle.server_calls.specs.Calls.{Call, kvset, tick, icanhaz}
use Rattle.server_calls.specs.Deeds.{Deed, expire, beat, quiet, deed}
use Rattle.server_calls.specs.Output.{accepted_bytes}
use Rattle.server_calls.specs.Refusals.{refusal_of}
use Rattle.server_state.specs.Views.{Entry, Ledger, view, ledger_of}
use Rattle.server_state.specs.declared.Server.{Server}

abbrev pub tick_kind : ℕ → Deed → Kind
tick_kind n (expire key) = Wrote (sequence (suc n))
tick_kind n beat = Wrote (sequence n)
tick_kind n quiet = Nothing (sequence n)

-- a call that is accepted
abbrev pub accepted_kind : Ledger Entry → Call → Kind
accepted_kind v (kvset msg t room) = Wrote (sequence (suc v.number))
accepted_kind v (tick t room) = tick_kind v.number (deed (ledger_of v) t)
accepted_kind v (icanhaz msg room) = Wrote (sequence v.number)

unfoldable pub answer_for : Server → Call → Answer
answer_for s x = answer_by (refusal_of s x) s.header.number (accepted_kind (view s) x) (accepted_bytes (view s) x)
