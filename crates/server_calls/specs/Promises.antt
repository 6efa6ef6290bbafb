-- What every start and every call of a server promises, for any state, arguments and output.
use Rattle.std.specs.Prelude.{ℕ}
use Rattle.answers.specs.Promises.{Settled, Begun}
use Rattle.answers.specs.declared.answer.Answer.{Answer}
use Rattle.base.specs.Bytes.{Bytes}
use Rattle.server_calls.specs.Answers.{answer_for}
use Rattle.server_calls.specs.Calls.{Call}
use Rattle.server_calls.specs.Next.{next_of}
use Rattle.server_calls.specs.Output.{bytes_for}
use Rattle.server_calls.specs.Refusals.{refusal_of}
use Rattle.server_calls.specs.Start.{start_answer, start_of}
use Rattle.server_state.specs.IllFormed.{WellFormed}
use Rattle.server_state.specs.Views.{view}
use Rattle.server_state.specs.declared.Server.{Server}

-- a start at a number and a tick gives the state s and the answer a
abbrev pub Began : ℕ → ℕ → Server → Answer → Type 0
Began n t s a = Begun view WellFormed (start_answer n t) (start_of n t) s a

-- the call x on the state s, with the output `out`, gives the state s' and the answer a, and the output is then out'
abbrev pub Answered : Server → Call → Bytes → Server → Answer → Bytes → Type 0
Answered s x out s' a out' = Settled view WellFormed (refusal_of s x) (answer_for s x) (next_of s x) (bytes_for s x) s out s' a out'
