-- What every start and every call of a client promises, for any state, arguments and output.
use Rattle.std.specs.Prelude.{ℕ}
use Rattle.answers.specs.Promises.{Settled, Begun}
use Rattle.answers.specs.declared.answer.Answer.{Answer}
use Rattle.base.specs.Bytes.{Bytes}
use Rattle.client_calls.specs.Answers.{answer_for}
use Rattle.client_calls.specs.Calls.{Call}
use Rattle.client_calls.specs.Next.{next_of}
use Rattle.client_calls.specs.Output.{bytes_for}
use Rattle.client_calls.specs.Refusals.{refusal_of}
use Rattle.client_calls.specs.Start.{start_answer, start_of}
use Rattle.client_state.specs.IllFormed.{WellFormed}
use Rattle.client_state.specs.Views.{view}
use Rattle.client_state.specs.declared.Client.{Client}

-- a start with a subtree and a tick gives the state c and the answer a
abbrev pub Began : Bytes → ℕ → Client → Answer → Type 0
Began subtree t c a = Begun view WellFormed (start_answer subtree t) (start_of subtree t) c a

-- the call x on the state c, with the output `out`, gives the state c' and the answer a, and the output is then out'
abbrev pub Answered : Client → Call → Bytes → Client → Answer → Bytes → Type 0
Answered c x out c' a out' = Settled view WellFormed (refusal_of c x) (answer_for c x) (next_of c x) (bytes_for c x) c out c' a out'
