-- What the exported calls promise: all that the entries promise, with the answer as words.
use Rattle.std.specs.Prelude.{ℕ, List}
use Rattle.answers.specs.declared.answer.Answer.{Answer}
use Rattle.base.specs.Bytes.{Bytes}
use Rattle.client_calls.specs.Answers.{answer_for as client_answer}
use Rattle.client_calls.specs.Calls.{Call as ClientCall}
use Rattle.client_calls.specs.Promises.{Began as ClientEntryBegan, Answered as ClientEntryAnswered}
use Rattle.client_calls.specs.Start.{start_answer as client_started}
use Rattle.client_state.specs.declared.Client.{Client}
use Rattle.host_words.specs.Answers.{InWords}
use Rattle.server_calls.specs.Answers.{answer_for as server_answer}
use Rattle.server_calls.specs.Calls.{Call as ServerCall}
use Rattle.server_calls.specs.Promises.{Began as ServerEntryBegan, Answered as ServerEntryAnswered}
use Rattle.server_calls.specs.Start.{start_answer as server_started}
use Rattle.server_state.specs.declared.Server.{Server}

-- ---- a server
-- a start at a number and a tick gives the state s and the answer `words`
abbrev pub ServerBegan : ℕ → ℕ → Server → List ℕ → Type 0
ServerBegan n t s words = InWords (λ (a : Answer). ServerEntryBegan n t s a) (server_started n t) words

-- the call x on the state s, with the output `out`, gives the state s' and the answer `words`, and the output is then out'
abbrev pub ServerAnswered : Server → ServerCall → Bytes → Server → List ℕ → Bytes → Type 0
ServerAnswered s x out s' words out' = InWords (λ (a : Answer). ServerEntryAnswered s x out s' a out') (server_answer s x) words

-- ---- a client, in the same way
abbrev pub ClientBegan : Bytes → ℕ → Client → List ℕ → Type 0
ClientBegan subtree t c words = InWords (λ (a : Answer). ClientEntryBegan subtree t c a) (client_started subtree t) words

abbrev pub ClientAnswered : Client → ClientCall → Bytes → Client → List ℕ → Bytes → Type 0
ClientAnswered c x out c' words out' = InWords (λ (a : Answer). ClientEntryAnswered c x out c' a out') (client_answer c x) words
