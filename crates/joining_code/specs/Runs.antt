-- Runs of the code: a state that a start returned and, call by call, the state that the entry called last returned. What an entry returns is what its
-- contract promises.
use Rattle.std.specs.Prelude.{ℕ}
use Rattle.answers.specs.declared.answer.Answer.{Answer}
use Rattle.base.specs.Bytes.{Bytes}
use Rattle.client_calls.specs.Calls.{Call as ClientCall}
use Rattle.client_calls.specs.Promises.{Began as ClientBegan, Answered as ClientAnswered}
use Rattle.client_state.specs.declared.Client.{Client}
use Rattle.joining.specs.Book.ServerStart.{begin}
use Rattle.joining.specs.Book.{ServerStart}
use Rattle.joining.specs.Ends.ClientStart.{wait}
use Rattle.joining.specs.Ends.{ClientStart}
use Rattle.base.specs.Logs.Log.{empty, ◌▷◌}
use Rattle.base.specs.Logs.{Log}
use Rattle.server_calls.specs.Calls.{Call as ServerCall}
use Rattle.server_calls.specs.Promises.{Began as ServerBegan, Answered as ServerAnswered}
use Rattle.server_state.specs.declared.Server.{Server}

-- the state s is what the start p and the calls S leave
pub data ServerRan : ServerStart → Log ServerCall → Server → Type 0 where
  began : (n t : ℕ) (s : Server) (a : Answer) → ServerBegan n t s a → ServerRan (begin n t) empty s
  called : (p : ServerStart) (S : Log ServerCall) (s : Server) → ServerRan p S s → (x : ServerCall) (out : Bytes) (s' : Server) (a : Answer) (out' : Bytes)
      → ServerAnswered s x out s' a out' → ServerRan p (S ▷ x) s'

pub data ClientRan : ClientStart → Log ClientCall → Client → Type 0 where
  began : (subtree : Bytes) (t : ℕ) (c : Client) (a : Answer) → ClientBegan subtree t c a → ClientRan (wait subtree t) empty c
  called : (q : ClientStart) (C : Log ClientCall) (c : Client) → ClientRan q C c → (x : ClientCall) (out : Bytes) (c' : Client) (a : Answer) (out' : Bytes)
      → ClientAnswered c x out c' a out' → ClientRan q (C ▷ x) c'
