-- What the theorem on joining says of the code: after the same calls, what a state of the code holds is what the theorem's run comes to; and the answer, the next
-- state and the bytes of a call are those of the run's next step.
use Rattle.std.specs.Prelude.{◌≡◌}
use Rattle.answers.specs.declared.answer.Answer.{Answer}
use Rattle.base.specs.Bytes.{Bytes}
use Rattle.base.specs.Output.{put}
use Rattle.client_calls.specs.Calls.{Call as ClientCall}
use Rattle.client_calls.specs.Promises.{Answered as ClientAnswered}
use Rattle.client_state.specs.Views.{Replica, view as replica}
use Rattle.client_state.specs.declared.Client.{Client}
use Rattle.joining.specs.Book.{ServerStart, book_after, map_of}
use Rattle.joining.specs.Ends.{server_next, server_bytes, server_answer, server_after, ClientStart, client_next, client_bytes, client_answer, client_after}
use Rattle.joining.specs.Joining.{Joined, joined_at, Follows, held_by}
use Rattle.base.specs.Logs.{Log}
use Rattle.server_calls.specs.Calls.{Call as ServerCall}
use Rattle.server_calls.specs.Promises.{Answered as ServerAnswered}
use Rattle.server_state.specs.Views.{Entry, Ledger, view as ledger}
use Rattle.server_state.specs.declared.Server.{Server}
use Rattle.joining_code.specs.Runs.{ServerRan, ClientRan}

-- a call left a state that holds `held`, an answer, and the output `out` as `after`: they are what a step of the run comes to
pub record Steps {A : Type 0} (next : A) (answer : Answer) (bytes : Bytes) (held : A) (given : Answer) (out after : Bytes) : Type 0 where
  pub answers : given ≡ answer
  pub holds : held ≡ next
  pub output : after ≡ put out 0 bytes

-- the call x on a server that holds v, and on a client that does
abbrev pub ServerSteps : Ledger Entry → ServerCall → Bytes → Server → Answer → Bytes → Type 0
ServerSteps v x out s' a out' = Steps (server_next v x) (server_answer v x) (server_bytes v x) (ledger s') a out out'

abbrev pub ClientSteps : Replica → ClientCall → Bytes → Client → Answer → Bytes → Type 0
ClientSteps v x out c' a out' = Steps (client_next v x) (client_answer v x) (client_bytes v x) (replica c') a out out'

pub record Code (p : ServerStart) (S : Log ServerCall) (s : Server) (q : ClientStart) (C : Log ClientCall) (c : Client) : Type 0 where
  pub server : ledger s ≡ server_after p S
  pub server_steps : (x : ServerCall) (out : Bytes) (s' : Server) (a : Answer) (out' : Bytes) → ServerAnswered s x out s' a out' → ServerSteps (server_after p S) x out s' a out'
  pub client : replica c ≡ client_after q C
  pub client_steps : (x : ClientCall) (out : Bytes) (c' : Client) (a : Answer) (out' : Bytes) → ClientAnswered c x out c' a out' → ClientSteps (client_after q C) x out c' a out'
  -- so the server holds its book's number and map, and a client that joined and has no gap follows
  pub number : (ledger s).number ≡ (book_after p S).number
  pub map : held_by (ledger s) ≡ map_of (book_after p S)
  pub follows : (j : Joined p S q C) → Follows p S (replica c) (joined_at j) j.taken.later

-- of all runs of the code
abbrev pub Linked : Type 0
Linked =
    (p : ServerStart) (S : Log ServerCall) (s : Server) (q : ClientStart) (C : Log ClientCall) (c : Client) → ServerRan p S s → ClientRan q C c → Code p S s q C c
