-- The states that a server comes to: by a start, and by calls from there on.
use Rattle.std.specs.Prelude.{ℕ}
use Rattle.answers.specs.declared.answer.Answer.{Answer}
use Rattle.base.specs.Bytes.{Bytes}
use Rattle.server_calls.specs.Calls.{Call}
use Rattle.server_calls.specs.Promises.{Began, Answered}
use Rattle.server_state.specs.declared.Server.{Server}

pub data Reached : Server → Type 0 where
  began : (n t : ℕ) (s : Server) (a : Answer) → Began n t s a → Reached s
  called : (s : Server) (x : Call) (out : Bytes) (s' : Server) (a : Answer) (out' : Bytes) → Reached s → Answered s x out s' a out' → Reached s'
