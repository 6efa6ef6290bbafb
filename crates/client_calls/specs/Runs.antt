-- The states that a client comes to: by a start, and by calls from there on.
use Rattle.std.specs.Prelude.{ℕ}
use Rattle.answers.specs.declared.answer.Answer.{Answer}
use Rattle.base.specs.Bytes.{Bytes}
use Rattle.client_calls.specs.Calls.{Call}
use Rattle.client_calls.specs.Promises.{Began, Answered}
use Rattle.client_state.specs.declared.Client.{Client}

pub data Reached : Client → Type 0 where
  began : (subtree : Bytes) (t : ℕ) (c : Client) (a : Answer) → Began subtree t c a → Reached c
  called : (c : Client) (x : Call) (out : Bytes) (c' : Client) (a : Answer) (out' : Bytes) → Reached c → Answered c x out c' a out' → Reached c'
