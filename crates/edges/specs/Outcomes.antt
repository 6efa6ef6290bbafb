-- A row of the table of edges: an end in some state, a call on it, and what is to come of it. What comes of it is what the contracts of the entries say.
use Rattle.std.specs.Prelude.{ℕ, [], ◌≡◌}
use Rattle.answers.specs.Answers.{kind_number, sequence_in, refusal_in}
use Rattle.answers.specs.declared.answer.Answer.{Answer}
use Rattle.base.specs.Bytes.{Bytes}
use Rattle.client_calls.specs.Start.{start_answer}
use Rattle.client_calls.specs.Calls.{Call as ClientCall}
use Rattle.client_state.specs.Views.{Replica}
use Rattle.joining.specs.Ends.ClientStart.{wait}
use Rattle.joining.specs.Ends.{server_next, server_bytes, server_answer, client_start, client_next, client_bytes, client_answer}
use Rattle.server_calls.specs.Calls.{Call as ServerCall}
use Rattle.server_state.specs.Views.{Entry, Ledger}

-- the kind and the refusal by their numbers, the number that is told, how many bytes are said to be written, the bytes, and the whole state
pub record Outcome (S : Type 0) : Type 0 where
  pub kind : ℕ
  pub refusal : ℕ
  pub number : ℕ
  pub written : ℕ
  pub bytes : Bytes
  pub state : S

pub data Edge : Type 0 where
  server : Ledger Entry → ServerCall → Outcome (Ledger Entry) → Edge
  client : Replica → ClientCall → Outcome Replica → Edge
  -- the start of a client, with a subtree and a tick
  start : Bytes → ℕ → Outcome Replica → Edge

-- ---- what comes of a call
abbrev pub outcome : {S : Type 0} → Answer → Bytes → S → Outcome S
outcome a bytes v = record {
  kind = kind_number a.kind;
  refusal = refusal_in a.kind;
  number = (sequence_in a.kind).0;
  written = a.written;
  bytes = bytes;
  state = v;
}

unfoldable pub Holds : Edge → Type 0
Holds (server v x expected) = outcome (server_answer v x) (server_bytes v x) (server_next v x) ≡ expected
Holds (client v x expected) = outcome (client_answer v x) (client_bytes v x) (client_next v x) ≡ expected
Holds (start subtree t expected) = outcome (start_answer subtree t) [] (client_start (wait subtree t)) ≡ expected

-- ---- what is expected
module _ {S : Type 0} where
  -- the number of a refusal, that of the state, and the state
  abbrev pub refused : ℕ → ℕ → S → Outcome S
  refused reason n v = record { kind = 0; refusal = reason; number = n; written = 0; bytes = []; state = v }

  -- the number of the state, how many bytes, the bytes, and the state
  abbrev pub wrote : ℕ → ℕ → Bytes → S → Outcome S
  wrote n written bytes v = record { kind = 8; refusal = 0; number = n; written = written; bytes = bytes; state = v }

  -- of the kinds that write nothing: the number of the state, and the state
  abbrev pub told : ℕ → ℕ → S → Outcome S
  told kind n v = record { kind = kind; refusal = 0; number = n; written = 0; bytes = []; state = v }

  abbrev pub started : ℕ → S → Outcome S
  started = told 1

  abbrev pub applied : ℕ → S → Outcome S
  applied = told 2

  abbrev pub stale : ℕ → S → Outcome S
  stale = told 3

  abbrev pub synced : ℕ → S → Outcome S
  synced = told 5

  abbrev pub live : ℕ → S → Outcome S
  live = told 6

  abbrev pub nothing : ℕ → S → Outcome S
  nothing = told 9

  abbrev pub absent : ℕ → S → Outcome S
  absent = told 11
