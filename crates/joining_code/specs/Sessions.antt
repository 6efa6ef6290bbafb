-- What a session of each end promises: that its calls are a run, and that the answer that it gives and every output are those of the run.
use Rattle.std.specs.Prelude.{ℕ, ◌≡◌, length}
use Rattle.answers.specs.declared.answer.Answer.{Answer}
use Rattle.base.specs.Bytes.{Bytes}
use Rattle.base.specs.Output.{put}
use Rattle.client_calls.specs.Calls.Call.{snapshot, subscriber, write_icanhaz, write_kvset, ask, lookup}
use Rattle.client_calls.specs.Calls.{Call as ClientCall}
use Rattle.client_state.specs.declared.Client.{Client}
use Rattle.joining.specs.Book.{ServerStart}
use Rattle.joining.specs.Ends.{server_bytes, server_answer, server_after, ClientStart, client_bytes, client_after}
use Rattle.base.specs.Logs.Log.{empty, ◌▷◌}
use Rattle.base.specs.Logs.{Log}
use Rattle.server_calls.specs.Calls.Call.{kvset, tick, icanhaz}
use Rattle.server_calls.specs.Calls.{Call as ServerCall}
use Rattle.server_state.specs.declared.Server.{Server}
use Rattle.joining_code.specs.Runs.{ServerRan, ClientRan}

-- ---- a server: an update, a tick, a snapshot
module _ (p : ServerStart) (msg request : Bytes) (t : ℕ) (update expiry rows : Bytes) where
  abbrev pub updated : Log ServerCall
  updated = empty ▷ kvset msg t (length update)

  abbrev pub timed : Log ServerCall
  timed = updated ▷ tick t (length expiry)

  pub record Served (s : Server) (a : Answer) (update' expiry' rows' : Bytes) : Type 0 where
    pub ran : ServerRan p (timed ▷ icanhaz request (length rows)) s
    pub answer : a ≡ server_answer (server_after p timed) (icanhaz request (length rows))
    pub updates : update' ≡ put update 0 (server_bytes (server_after p empty) (kvset msg t (length update)))
    pub expires : expiry' ≡ put expiry 0 (server_bytes (server_after p updated) (tick t (length expiry)))
    pub sends : rows' ≡ put rows 0 (server_bytes (server_after p timed) (icanhaz request (length rows)))

-- ---- a client: a request, a message of a snapshot, one that was published, an update, asking, lookup
module _ (q : ClientStart) (row news : Bytes) (t : ℕ) (key uuid properties value request update found : Bytes) where
  abbrev pub followed : Log ClientCall
  followed = empty ▷ write_icanhaz (length request) ▷ snapshot row ▷ subscriber news t

  abbrev pub watched : Log ClientCall
  watched = followed ▷ write_kvset key uuid properties value (length update) ▷ ask t

  pub record Followed (c : Client) (request' update' found' : Bytes) : Type 0 where
    pub ran : ClientRan q (watched ▷ lookup key (length found)) c
    pub requests : request' ≡ put request 0 (client_bytes (client_after q empty) (write_icanhaz (length request)))
    pub updates : update' ≡ put update 0 (client_bytes (client_after q followed) (write_kvset key uuid properties value (length update)))
    pub finds : found' ≡ put found 0 (client_bytes (client_after q watched) (lookup key (length found)))
