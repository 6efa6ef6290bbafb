-- Every message that one end writes, the other's port lets pass and takes apart into the same fields, once the router
-- has put the identity frame on or taken it off. Of any state of a server or a client, whatever the call: it need only
-- be accepted.
use Rattle.std.specs.Prelude.{ℕ, suc, true, List, [], ◌∷◌, ◌++◌, map, ◌≡◌}
use Rattle.std.proofs.Math.Option.{none, some}
use Rattle.answers.specs.declared.refusal.Refusal.{Refusal}
use Rattle.base.specs.Bytes.{Bytes}
use Rattle.base.specs.Checks.{Check, first_refusal}
use Rattle.base.specs.Octets.{number}
use Rattle.cells.specs.Cells.{All}
use Rattle.client_calls.specs.Calls.{write_icanhaz, write_kvset}
use Rattle.client_calls.specs.Output.{bytes_for as client_bytes}
use Rattle.client_calls.specs.Refusals.{refusal_of as client_refusal}
use Rattle.client_state.specs.Views.{subtree_of}
use Rattle.client_state.specs.declared.Client.{Client}
use Rattle.frames.specs.Messages.{frames_in, frame_at}
use Rattle.frames.specs.Runs.{messages_in}
use Rattle.messages.specs.Fields.{Fields, fields_of, kvset, kvpub, kvsync, kthxbai, hugz, with_identity, without_identity}
use Rattle.keys.specs.Keys.{under}
use Rattle.frame_forms.specs.Lengths.{is_identity}
use Rattle.frame_forms.specs.Words.{word_icanhaz}
use Rattle.ports.specs.Ports.{kvset_port, icanhaz_port, snapshot_port, subscriber_port}
use Rattle.rows.specs.Rows.{Rows, keep}
use Rattle.server_calls.specs.Calls.{kvset as update, tick, icanhaz}
use Rattle.server_calls.specs.Deeds.{Deed, expire, beat, quiet, deed}
use Rattle.server_calls.specs.Output.{bytes_for as server_bytes}
use Rattle.server_calls.specs.Refusals.{refusal_of as server_refusal}
use Rattle.server_calls.specs.Snapshots.{sync, thanks}
use Rattle.server_state.specs.Views.{Entry, SizedServer, view, ledger_of}
use Rattle.server_state.specs.declared.Server.{Server}

-- a message at a port that takes five frames: it passes, and its fields are f
pub record Arrives (port : Bytes → List (Check Refusal)) (msg : Bytes) (f : Fields) : Type 0 where
  pub passes : first_refusal (port msg) ≡ none
  pub fields : fields_of msg ≡ f

-- and its sequence frame is read as the number n
pub record Numbered (port : Bytes → List (Check Refusal)) (msg : Bytes) (f : Fields) (n : ℕ) : Type 0 where
  pub arrives : Arrives port msg f
  pub sequence : number (fields_of msg).sequence ≡ n

-- a snapshot request behind its identity: it passes, and its frames are the identity, the word and the subtree
pub record Requested (msg identity subtree : Bytes) : Type 0 where
  pub passes : first_refusal (icanhaz_port msg) ≡ none
  pub frames : frames_in msg ≡ some (identity ∷ word_icanhaz ∷ subtree ∷ [])

-- what a Tick writes, by what it does, at a server of number n
abbrev pub TickArrives : Bytes → ℕ → Deed → Type 0
TickArrives msg n (expire key) = Numbered subscriber_port msg (kvpub (suc n) key [] [] []) (suc n)
TickArrives msg n beat = Arrives subscriber_port msg hugz
TickArrives msg n quiet = msg ≡ []

-- a row of the snapshot of a subtree, without its identity
abbrev pub SyncArrives : Bytes → Bytes → Bytes × Entry → Type 0
SyncArrives identity subtree r = Arrives (snapshot_port subtree) (without_identity (sync identity r)) (kvsync r.1.number r.0 r.1.value)

-- the answer to a request for a subtree: cut into messages it is the rows under the subtree and the end, and each of
-- them arrives without its identity
pub record SnapshotArrives (bytes identity subtree : Bytes) (n : ℕ) (rows : Rows Entry) : Type 0 where
  pub messages : messages_in bytes ≡ map (sync identity) (keep (under subtree) rows) ++ (thanks identity n subtree ∷ [])
  pub rows_arrive : All (SyncArrives identity subtree) (keep (under subtree) rows)
  pub end_arrives : Numbered (snapshot_port subtree) (without_identity (thanks identity n subtree)) (kthxbai n subtree) n

pub record RoundTrip : Type 0 where
  -- a client's KVSET at the server
  pub kvset-arrives : (c : Client) (key uuid properties value : Bytes) (room : ℕ) → client_refusal c (write_kvset key uuid properties value room) ≡ none
      → Arrives kvset_port (client_bytes c (write_kvset key uuid properties value room)) (kvset key uuid properties value)
  -- a client's ICANHAZ at the server, with an identity put in front
  pub icanhaz-arrives : (c : Client) (room : ℕ) → client_refusal c (write_icanhaz room) ≡ none → (identity : Bytes) → is_identity identity ≡ true
      → Requested (with_identity identity (client_bytes c (write_icanhaz room))) identity (subtree_of c)
  -- the KVPUB of an update at the subscriber entry
  pub update-arrives : (s : Server) (msg : Bytes) (t room : ℕ) → server_refusal s (update msg t room) ≡ none
      → Numbered subscriber_port (server_bytes s (update msg t room))
      (kvpub (suc (view s).number) (frame_at 0 msg) (frame_at 2 msg) (frame_at 3 msg) (frame_at 4 msg)) (suc (view s).number)
  -- what a Tick writes at the subscriber entry: the KVPUB of a row that expired, or HUGZ
  pub tick-arrives : (s : Server) → SizedServer s → (t room : ℕ) → server_refusal s (tick t room) ≡ none
      → TickArrives (server_bytes s (tick t room)) (view s).number (deed (ledger_of (view s)) t)
  -- a snapshot at the snapshot entry of a client of its subtree
  pub snapshot-arrives : (s : Server) → SizedServer s → (msg : Bytes) (room : ℕ) → server_refusal s (icanhaz msg room) ≡ none
      → SnapshotArrives (server_bytes s (icanhaz msg room)) (frame_at 0 msg) (frame_at 2 msg) (view s).number (view s).rows
