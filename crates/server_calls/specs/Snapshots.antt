-- The snapshot of a subtree: its rows, one KVSYNC each, and KTHXBAI with the server's number behind them.
use Rattle.std.specs.Prelude.{ℕ, ◌+◌, List, [], ◌∷◌, ◌++◌, map, length}
use Rattle.base.specs.Bytes.{Bytes}
use Rattle.frames.specs.Messages.{frame_length}
use Rattle.frames.specs.Runs.{joined}
use Rattle.messages.specs.Fields.{bytes_of, kvsync, kthxbai, with_identity, message_length}
use Rattle.keys.specs.Keys.{under}
use Rattle.rows.specs.Rows.{Rows, keep}
use Rattle.server_state.specs.Views.{Entry}

-- a row as a message behind the identity
abbrev pub sync : Bytes → Bytes × Entry → Bytes
sync identity r = with_identity identity (bytes_of (kvsync r.1.number r.0 r.1.value))

-- the end of the snapshot behind the identity
abbrev pub thanks : Bytes → ℕ → Bytes → Bytes
thanks identity number subtree = with_identity identity (bytes_of (kthxbai number subtree))

-- the rows under a subtree, in key order
unfoldable pub syncs : Bytes → Bytes → Rows Entry → Bytes
syncs identity subtree rows = joined (map (sync identity) (keep (under subtree) rows))

-- of a server's number and rows: the whole answer for an identity and a subtree
unfoldable pub snapshot_bytes : ℕ → Bytes → Bytes → Rows Entry → Bytes
snapshot_bytes number identity subtree rows = syncs identity subtree rows ++ thanks identity number subtree

-- ---- how long it is, by the lengths: of the identity, and of the value of each row
unfoldable pub sum : List ℕ → ℕ
sum [] = 0
sum (n ∷ l) = n + sum l

abbrev pub sync_length : ℕ → Bytes × ℕ → ℕ
sync_length identity r = frame_length identity + message_length (length r.0) 0 0 r.1

unfoldable pub snapshot_length : ℕ → Bytes → Rows ℕ → ℕ
snapshot_length identity subtree rows =
    sum (map (sync_length identity) (keep (under subtree) rows)) + (frame_length identity + message_length 7 0 0 (length subtree))
