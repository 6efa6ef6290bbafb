-- What a message does to a client that accepts it.
use Rattle.std.specs.Prelude.{ℕ, cond, leb}
use Rattle.base.specs.Bytes.{Bytes, same}
use Rattle.base.specs.Octets.{number}
use Rattle.messages.specs.Fields.{Fields}
use Rattle.keys.specs.Keys.{under}
use Rattle.frame_forms.specs.Words.{word_kthxbai, word_hugz}

pub data Effect : Type 0 where
  -- a row of the snapshot: a key and its value
  sync : Bytes → Bytes → Effect
  -- the snapshot is whole: the client is live, at a number
  finish : ℕ → Effect
  -- a sign of life, at a tick
  hear : ℕ → Effect
  -- an update that the client is past
  stale : Effect
  -- an update of a key that is not under the subtree: its number
  outside : ℕ → Effect
  -- an update of one that is: its number, the key and the value
  apply : ℕ → Bytes → Bytes → Effect

-- at the snapshot entry: KTHXBAI, or else KVSYNC, whose number is ignored
abbrev pub snapshot_effect : Fields → Effect
snapshot_effect f = cond (same word_kthxbai f.head) (finish (number f.sequence)) (sync f.head f.value)

-- an update of a number, a key and a value: the number is looked at first, and then whether the key is under the
-- subtree. Of a client's number and subtree
abbrev pub update_by : ℕ → Bytes → ℕ → Bytes → Bytes → Effect
update_by n subtree m key value = cond (leb m n) stale (cond (under subtree key) (apply m key value) (outside m))

-- a KVPUB
abbrev pub update_effect : ℕ → Bytes → Fields → Effect
update_effect n subtree f = update_by n subtree (number f.sequence) f.head f.value

-- at the subscriber entry: HUGZ, which alone uses the tick and has no number, or else KVPUB
abbrev pub subscriber_effect : ℕ → Bytes → Fields → ℕ → Effect
subscriber_effect n subtree f t = cond (same word_hugz f.head) (hear t) (update_effect n subtree f)
