-- How a message reads that a server published: whether it is a KVPUB, its number and its key.
use Rattle.std.specs.Prelude.{ℕ, Bool, cond, not, ◌&&◌, eqb, length}
use Rattle.std.proofs.Math.Option.{Option, none, some}
use Rattle.base.specs.Bytes.{Bytes, same}
use Rattle.base.specs.Octets.{number}
use Rattle.frames.specs.Messages.{parts_of, frame_at}
use Rattle.frame_forms.specs.Words.{word_hugz}
use Rattle.base.specs.Logs.Log.{empty, ◌▷◌}
use Rattle.base.specs.Logs.{Log, add}

-- five frames, of which the first is not the word of a sign of life
unfoldable pub is_kvpub : Bytes → Bool
is_kvpub b = eqb (length (parts_of b)) 5 && not (same word_hugz (frame_at 0 b))

unfoldable pub key_of : Bytes → Bytes
key_of b = frame_at 0 b

unfoldable pub number_of : Bytes → ℕ
number_of b = number (frame_at 1 b)

-- the number of a KVPUB; none of another message
unfoldable pub kvpub_number : Bytes → Option ℕ
kvpub_number b = cond (is_kvpub b) (some (number_of b)) none

-- the numbers of the KVPUBs among messages
unfoldable pub kvpub_numbers : Log Bytes → Log ℕ
kvpub_numbers empty = empty
kvpub_numbers (bs ▷ b) = add (kvpub_numbers bs) (kvpub_number b)
