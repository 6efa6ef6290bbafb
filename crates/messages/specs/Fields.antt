-- The messages of the protocol as fields: what their frames hold. One writer, `bytes_of`, and one reader, `fields_of`.
use Rattle.std.specs.Prelude.{ℕ, ◌+◌, true, [], ◌∷◌, ◌++◌}
use Rattle.base.specs.Bytes.{Bytes}
use Rattle.base.specs.Octets.{octets}
use Rattle.frames.specs.Messages.{rest_of, frame_at, frame_length, frame, encode}
use Rattle.frames.specs.Steps.{step_of}
use Rattle.frame_forms.specs.Words.{word_icanhaz, word_kthxbai, word_hugz}

-- the five frames of a message: key or word, sequence, UUID, properties, value or subtree
pub record Fields : Type 0 where
  pub head : Bytes
  pub sequence : Bytes
  pub uuid : Bytes
  pub properties : Bytes
  pub value : Bytes

abbrev pub fields : Bytes → Bytes → Bytes → Bytes → Bytes → Fields
fields head sequence uuid properties value =
    record { head = head; sequence = sequence; uuid = uuid; properties = properties; value = value }

unfoldable pub bytes_of : Fields → Bytes
bytes_of f = encode f.head (f.sequence ∷ f.uuid ∷ f.properties ∷ f.value ∷ [])

-- the fields of a message, as frames of it
abbrev pub fields_of : Bytes → Fields
fields_of msg = fields (frame_at 0 msg) (frame_at 1 msg) (frame_at 2 msg) (frame_at 3 msg) (frame_at 4 msg)

-- how many bytes a message takes, by the lengths of its bodies
abbrev pub message_length : ℕ → ℕ → ℕ → ℕ → ℕ
message_length head uuid properties value = frame_length head + 10 + frame_length uuid + frame_length properties + frame_length value

-- ---- the messages
-- an update that a client asks for
abbrev pub kvset : Bytes → Bytes → Bytes → Bytes → Fields
kvset key uuid properties value = fields key (octets 8 0) uuid properties value

-- an update that the server publishes, with its number
abbrev pub kvpub : ℕ → Bytes → Bytes → Bytes → Bytes → Fields
kvpub n key uuid properties value = fields key (octets 8 n) uuid properties value

-- a row of a snapshot, with the number of its last set
abbrev pub kvsync : ℕ → Bytes → Bytes → Fields
kvsync n key value = fields key (octets 8 n) [] [] value

-- the end of a snapshot, with the server's number
abbrev pub kthxbai : ℕ → Bytes → Fields
kthxbai n subtree = fields word_kthxbai (octets 8 n) [] [] subtree

-- a sign of life
abbrev pub hugz : Fields
hugz = fields word_hugz (octets 8 0) [] [] []

-- a snapshot request, without the identity
abbrev pub icanhaz : Bytes → Bytes
icanhaz subtree = encode word_icanhaz (subtree ∷ [])

-- the identity frame, which stands in front of a request and of each message of its answer on their way through the
-- router
abbrev pub identity_frame : Bytes → Bytes
identity_frame identity = frame true identity

abbrev pub with_identity : Bytes → Bytes → Bytes
with_identity identity msg = identity_frame identity ++ msg

-- a message without its first frame
abbrev pub without_identity : Bytes → Bytes
without_identity msg = rest_of msg (step_of msg)
