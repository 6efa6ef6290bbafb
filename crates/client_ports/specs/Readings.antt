-- What a message is found to be at a client's port: refused, or one of two, with the number that it brings.
use Rattle.std.specs.Prelude.{cond, Result, Ok, Err}
use Rattle.std.proofs.Math.Option.{Option, none, some}
use Rattle.answers.specs.declared.refusal.Refusal.{Refusal}
use Rattle.base.specs.Bytes.{same}
use Rattle.base.specs.Octets.{number}
use Rattle.client_ports.specs.declared.snapshot.Sent.TheVariants.{Kthxbai, Kvsync}
use Rattle.client_ports.specs.declared.snapshot.Sent.{Sent}
use Rattle.client_ports.specs.declared.subscriber.Published.TheVariants.{Hugz, Kvpub}
use Rattle.client_ports.specs.declared.subscriber.Published.{Published}
use Rattle.messages.specs.Fields.{Fields}
use Rattle.numbers.specs.Sequences.{sequence}
use Rattle.frame_forms.specs.Words.{word_kthxbai, word_hugz}

-- ---- at the port for snapshots, by the refusal of its checks: KTHXBAI, or else KVSYNC, whose number is ignored
unfoldable pub end_of : Fields → Option Refusal → Result Sent Refusal
end_of f none = Ok (Kthxbai (sequence (number f.sequence)))
end_of f (some r) = Err r

unfoldable pub row_of : Option Refusal → Result Sent Refusal
row_of none = Ok Kvsync
row_of (some r) = Err r

unfoldable pub sent_of : Fields → Option Refusal → Result Sent Refusal
sent_of f x = cond (same word_kthxbai f.head) (end_of f x) (row_of x)

-- ---- at the port for what is published: HUGZ, which has no number, or else KVPUB
unfoldable pub beat_of : Option Refusal → Result Published Refusal
beat_of none = Ok Hugz
beat_of (some r) = Err r

unfoldable pub kvpub_of : Fields → Option Refusal → Result Published Refusal
kvpub_of f none = Ok (Kvpub (sequence (number f.sequence)))
kvpub_of f (some r) = Err r

unfoldable pub published_of : Fields → Option Refusal → Result Published Refusal
published_of f x = cond (same word_hugz f.head) (beat_of x) (kvpub_of f x)
