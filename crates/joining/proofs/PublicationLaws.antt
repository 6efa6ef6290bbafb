-- What a server publishes, as it reads: a KVPUB of a good update, or HUGZ. Assumes nothing.
use Prim.Native.Nat.{ℕ, ◌≤◌}
use mathlib.Core.Bool.{Bool, true, false}
use mathlib.Core.List.{[], ◌∷◌, ◌++◌}
use mathlib.Core.Option.{none, some}
use mathlib.Core.Path.{◌≡◌, refl, ap, ◌∙◌}
use lib.Dec.{leb, eqb}
use lib.ListN.{length}
use borrow.Author.Tests.{not-false}
use Rattle.base.proofs.CheckLaws.{passed, both_passed}
use Rattle.base.specs.Bytes.{Bytes, same}
use Rattle.base.specs.Checks.{first_refusal}
use Rattle.frames.specs.Messages.{encode, frame, frame_at, parts_of}
use Rattle.messages.specs.Fields.{Fields, bytes_of, fields_of, kvpub, hugz}
use Rattle.keys.specs.Keys.{is_key}
use Rattle.numbers.specs.Sequences.{max_sequence}
use Rattle.frame_forms.specs.Words.{word_hugz}
use Rattle.ports.specs.Ports.{framed, payload_checks, published_checks, subscriber_port}
use Rattle.round_trip.proofs.ArrivalLaws.{not_hugz, kvpub-arrives, hugz-arrives}
use Rattle.round_trip.specs.RoundTrip.{Numbered}
use Rattle.server_calls.specs.Refusals.{update}
use Rattle.joining.specs.Ends.{message}
use Rattle.joining.specs.Readings.{is_kvpub, key_of, number_of, kvpub_number}

-- an update as its KVPUB may carry it: a key, and UUID, properties and value that pass. Its sequence does not count
pub record GoodUpdate (f : Fields) : Type 0 where
  pub key : is_key f.head ≡ true
  pub payload : first_refusal (payload_checks f.uuid f.properties f.value) ≡ none

-- ---- any message of five frames at the subscriber entry
five_frames : (msg : Bytes) → first_refusal (subscriber_port msg) ≡ none → eqb (length (parts_of msg)) 5 ≡ true
five_frames msg e = not-false _ (passed 1 (framed 5 msg) (both_passed (framed 5 msg) (published_checks (fields_of msg)) e).0)

module _ (msg : Bytes) (e : first_refusal (subscriber_port msg) ≡ none) where
  pub passes-kvpub : same word_hugz (frame_at 0 msg) ≡ false → is_kvpub msg ≡ true
  unfolding is_kvpub
  passes-kvpub w = rw (five_frames msg e, w)

  pub passes-hugz : same word_hugz (frame_at 0 msg) ≡ true → is_kvpub msg ≡ false
  unfolding is_kvpub
  passes-hugz w = rw (five_frames msg e, w)

-- ---- the KVPUB of a good update
module _ (n : ℕ) (f : Fields) (g : GoodUpdate f) (h : n ≤ max_sequence) where
  arrives : Numbered subscriber_port (update n f) (kvpub n f.head f.uuid f.properties f.value) n
  unfolding update
  arrives = kvpub-arrives f.head f.uuid f.properties f.value g.key g.payload n h

  pub update-passes : first_refusal (subscriber_port (update n f)) ≡ none
  update-passes = arrives.arrives.passes

  pub update-fields : fields_of (update n f) ≡ kvpub n f.head f.uuid f.properties f.value
  update-fields = arrives.arrives.fields

  pub update-head : frame_at 0 (update n f) ≡ f.head
  update-head = ap (λ (x : Fields). x.head) update-fields

  pub update_not_hugz : same word_hugz (frame_at 0 (update n f)) ≡ false
  update_not_hugz = ap (same word_hugz) update-head ∙ not_hugz f.head g.key

  pub update_is : is_kvpub (update n f) ≡ true
  update_is = passes-kvpub (update n f) update-passes update_not_hugz

  pub update-number : number_of (update n f) ≡ n
  unfolding number_of
  update-number = arrives.sequence

  pub update-key : key_of (update n f) ≡ f.head
  unfolding key_of
  update-key = update-head

  pub update-value : frame_at 4 (update n f) ≡ f.value
  update-value = ap (λ (x : Fields). x.value) update-fields

  pub update-kvpub : kvpub_number (update n f) ≡ some n
  unfolding kvpub_number
  update-kvpub = rw (update_is, update-number)

-- ---- what is no KVPUB has no number
pub unnumbered : (b : Bytes) → is_kvpub b ≡ false → kvpub_number b ≡ none
unfolding kvpub_number
unnumbered b e = rw e

-- ---- HUGZ
pub hugz_not : is_kvpub (bytes_of hugz) ≡ false
unfolding same
hugz_not = passes-hugz (bytes_of hugz) hugz-arrives.passes (ap (λ (x : Fields). same word_hugz x.head) hugz-arrives.fields)

pub hugz-number : kvpub_number (bytes_of hugz) ≡ none
hugz-number = unnumbered (bytes_of hugz) hugz_not

-- ---- bytes were written
-- a frame has its flag octet
begins : (more t : Bool) (body : Bytes) (rest : Bytes) → leb (length body) 255 ≡ t → message (frame more body ++ rest) ≡ some (frame more body ++ rest)
unfolding frame
begins more true body rest e = rw e
begins more false body rest e = rw e

some_bytes : (f : Fields) → message (bytes_of f) ≡ some (bytes_of f)
unfolding bytes_of encode
some_bytes f = begins true (leb (length f.head) 255) f.head (encode f.sequence (f.uuid ∷ f.properties ∷ f.value ∷ [])) refl

pub update-written : (n : ℕ) (f : Fields) → message (update n f) ≡ some (update n f)
unfolding update
update-written n f = some_bytes (kvpub n f.head f.uuid f.properties f.value)

pub hugz-written : message (bytes_of hugz) ≡ some (bytes_of hugz)
hugz-written = some_bytes hugz
