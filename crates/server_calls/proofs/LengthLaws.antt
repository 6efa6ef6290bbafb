-- How long the messages are that a server writes. Each law follows from the one on a message's length, `bytes-length`.
-- Assumes nothing.
use Prim.Native.Nat.{ℕ, ◌≤◌}
use native.Mathlib.Omega.{arith}
use mathlib.Core.List.{[]}
use mathlib.Core.Option.{none}
use mathlib.Core.Path.{◌≡◌, ap}
use lib.ListN.{length, take}
use borrow.Author.Tests.{le-leb, not-false}
use Rattle.base.proofs.CheckLaws.{passed, both_passed}
use Rattle.base.proofs.OctetLaws.{length-octets}
use Rattle.base.specs.Bytes.{Bytes}
use Rattle.base.specs.Checks.{first_refusal}
use Rattle.base.specs.Output.{Written}
use Rattle.messages.proofs.LengthLaws.{kvpub_bound, hugz-bytes}
use Rattle.messages.proofs.WriteLaws.{bytes-length}
use Rattle.messages.specs.Fields.{Fields, bytes_of, kvpub, hugz, message_length}
use Rattle.keys.proofs.UnderLaws.{key-short}
use Rattle.keys.specs.Keys.{is_key}
use Rattle.numbers.specs.Sequences.{sequence}
use Rattle.numbers.specs.declared.sequence.Sequence.{Sequence}
use Rattle.ports.proofs.SizeLaws.{payload_short}
use Rattle.ports.specs.Ports.{payload_checks, kvset_checks}
use Rattle.server_calls.specs.Refusals.{update, expiry}

-- the KVPUB of an update that was asked for
pub update-length : (n : ℕ) (f : Fields) → length (update n f) ≡ message_length (length f.head) (length f.uuid) (length f.properties) (length f.value)
unfolding update
update-length n f = bytes-length (kvpub n f.head f.uuid f.properties f.value) (length-octets 8 n)

-- it is at most 521 bytes long, if its frames are good
pub update_bound : (n : ℕ) (f : Fields) → first_refusal (kvset_checks f) ≡ none → length (update n f) ≤ 521
unfolding update
update_bound n f e =
    let k = key-short f.head (not-false (is_key f.head) (passed 0 (kvset_checks f) e)) in
    let p = payload_short f.uuid f.properties f.value (both_passed (take 2 (kvset_checks f)) (payload_checks f.uuid f.properties f.value) e).1 in
    kvpub_bound n f.head k f.uuid f.properties f.value p.0 p.1.0 p.1.1

-- the KVPUB of a row that expired: at most 114 bytes
module _ (n : ℕ) (key : Bytes) where
  pub expiry-length : length (expiry n key) ≡ message_length (length key) 0 0 0
  unfolding expiry
  expiry-length = bytes-length (kvpub n key [] [] []) (length-octets 8 n)

  pub expiry_bound : length key ≤ 96 → length (expiry n key) ≤ 114
  expiry_bound k =
      let f = le-leb (length key) 255 (omega arith) in
      omega (arith, rw f at expiry-length)

-- a sign of life
pub hugz-length : length (bytes_of hugz) ≡ 22
hugz-length = ap length hugz-bytes

-- ---- an update as it was written, by the parts that it was written from
pub written_as : (n : ℕ) (f : Fields) {out after key uuid properties value : Bytes} {number : Sequence} {i : ℕ} → number ≡ sequence n → key ≡ f.head → uuid ≡ f.uuid
    → properties ≡ f.properties → value ≡ f.value → Written out 0 (bytes_of (kvpub number.0 key uuid properties value)) i after → Written out 0 (update n f) i after
unfolding update
written_as n f number_is key_is uuid-is properties-is value_is w = rw (number_is, key_is, uuid-is, properties-is, value_is) at w

pub expiry_as : (n : ℕ) {out after key read : Bytes} {i : ℕ} → read ≡ key → Written out 0 (bytes_of (kvpub n read [] [] [])) i after → Written out 0 (expiry n key) i after
unfolding expiry
expiry_as n own w = rw own at w
