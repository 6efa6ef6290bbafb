-- How long messages are. Each law follows from the one on a message's length, `bytes-length`. Assumes nothing.
use Prim.Native.Nat.{ℕ, ◌+◌, ◌≤◌}
use native.Mathlib.Omega.{arith}
use mathlib.Core.Bool.{Bool, true, false, cond}
use mathlib.Core.List.{[], ◌∷◌}
use mathlib.Core.Path.{◌≡◌, refl}
use lib.Dec.{leb}
use lib.ListN.{length, length-append}
use borrow.Author.Tests.{leb-true, le-leb}
use Rattle.base.proofs.OctetLaws.{length-octets}
use Rattle.base.specs.Bytes.{Bytes}
use Rattle.base.specs.Octets.{octets}
use Rattle.frames.proofs.FrameLaws.{frame-length}
use Rattle.frames.specs.Messages.{frame_length, frame, encode}
use Rattle.messages.proofs.WriteLaws.{bytes-length}
use Rattle.messages.specs.Fields.{bytes_of, message_length, kvpub, kvsync, kthxbai, hugz, identity_frame, with_identity}

-- a frame is at most so long
pub short-frame : (n most : ℕ) → n ≤ most → most ≤ 255 → frame_length n ≤ most + 2
short-frame n most h k = rw (le-leb n 255 (omega arith)) (omega arith)

pub value_frame : (n : ℕ) → n ≤ 256 → frame_length n ≤ 265
value_frame n h = go (leb n 255) refl
  where
    go : (t : Bool) → leb n 255 ≡ t → cond t (n + 2) (n + 9) ≤ 265
    go true e = omega (arith, leb-true n 255 e)
    go false e = omega arith

module _ (n : ℕ) (key : Bytes) (k : length key ≤ 96) where
  -- KVPUB: the sum of its frames, and at most 521 bytes
  module _ (uuid properties value : Bytes) where
    pub kvpub-length : length (bytes_of (kvpub n key uuid properties value)) ≡ message_length (length key) (length uuid) (length properties) (length value)
    kvpub-length = bytes-length (kvpub n key uuid properties value) (length-octets 8 n)

    pub kvpub_bound : length uuid ≤ 16 → length properties ≤ 128 → length value ≤ 256 → length (bytes_of (kvpub n key uuid properties value)) ≤ 521
    kvpub_bound u p v =
        omega
        (arith, kvpub-length, short-frame (length key) 96 k (omega arith), short-frame (length uuid) 16 u (omega arith), short-frame (length properties) 128 p (omega arith), value_frame (length value) v)

  -- a row of a snapshot behind its identity: at most 634 bytes
  pub kvsync_bound : (identity value : Bytes) → length identity ≤ 255 → length value ≤ 256 → length (with_identity identity (bytes_of (kvsync n key value))) ≤ 634
  kvsync_bound identity value i v =
      omega
      (arith, length-append (identity_frame identity) (bytes_of (kvsync n key value)), frame-length true identity, short-frame (length identity) 255 i (omega arith), bytes-length (kvsync n key value) (length-octets 8 n), short-frame (length key) 96 k (omega arith), value_frame (length value) v)

-- the end of a snapshot behind its identity: at most 282 bytes and the subtree's. That is 378 for the longest subtree, and 377 for the
-- longest that a key can be under
pub kthxbai_bound : (n : ℕ) (identity subtree : Bytes) → length identity ≤ 255 → length subtree ≤ 96
    → length (with_identity identity (bytes_of (kthxbai n subtree))) ≤ length subtree + 282
kthxbai_bound n identity subtree i s =
    omega
    (arith, length-append (identity_frame identity) (bytes_of (kthxbai n subtree)), frame-length true identity, short-frame (length identity) 255 i (omega arith), bytes-length (kthxbai n subtree) (length-octets 8 n), short-frame (length subtree) (length subtree) (omega arith) (omega arith))

-- HUGZ is these 22 bytes
pub hugz-bytes : bytes_of hugz
    ≡ 0x01 ∷ 0x04 ∷ 0x48 ∷ 0x55 ∷ 0x47 ∷ 0x5A ∷ 0x01 ∷ 0x08 ∷ 0 ∷ 0 ∷ 0 ∷ 0 ∷ 0 ∷ 0 ∷ 0 ∷ 0 ∷ 0x01 ∷ 0x00 ∷ 0x01 ∷ 0x00 ∷ 0x00 ∷ 0x00 ∷ []
unfolding bytes_of encode frame octets
hugz-bytes = refl
