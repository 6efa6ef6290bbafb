-- Laws of written messages: their frames one behind the other, how long they are, and that they are read back. Assumes nothing.
use Prim.Native.Nat.{ℕ, ◌+◌, min, ◌≤◌, ◌<◌}
use native.Mathlib.Omega.{arith}
use mathlib.Core.Bool.{Bool, true, false}
use mathlib.Core.List.{◌++◌, append_assoc}
use mathlib.Core.Path.{◌≡◌, refl, ap, ◌∙◌}
use lib.Dec.{leb}
use lib.ListN.{length, length-append}
use Rattle.base.proofs.OutputLaws.{clamped_room, clamped_sum, both}
use Rattle.base.specs.Bytes.{Bytes}
use Rattle.base.specs.Output.{largest, Written}
use Rattle.frames.proofs.FrameLaws.{frame-length}
use Rattle.frames.specs.Messages.{frame_length, frame, encode}
use Rattle.messages.specs.Fields.{Fields, fields, bytes_of, message_length, icanhaz}
use Rattle.frame_forms.specs.Words.{word_icanhaz}

-- ---- five frames, one behind the other
module _ (a b c d e : Bytes) where
  abbrev pub frames2 : Bytes
  frames2 = frame true a ++ frame true b

  abbrev pub frames3 : Bytes
  frames3 = frames2 ++ frame true c

  abbrev pub frames4 : Bytes
  frames4 = frames3 ++ frame true d

  abbrev pub frames5 : Bytes
  frames5 = frames4 ++ frame false e

  pub five_frames : bytes_of (fields a b c d e) ≡ frames5
  unfolding bytes_of encode
  five_frames = simp append_assoc

  pub five_length : length (bytes_of (fields a b c d e)) ≡ frame_length (length a) + frame_length (length b) + frame_length (length c) + frame_length (length d) + frame_length (length e)
  five_length = ap length five_frames ∙ simp (length-append, frame-length)

-- a message's length, once over the lengths of its bodies
pub bytes-length : (f : Fields) → length f.sequence ≡ 8
    → length (bytes_of f) ≡ message_length (length f.head) (length f.uuid) (length f.properties) (length f.value)
bytes-length f h = five_length f.head f.sequence f.uuid f.properties f.value ∙ rw h

-- whether a message fits, asked with its clamped length
pub message-room : {r : Bool} (n at k : ℕ) (f : Fields) → n < largest → length f.sequence ≡ 8
    → k ≡ min (message_length (length f.head) (length f.uuid) (length f.properties) (length f.value)) largest → r ≡ leb (at + k) n
    → r ≡ leb (at + length (bytes_of f)) n
message-room n at k f h l e g =
    g ∙ rw (e, bytes-length f l) (clamped_room n at (message_length (length f.head) (length f.uuid) (length f.properties) (length f.value)) h)

-- what fits whole fits up to any place
pub fits_front : (at n : ℕ) (xs ys : Bytes) → at + length (xs ++ ys) ≤ n → at + length xs ≤ n
fits_front at n xs ys h = omega (arith, length-append xs ys)

-- five writers one behind the other write the message
pub five_written : (a b c d e : Bytes) {out : Bytes} {at : ℕ} → at + length (bytes_of (fields a b c d e)) ≤ length out
    → {i : ℕ} {o : Bytes} → Written out at (frame true a) i o
    → {j : ℕ} {p : Bytes} → Written o i (frame true b) j p
    → {k : ℕ} {q : Bytes} → Written p j (frame true c) k q
    → {l : ℕ} {r : Bytes} → Written q k (frame true d) l r
    → {m : ℕ} {s : Bytes} → Written r l (frame false e) m s
    → Written out at (bytes_of (fields a b c d e)) m s
five_written a b c d e {out} {at} h u v w x y =
    let fits5 : at + length (frames5 a b c d e) ≤ length out = rw (five_frames a b c d e) at h in
    let fits4 = fits_front at (length out) (frames4 a b c d e) (frame false e) fits5 in
    let fits3 = fits_front at (length out) (frames3 a b c d e) (frame true d) fits4 in
    let fits2 = fits_front at (length out) (frames2 a b c d e) (frame true c) fits3 in
    rw (five_frames a b c d e)
    (both (both (both (both u (frame true b) fits2 v) (frame true c) fits3 w) (frame true d) fits4 x) (frame false e) fits5 y)

-- ---- a snapshot request
pub icanhaz-frames : (subtree : Bytes) → icanhaz subtree ≡ frame true word_icanhaz ++ frame false subtree
unfolding encode
icanhaz-frames subtree = refl

pub icanhaz-length : (subtree : Bytes) → length (icanhaz subtree) ≡ 10 + frame_length (length subtree)
icanhaz-length subtree = ap length (icanhaz-frames subtree) ∙ simp (length-append, frame-length)

pub icanhaz-room : {r : Bool} (n at j k : ℕ) (subtree : Bytes) → n < largest → j ≡ min (frame_length (length subtree)) largest → k ≡ min (10 + j) largest
    → r ≡ leb (at + k) n → r ≡ leb (at + length (icanhaz subtree)) n
icanhaz-room n at j k subtree h e f g =
    g ∙ rw (clamped_sum 10 (frame_length (length subtree)) refl e f, icanhaz-length subtree) (clamped_room n at (10 + frame_length (length subtree)) h)

pub icanhaz-written : (subtree : Bytes) {out : Bytes} {at : ℕ} → at + length (icanhaz subtree) ≤ length out
    → {i : ℕ} {o : Bytes} → Written out at (frame true word_icanhaz) i o
    → {j : ℕ} {p : Bytes} → Written o i (frame false subtree) j p
    → Written out at (icanhaz subtree) j p
icanhaz-written subtree {out} {at} h u v =
    rw (icanhaz-frames subtree) (both u (frame false subtree) (rw (icanhaz-frames subtree) at h) v)
