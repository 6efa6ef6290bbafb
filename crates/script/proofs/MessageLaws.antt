-- Laws of messages that are written as lines: bodies, frames, their lengths and their writing. Assumes nothing.
use Prim.Native.Nat.{ℕ, ◌+◌, min, ◌≤◌}
use native.Mathlib.Omega.{arith}
use mathlib.Core.Bool.{Bool, true, false, cond}
use mathlib.Core.List.{List, [], ◌∷◌, ◌++◌, map, append_assoc}
use mathlib.Core.Path.{◌≡◌, refl, sym, ap, ◌∙◌}
use lib.Dec.{leb}
use lib.ListN.{length, take, drop, length-append, length-take}
use Rattle.base.proofs.CutLaws.{pieces_some}
use Rattle.base.proofs.OctetLaws.{length-octets}
use Rattle.base.proofs.OutputLaws.{put-nothing, wrote, place, output, kept_length, take_put, both}
use Rattle.base.specs.Bytes.{Bytes, ascii, is_nil, prefix, holds}
use Rattle.base.specs.Cuts.{before, behind}
use Rattle.base.specs.Octets.{octets}
use Rattle.base.specs.Output.{largest, Written}
use Rattle.frames.proofs.FrameLaws.{frame-length}
use Rattle.frames.specs.Messages.{frame_length, frame, encode}
use Rattle.script.proofs.LineLaws.{fields-more, fields_last}
use Rattle.script.specs.Lines.{bar, line_fields}
use Rattle.script.specs.Messages.{field_body, encoded, message_of}
use Rattle.script.specs.Numbers.{text_number}
use Rattle.script.specs.Texts.{text_bytes, text_in}

-- ---- bodies
-- a body as it is put, where t is the answer whether the field begins with #
module _ (f : Bytes) {t : Bool} {d : Bytes} {r : ℕ} {o : Bytes} (e : t ≡ prefix (ascii "#") f) where
  pub number_put : {x eight : Bytes} {n : ℕ} → t ≡ true → x ≡ drop 1 f → n ≡ text_number x → eight ≡ octets 8 n → Written d 0 eight r o
      → Written d 0 (field_body f) r o
  unfolding field_body
  number_put h k l m w = rw (← e, h, ← k, ← l, ← m) w

  pub text_put : t ≡ false → length d ≡ 512 → Written d 0 (text_in d f) r o → Written d 0 (field_body f) r o
  unfolding field_body
  text_put h k w = rw (← e, h, ← k) w

body_bound : (f : Bytes) → length (field_body f) ≤ 512
unfolding field_body
body_bound f = go (prefix (ascii "#") f)
  where
    go : (t : Bool) → length (cond t (octets 8 (text_number (drop 1 f))) (take 512 (text_bytes f))) ≤ 512
    go true = omega (arith, length-octets 8 (text_number (drop 1 f)))
    go false = omega (arith, length-take 512 (text_bytes f))

-- a body in an array of 512 bytes
module _ (f : Bytes) {d : Bytes} {n : ℕ} {o : Bytes} (h : length d ≡ 512) (w : Written d 0 (field_body f) n o) where
  room : 0 + length (field_body f) ≤ length d
  room = omega (arith, body_bound f)

  pub put_count : n ≡ length (field_body f)
  put_count = omega (arith, place w room)

  pub put-length : length o ≡ 512
  put-length = kept_length w room ∙ h

  pub put-body : take n o ≡ field_body f
  put-body = rw (place w room, output w room) (take_put d 0 (field_body f) room)

-- the frame of the body that was put
pub sent_body : (more : Bool) (f : Bytes) {x d : Bytes} {at i : ℕ} {o : Bytes} → x ≡ field_body f → Written d at (frame more x) i o
    → Written d at (frame more (field_body f)) i o
sent_body more f e w = rw (← e) w

-- its frame is not so long that the length is cut off
frame-short : (n : ℕ) → n ≤ 512 → min (frame_length n) largest ≡ frame_length n
frame-short n h = go (leb n 255)
  where
    go : (t : Bool) → min (cond t (n + 2) (n + 9)) largest ≡ cond t (n + 2) (n + 9)
    go true = omega arith
    go false = omega arith

pub framed_is : (f : Bytes) {n r : ℕ} → n ≡ length (field_body f) → r ≡ min (frame_length n) largest → r ≡ frame_length (length (field_body f))
framed_is f e g = g ∙ rw e (frame-short (length (field_body f)) (body_bound f))

-- ---- frames
pub message-more : (s : Bytes) → holds bar s ≡ true → message_of s ≡ frame true (field_body (before bar s)) ++ message_of (behind bar s)
unfolding message_of encode
message-more s h = rw (fields-more s h) (go (line_fields (behind bar s)) (pieces_some bar (behind bar s)))
  where
    go : (fs : List Bytes) → is_nil fs ≡ false
        → encode (field_body (before bar s)) (map field_body fs) ≡ frame true (field_body (before bar s)) ++ encoded (map field_body fs)
    go [] e = cc
    go (f ∷ fs) e = refl

pub message_last : (s : Bytes) → holds bar s ≡ false → message_of s ≡ frame false (field_body s)
unfolding message_of encode
message_last s h = rw (fields_last s h)

-- ---- the length of a message; n bytes are of the fields before rest
module _ (line rest : Bytes) (n : ℕ) (h : min (length (message_of line)) largest ≡ min (n + length (message_of rest)) largest) where
  pub length_turn : {f m : ℕ} {b next : Bytes} → holds bar rest ≡ true → b ≡ before bar rest → f ≡ frame_length (length (field_body b))
      → m ≡ min (n + f) largest → next ≡ behind bar rest
      → min (length (message_of line)) largest ≡ min (m + length (message_of next)) largest
  length_turn e b f m next =
      h ∙ rw (message-more rest e, length-append, frame-length, m, f, b, next) (omega arith)

  pub length_done : {f r : ℕ} → holds bar rest ≡ false → f ≡ frame_length (length (field_body rest)) → r ≡ min (n + f) largest
      → r ≡ min (length (message_of line)) largest
  length_done e f g = sym (h ∙ rw (message_last rest e, frame-length, ← f) (sym g))

-- ---- a message written into the output d, which is now o: its first at bytes are the frames of the fields before rest
pub record Sending (line d rest : Bytes) (at : ℕ) (o : Bytes) : Type 0 where
  pub sent : Bytes
  pub all : message_of line ≡ sent ++ message_of rest
  pub written : Written d 0 sent at o

pub send_begin : (line d : Bytes) → Sending line d line 0 d
send_begin line d = record { sent = []; all = refl; written = wrote (omega arith) refl (sym (put-nothing d)) }

module _ {line d rest : Bytes} {at : ℕ} {o : Bytes} (h : length (message_of line) ≤ length d) (c : Sending line d rest at o) where
  pub send_turn : {j : ℕ} {p b next : Bytes} → holds bar rest ≡ true → b ≡ before bar rest → Written o at (frame true (field_body b)) j p
      → next ≡ behind bar rest → Sending line d next j p
  send_turn {j} {p} {b} {next} e f w g =
      let fr = frame true (field_body b) in
      let a : message_of line ≡ (c.sent ++ fr) ++ message_of next =
      c.all ∙ rw (message-more rest e, ← f, ← g) (sym (append_assoc c.sent fr (message_of next))) in
      record {
        sent = c.sent ++ fr;
        all = a;
        written = both c.written fr (omega (arith, ap length a, length-append (c.sent ++ fr) (message_of next))) w;
      }

  pub send_done : {j : ℕ} {p : Bytes} → holds bar rest ≡ false → Written o at (frame false (field_body rest)) j p
      → Written d 0 (message_of line) j p
  send_done {j} {p} e w =
      let a : message_of line ≡ c.sent ++ frame false (field_body rest) = c.all ∙ rw (message_last rest e) in
      rw a (both c.written (frame false (field_body rest)) (omega (arith, ap length a)) w)
