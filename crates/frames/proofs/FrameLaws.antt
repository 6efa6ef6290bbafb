-- Laws of written frames and messages: how long they are, and that they are read back. Assumes nothing.
use Prim.Native.Nat.{ℕ, ◌+◌, min, ◌≤◌, ◌<◌}
use native.Mathlib.Omega.{arith}
use mathlib.Core.Bool.{Bool, true, false, cond}
use mathlib.Core.List.{List, [], ◌∷◌, ◌++◌, append_assoc, append-nil}
use mathlib.Core.Option.{some, map}
use mathlib.Core.Path.{◌≡◌, sym, ap, ◌∙◌}
use lib.Dec.{leb}
use lib.ListN.{length, take, drop, length-append}
use lib.Seq.{take-append_seam, drop-append_seam, take_at, drop_at}
use borrow.Author.Tests.{le-leb}
use Rattle.base.proofs.OctetLaws.{length-octets, number-octets}
use Rattle.base.proofs.OutputLaws.{clamped_room}
use Rattle.base.specs.Bytes.{Bytes}
use Rattle.base.specs.Octets.{octets}
use Rattle.base.specs.Output.{largest}
use Rattle.frames.proofs.MessageLaws.{frames_step}
use Rattle.frames.specs.Messages.{body_of, rest_of, frames_in, flag_of, frame_length, frame, encode}
use Rattle.frames.specs.Steps.{found, short_of, long_of, flagged, step_of}

-- ---- lengths, once over the length of the body
pub frame-length : (more : Bool) (b : Bytes) → length (frame more b) ≡ frame_length (length b)
unfolding frame
frame-length more b = go (leb (length b) 255)
  where
    go : (t : Bool) → length (cond t (flag_of more false ∷ length b ∷ []) (flag_of more true ∷ octets 8 (length b)) ++ b) ≡ cond t (length b + 2) (length b + 9)
    go true = omega arith
    go false = omega (arith, length-append (octets 8 (length b)) b, length-octets 8 (length b))

-- whether a frame fits, asked with its clamped length
pub frame-room : {r : Bool} (n at k : ℕ) (more : Bool) (b : Bytes) → n < largest → k ≡ min (frame_length (length b)) largest → r ≡ leb (at + k) n
    → r ≡ leb (at + length (frame more b)) n
frame-room n at k more b h e f = f ∙ rw (e, frame-length more b) (clamped_room n at (frame_length (length b)) h)

-- ---- what is written is read back
step_short : (more : Bool) (n : ℕ) (s : Bytes) → n ≤ length s → step_of (flag_of more false ∷ n ∷ s) ≡ found 2 n more
unfolding step_of flagged short_of
step_short true n s h = rw (le-leb n (length s) h)
step_short false n s h = rw (le-leb n (length s) h)

long_is : (more : Bool) (n : ℕ) (s : Bytes) → n < 18446744073709551616 → n ≤ length s → long_of more (octets 8 n ++ s) ≡ found 9 n more
unfolding long_of
long_is more n s k h =
    rw
    (le-leb 8 (length (octets 8 n ++ s)) (omega (arith, length-append (octets 8 n) s, length-octets 8 n)), take_at (octets 8 n) s 8 (length-octets 8 n), drop_at (octets 8 n) s 8 (length-octets 8 n), number-octets 8 n k, le-leb n (length s) h)

step_long : (more : Bool) (n : ℕ) (s : Bytes) → n < 18446744073709551616 → n ≤ length s → step_of (flag_of more true ∷ octets 8 n ++ s) ≡ found 9 n more
unfolding step_of flagged
step_long true n s k h = long_is true n s k h
step_long false n s k h = long_is false n s k h

-- some bytes begin with a frame of the body b, and rest stands behind it
pub record Begins (s : Bytes) (more : Bool) (b rest : Bytes) : Type 0 where
  pub start : ℕ
  pub step : step_of s ≡ found start (length b) more
  pub body : take (length b) (drop start s) ≡ b
  pub after : drop (length b) (drop start s) ≡ rest

module _ (more : Bool) (b rest : Bytes) where
  fits : length b ≤ length (b ++ rest)
  fits = omega (arith, length-append b rest)

  pub short_begins : Begins ((flag_of more false ∷ length b ∷ b) ++ rest) more b rest
  short_begins =
      record { start = 2; step = step_short more (length b) (b ++ rest) fits; body = take-append_seam b rest; after = drop-append_seam b rest }

  behind_size : drop 8 (octets 8 (length b) ++ (b ++ rest)) ≡ b ++ rest
  behind_size = drop_at (octets 8 (length b)) (b ++ rest) 8 (length-octets 8 (length b))

  pub long_begins : length b < 18446744073709551616 → Begins ((flag_of more true ∷ octets 8 (length b) ++ b) ++ rest) more b rest
  long_begins h =
      rw (append_assoc (octets 8 (length b)) b rest)
      (record {
        start = 9;
        step = step_long more (length b) (b ++ rest) h fits;
        body = rw behind_size (take-append_seam b rest);
        after = rw behind_size (drop-append_seam b rest);
      })

  pub frame_begins : length b < 18446744073709551616 → Begins (frame more b ++ rest) more b rest
  unfolding frame
  frame_begins h = go (leb (length b) 255)
    where
      go : (t : Bool) → Begins ((cond t (flag_of more false ∷ length b ∷ []) (flag_of more true ∷ octets 8 (length b)) ++ b) ++ rest) more b rest
      go true = short_begins
      go false = long_begins h

module _ {s : Bytes} {more : Bool} {b rest : Bytes} (h : Begins s more b rest) where
  pub body_read : body_of s (step_of s) ≡ b
  body_read = rw h.step h.body

  pub rest_read : rest_of s (step_of s) ≡ rest
  rest_read = rw h.step h.after

-- ---- a whole message
pub last_read : (s b : Bytes) → Begins s false b [] → frames_in s ≡ some (b ∷ [])
last_read s b h = frames_step s ∙ rw (h.step, h.body, h.after)

pub more_read : (s b rest : Bytes) → Begins s true b rest → frames_in s ≡ map (λ (bodies : List Bytes). b ∷ bodies) (frames_in rest)
more_read s b rest h = frames_step s ∙ rw (h.step, h.body, h.after)

-- each body is short enough for a size
abbrev pub Sized : List Bytes → Type 0
Sized [] = Unit {0}
Sized (b ∷ bs) = (length b < 18446744073709551616) × Sized bs

pub round_trip : (b : Bytes) (bs : List Bytes) → Sized (b ∷ bs) → frames_in (encode b bs) ≡ some (b ∷ bs)
unfolding encode
round_trip b [] h = rw (sym (append-nil (frame false b))) (last_read (frame false b ++ []) b (frame_begins false b [] h.0))
round_trip b (c ∷ cs) h =
    more_read (frame true b ++ encode c cs) b (encode c cs) (frame_begins true b (encode c cs) h.0)
    ∙ ap (map (λ (bodies : List Bytes). b ∷ bodies)) (round_trip c cs h.1)
