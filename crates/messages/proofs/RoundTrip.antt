-- What one end writes, the other reads back into the same fields, with the identity frame put on and taken off. Assumes
-- nothing.
use Prim.Native.Nat.{◌<◌}
use native.Mathlib.Omega.{arith}
use mathlib.Core.Bool.{true}
use mathlib.Core.List.{[], ◌∷◌}
use mathlib.Core.Option.{some}
use mathlib.Core.Path.{◌≡◌, refl}
use lib.ListN.{length}
use Rattle.base.specs.Bytes.{Bytes}
use Rattle.frames.proofs.FrameLaws.{frame_begins, rest_read, Sized, round_trip}
use Rattle.frames.specs.Messages.{frames_in, encode, frame_at}
use Rattle.messages.specs.Fields.{Fields, bytes_of, fields_of, icanhaz, with_identity, without_identity}
use Rattle.frame_forms.specs.Words.{word_icanhaz}

-- each frame is short enough for a size
abbrev pub Sizable : Fields → Type 0
Sizable f = Sized (f.head ∷ f.sequence ∷ f.uuid ∷ f.properties ∷ f.value ∷ [])

-- ---- reading what was written gives the frames back, and the fields
pub frames_back : (f : Fields) → Sizable f → frames_in (bytes_of f) ≡ some (f.head ∷ f.sequence ∷ f.uuid ∷ f.properties ∷ f.value ∷ [])
unfolding bytes_of
frames_back f h = round_trip f.head (f.sequence ∷ f.uuid ∷ f.properties ∷ f.value ∷ []) h

pub fields_back : (f : Fields) → Sizable f → fields_of (bytes_of f) ≡ f
unfolding frame_at
fields_back f h = rw (frames_back f h) refl

-- ---- the identity frame, put on and taken off
pub identity_off : (identity msg : Bytes) → length identity < 18446744073709551616 → without_identity (with_identity identity msg) ≡ msg
identity_off identity msg h = rest_read (frame_begins true identity msg h)

pub identity_on : (identity : Bytes) (f : Fields) → length identity < 18446744073709551616 → Sizable f
    → frames_in (with_identity identity (bytes_of f)) ≡ some (identity ∷ f.head ∷ f.sequence ∷ f.uuid ∷ f.properties ∷ f.value ∷ [])
unfolding bytes_of encode
identity_on identity f h k = round_trip identity (f.head ∷ f.sequence ∷ f.uuid ∷ f.properties ∷ f.value ∷ []) (h, k)

-- ---- a snapshot request, as the client writes it and as the server reads it
pub request_back : (subtree : Bytes) → length subtree < 18446744073709551616 → frames_in (icanhaz subtree) ≡ some (word_icanhaz ∷ subtree ∷ [])
request_back subtree h = round_trip word_icanhaz (subtree ∷ []) (omega arith, (h, tt))

pub request-on : (identity subtree : Bytes) → length identity < 18446744073709551616 → length subtree < 18446744073709551616
    → frames_in (with_identity identity (icanhaz subtree)) ≡ some (identity ∷ word_icanhaz ∷ subtree ∷ [])
unfolding encode
request-on identity subtree h k = round_trip identity (word_icanhaz ∷ subtree ∷ []) (h, (omega arith, (k, tt)))
