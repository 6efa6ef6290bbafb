-- A message as the list of its frames' bodies. Each frame but the last promises another, and nothing stands behind the
-- last.
use Rattle.std.specs.Prelude.{ℕ, zero, suc, ◌+◌, Bool, true, false, cond, List, [], ◌∷◌, ◌++◌, leb, length, get_or, take, drop, Some, None}
use Rattle.std.proofs.Math.Option
use Rattle.std.proofs.Math.Option.{Option, none, some, map}
use Rattle.base.specs.Bytes.{Bytes}
use Rattle.base.specs.Octets.{octets}
use Rattle.frames.specs.Steps.{Step, step_of}

-- ---- reading
-- the body that a step names, and the bytes behind it
abbrev pub body_of : Bytes → Step → Bytes
body_of s None = []
body_of s (Some f) = take f.len (drop f.start s)

abbrev pub rest_of : Bytes → Step → Bytes
rest_of s None = []
rest_of s (Some f) = drop f.len (drop f.start s)

-- the last frame ends the message
abbrev pub last : Bytes → Bytes → Option (List Bytes)
last body [] = some (body ∷ [])
last body (_ ∷ _) = none

-- the frames of a message that begins with a step, what is behind it being read by rest
abbrev pub through : (Bytes → Option (List Bytes)) → Bytes → Step → Option (List Bytes)
through rest s None = none
through rest s (Some f) =
    cond f.more
    (map (λ (bodies : List Bytes). take f.len (drop f.start s) ∷ bodies) (rest (drop f.len (drop f.start s))))
    (last (take f.len (drop f.start s)) (drop f.len (drop f.start s)))

-- at most n frames
unfoldable pub read_up_to : ℕ → Bytes → Option (List Bytes)
read_up_to zero s = none
read_up_to (suc n) s = through (read_up_to n) s (step_of s)

-- the bodies of a message's frames; none where the framing is broken. No message has more frames than bytes
unfoldable pub frames_in : Bytes → Option (List Bytes)
frames_in s = read_up_to (length s) s

-- the frames of a message; none where its framing is broken
abbrev pub parts_of : Bytes → List Bytes
parts_of msg = Option.get_or (frames_in msg) []

unfoldable pub frame_at : ℕ → Bytes → Bytes
frame_at k msg = get_or (parts_of msg) k []

-- ---- writing
abbrev pub flag_of : Bool → Bool → ℕ
flag_of false false = 0
flag_of true false = 1
flag_of false true = 2
flag_of true true = 3

-- the flag octet and the size: one octet up to 255 bytes and eight above
abbrev pub header : Bool → ℕ → Bytes
header more n = cond (leb n 255) (flag_of more false ∷ n ∷ []) (flag_of more true ∷ octets 8 n)

-- how many bytes a frame takes whose body is n bytes long
abbrev pub frame_length : ℕ → ℕ
frame_length n = cond (leb n 255) (n + 2) (n + 9)

unfoldable pub frame : Bool → Bytes → Bytes
frame more body = header more (length body) ++ body

-- the message of a first body and the others
unfoldable pub encode : Bytes → List Bytes → Bytes
encode body [] = frame false body
encode body (next ∷ bodies) = frame true body ++ encode next bodies
