-- The framing rules as a grammar. That `frames_in` of `Messages` reads it, and nothing else, is proved in proofs/FrameGrammar.
use Rattle.std.specs.Prelude.{◌^◌, ◌≤◌, ◌<◌, Bool, true, false, List, [], ◌∷◌, ◌++◌, length}
use Rattle.base.specs.Bytes.{Bytes}
use Rattle.base.specs.Octets.{octets}
use Rattle.frames.specs.Messages.{flag_of}

-- the bytes of a frame: the flag octet, the size in one octet or in eight, the body
pub data IsFrame (more : Bool) (body : Bytes) : Bytes → Type 0 where
  short : length body ≤ 255 → IsFrame more body (flag_of more false ∷ length body ∷ body)
  long : length body < 2 ^ 64 → IsFrame more body (flag_of more true ∷ octets 8 (length body) ++ body)

-- frames that each promise another, and behind them a last one that promises none
pub data IsMessage : List Bytes → Bytes → Type 0 where
  final : (body s : Bytes) → IsFrame false body s → IsMessage (body ∷ []) s
  further : (body : Bytes) (bodies : List Bytes) (s t : Bytes) → IsFrame true body s → IsMessage bodies t → IsMessage (body ∷ bodies) (s ++ t)
