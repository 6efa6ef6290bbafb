-- A message built from parts that a socket delivers one by one, in a buffer of some length.
use Rattle.std.specs.Prelude.{ℕ, ◌+◌, ◌≤◌, Bool, true, false, cond, not, ◌&&◌, List, [], ◌∷◌, ◌++◌, ◌≡◌, leb, length, take}
use Rattle.std.proofs.Math.Option.{none, some}
use Rattle.base.specs.Bytes.{Bytes}
use Rattle.base.specs.Logs.Log.{empty, ◌▷◌}
use Rattle.base.specs.Logs.{Log}
use Rattle.base.specs.Output.{largest, put, fits}
use Rattle.frames.specs.Messages.{frames_in, frame}
use Rattle.parts.specs.declared.build.Built.TheVariants.{Open, Whole, Void}
use Rattle.parts.specs.declared.build.Built.{Built}

-- a part as it arrives: its bytes, and whether another one follows
pub record Part : Type 0 where
  pub more : Bool
  pub body : Bytes

abbrev pub part_of : Bool → Bytes → Part
part_of more body = record { more = more; body = body }

-- ---- parts that have arrived, the newest last
unfoldable pub bodies : Log Part → List Bytes
bodies empty = []
bodies (ps ▷ p) = bodies ps ++ (p.body ∷ [])

-- the parts as frames
unfoldable pub as_frames : Log Part → Bytes
as_frames empty = []
as_frames (ps ▷ p) = as_frames ps ++ frame p.more p.body

-- whether each of them promises another
unfoldable pub promising : Log Part → Bool
promising empty = true
promising (ps ▷ p) = promising ps && p.more

-- whether they are a message: the last one promises none, and all before it do
abbrev pub complete : Log Part → Bool
complete empty = false
complete (ps ▷ p) = promising ps && not p.more

-- none is longer than a number of a machine word says
abbrev pub Bounded : Log Part → Type 0
Bounded empty = Unit {0}
Bounded (ps ▷ p) = Bounded ps × (length p.body ≤ largest)

-- whether they are a message that so many bytes have room for
abbrev pub holdable : ℕ → Log Part → Bool
holdable room ps = complete ps && leb (length (as_frames ps)) room

-- ---- one part more
-- the part p is written from place n on, if the buffer d has room for its frame
abbrev pub grown : Bool → ℕ → Built
grown true n = Open n
grown false n = Whole n

abbrev pub built_with : Bytes → Built → Part → Built
built_with d (Open n) p =
    cond (fits d n (frame p.more p.body)) (grown p.more (n + length (frame p.more p.body))) Void
built_with d (Whole n) p = Void
built_with d Void p = Void

abbrev pub buffer_with : Bytes → Built → Part → Bytes
buffer_with d (Open n) p = cond (fits d n (frame p.more p.body)) (put d n (frame p.more p.body)) d
buffer_with d (Whole n) p = d
buffer_with d Void p = d

pub record Put (d : Bytes) (b : Built) (p : Part) (b' : Built) (d' : Bytes) : Type 0 where
  pub built : b' ≡ built_with d b p
  pub buffer : d' ≡ buffer_with d b p

-- ---- all parts
-- the message in its buffer: what a port is handed. A void one has no bytes
abbrev pub length_of : Built → ℕ
length_of (Open n) = n
length_of (Whole n) = n
length_of Void = 0

abbrev pub held_in : Bytes → Built → Bytes
held_in d b = take (length_of b) d

-- parts are put one after another into a buffer of so many bytes, which then holds d, and is built so far
pub data Ran (room : ℕ) : Log Part → Bytes → Built → Type 0 where
  begun : (d : Bytes) → length d ≡ room → Ran room empty d (Open 0)
  added : (ps : Log Part) (d : Bytes) (b : Built) (p : Part) (d' : Bytes) (b' : Built)
      → Ran room ps d b → Put d b p b' d' → Ran room (ps ▷ p) d' b'

-- What was built reads back as exactly the parts, if they are a message that the buffer has room for. If not, it reads as
-- broken framing.
pub record ReadsBack (room : ℕ) (ps : Log Part) (d : Bytes) (b : Built) : Type 0 where
  pub frames : frames_in (held_in d b) ≡ cond (holdable room ps) (some (bodies ps)) none
  pub bytes : holdable room ps ≡ true → held_in d b ≡ as_frames ps
