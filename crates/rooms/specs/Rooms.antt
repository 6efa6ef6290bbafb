-- How much room is enough for the messages of a port.
use Rattle.std.specs.Prelude.{ℕ, ◌≤◌, Bool, true, false, List, ◌≡◌}
use Rattle.std.proofs.Math.Option.{some}
use Rattle.answers.specs.declared.refusal.Refusal.TheVariants.{Framing}
use Rattle.answers.specs.declared.refusal.Refusal.{Refusal}
use Rattle.base.specs.Bytes.{Bytes}
use Rattle.base.specs.Checks.{Check, first_refusal}
use Rattle.base.specs.Logs.{Log}
use Rattle.base.specs.Output.{largest}
use Rattle.keys.specs.Keys.{is_subtree}
use Rattle.parts.specs.Build.{Part, as_frames, Bounded, holdable, held_in, Ran}
use Rattle.parts.specs.declared.build.Built.{Built}
use Rattle.ports.specs.Ports.{is_none, kvset_port, icanhaz_port, snapshot_port, subscriber_port}

-- whether a port takes a message
abbrev pub takes : List (Check Refusal) → Bool
takes checks = is_none (first_refusal checks)

-- Parts are put into a buffer of so many bytes, and what was built is handed to a port.
module _ (port : Bytes → List (Check Refusal)) (room : ℕ) where
  pub record Handed (ps : Log Part) (d : Bytes) (b : Built) : Type 0 where
    -- what the port takes are the parts themselves, and nothing else
    pub own : takes (port (held_in d b)) ≡ true → held_in d b ≡ as_frames ps
    -- parts that are no message, or too long for the buffer, are refused as broken framing, whatever else is wrong
    pub broken : holdable room ps ≡ false → first_refusal (port (held_in d b)) ≡ some Framing

  -- so much room is enough: the port takes what was built exactly if it takes the parts as they are
  pub record Enough (most : ℕ) (ps : Log Part) (d : Bytes) (b : Built) : Type 0 where
    pub handed : Handed ps d b
    pub same : most ≤ room → takes (port (held_in d b)) ≡ takes (port (as_frames ps))

-- the most bytes that a message takes which a port accepts
abbrev pub update_room : ℕ
update_room = 521

abbrev pub request_room : ℕ
request_room = 365

abbrev pub snapshot_room : ℕ
snapshot_room = 377

pub record Rooms (room : ℕ) (ps : Log Part) (d : Bytes) (b : Built) : Type 0 where
  pub kvset : Enough kvset_port room update_room ps d b
  pub subscriber : Enough subscriber_port room update_room ps d b
  pub icanhaz : Enough icanhaz_port room request_room ps d b
  pub snapshot : (subtree : Bytes) → is_subtree subtree ≡ true → Enough (snapshot_port subtree) room snapshot_room ps d b

-- of any parts and any buffer
abbrev pub AllRooms : Type 0
AllRooms =
    (room : ℕ) (ps : Log Part) (d : Bytes) (b : Built) → room ≤ largest → Bounded ps → Ran room ps d b → Rooms room ps d b
