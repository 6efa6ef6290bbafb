-- A message as it is handed on inside: its framing, and its fields by the places of their frames.
use Rattle.std.specs.Prelude
use Rattle.std.specs.Prelude.{ℕ, Bool, true, false, not, List, [], ◌∷◌, ◌++◌, eqb, Some, None, Result, Ok, Err}
use Rattle.std.proofs.Math.Option.{Option, none, some}
use Rattle.answers.specs.declared.refusal.Refusal.TheVariants.{Framing as FramingRefused, FrameCount}
use Rattle.answers.specs.declared.refusal.Refusal.{Refusal}
use Rattle.base.specs.Bytes.{Bytes}
use Rattle.base.specs.Checks.Check.{when}
use Rattle.base.specs.Checks.{Check}
use Rattle.framing.specs.Splits.{body_in}
use Rattle.framing.specs.declared.Flaw.{Flaw}
use Rattle.framing.specs.declared.Places.{Places}
use Rattle.framing.specs.declared.Split.{Split}
use Rattle.messages.specs.Fields.{Fields, fields}
use Rattle.ports.specs.Ports.{kvset_checks, icanhaz_checks, snapshot_checks, published_checks}
use Rattle.properties.specs.Properties.{properties_of}
use Rattle.properties.specs.declared.read.Lifetime.TheVariants.{Unlimited}
use Rattle.properties.specs.declared.read.Lifetime.{Lifetime}

-- ---- the framing
abbrev pub is_sound : Result ℕ Flaw → Bool
is_sound (Ok n) = true
is_sound (Err flaw) = false

-- how many frames there are; none where the framing is unsound
abbrev pub count_of : Result ℕ Flaw → ℕ
count_of (Ok n) = n
count_of (Err flaw) = 0

-- the checks `framed` of a message, by its framing
abbrev pub framed_by : ℕ → Result ℕ Flaw → List (Check Refusal)
framed_by n framing =
    when (not (is_sound framing)) FramingRefused
    ∷ when (not (eqb (count_of framing) n)) FrameCount
    ∷ []

-- ---- the fields
abbrev pub fields_at : Bytes → Places → Fields
fields_at msg p = fields (body_in msg p 0) (body_in msg p 1) (body_in msg p 2) (body_in msg p 3) (body_in msg p 4)

-- ---- what each port refuses, by the split of a message
abbrev pub kvset_by : Bytes → Split → List (Check Refusal)
kvset_by msg r = framed_by 5 r.framing ++ kvset_checks (fields_at msg r.places)

abbrev pub icanhaz_by : Bytes → Split → List (Check Refusal)
icanhaz_by msg r = framed_by 3 r.framing ++ icanhaz_checks (body_in msg r.places 0) (body_in msg r.places 1) (body_in msg r.places 2)

abbrev pub snapshot_by : Bytes → Bytes → Split → List (Check Refusal)
snapshot_by subtree msg r = framed_by 5 r.framing ++ snapshot_checks subtree (fields_at msg r.places)

abbrev pub subscriber_by : Bytes → Split → List (Check Refusal)
subscriber_by msg r = framed_by 5 r.framing ++ published_checks (fields_at msg r.places)

-- ---- an update that passes its checks, with the lifetime that its properties give
abbrev pub lifetime_in : Prelude.Option Lifetime → Lifetime
lifetime_in (Some lifetime) = lifetime
lifetime_in None = Unlimited

unfoldable pub update_of : Bytes → Option Refusal → Result Lifetime Refusal
update_of properties none = Ok (lifetime_in (properties_of properties))
update_of properties (some r) = Err r
