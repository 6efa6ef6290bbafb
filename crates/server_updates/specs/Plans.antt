-- What a KVSET is found to come to before it is done: its refusal, or the change of a row, the header after it, and the
-- stamps of a row that is set.
use Rattle.std.specs.Prelude.{ℕ, suc, ◌+◌, ◌*◌, ◌≤◌, List, ◌++◌, ◌≡◌, Result, Ok, Err}
use Rattle.std.proofs.Math.Option.{Option, none, some}
use Rattle.answers.specs.declared.refusal.Refusal.{Refusal}
use Rattle.base.specs.Bytes.{Bytes, is_nil}
use Rattle.base.specs.Checks.{Check, first_refusal}
use Rattle.framing.specs.declared.Split.{Split}
use Rattle.messages.specs.Fields.{Fields}
use Rattle.numbers.specs.Sequences.{sequence, max_sequence}
use Rattle.numbers.specs.Ticks.{tick, max_tick}
use Rattle.ports.specs.Bodies.{fields_at, kvset_by, lifetime_in}
use Rattle.ports.specs.Ports.{kvset_checks, tick_checks}
use Rattle.properties.specs.Properties.{properties_of, seconds_of}
use Rattle.properties.specs.declared.read.Lifetime.TheVariants.{Unlimited, Seconds}
use Rattle.properties.specs.declared.read.Lifetime.{Lifetime}
use Rattle.row_cells.specs.Faults.{GoodRows}
use Rattle.row_change.specs.Changes.{count_after}
use Rattle.row_change.specs.declared.Change.{Change}
use Rattle.row_search.specs.Places.{place_of, is_found, change_to}
use Rattle.server_calls.specs.Refusals.{store_checks}
use Rattle.server_updates.specs.declared.Plan.{Plan}
use Rattle.server_state.specs.IllFormed.{ill_forms}
use Rattle.server_state.specs.Stamps.{never}
use Rattle.server_state.specs.Views.{key_list}
use Rattle.server_state.specs.declared.Header.{Header}
use Rattle.server_state.specs.declared.Server.{Server}
use Rattle.server_state.specs.declared.stamps.Stamps.{Stamps}

-- the expiry of a row that is set at tick t with a lifetime
abbrev pub expiry_from : ℕ → Lifetime → ℕ
expiry_from t Unlimited = never
expiry_from t (Seconds n) = t + 1000 * n

-- of a state's keys and the frames: the change
abbrev pub change_by : List Bytes → Fields → Change
change_by keys f = change_to (is_nil f.value) (place_of 0 f.head keys)

-- the header after a change at tick t, under the next number
abbrev pub header_after : Header → Change → ℕ → Header
header_after h change t =
    record { number = sequence (suc h.number.0); last_tick = tick t; last_published = tick t; count = count_after change h.count }

-- what a row is stamped with that is set under number n, at tick t
abbrev pub stamps_for : ℕ → ℕ → Lifetime → Stamps
stamps_for n t lifetime = record { number = sequence n; expiry = tick (expiry_from t lifetime) }

-- what is to be done
abbrev pub planned : List Bytes → Header → Fields → ℕ → Lifetime → Plan
planned keys h f t lifetime =
    record { change = change_by keys f; after = header_after h (change_by keys f) t; row = stamps_for (suc h.number.0) t lifetime }

-- a refusal, or that
abbrev pub store_plan : Option Refusal → List Bytes → Header → Fields → ℕ → Lifetime → Result Plan Refusal
store_plan none keys h f t lifetime = Ok (planned keys h f t lifetime)
store_plan (some r) keys h f t lifetime = Err r

-- what a KVSET refuses once its tick is good
abbrev pub update_table : List Bytes → Header → Fields → ℕ → List (Check Refusal)
update_table keys h f room = store_checks (is_found (place_of 0 f.head keys)) h.count h.number.0 f room

abbrev pub update_plan : List Bytes → Header → Fields → ℕ → Lifetime → ℕ → Result Plan Refusal
update_plan keys h f t lifetime room = store_plan (first_refusal (update_table keys h f room)) keys h f t lifetime

-- of a state, a message with its split, a tick and the length of the output
unfoldable pub kvset_plan : Server → Bytes → Split → ℕ → ℕ → Result Plan Refusal
kvset_plan s msg split t room =
    store_plan
    (first_refusal (ill_forms s ++ (kvset_by msg split ++ (tick_checks s.header.last_tick.0 t ++ update_table (key_list s) s.header (fields_at msg split.places) room))))
    (key_list s) s.header (fields_at msg split.places) t (lifetime_in (properties_of (fields_at msg split.places).properties))

-- what is known once state, frames and tick are good
pub record Ready (bytes : Bytes) (lengths : List ℕ) (h : Header) (f : Fields) (t : ℕ) (lifetime : Lifetime) : Type 0 where
  pub rows : GoodRows h.count bytes lengths
  pub number : h.number.0 ≤ max_sequence
  pub frames : first_refusal (kvset_checks f) ≡ none
  pub time : t ≤ max_tick
  pub short : seconds_of lifetime ≤ 86400
