-- What a Tick is found to come to before it is done: its refusal, or the row that expires, a sign of life, or nothing,
-- and the header after it.
use Rattle.std.specs.Prelude
use Rattle.std.specs.Prelude.{ℕ, suc, ◌-◌, cond, ◌++◌, leb, Some, None, Result, Ok, Err}
use Rattle.std.proofs.Math.Option.{Option, none, some}
use Rattle.answers.specs.declared.refusal.Refusal.{Refusal}
use Rattle.base.specs.Bytes.{Bytes}
use Rattle.base.specs.Checks.{first_refusal}
use Rattle.numbers.specs.Sequences.{sequence}
use Rattle.numbers.specs.Ticks.{tick}
use Rattle.ports.specs.Ports.{tick_checks}
use Rattle.row_cells.specs.Texts.{row_key}
use Rattle.server_calls.specs.Deeds.{Deed, expire, beat, quiet}
use Rattle.server_calls.specs.Refusals.{deed_checks}
use Rattle.server_state.specs.IllFormed.{ill_forms}
use Rattle.server_state.specs.declared.Header.{Header}
use Rattle.server_state.specs.declared.Server.{Server}
use Rattle.server_deeds.specs.DuePlaces.{due_from, expiries_of}
use Rattle.server_deeds.specs.declared.due.Due.{Due}
use Rattle.server_deeds.specs.declared.Plan.TheVariants.{Expire, Beat, Quiet}
use Rattle.server_deeds.specs.declared.Plan.{Plan}

-- the header after: a row expired, a sign of life was given, or neither
abbrev pub expired_header : Header → ℕ → Header
expired_header h t = record { number = sequence (suc h.number.0); last_tick = tick t; last_published = tick t; count = h.count - 1 }

abbrev pub beat_header : Header → ℕ → Header
beat_header h t = record { number = h.number; last_tick = tick t; last_published = tick t; count = h.count }

abbrev pub quiet_header : Header → ℕ → Header
quiet_header h t = record { number = h.number; last_tick = tick t; last_published = h.last_published; count = h.count }

abbrev pub or_refuse : Option Refusal → Plan → Result Plan Refusal
or_refuse none plan = Ok plan
or_refuse (some r) plan = Err r

-- row i, which has a key, is due
abbrev pub expire_plan : Header → ℕ → ℕ → Bytes → ℕ → Result Plan Refusal
expire_plan h t i key room = or_refuse (first_refusal (deed_checks h.number.0 (expire key) room)) (Expire i (expired_header h t))

-- no row is: the deed, and the plan
abbrev pub idle_deed : Header → ℕ → Deed
idle_deed h t = cond (leb 1000 (t - h.last_published.0)) beat quiet

abbrev pub idle_plan : Header → ℕ → Plan
idle_plan h t = cond (leb 1000 (t - h.last_published.0)) (Beat (beat_header h t)) (Quiet (quiet_header h t))

abbrev pub beat_plan : Header → ℕ → ℕ → Result Plan Refusal
beat_plan h t room = or_refuse (first_refusal (deed_checks h.number.0 (idle_deed h t) room)) (idle_plan h t)

-- by the row that is due
abbrev pub deed_at : Server → ℕ → Prelude.Option Due → Deed
deed_at s t (Some d) = expire (row_key d.at s.bytes s.lengths)
deed_at s t None = idle_deed s.header t

abbrev pub plan_at : Server → ℕ → Prelude.Option Due → Plan
plan_at s t (Some d) = Expire d.at (expired_header s.header t)
plan_at s t None = idle_plan s.header t

abbrev pub due_in : Server → ℕ → Prelude.Option Due
due_in s t = due_from 0 t (expiries_of s.header.count s.stamps)

abbrev pub deed_plan : Server → ℕ → ℕ → Result Plan Refusal
deed_plan s t room = or_refuse (first_refusal (deed_checks s.header.number.0 (deed_at s t (due_in s t)) room)) (plan_at s t (due_in s t))

unfoldable pub tick_plan : Server → ℕ → ℕ → Result Plan Refusal
tick_plan s t room =
    or_refuse (first_refusal (ill_forms s ++ (tick_checks s.header.last_tick.0 t ++ deed_checks s.header.number.0 (deed_at s t (due_in s t)) room))) (plan_at s t (due_in s t))
