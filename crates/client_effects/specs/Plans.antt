-- What a message is found to come to before it is acted on: its refusal, or what is to be done.
use Rattle.std.specs.Prelude.{ℕ, Bool, false, cond, List, Result, Ok, Err}
use Rattle.std.proofs.Math.Option.{Option, none, some}
use Rattle.answers.specs.declared.answer.Kind.{Kind}
use Rattle.answers.specs.declared.refusal.Refusal.TheVariants.{Full, Phase}
use Rattle.answers.specs.declared.refusal.Refusal.{Refusal}
use Rattle.base.specs.Bytes.{Bytes, is_nil}
use Rattle.client_calls.specs.Answers.{effect_kind}
use Rattle.client_calls.specs.Calls.{Call}
use Rattle.client_calls.specs.Effects.{Effect, sync, finish, hear, stale, outside, apply}
use Rattle.client_calls.specs.Refusals.{refusal_of}
use Rattle.client_effects.specs.declared.Plan.TheVariants.{Note, Store}
use Rattle.client_effects.specs.declared.Plan.{Plan}
use Rattle.client_state.specs.Views.{key_list}
use Rattle.client_state.specs.declared.Client.{Client}
use Rattle.client_state.specs.declared.Header.{Header}
use Rattle.numbers.specs.Sequences.{sequence}
use Rattle.numbers.specs.Ticks.{tick}
use Rattle.row_change.specs.Changes.{count_after, is_over}
use Rattle.row_change.specs.declared.Change.TheVariants.{Leave}
use Rattle.row_change.specs.declared.Change.{Change}
use Rattle.row_search.specs.Places.{place_of, change_to}

-- ---- headers
-- with another number, and with another count of rows
abbrev pub numbered : Header → ℕ → Header
numbered h n = record { phase = h.phase; number = sequence n; clock = h.clock; subtree_length = h.subtree_length; count = h.count }

abbrev pub counted : Header → ℕ → Header
counted h n = record { phase = h.phase; number = h.number; clock = h.clock; subtree_length = h.subtree_length; count = n }

-- after an effect, but for the count
abbrev pub effect_header : Header → Effect → Header
effect_header h (sync key value) = h
effect_header h (finish n) = record { phase = 1; number = sequence n; clock = h.clock; subtree_length = h.subtree_length; count = h.count }
effect_header h (hear t) = record { phase = h.phase; number = h.number; clock = tick t; subtree_length = h.subtree_length; count = h.count }
effect_header h stale = h
effect_header h (outside n) = numbered h n
effect_header h (apply n key value) = numbered h n

-- ---- rows
-- the row that an effect is about, if any: whether it is removed, and its key
abbrev pub effect_row : Effect → Option (Bool × Bytes)
effect_row (sync key value) = some (false, key)
effect_row (finish n) = none
effect_row (hear t) = none
effect_row stale = none
effect_row (outside n) = none
effect_row (apply n key value) = some (is_nil value, key)

-- its change, among rows that have these keys
abbrev pub row_change : Option (Bool × Bytes) → List Bytes → Change
row_change none keys = Leave
row_change (some row) keys = change_to row.0 (place_of 0 row.1 keys)

-- ---- plans
-- a refusal, if there is one, or what is to be done
abbrev pub plan_unless : Option Refusal → Result Plan Refusal → Result Plan Refusal
plan_unless none plan = plan
plan_unless (some r) plan = Err r

-- a message for the other phase is refused
abbrev pub plan_in_phase : Bool → Result Plan Refusal → Result Plan Refusal
plan_in_phase other_phase plan = cond other_phase (Err Phase) plan

-- a change of a row that may be one too many, by the header after it but for the count
abbrev pub row_plan : Change → Header → Kind → Result Plan Refusal
row_plan change h kind = cond (is_over change h.count) (Err Full) (Ok (Store change (counted h (count_after change h.count)) kind))

abbrev pub plan_with : Option (Bool × Bytes) → List Bytes → Header → Kind → Result Plan Refusal
plan_with none keys h kind = Ok (Note h kind)
plan_with (some row) keys h kind = row_plan (row_change (some row) keys) h kind

-- an effect, at a client with these keys and this header
abbrev pub effect_plan : List Bytes → Header → Effect → Result Plan Refusal
effect_plan keys h e = plan_with (effect_row e) keys (effect_header h e) (effect_kind h.number.0 e)

-- a call that hands in a message with this effect
abbrev pub message_plan : Client → Call → Effect → Result Plan Refusal
message_plan c x e = plan_unless (refusal_of c x) (effect_plan (key_list c) c.header e)
