-- What a client refuses, read over its replica: a table of checks for each call, in the order of the refusals. That the
-- state handed in is ill-formed comes before all of them.
use Rattle.std.specs.Prelude.{ℕ, Bool, false, not, cond, ◌&&◌, List, [], ◌∷◌, ◌++◌, leb, ltb, length}
use Rattle.std.proofs.Math.Option.{Option, get_or}
use Rattle.answers.specs.declared.refusal.Refusal.TheVariants.{BadKey, Full, Phase, ShortOutput}
use Rattle.answers.specs.declared.refusal.Refusal.{Refusal}
use Rattle.base.specs.Bytes.{Bytes, is_nil, same}
use Rattle.base.specs.Checks.Check.{when}
use Rattle.base.specs.Checks.{Check, first_refusal}
use Rattle.client_state.specs.IllFormed.{ill_forms}
use Rattle.client_state.specs.Views.{Replica, view}
use Rattle.client_state.specs.declared.Client.{Client}
use Rattle.client_calls.specs.Calls.{Call, snapshot, subscriber, write_icanhaz, write_kvset, ask, lookup}
use Rattle.client_calls.specs.Effects.{Effect, sync, finish, hear, stale, outside, apply, snapshot_effect, subscriber_effect}
use Rattle.messages.specs.Fields.{Fields, bytes_of, fields_of, kvset, icanhaz}
use Rattle.keys.specs.Keys.{is_key}
use Rattle.frame_forms.specs.Words.{word_hugz}
use Rattle.ports.specs.Ports.{snapshot_port, subscriber_port, update_checks, tick_checks}
use Rattle.row_cells.specs.Sizes.{max_rows}
use Rattle.rows.specs.Rows.{Rows, has_key, held_under}

-- whether a message would add a row to as many as there is room for: its key is not held, and it sets a value. Of
-- whether a key is held, and how many rows there are
abbrev pub overfilled_by : (Bytes → Bool) → ℕ → Effect → Bool
overfilled_by held count (sync key value) = not (held key) && leb max_rows count
overfilled_by held count (finish n) = false
overfilled_by held count (hear t) = false
overfilled_by held count stale = false
overfilled_by held count (outside n) = false
overfilled_by held count (apply n key value) = not (is_nil value) && (not (held key) && leb max_rows count)

-- a message that is for the other phase; a row more than there may be
abbrev pub effect_checks : Bool → (Bytes → Bool) → ℕ → Effect → List (Check Refusal)
effect_checks other_phase held count e =
    when other_phase Phase
    ∷ when (overfilled_by held count e) Full
    ∷ []

-- the tick of HUGZ; that of a KVPUB is not looked at. Of the silence clock, the frames and the tick
abbrev pub time_checks : ℕ → Fields → ℕ → List (Check Refusal)
time_checks clock f t = cond (same word_hugz f.head) (tick_checks clock t) []

-- the value that lookup finds under a key; no bytes where there is none
abbrev pub value_under : Bytes → Rows Bytes → Bytes
value_under key rows = get_or (held_under key rows) []

-- ---- the calls
unfoldable pub call_checks : Replica → Call → List (Check Refusal)
call_checks v (snapshot msg) =
    snapshot_port v.subtree msg ++ effect_checks v.live (λ (k : Bytes). has_key k v.rows) (length v.rows) (snapshot_effect (fields_of msg))
call_checks v (subscriber msg t) =
    subscriber_port msg
    ++ (time_checks v.clock (fields_of msg) t
    ++ effect_checks (not v.live) (λ (k : Bytes). has_key k v.rows) (length v.rows) (subscriber_effect v.number v.subtree (fields_of msg) t))
call_checks v (write_icanhaz room) =
    when v.live Phase
    ∷ when (ltb room (length (icanhaz v.subtree))) ShortOutput
    ∷ []
call_checks v (write_kvset key uuid properties value room) =
    update_checks key uuid properties value ++ (when (ltb room (length (bytes_of (kvset key uuid properties value)))) ShortOutput ∷ [])
call_checks v (ask t) = tick_checks v.clock t
call_checks v (lookup key room) =
    when (not (is_key key)) BadKey
    ∷ when (not v.live) Phase
    ∷ when (ltb room (length (value_under key v.rows))) ShortOutput
    ∷ []

unfoldable pub refusal_of : Client → Call → Option Refusal
refusal_of c x = first_refusal (ill_forms c ++ call_checks (view c) x)
