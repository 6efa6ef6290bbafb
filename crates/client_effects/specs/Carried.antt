-- A plan that is carried out: of a client's header, of its arrays before and after, and of the key and the value at
-- hand.
use Rattle.std.specs.Prelude.{ℕ, ◌≤◌, List, ◌≡◌, length, Result, Ok, Err}
use Rattle.answers.specs.Answers.{answer}
use Rattle.answers.specs.declared.answer.Kind.TheVariants.{Refused}
use Rattle.answers.specs.declared.outcome.Outcome.{Outcome}
use Rattle.answers.specs.declared.refusal.Refusal.{Refusal}
use Rattle.base.specs.Bytes.{Bytes}
use Rattle.client_effects.specs.declared.Plan.TheVariants.{Note, Store}
use Rattle.client_effects.specs.declared.Plan.{Plan}
use Rattle.client_state.specs.declared.Header.{Header}
use Rattle.frame_forms.specs.Lengths.{value_room}
use Rattle.keys.specs.Keys.{key_room}
use Rattle.row_cells.specs.FreshRows.{cell_of, IsRow}
use Rattle.row_cells.specs.declared.fresh.Row.{Row}
use Rattle.row_change.specs.Changes.{Fits, Altered}
use Rattle.row_change.specs.declared.Change.{Change}

-- a row of the key and the value can be stored where the plan stores one, among n rows
unfoldable pub Storable : Result Plan Refusal → ℕ → Bytes → Bytes → Type 0
Storable (Err r) n key value = Unit {0}
Storable (Ok (Note after kind)) n key value = Unit {0}
Storable (Ok (Store change after kind)) n key value = Fits change n × ((length key ≤ key_room) × (length value ≤ value_room))

-- a row of the key and the value takes part in the change of n rows
pub record Stored (change : Change) (key value : Bytes) (n : ℕ) (bytes lengths bytes' lengths' : List ℕ) : Type 0 where
  pub row : Row
  pub holds : IsRow row key value
  pub altered : Altered change (cell_of row) row.lengths n bytes lengths bytes' lengths'

unfoldable pub CarriedOut : Result Plan Refusal → Header → Bytes → Bytes → (bytes lengths bytes' lengths' : List ℕ) → Outcome Header → Type 0
CarriedOut (Err r) h key value bytes lengths bytes' lengths' o =
    (bytes' ≡ bytes) × ((lengths' ≡ lengths) × ((o.header ≡ h) × (o.answer ≡ answer (Refused r h.number) 0)))
CarriedOut (Ok (Note after kind)) h key value bytes lengths bytes' lengths' o =
    (bytes' ≡ bytes) × ((lengths' ≡ lengths) × ((o.header ≡ after) × (o.answer ≡ answer kind 0)))
CarriedOut (Ok (Store change after kind)) h key value bytes lengths bytes' lengths' o =
    Stored change key value h.count bytes lengths bytes' lengths' × ((o.header ≡ after) × (o.answer ≡ answer kind 0))
