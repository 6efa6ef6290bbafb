-- What a search for a key comes to: its refusal, or the place of its row, or that there is none.
use Rattle.std.specs.Prelude
use Rattle.std.specs.Prelude.{ℕ, not, List, [], ◌∷◌, Some, None, Result, Ok, Err}
use Rattle.std.proofs.Math.Option.{Option, none, some}
use Rattle.answers.specs.declared.refusal.Refusal.TheVariants.{BadKey, Phase}
use Rattle.answers.specs.declared.refusal.Refusal.{Refusal}
use Rattle.base.specs.Bytes.{Bytes}
use Rattle.base.specs.Checks.Check.{when}
use Rattle.base.specs.Checks.{Check}
use Rattle.client_state.specs.Views.{is_waiting}
use Rattle.keys.specs.Keys.{is_key}

-- what is checked before the output: the key, and that the client has its snapshot
abbrev pub key_checks : ℕ → Bytes → List (Check Refusal)
key_checks phase key = when (not (is_key key)) BadKey ∷ when (is_waiting phase) Phase ∷ []

abbrev pub search_by : Result ℕ ℕ → Prelude.Option ℕ
search_by (Ok i) = Some i
search_by (Err i) = None

abbrev pub search_of : Option Refusal → Result ℕ ℕ → Result (Prelude.Option ℕ) Refusal
search_of none found = Ok (search_by found)
search_of (some r) found = Err r
