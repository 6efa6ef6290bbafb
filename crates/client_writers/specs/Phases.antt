-- ICANHAZ is for clients that wait.
use Rattle.std.specs.Prelude.{ℕ, not, List, [], ◌∷◌}
use Rattle.answers.specs.declared.refusal.Refusal.TheVariants.{Phase}
use Rattle.answers.specs.declared.refusal.Refusal.{Refusal}
use Rattle.base.specs.Checks.Check.{when}
use Rattle.base.specs.Checks.{Check}
use Rattle.client_state.specs.Views.{is_waiting}

-- the check of the phase
abbrev pub phase_check : ℕ → List (Check Refusal)
phase_check phase = when (not (is_waiting phase)) Phase ∷ []
