-- The ill-formed states: what is wrong with one, as tests on its bits.
use Rattle.std.specs.Prelude.{ℕ, Bool, not, ◌&&◌, List, [], ◌∷◌, ◌++◌, ◌≡◌, leb, ltb}
use Rattle.std.proofs.Math.Option.{none}
use Rattle.answers.specs.declared.refusal.Refusal.TheVariants.{IllFormed}
use Rattle.answers.specs.declared.refusal.Refusal.{Refusal}
use Rattle.base.specs.Bytes.{every}
use Rattle.base.specs.Checks.Check.{when}
use Rattle.base.specs.Checks.{Check, first_refusal}
use Rattle.cells.specs.Cells.{cells}
use Rattle.numbers.specs.Sequences.{max_sequence}
use Rattle.numbers.specs.Ticks.{max_tick}
use Rattle.row_cells.specs.Faults.{row_faults}
use Rattle.server_state.specs.Stamps.{stamp_count, stamp_number, stamp_expiry, is_expiry}
use Rattle.server_state.specs.declared.Header.{Header}
use Rattle.server_state.specs.declared.Server.{Server}

-- of a row's stamps, in a state of number n: the row's number is not above it, and its expiry is one
abbrev pub stamped : ℕ → List ℕ → Bool
stamped n stamps = leb (stamp_number stamps) n && is_expiry (stamp_expiry stamps)

-- besides keys and values: a row's number above the state's, or an expiry out of range; the state's number out of range;
-- last published after the last tick; the last tick out of range, and last published with it
abbrev pub stamp_faults : List ℕ → Header → List (Check Refusal)
stamp_faults stamps h =
    when (not (every (stamped h.number.0) (cells stamp_count h.count stamps))) IllFormed
    ∷ when (not (leb h.number.0 max_sequence)) IllFormed
    ∷ when (ltb h.last_tick.0 h.last_published.0) IllFormed
    ∷ when (not (leb h.last_tick.0 max_tick)) IllFormed
    ∷ []

-- what is wrong with a server's state
unfoldable pub ill_forms : Server → List (Check Refusal)
ill_forms s = row_faults s.header.count s.bytes s.lengths ++ stamp_faults s.stamps s.header

-- nothing is
abbrev pub WellFormed : Server → Type 0
WellFormed s = first_refusal (ill_forms s) ≡ none
