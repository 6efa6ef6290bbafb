-- The ill-formed states: what is wrong with one, as tests on its bits.
use Rattle.std.specs.Prelude.{not, ◌&&◌, List, [], ◌∷◌, ◌++◌, ◌≡◌, leb, ltb, eqb}
use Rattle.std.proofs.Math.Option.{none}
use Rattle.answers.specs.declared.refusal.Refusal.TheVariants.{IllFormed}
use Rattle.answers.specs.declared.refusal.Refusal.{Refusal}
use Rattle.base.specs.Bytes.{every}
use Rattle.base.specs.Checks.Check.{when}
use Rattle.base.specs.Checks.{Check, first_refusal}
use Rattle.client_state.specs.Views.{is_waiting, subtree_of, key_list}
use Rattle.client_state.specs.declared.Client.{Client}
use Rattle.client_state.specs.declared.Header.{Header}
use Rattle.keys.specs.Keys.{key_room, is_subtree, under}
use Rattle.numbers.specs.Sequences.{max_sequence}
use Rattle.numbers.specs.Ticks.{max_tick}
use Rattle.row_cells.specs.Faults.{row_faults}

-- a number or a tick out of range; a waiting client with a number other than 0
abbrev pub header_faults : Header → List (Check Refusal)
header_faults h =
    when (not (leb h.number.0 max_sequence)) IllFormed
    ∷ when (not (leb h.clock.0 max_tick)) IllFormed
    ∷ when (is_waiting h.phase && not (eqb h.number.0 0)) IllFormed
    ∷ []

-- a subtree that is said to be longer than its array, or is none, with or without rows; a key that is not under it
abbrev pub subtree_faults : Client → List (Check Refusal)
subtree_faults c =
    when (ltb key_room c.header.subtree_length) IllFormed
    ∷ when (not (is_subtree (subtree_of c))) IllFormed
    ∷ when (not (every (under (subtree_of c)) (key_list c))) IllFormed
    ∷ []

-- what is wrong with a client's state
unfoldable pub ill_forms : Client → List (Check Refusal)
ill_forms c = row_faults c.header.count c.bytes c.lengths ++ (subtree_faults c ++ header_faults c.header)

-- nothing is
abbrev pub WellFormed : Client → Type 0
WellFormed c = first_refusal (ill_forms c) ≡ none
