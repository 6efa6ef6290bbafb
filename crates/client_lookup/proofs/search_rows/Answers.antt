-- `client_lookup::search_rows` meets its contract: in a state that is well-formed the rows are good. Assumes nothing.
use mathlib.Core.Path.{sym, ◌∙◌}
use Rattle.answers.proofs.VerdictLaws.{accepted}
use Rattle.base.specs.Checks.{first_refusal}
use Rattle.client_state.proofs.FormLaws.{good_client}
use Rattle.client_state.specs.IllFormed.{ill_forms}
use Rattle.client_state.specs.Views.{lent}
use Rattle.client_lookup.proofs.search_rows.Goals as goal

pub find_row-requires : goal.find_row-requires
find_row-requires c =
    let a = c.args in
    let state = lent a.bytes.now a.lengths.now a.subtree.now a.header in
    (good_client state (accepted (first_refusal (ill_forms state)) (sym c.in_ok-check_state.was ∙ c.check_state.ensures))).rows
