-- `client_effects::plan_row` meets its contract: a change that is not one too many is one that the rows allow. Assumes
-- nothing.
use mathlib.Core.Path.{sym, ap, ◌∙◌}
use Rattle.client_effects.proofs.PlanLaws.{made_fits}
use Rattle.row_cells.proofs.TextLaws.{keys_long}
use Rattle.row_cells.specs.Texts.{keys_of}
use Rattle.row_search.specs.Places.{change_to}
use Rattle.client_effects.proofs.plan_row.Goals as goal

pub count_after-count-requires : goal.count_after-count-requires
count_after-count-requires c =
    let a = c.args in
    made_fits a.removes a.key.now (keys_of a.header.count a.bytes.now a.lengths.now) a.header.count (keys_long a.header.count a.bytes.now a.lengths.now) c.requires.few
    (c.change_to-change.ensures ∙ ap (change_to a.removes) c.find_row-found.ensures) (sym c.overfills.ensures ∙ c.if-overfills.false)
