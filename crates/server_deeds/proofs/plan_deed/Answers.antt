-- `server_deeds::plan_deed` meets its contract: by the row that is due. Assumes nothing.
use Rattle.server_deeds.proofs.DuePlaceLaws.{due_row-below}
use Rattle.server_deeds.proofs.plan_deed.Goals as goal

pub plan_expiry-requires : goal.plan_expiry-requires
plan_expiry-requires c =
    let a = c.args in
    (c.requires.0, (due_row-below a.tick.0 a.header.count a.stamps.now c.due_row.ensures c.in-Some.is, c.requires.1))
