-- `joining_code::session::follow` meets its contract: what each call promises is one step of the run. Assumes nothing.
use Rattle.joining_code.proofs.CodeProof.{client_steps}
use Rattle.joining_code.specs.Runs.ClientRan.{began, called}
use Rattle.joining_code.proofs.session.follow.Goals as goal

pub returns : goal.returns
returns c =
    let begun = began _ _ _ _ c.start-fresh.ensures in
    let asked = called _ _ _ begun _ _ _ _ _ c.write_icanhaz.ensures in
    let synced = called _ _ _ asked _ _ _ _ _ c.snapshot-synced.ensures in
    let told = called _ _ _ synced _ _ _ _ _ c.subscriber-told.ensures in
    let updated = called _ _ _ told _ _ _ _ _ c.write_kvset.ensures in
    let watched = called _ _ _ updated _ _ _ _ _ c.ask.ensures in
    record {
      ran = called _ _ _ watched _ _ _ _ _ c.lookup.ensures;
      requests = (client_steps begun _ _ _ _ _ c.write_icanhaz.ensures).output;
      updates = (client_steps told _ _ _ _ _ c.write_kvset.ensures).output;
      finds = (client_steps watched _ _ _ _ _ c.lookup.ensures).output;
    }
