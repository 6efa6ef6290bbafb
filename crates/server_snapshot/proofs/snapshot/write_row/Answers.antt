-- `server_snapshot::snapshot::write_row` meets its contract: the identity, and the KVSYNC after it. Assumes nothing.
use Rattle.base.proofs.OutputLaws.{both}
use Rattle.messages.specs.Fields.{bytes_of, kvsync}
use Rattle.server_snapshot.proofs.snapshot.write_row.Goals as goal

pub returns : goal.returns
returns c =
    let a = c.args in
    both c.write_identity-next.ensures (bytes_of (kvsync a.number.0 a.key.now a.value.now)) c.requires c.write_kvsync.ensures
