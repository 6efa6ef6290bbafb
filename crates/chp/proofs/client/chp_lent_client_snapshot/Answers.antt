-- `chp::client::chp_lent_client_snapshot` meets its contract: what the entry promises, with header and answer as words. Assumes nothing.
use Rattle.chp.proofs.ExportLaws.{client-answered}
use Rattle.chp.proofs.client.chp_lent_client_snapshot.Goals as goal

pub returns : goal.returns
returns c =
    let put = c.put_outcome.ensures in
    client-answered put.1 c.args.header.now _ c.from_words-before.ensures c.snapshot_lent-r.ensures put.0
