-- `chp::server::chp_lent_server_tick` meets its contract: what the entry promises, with header and answer as words. Assumes nothing.
use Rattle.chp.proofs.ExportLaws.{server-answered}
use Rattle.chp.proofs.server.chp_lent_server_tick.Goals as goal

pub returns : goal.returns
returns c =
    let put = c.put_outcome.ensures in
    server-answered put.1 c.args.header.now _ c.from_words-before.ensures c.tick_lent-r.ensures put.0
