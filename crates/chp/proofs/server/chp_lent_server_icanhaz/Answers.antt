-- `chp::server::chp_lent_server_icanhaz` meets its contract: what the entry promises, with header and answer as words. Assumes nothing.
use Rattle.chp.proofs.ExportLaws.{server-asked}
use Rattle.chp.proofs.server.chp_lent_server_icanhaz.Goals as goal

pub returns : goal.returns
returns c =
    let e = c.from_words-before.ensures in
    server-asked c.put_answer.ensures c.args.header.now _ e c.icanhaz_lent-a.ensures _ e
