-- `chp::client::chp_lent_client_ask` meets its contract: what the entry promises, with header and answer as words. Assumes nothing.
use Rattle.chp.proofs.ExportLaws.{client-asked}
use Rattle.chp.proofs.client.chp_lent_client_ask.Goals as goal

pub returns : goal.returns
returns c =
    let e = c.from_words-before.ensures in
    client-asked c.put_answer.ensures c.args.header.now _ e c.ask_lent-a.ensures _ e
