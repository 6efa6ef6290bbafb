-- `chp::client::chp_lent_client_start` meets its contract: what the entry promises, with header and answer as words. Assumes nothing.
use Rattle.chp.proofs.ExportLaws.{client-began, padded_as_words}
use Rattle.chp.proofs.client.chp_lent_client_start.Goals as goal

pub returns : goal.returns
returns c =
    let put = c.put_outcome.ensures in
    let call = c.start_lent-r.ensures in
    record { begins = client-began put.1 _ _ call.begins put.0; zeroed = call.zeroed; padded = padded_as_words c.start_lent-r.result.header call.padded put.0 }
