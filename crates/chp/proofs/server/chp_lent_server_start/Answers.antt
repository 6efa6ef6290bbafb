-- `chp::server::chp_lent_server_start` meets its contract: what the entry promises, with header and answer as words. Assumes nothing.
use Rattle.chp.proofs.ExportLaws.{server-began}
use Rattle.chp.proofs.server.chp_lent_server_start.Goals as goal

pub returns : goal.returns
returns c =
    let put = c.put_outcome.ensures in
    let call = c.start_lent-r.ensures in
    record { begins = server-began put.1 _ _ call.begins put.0; zeroed = call.zeroed }
