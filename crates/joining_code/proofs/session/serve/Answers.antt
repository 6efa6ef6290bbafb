-- `joining_code::session::serve` meets its contract: what each call promises is one step of the run. Assumes nothing.
use Rattle.joining_code.proofs.CodeProof.{server_steps}
use Rattle.joining_code.specs.Runs.ServerRan.{began, called}
use Rattle.joining_code.proofs.session.serve.Goals as goal

pub returns : goal.returns
returns c =
    let begun = began _ _ _ _ c.start-fresh.ensures in
    let updated = called _ _ _ begun _ _ _ _ _ c.kvset-set.ensures in
    let timed = called _ _ _ updated _ _ _ _ _ c.tick-timed.ensures in
    let last = server_steps timed _ _ _ _ _ c.icanhaz-answer.ensures in
    record {
      ran = called _ _ _ timed _ _ _ _ _ c.icanhaz-answer.ensures;
      answer = last.answers;
      updates = (server_steps begun _ _ _ _ _ c.kvset-set.ensures).output;
      expires = (server_steps updated _ _ _ _ _ c.tick-timed.ensures).output;
      sends = last.output;
    }
