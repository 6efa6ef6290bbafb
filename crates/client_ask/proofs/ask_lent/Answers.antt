-- `client_ask::ask_lent` meets its contract: what is refused, and then how long the server has been silent. Assumes
-- nothing.
use Rattle.client_ask.proofs.AskLaws.{ask-refused, is_gone, is_present}
use Rattle.client_state.specs.Views.{lent}
use Rattle.client_state.specs.declared.Client.{Client}
use Rattle.client_ask.proofs.ask_lent.Goals as goal
use Rattle.client_ask.proofs.ask_lent.Goals.{Start}

abbrev state : (c : Start) → Client
state s = lent s.args.bytes.now s.args.lengths.now s.args.subtree.now s.args.header

pub returns-in-Err : goal.returns-in-Err
returns-in-Err c =
    let s = (goal.at.returns-in-Err c).Start in
    ask-refused (state s) s.args.tick.0 c.check_ask.ensures c.in-Err.is c.without_output.ensures

pub returns-in-Ok : goal.returns-in-Ok
returns-in-Ok c =
    let s = (goal.at.returns-in-Ok c).Start in
    is_gone (state s) s.args.tick.0 c.check_ask.ensures c.in-Ok.is c.elapsed.ensures c.if-elapsed-gt-SILENCE_MS.true c.without_output-in-Ok.ensures

pub returns-in-Ok-2 : goal.returns-in-Ok-2
returns-in-Ok-2 c =
    let s = (goal.at.returns-in-Ok-2 c).Start in
    is_present (state s) s.args.tick.0 c.check_ask.ensures c.in-Ok-2.is c.elapsed.ensures c.if-elapsed-gt-SILENCE_MS.false c.without_output-in-Ok-2.ensures
