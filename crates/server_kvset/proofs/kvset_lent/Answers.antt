-- `server_kvset::kvset_lent` meets its contract: the checks come to a plan, and what is planned is done in every array
-- and published. Assumes nothing.
use mathlib.Core.Path.{ap}
use lib.ListN.{length}
use Rattle.base.specs.Bytes.{Bytes}
use Rattle.server_calls.proofs.AnswerLaws.{refused_call}
use Rattle.server_calls.specs.Calls.{kvset}
use Rattle.server_kvset.proofs.KvsetLaws.{kvset_stopped, stored_fits, kvset_stored}
use Rattle.server_state.specs.Views.{lent}
use Rattle.server_state.specs.declared.Server.{Server}
use Rattle.server_kvset.proofs.kvset_lent.Goals as goal
use Rattle.server_kvset.proofs.kvset_lent.Goals.{Start}

abbrev state : (c : Start) → Server
state s = lent s.args.bytes.now s.args.lengths.now s.args.stamps.now s.args.header

abbrev msg : (c : Start) → Bytes
msg s = s.args.msg.now

pub change_row-requires : goal.change_row-requires
change_row-requires c =
    let s = (goal.at.change_row-requires c).Start in
    stored_fits (state s) (msg s) s.args.tick.0 s.args.out.now c.split_message-split.result c.split_message-split.ensures c.plan_kvset.ensures c.in-Ok.is

pub change_stamps-requires : goal.change_stamps-requires
change_stamps-requires c =
    let s = (goal.at.change_stamps-requires c).Start in
    stored_fits (state s) (msg s) s.args.tick.0 s.args.out.now c.split_message-split.result c.split_message-split.ensures c.plan_kvset.ensures c.in-Ok.is

pub returns-in-Err : goal.returns-in-Err
returns-in-Err c =
    let s = (goal.at.returns-in-Err c).Start in
    refused_call (state s) (kvset (msg s) s.args.tick.0 (length s.args.out.now)) s.args.out.now _ _ _
    (kvset_stopped (state s) (msg s) s.args.tick.0 s.args.out.now c.split_message-split.result c.split_message-split.ensures c.plan_kvset.ensures c.in-Err.is)
    (ap (lent s.args.bytes.now s.args.lengths.now s.args.stamps.now) c.refused.ensures.0) c.refused.ensures.1

pub returns-in-Ok : goal.returns-in-Ok
returns-in-Ok c =
    let s = (goal.at.returns-in-Ok c).Start in
    kvset_stored (state s) (msg s) s.args.tick.0 s.args.out.now c.split_message-split.result c.split_message-split.ensures c.plan_kvset.ensures c.in-Ok.is
    c.body-key.ensures c.body-value.ensures _ c.fresh_row-fresh.ensures c.change_row.ensures c.change_stamps.ensures
    c.publish-written.ensures c.accepted.ensures
