-- `server_tick::tick_lent` meets its contract: it does what was planned. Assumes nothing.
use mathlib.Core.Path.{ap}
use lib.ListN.{length}
use Rattle.server_calls.proofs.AnswerLaws.{refused_call}
use Rattle.server_calls.specs.Calls.{tick}
use Rattle.server_state.specs.Views.{lent}
use Rattle.server_state.specs.declared.Server.{Server}
use Rattle.server_tick.proofs.TickLaws.{tick_stopped, tick_quiet, tick-beat, expire_ready, tick_expired}
use Rattle.server_tick.proofs.tick_lent.Goals as goal
use Rattle.server_tick.proofs.tick_lent.Goals.{Start}

abbrev state : (c : Start) → Server
state s = lent s.args.bytes.now s.args.lengths.now s.args.stamps.now s.args.header

pub expire_row-written-requires : goal.expire_row-written-requires
expire_row-written-requires c =
    let s = (goal.at.expire_row-written-requires c).Start in
    expire_ready (state s) s.args.tick.0 s.args.out.now c.plan_tick.ensures (rw c.in-Ok-Expire.field-0-is at c.in-Ok-Expire.is)

pub returns-in-Err : goal.returns-in-Err
returns-in-Err c =
    let s = (goal.at.returns-in-Err c).Start in
    refused_call (state s) (tick s.args.tick.0 (length s.args.out.now)) s.args.out.now _ _ _
    (tick_stopped (state s) s.args.tick.0 s.args.out.now c.plan_tick.ensures c.in-Err.is)
    (ap (lent s.args.bytes.now s.args.lengths.now s.args.stamps.now) c.refused.ensures.0) c.refused.ensures.1

pub returns-in-Ok-Expire : goal.returns-in-Ok-Expire
returns-in-Ok-Expire c =
    let s = (goal.at.returns-in-Ok-Expire c).Start in
    tick_expired (state s) s.args.tick.0 s.args.out.now c.plan_tick.ensures (rw c.in-Ok-Expire.field-0-is at c.in-Ok-Expire.is) c.expire_row-written.ensures c.accepted.ensures

pub returns-in-Ok-Beat : goal.returns-in-Ok-Beat
returns-in-Ok-Beat c =
    let s = (goal.at.returns-in-Ok-Beat c).Start in
    tick-beat (state s) s.args.tick.0 s.args.out.now c.plan_tick.ensures (rw c.in-Ok-Beat.field-0-is at c.in-Ok-Beat.is) c.write_hugz-written.ensures c.accepted-in-Ok-Beat.ensures

pub returns-in-Ok-Quiet : goal.returns-in-Ok-Quiet
returns-in-Ok-Quiet c =
    let s = (goal.at.returns-in-Ok-Quiet c).Start in
    tick_quiet (state s) s.args.tick.0 s.args.out.now c.plan_tick.ensures (rw c.in-Ok-Quiet.field-0-is at c.in-Ok-Quiet.is) c.accepted-in-Ok-Quiet.ensures
