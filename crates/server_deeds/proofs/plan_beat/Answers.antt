-- `server_deeds::plan_beat` meets its contract: the time since the last publication, and then the output. Assumes
-- nothing.
use Rattle.server_deeds.proofs.PlanLaws.{is_quiet, no_beat, beats}
use Rattle.server_deeds.proofs.plan_beat.Goals as goal

pub returns-then-elapsed-lt-HEARTBEAT_MS : goal.returns-then-elapsed-lt-HEARTBEAT_MS
returns-then-elapsed-lt-HEARTBEAT_MS c = is_quiet c.args.header c.args.tick.0 c.args.room c.elapsed.ensures c.if-elapsed-lt-HEARTBEAT_MS.true

pub returns-then-room-lt-HUGZ_LENGTH : goal.returns-then-room-lt-HUGZ_LENGTH
returns-then-room-lt-HUGZ_LENGTH c = no_beat c.args.header c.args.tick.0 c.args.room c.elapsed.ensures c.if-elapsed-lt-HEARTBEAT_MS.false c.if-room-lt-HUGZ_LENGTH.true

pub returns : goal.returns
returns c = beats c.args.header c.args.tick.0 c.args.room c.elapsed.ensures c.if-elapsed-lt-HEARTBEAT_MS.false c.if-room-lt-HUGZ_LENGTH.false
