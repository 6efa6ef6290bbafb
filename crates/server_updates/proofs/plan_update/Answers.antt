-- `server_updates::plan_update` meets its contract: the checks after the tick, in their order. Assumes nothing.
use mathlib.Core.List.{List}
use mathlib.Core.Path.{◌≡◌}
use Rattle.answers.specs.declared.refusal.Refusal.TheVariants.{Exhausted}
use Rattle.base.specs.Bytes.{Bytes}
use Rattle.messages.specs.Fields.{Fields}
use Rattle.numbers.proofs.SequenceLaws.{next_none, next_some}
use Rattle.ports.specs.Bodies.{fields_at}
use Rattle.row_cells.proofs.TextLaws.{keys_long}
use Rattle.row_cells.specs.Texts.{keys_of}
use Rattle.std.proofs.lemmas.Result.{err_from_is_err_and}
use Rattle.server_updates.proofs.PlanLaws.{full, fits, exhausted, too_short, goes}
use Rattle.server_updates.proofs.plan_update.Goals as goal
use Rattle.server_updates.proofs.plan_update.Goals.{Start}

abbrev keys : (c : Start) → List Bytes
keys s = keys_of s.args.header.count s.args.bytes.now s.args.lengths.now

abbrev fields : (c : Start) → Fields
fields s = fields_at s.args.msg.now s.args.places

pub returns-then-overfills : goal.returns-then-overfills
returns-then-overfills c =
    let s = (goal.at.returns-then-overfills c).Start in
    full (keys s) c.args.header (fields s) c.args.tick.0 c.args.room c.args.lifetime c.body-key.ensures c.body-value.ensures c.find_row-found.ensures c.is_empty.ensures c.change_to-change.ensures c.overfills.ensures c.if-overfills.true

pub returns-in_err-next : goal.returns-in_err-next
returns-in_err-next c =
    let s = (goal.at.returns-in_err-next c).Start in
    let p = err_from_is_err_and c.from_residual.result c.from_residual.ensures.1 in
    let none_left = c.in_err-next.ensures.ok_part in
    let reason : c.in_err-next.field-0.0 ≡ Exhausted = let q = rw none_left at c.in_err-next.ensures.value in cc in
    let n = next_none _ c.next_number.ensures none_left in
    rw (p.1, p.2, reason) (exhausted (keys s) c.args.header (fields s) c.args.tick.0 c.args.room c.args.lifetime c.body-key.ensures c.body-value.ensures c.find_row-found.ensures c.is_empty.ensures c.change_to-change.ensures c.overfills.ensures c.if-overfills.false c.requires.number n)

pub returns-then-room-message_length : goal.returns-then-room-message_length
returns-then-room-message_length c =
    let s = (goal.at.returns-then-room-message_length c).Start in
    let next = next_some _ c.next_number.ensures c.in_ok-next.ensures.ok_part in
    too_short (keys s) c.args.header (fields s) c.args.tick.0 c.args.room c.args.lifetime c.body-key.ensures c.body-value.ensures c.find_row-found.ensures c.is_empty.ensures c.change_to-change.ensures c.overfills.ensures c.if-overfills.false next.0
    c.body-uuid.ensures c.body-properties.ensures c.message_length.ensures c.if-room-message_length.true

pub count_after-requires : goal.count_after-requires
count_after-requires c =
    let s = (goal.at.count_after-requires c).Start in
    let a = s.args in
    fits (keys s) a.header (fields s) a.tick.0 a.room a.lifetime c.body-key.ensures c.body-value.ensures c.find_row-found.ensures c.is_empty.ensures c.change_to-change.ensures c.overfills.ensures c.if-overfills.false (keys_long a.header.count a.bytes.now a.lengths.now) s.requires.rows.few

pub returns : goal.returns
returns c =
    let s = (goal.at.returns c).Start in
    let next = next_some _ c.next_number.ensures c.in_ok-next.ensures.ok_part in
    goes (keys s) c.args.header (fields s) c.args.tick.0 c.args.room c.args.lifetime c.body-key.ensures c.body-value.ensures c.find_row-found.ensures c.is_empty.ensures c.change_to-change.ensures c.overfills.ensures c.if-overfills.false next.0 c.body-uuid.ensures c.body-properties.ensures c.message_length.ensures
    c.requires.frames c.if-room-message_length.false next.1 c.count_after.ensures c.stamps_of-row.ensures
