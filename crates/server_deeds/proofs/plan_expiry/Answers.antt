-- `server_deeds::plan_expiry` meets its contract: a number, and then the output. Assumes nothing.
use native.Mathlib.Omega.{arith}
use mathlib.Core.Path.{◌≡◌}
use Rattle.std.proofs.lemmas.Result.{err_from_is_err_and}
use Rattle.answers.specs.declared.refusal.Refusal.TheVariants.{Exhausted}
use Rattle.base.specs.Bytes.{Bytes}
use Rattle.numbers.proofs.SequenceLaws.{next_none, next_some}
use Rattle.row_cells.proofs.TextLaws.{key-most_at, row-key-short}
use Rattle.row_cells.specs.Texts.{row_key}
use Rattle.server_deeds.proofs.PlanLaws.{exhausted, too_short, goes}
use Rattle.server_deeds.proofs.plan_expiry.Goals as goal
use Rattle.server_deeds.proofs.plan_expiry.Goals.{Start}

abbrev key : (c : Start) → Bytes
key s = row_key s.args.i s.args.bytes.now s.args.lengths.now

pub returns-in_err-next : goal.returns-in_err-next
returns-in_err-next c =
    let a = c.args in
    let p = err_from_is_err_and c.from_residual.result c.from_residual.ensures.1 in
    let none_left = c.in_err-next.ensures.ok_part in
    let reason : c.in_err-next.field-0.0 ≡ Exhausted = let q = rw none_left at c.in_err-next.ensures.value in cc in
    rw (p.1, p.2, reason) (exhausted a.header a.tick.0 a.i a.room (key ((goal.at.returns-in_err-next c).Start)) c.requires.1.1 (next_none _ c.next_number.ensures none_left))

pub key_at-key-requires : goal.key_at-key-requires
key_at-key-requires c =
    let s = (goal.at.key_at-key-requires c).Start in
    let few = s.requires.0.few in
    let low = s.requires.1.0 in
    (omega arith, key-most_at s.args.header.count s.args.lengths.now s.requires.0.fit s.args.i low)

pub returns-then-room-message_length : goal.returns-then-room-message_length
returns-then-room-message_length c =
    let a = c.args in
    let next = next_some _ c.next_number.ensures c.in_ok-next.ensures.ok_part in
    too_short a.header a.tick.0 a.i a.room (key ((goal.at.returns-then-room-message_length c).Start)) next.0 c.key_at-key.ensures c.message_length.ensures c.if-room-message_length.true

pub returns : goal.returns
returns c =
    let a = c.args in
    let next = next_some _ c.next_number.ensures c.in_ok-next.ensures.ok_part in
    goes a.header a.tick.0 a.i a.room (key ((goal.at.returns c).Start)) next.0 c.key_at-key.ensures c.message_length.ensures
    (row-key-short a.i a.bytes.now a.lengths.now (key-most_at a.header.count a.lengths.now c.requires.0.fit a.i c.requires.1.0)) c.if-room-message_length.false next.1
