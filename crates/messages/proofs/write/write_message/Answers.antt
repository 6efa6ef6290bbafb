-- `messages::write::write_message` meets its contract: there is room for the five frames, which stand one behind the other, or nothing is touched.
-- Assumes nothing.
use Prim.Native.Nat.{◌+◌, ◌≤◌}
use mathlib.Core.Path.{ap}
use mathlib.Core.Bool.{not}
use native.Mathlib.Omega.{arith}
use mathlib.Core.Path.{◌≡◌}
use lib.Dec.{leb}
use lib.ListN.{length}
use Rattle.base.proofs.OctetLaws.{length-octets}
use Rattle.base.proofs.OutputLaws.{has_room, lacks_room, no_room}
use Rattle.base.specs.Octets.{octets}
use Rattle.messages.proofs.WriteLaws.{message-room, five_written}
use Rattle.messages.specs.Fields.{Fields, fields, bytes_of}
use Rattle.messages.proofs.write.write_message.Goals as goal
use Rattle.messages.proofs.write.write_message.Goals.{After-has_room, Else-not-has_room, Start}

abbrev written : Start → Fields
written s = fields s.args.head.now (octets 8 s.args.number.0) s.args.uuid.now s.args.properties.now s.args.value.now

room-told : (c : After-has_room) → c.has_room.result ≡ leb (c.args.at + length (bytes_of (written ((goal.at.After-has_room c).Start)))) (length c.args.out.now)
room-told c = message-room (length c.args.out.now) c.args.at c.message_length-need.result (written ((goal.at.After-has_room c).Start)) (omega arith) (length-octets 8 c.args.number.0) c.message_length-need.ensures c.has_room.ensures

fits_whole : (c : Else-not-has_room) → c.args.at + length (bytes_of (written ((goal.at.Else-not-has_room c).Start))) ≤ length c.args.out.now
fits_whole c = has_room _ _ _ (room-told ((goal.at.Else-not-has_room c).After-has_room)) (ap not c.if-not-has_room.false)

pub returns-then-not-has_room : goal.returns-then-not-has_room
returns-then-not-has_room c = no_room (lacks_room _ _ _ (room-told ((goal.at.returns-then-not-has_room c).After-has_room)) (ap not c.if-not-has_room.true))

pub returns : goal.returns
returns c =
    let s = (goal.at.returns c).Start in
    let o = c.octets_of-sequence.ensures in
    five_written s.args.head.now (octets 8 s.args.number.0) s.args.uuid.now s.args.properties.now s.args.value.now (fits_whole ((goal.at.returns c).Else-not-has_room))
    c.put_frame-a.ensures (rw o at c.put_frame-b.ensures) c.put_frame-c.ensures c.put_frame-d.ensures c.put_frame.ensures
