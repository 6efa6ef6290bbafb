-- `messages::write::write_icanhaz` meets its contract: there is room for the word and the subtree, or nothing is touched. Assumes nothing.
use Prim.Native.Nat.{◌+◌, ◌≤◌}
use mathlib.Core.Path.{ap}
use mathlib.Core.Bool.{not}
use native.Mathlib.Omega.{arith}
use mathlib.Core.Path.{◌≡◌}
use lib.Dec.{leb}
use lib.ListN.{length}
use Rattle.base.proofs.OutputLaws.{has_room, lacks_room, no_room}
use Rattle.messages.proofs.WriteLaws.{icanhaz-room, icanhaz-written}
use Rattle.messages.specs.Fields.{icanhaz}
use Rattle.messages.proofs.write.write_icanhaz.Goals as goal
use Rattle.messages.proofs.write.write_icanhaz.Goals.{After-has_room, Else-not-has_room}

room-told : (c : After-has_room) → c.has_room.result ≡ leb (c.args.at + length (icanhaz c.args.subtree.now)) (length c.args.out.now)
room-told c = icanhaz-room (length c.args.out.now) c.args.at c.frame_length.result c.add_lengths-need.result c.args.subtree.now (omega arith) c.frame_length.ensures c.add_lengths-need.ensures c.has_room.ensures

fits_whole : (c : Else-not-has_room) → c.args.at + length (icanhaz c.args.subtree.now) ≤ length c.args.out.now
fits_whole c = has_room _ _ _ (room-told ((goal.at.Else-not-has_room c).After-has_room)) (ap not c.if-not-has_room.false)

pub returns-then-not-has_room : goal.returns-then-not-has_room
returns-then-not-has_room c = no_room (lacks_room _ _ _ (room-told ((goal.at.returns-then-not-has_room c).After-has_room)) (ap not c.if-not-has_room.true))

pub returns : goal.returns
returns c = icanhaz-written _ (fits_whole ((goal.at.returns c).Else-not-has_room)) c.put_frame-next.ensures c.put_frame.ensures
