-- `frame_writer::frame::put_frame` meets its contract: there is room for the head and the body, or nothing is touched. Assumes nothing.
use Rattle.std.proofs.Common.{◌≡◌, ◌+◌, leb, length, sym, ◌∙◌, arith}
use Rattle.std.proofs.lemmas.Bool.{leb-true, leb-false}
use Rattle.base.proofs.OutputLaws.{no_room, both}
use Rattle.frames.proofs.FrameLaws.{frame-room}
use Rattle.frames.specs.Messages.{frame}
use Rattle.frame_writer.proofs.frame.put_frame.Goals as goal
use Rattle.frame_writer.proofs.frame.put_frame.Goals.{After-has_room}

room-told : (c : After-has_room) → c.has_room.result ≡ leb (c.args.at + length (frame c.args.more c.args.body.now)) (length c.args.out.now)
room-told c = frame-room (length c.args.out.now) c.args.at c.frame_length.result c.args.more c.args.body.now (omega arith) c.frame_length.ensures c.has_room.ensures

pub returns-then-not-has_room : goal.returns-then-not-has_room
returns-then-not-has_room c =
    no_room (leb-false _ _ (sym (room-told ((goal.at.returns-then-not-has_room c).After-has_room)) ∙ c.if-not-has_room.true))

pub returns : goal.returns
unfolding frame
returns c =
    both c.put_header-next.ensures c.args.body.now
    (leb-true _ _ (sym (room-told ((goal.at.returns c).After-has_room)) ∙ c.if-not-has_room.false)) c.put_bytes.ensures
