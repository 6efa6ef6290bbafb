-- `chp::bytes::chp_bytes_value_length` meets its contract: the value frame ends the message. Assumes nothing.
use Rattle.chp.proofs.ValueLaws.{value-length}
use Rattle.chp.proofs.bytes.chp_bytes_value_length.Goals as goal

pub returns : goal.returns
returns c = value-length _ _ c.value_frame.ensures
