-- `server_kvset::publish` meets its contract: the frames are written as they lie in the message. Assumes nothing.
use mathlib.Core.Path.{refl}
use Rattle.ports.specs.Bodies.{fields_at}
use Rattle.server_calls.proofs.LengthLaws.{written_as}
use Rattle.server_kvset.proofs.publish.Goals as goal

pub returns : goal.returns
returns c =
    let a = c.args in
    written_as a.number.0 (fields_at a.msg.now a.places) refl c.body-key.ensures c.body-uuid.ensures c.body-properties.ensures c.body-value.ensures c.write_kvpub.ensures
