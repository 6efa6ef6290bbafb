-- `base::octets::octets_of` meets its contract by the library's octets. Assumes nothing.
use Rattle.std.proofs.Common.{◌∙◌}
use Rattle.base.proofs.OctetLaws.{be-octets}
use Rattle.base.proofs.octets.octets_of.Goals as goal

pub returns : goal.returns
returns c = c.to_be_bytes.ensures ∙ be-octets _
