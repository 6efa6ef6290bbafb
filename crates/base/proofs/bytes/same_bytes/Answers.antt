-- `base::bytes::same_bytes` meets its contract by the library's test. Assumes nothing.
use Rattle.std.proofs.Common.{◌∙◌}
use Rattle.base.proofs.ByteLaws.{pointwise-same}
use Rattle.base.proofs.bytes.same_bytes.Goals as goal

pub returns : goal.returns
returns c = c.eq.ensures ∙ pointwise-same _ _
