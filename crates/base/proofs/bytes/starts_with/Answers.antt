-- `base::bytes::starts_with` meets its contract by the library's test. Assumes nothing.
use Rattle.std.proofs.Common.{◌∙◌}
use Rattle.base.proofs.ByteLaws.{starts-prefix}
use Rattle.base.proofs.bytes.starts_with.Goals as goal

pub returns : goal.returns
returns c = c.starts_with.ensures.value ∙ starts-prefix _ _
