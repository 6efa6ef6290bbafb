-- `properties::read::read_properties` meets its contract: the whole says what the lines left say, behind what those passed gave. Assumes nothing.
use Rattle.std.proofs.Common.{◌≡◌, ◌≤◌, length}
use Rattle.base.specs.Cuts.{pieces}
use Rattle.properties.proofs.PropertyLaws.{lines_left}
use Rattle.properties.specs.Properties.{properties_of}
use Rattle.properties.proofs.read.read_properties.Given as goal

abbrev pub invariant-loop-rest : goal.invariant-loop-rest
invariant-loop-rest l = (properties_of l.s ≡ lines_left l.lifetime (pieces 10 l.rest)) × (length l.rest ≤ length l.s)

abbrev pub decreases-loop-rest : goal.decreases-loop-rest
decreases-loop-rest l = length l.rest
