-- `session_examples::desk::Desk::take_all` ends: the measure is what is left of the run. Assumes nothing.
use Rattle.std.proofs.Common.{length}
use Rattle.session_examples.proofs.desk.Desk.take_all.Given as goal

abbrev pub decreases-loop-rest : goal.decreases-loop-rest
decreases-loop-rest g l = length l.rest
