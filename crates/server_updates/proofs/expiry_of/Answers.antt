-- `server_updates::expiry_of` meets its contract: a lifetime is added to the tick, and without one the row does not
-- expire. Assumes nothing.
use native.Mathlib.Omega.{arith}
use Rattle.server_updates.proofs.PlanLaws.{in_range, expires_then}
use Rattle.server_updates.proofs.expiry_of.Goals as goal

pub overflow_mul-n : goal.overflow_mul-n
overflow_mul-n c = omega (arith, in_range c.args.tick.0 _ _ c.in-Seconds.is c.requires.0 c.requires.1)

pub returns-in-Seconds : goal.returns-in-Seconds
returns-in-Seconds c = expires_then c.args.tick.0 _ _ c.in-Seconds.is c.requires.0 c.requires.1 c.later.ensures
