-- `server_start::start_lent` meets its contract: the arrays are zeros, and the header is that of no rows. Assumes nothing.
use mathlib.Core.Path.{refl, ◌∙◌}
use Rattle.server_start.proofs.StartLaws.{start-refused, start-accepted}
use Rattle.server_start.proofs.start_lent.Goals as goal

pub returns-in-Err : goal.returns-in-Err
returns-in-Err c = record {
  begins =
      start-refused _ _ _ c.args.number.0 c.args.tick.0 c.check_start.ensures c.in-Err.is (c.refused.ensures.0 ∙ c.first_header.ensures)
      (c.refused.ensures.1 ∙ rw c.first_header.ensures refl);
  zeroed = (refl, refl, refl);
}

pub returns-in-Ok : goal.returns-in-Ok
returns-in-Ok c = record {
  begins =
      start-accepted _ _ _ c.args.number.0 c.args.tick.0 c.check_start.ensures c.in-Ok.is (c.accepted.ensures.0 ∙ c.first_header-in-Ok.ensures)
      c.accepted.ensures.1;
  zeroed = (refl, refl, refl);
}
