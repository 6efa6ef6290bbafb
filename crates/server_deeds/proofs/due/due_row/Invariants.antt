-- `server_deeds::due::due_row` meets its contract: what is found is right for the rows from the place reached on. Assumes
-- nothing.
use mathlib.Core.Path.{◌≡◌}
use lib.ListN.{drop}
use Rattle.server_deeds.specs.DuePlaces.{due_from, expiries_of}
use Rattle.server_deeds.proofs.due.due_row.Given as goal

abbrev pub invariant-loop-i : goal.invariant-loop-i
invariant-loop-i l = l.first ≡ due_from l.i l.tick.0 (drop l.i (expiries_of l.count l.stamps))
