-- `row_checks::are_sorted_keys` meets its contract: the keys passed are keys and rise, so all do if the others do. Assumes nothing.
use mathlib.Core.Bool.{◌&&◌}
use Rattle.base.specs.Bytes.{every}
use Rattle.keys.specs.Keys.{is_key}
use Rattle.row_cells.specs.Texts.{keys_of}
use Rattle.row_checks.proofs.PassLaws.{Passed}
use Rattle.rows.specs.Rows.{rising}
use Rattle.row_checks.proofs.are_sorted_keys.Given as goal

abbrev pub invariant-loop-i : goal.invariant-loop-i
invariant-loop-i l =
    Passed (every is_key (keys_of l.count l.bytes l.lengths) && rising (keys_of l.count l.bytes l.lengths)) (keys_of l.count l.bytes l.lengths) l.before l.i
