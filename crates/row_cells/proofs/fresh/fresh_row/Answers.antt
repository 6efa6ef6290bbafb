-- `row_cells::fresh::fresh_row` meets its contract: key and value begin their cells, and are as long as is noted. Assumes nothing.
use mathlib.Core.Path.{refl}
use borrow.Author.Rules.{rules}
use Rattle.row_cells.proofs.TextLaws.{written_front, written_back}
use Rattle.row_cells.proofs.fresh.fresh_row.Goals as goal
use Rattle.row_cells.proofs.fresh.fresh_row.Goals.{Start}

pub returns : goal.returns
returns c fits =
    let s = (goal.at.returns c).Start in
    let k = c.put_bytes in
    let v = c.put_bytes-2 in
    record {
      key = written_front _ s.args.key.now v.new.out fits.0 k.ensures refl;
      value = written_back k.new.out _ s.args.value.now (search rules) fits.1 v.ensures refl;
      key-length = refl;
      value-length = refl;
    }
