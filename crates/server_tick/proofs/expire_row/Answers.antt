-- `server_tick::expire_row` meets its contract: the removal is written while the key is there, and then the row is taken
-- out of every array. Assumes nothing.
use native.Mathlib.Omega.{arith}
use Rattle.row_cells.proofs.TextLaws.{key-most_at}
use Rattle.server_calls.proofs.LengthLaws.{expiry_as}
use Rattle.server_tick.proofs.expire_row.Goals as goal

pub key_at-key-requires : goal.key_at-key-requires
key_at-key-requires c =
    let few = c.requires.0.few in
    let low = c.requires.1 in
    (omega arith, key-most_at c.args.count c.args.lengths.now c.requires.0.fit c.args.i low)

pub returns : goal.returns
returns c = record {
  cell = _;
  lens = _;
  wrote = expiry_as c.args.number.0 c.key_at-key.ensures c.write_kvpub-written.ensures;
  rows = c.change_row.ensures;
  stamps_gone = c.change_stamps.ensures;
}
