-- `server_snapshot::snapshot::snapshot_length` meets its contract: the total is that of the rows from the place reached
-- on. Assumes nothing.
use Prim.Native.Nat.{ℕ, ◌-◌, min}
use native.Mathlib.Omega.{arith}
use mathlib.Core.Path.{◌≡◌, refl, sym, ap, ◌∙◌}
use lib.ListN.{drop}
use Rattle.base.specs.Output.{largest}
use Rattle.row_cells.proofs.TextLaws.{key-most_at}
use Rattle.rows.specs.Rows.{Rows}
use Rattle.server_calls.proofs.SnapshotLaws.{length_end, length_in, length-out}
use Rattle.server_calls.specs.Snapshots.{snapshot_length}
use Rattle.server_snapshot.proofs.RowLaws.{length-rows, length-row}
use Rattle.server_snapshot.specs.Requests.{length_rows}
use Rattle.server_snapshot.proofs.snapshot.snapshot_length.Goals as goal
use Rattle.server_snapshot.proofs.snapshot.snapshot_length.Goals.{Start}

abbrev rows : (c : Start) → Rows ℕ
rows s = length_rows s.args.count s.args.bytes.now s.args.lengths.now

pub loop-i-init : goal.loop-i-init
loop-i-init c =
    let s = (goal.at.loop-i-init c).Start in
    let n = length-rows s.args.count s.args.bytes.now s.args.lengths.now in
    length_end s.args.identity s.args.subtree.now (rows s) s.args.count c.frame_length-head.ensures (omega arith) c.message_length.ensures c.add_lengths-total.ensures

pub key_at-key-requires : goal.key_at-key-requires
key_at-key-requires c =
    let s = (goal.at.key_at-key-requires c).Start in
    let few = s.requires.few in
    (omega arith, key-most_at s.args.count s.args.lengths.now s.requires.fit (c.loop-i.i - 1) (omega arith))

pub value_length_at-value-requires : goal.value_length_at-value-requires
value_length_at-value-requires c =
    let few = c.requires.few in
    omega arith

pub loop-i-preserved-then-is_under : goal.loop-i-preserved-then-is_under
loop-i-preserved-then-is_under c =
    let s = (goal.at.loop-i-preserved-then-is_under c).Start in
    let l = c.loop-i in
    let r = length-row s.args.count s.args.bytes.now s.args.lengths.now l.i (l.i - 1) (omega arith) (omega arith) c.key_at-key.ensures c.value_length_at-value.ensures in
    length_in s.args.identity s.args.subtree.now (rows s) l.i c.frame_length-head.ensures l.invariant (l.i - 1) _ _ r (sym c.is_under.ensures ∙ c.if-is_under.true) c.message_length-row.ensures c.add_lengths.ensures c.add_lengths-total-then-is_under.ensures

pub loop-i-preserved : goal.loop-i-preserved
loop-i-preserved c =
    let s = (goal.at.loop-i-preserved c).Start in
    let l = c.loop-i in
    let r = length-row s.args.count s.args.bytes.now s.args.lengths.now l.i (l.i - 1) (omega arith) (omega arith) c.key_at-key.ensures refl in
    length-out s.args.identity s.args.subtree.now (rows s) l.i c.frame_length-head.ensures l.invariant (l.i - 1) _ _ r (sym c.is_under.ensures ∙ c.if-is_under.false)

pub returns : goal.returns
returns c =
    let s = (goal.at.returns c).Start in
    let e : c.loop-i.i ≡ 0 = omega arith in
    c.loop-i.invariant ∙ ap (λ (j : ℕ). min (snapshot_length s.args.identity s.args.subtree.now (drop j (rows s))) largest) e
