-- `server_snapshot::snapshot::write_rows` meets its contract: the rows before the place reached are written. Assumes
-- nothing.
use native.Mathlib.Omega.{arith}
use mathlib.Core.Path.{refl, sym, ◌∙◌}
use Rattle.base.proofs.OutputLaws.{kept_length}
use Rattle.base.specs.Output.{Written}
use Rattle.row_cells.proofs.TextLaws.{key-most_at, value-most_at}
use Rattle.server_calls.proofs.SnapshotLaws.{rows_start, rows_end, row_room, row_in, row_out}
use Rattle.server_calls.specs.Snapshots.{syncs}
use Rattle.server_snapshot.proofs.RowLaws.{entry_row, sync-fits, sync_as}
use Rattle.server_state.proofs.StateLaws.{row_count}
use Rattle.server_state.specs.Views.{lent, row_list}
use Rattle.server_state.specs.declared.Server.{Server}
use Rattle.server_snapshot.proofs.snapshot.write_rows.Goals as goal
use Rattle.server_snapshot.proofs.snapshot.write_rows.Goals.{then-is_under, else-is_under}
use Rattle.server_snapshot.proofs.snapshot.write_rows.Goals.{After-loop-i, Start}

abbrev state : (c : Start) → Server
state s = lent s.args.bytes.now s.args.lengths.now s.args.stamps.now s.args.header

whole : (c : After-loop-i) → Written c.args.out.now 0 (syncs c.args.identity.now c.args.subtree.now (row_list (state ((goal.at.After-loop-i c).Start)))) c.loop-i.at c.loop-i.out
whole c =
    let s = (goal.at.After-loop-i c).Start in
    let n = row_count (state s) in
    rows_end s.args.identity.now s.args.subtree.now s.args.out.now (row_list (state s)) c.loop-i.i (omega arith) c.loop-i.invariant

pub loop-i-init : goal.loop-i-init
loop-i-init c =
    let s = (goal.at.loop-i-init c).Start in
    rows_start s.args.identity.now s.args.subtree.now s.args.out.now (row_list (state s))

pub key_at-key-requires : goal.key_at-key-requires
key_at-key-requires c =
    let s = (goal.at.key_at-key-requires c).Start in
    let few = s.requires.0.few in
    (omega arith, key-most_at s.args.header.count s.args.lengths.now s.requires.0.fit c.loop-i.i c.loop-i-test.true)

pub value_at-value-requires : goal.value_at-value-requires
value_at-value-requires c =
    let s = (goal.at.value_at-value-requires c).Start in
    let few = s.requires.0.few in
    (omega arith, value-most_at s.args.header.count s.args.lengths.now s.requires.0.fit c.loop-i.i c.loop-i-test.true)

pub number_at-requires : goal.number_at-requires
number_at-requires c =
    let few = c.requires.0.few in
    omega arith

pub write_row-at-requires : goal.write_row-at-requires
write_row-at-requires c =
    let s = (goal.at.write_row-at-requires c).Start in
    let l = c.loop-i in
    let r = entry_row (state s) l.i c.loop-i-test.true c.key_at-key.ensures c.value_at-value.ensures in
    sync-fits s.args.identity.now _ _ c.number_at.ensures _ _ (row_room s.args.identity.now s.args.subtree.now s.args.out.now (row_list (state s)) s.requires.1 l.i _ _ r l.invariant (sym c.is_under.ensures ∙ c.if-is_under.true))

pub loop-i-preserved : goal.loop-i-preserved
loop-i-preserved c =
    let s = (goal.at.loop-i-preserved c).Start in
    let l = c.loop-i in
    let u = c.is_under.ensures in
    let k = c.key_at-key.ensures in
    let t = c.loop-i-test.true in
    elim c.if-is_under.branch [
      | then-is_under w ↦ row_in s.args.identity.now s.args.subtree.now s.args.out.now (row_list (state s)) s.requires.1 l.i _ _ (entry_row (state s) l.i t k w.value_at-value.ensures) l.invariant (sym u ∙ w.if-is_under.true) (sync_as s.args.identity.now _ _ w.number_at.ensures w.write_row-at.ensures) w.out-is w.at-is
      | else-is_under w ↦ row_out s.args.identity.now s.args.subtree.now s.args.out.now (row_list (state s)) s.requires.1 l.i _ _ (entry_row (state s) l.i t k refl) l.invariant (sym u ∙ w.if-is_under.false) w.out-is w.at-is
    ]

pub shape_of-out : goal.shape_of-out
shape_of-out c = kept_length (whole ((goal.at.shape_of-out c).After-loop-i)) (omega (arith, c.requires.1))

pub returns : goal.returns
returns c = whole ((goal.at.returns c).After-loop-i)
