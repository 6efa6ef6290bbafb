-- A request that has room for the longest snapshot is granted. Assumes nothing.
use Prim.Native.Nat.{◌-◌, ◌≤◌}
use native.Mathlib.Omega.{arith}
use mathlib.Core.Bool.{true}
use mathlib.Core.List.{[], ◌∷◌}
use mathlib.Core.Option.{none}
use mathlib.Core.Path.{◌≡◌, ap, ◌∙◌}
use lib.Dec.{leb}
use lib.ListN.{length}
use borrow.Author.Tests.{leb-true, le-ltb}
use Rattle.base.proofs.ByteLaws.{and_right}
use Rattle.base.proofs.CheckLaws.{pass_all}
use Rattle.base.specs.Bytes.{Bytes}
use Rattle.base.specs.Checks.{first_refusal}
use Rattle.cells.specs.Cells.{All}
use Rattle.frames.specs.Messages.{frame_at}
use Rattle.messages.specs.Fields.{icanhaz as question, with_identity}
use Rattle.keys.specs.Keys.{is_subtree, under}
use Rattle.frame_forms.specs.Lengths.{is_identity}
use Rattle.ports.specs.Ports.{icanhaz_port}
use Rattle.round_trip.proofs.RoundTripProof.{requested}
use Rattle.round_trip.proofs.RowsLaws.{Proper}
use Rattle.row_cells.specs.Sizes.{max_rows}
use Rattle.rows.proofs.RowLaws.{length-keep, map-length, map-map}
use Rattle.rows.specs.Rows.{Rows, keep, map_rows}
use Rattle.server_calls.specs.Calls.Call.{icanhaz}
use Rattle.server_calls.specs.Refusals.{held_length, room_checks, call_checks as server_checks}
use Rattle.server_calls.proofs.SnapshotLaws.{Kept, snapshot-length, snapshot-most}
use Rattle.server_calls.specs.Snapshots.{snapshot_length}
use Rattle.server_state.specs.Views.{Entry, Ledger, plain, ledger_of}
use Rattle.joining.proofs.BookLaws.{Sound}
use Rattle.joining.proofs.SnapshotLaws.{sound_rows}
use Rattle.joining.specs.Book.{book_refusal}

held-lengths : (l : Rows Entry) → map_rows held_length (map_rows plain l) ≡ map_rows (λ (e : Entry). length e.value) l
unfolding plain
held-lengths l = map-map plain held_length l

kept : (l : Rows Entry) → All Proper l → All Kept l
kept [] h = tt
kept (r ∷ l) h = ((h.0.0, h.0.1.1), kept l h.1)

module _ (v : Ledger Entry) (s : Sound (ledger_of v)) where
  pub count : length v.rows ≤ max_rows
  unfolding ledger_of
  count = omega (arith, map-length plain v.rows, s.count)

  module _ (identity subtree : Bytes) (i : is_identity identity ≡ true) (u : is_subtree subtree ≡ true) where
    enough : snapshot_length (length identity) subtree (map_rows held_length (ledger_of v).rows) ≤ 40953
    unfolding ledger_of
    enough =
        let few : length (keep (under subtree) v.rows) ≤ max_rows = omega (arith, length-keep (under subtree) v.rows, count) in
        let short = leb-true (length identity) 255 (and_right (leb 1 (length identity)) (leb (length identity) 255) i) in
        let most = snapshot-most v.number identity subtree v.rows short u (kept v.rows (sound_rows v s)) few in
        omega (arith, most, snapshot-length identity subtree v.number v.rows, ap (snapshot_length (length identity) subtree) (held-lengths v.rows))

    abbrev msg : Bytes
    msg = with_identity identity (question subtree)

    identity-frame : frame_at 0 msg ≡ identity
    unfolding frame_at
    identity-frame = rw (requested identity subtree i u).frames

    subtree-frame : frame_at 2 msg ≡ subtree
    unfolding frame_at
    subtree-frame = rw (requested identity subtree i u).frames

    pub request-granted : book_refusal (ledger_of v) (icanhaz msg 40953) ≡ none
    unfolding book_refusal server_checks first_refusal
    request-granted =
        pass_all (icanhaz_port msg) (room_checks (map_rows held_length (ledger_of v).rows) (frame_at 0 msg) (frame_at 2 msg) 40953) (requested identity subtree i u).passes
        ∙ rw (identity-frame, subtree-frame, le-ltb 40953 (snapshot_length (length identity) subtree (map_rows held_length (ledger_of v).rows)) enough)
