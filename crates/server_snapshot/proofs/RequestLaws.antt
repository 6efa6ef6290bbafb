-- Laws of ICANHAZ: the room that a snapshot needs, its checks over the rows, and what the call gives. Assumes nothing.
use Rattle.std.specs.Prelude.{Result, Ok, Err}
use Prim.Native.Nat.{ℕ, ◌+◌, ◌≤◌, ◌<◌, min}
use native.Mathlib.Omega.{arith}
use mathlib.Core.List.{List, ◌++◌}
use mathlib.Core.Option.{none}
use mathlib.Core.Path.{◌≡◌, refl, sym, ap, ◌∙◌}
use lib.ListN.{length}
use borrow.Author.Tests.{lt-ltb, le-ltb, ltb-false}
use Rattle.answers.proofs.VerdictLaws.{accepted, refused}
use Rattle.answers.specs.Answers.{answer}
use Rattle.answers.specs.Refusals.{verdict}
use Rattle.answers.specs.declared.answer.Answer.{Answer}
use Rattle.answers.specs.declared.answer.Kind.TheVariants.{Refused, Wrote}
use Rattle.answers.specs.declared.refusal.Refusal.TheVariants.{ShortOutput}
use Rattle.answers.specs.declared.refusal.Refusal.{Refusal}
use Rattle.base.proofs.CheckLaws.{passed, both_passed}
use Rattle.base.proofs.OutputLaws.{place, output}
use Rattle.base.specs.Bytes.{Bytes}
use Rattle.base.specs.Checks.{Check, first_refusal}
use Rattle.base.specs.Output.{Written, largest}
use Rattle.frames.specs.Messages.{frame_at}
use Rattle.framing.specs.Splits.{body_in, IsSplit}
use Rattle.framing.specs.declared.Split.{Split}
use Rattle.ports.proofs.PortLaws.{icanhaz_is, body_is}
use Rattle.ports.specs.Ports.{icanhaz_port}
use Rattle.row_cells.specs.Faults.{GoodRows}
use Rattle.row_cells.specs.Sizes.{byte_count}
use Rattle.rows.proofs.RowLaws.{map-map}
use Rattle.rows.specs.Rows.{Rows, map_rows}
use Rattle.server_calls.proofs.AnswerLaws.{refused_call, accepted_call, refusal_is}
use Rattle.server_calls.specs.Calls.{icanhaz}
use Rattle.server_calls.specs.Next.{accepted_next}
use Rattle.server_calls.specs.Output.{accepted_bytes}
use Rattle.server_calls.specs.Promises.{Answered}
use Rattle.server_calls.specs.Refusals.{held_length, room_checks, call_checks, refusal_of}
use Rattle.server_calls.specs.Snapshots.{snapshot_length, snapshot_bytes}
use Rattle.server_snapshot.proofs.RowLaws.{lengths_are, snapshot-long}
use Rattle.server_snapshot.specs.Requests.{length_rows, request_checks}
use Rattle.server_state.proofs.FormLaws.{good_server}
use Rattle.server_state.specs.IllFormed.{ill_forms, WellFormed}
use Rattle.server_state.specs.Views.{row_list, view, plain, ledger_of}
use Rattle.server_state.specs.declared.Server.{Server}

-- ---- the room for the snapshot: the frames that were found, and how many bytes it needs
module _ (rows : Rows ℕ) (room : ℕ) {identity subtree first third : Bytes} (i : identity ≡ first) (t : subtree ≡ third) {need : ℕ}
    (n : need ≡ min (snapshot_length (length identity) subtree rows) largest) where
  needed : need ≡ min (snapshot_length (length first) third rows) largest
  needed = n ∙ rw (i, t)

  pub too_long : room < need → Err ShortOutput ≡ verdict (first_refusal (room_checks rows first third room))
  unfolding first_refusal
  too_long h = rw (lt-ltb room (snapshot_length (length first) third rows) (omega (arith, needed)))

  pub has_room : snapshot_length (length first) third rows ≤ 40954 → need ≤ room → Ok tt ≡ verdict (first_refusal (room_checks rows first third room))
  unfolding first_refusal
  has_room k h = rw (le-ltb room (snapshot_length (length first) third rows) (omega (arith, needed, k)))

-- ---- the checks of a state whose array has all its bytes
module _ (s : Server) (z : length s.bytes ≡ byte_count) (msg : Bytes) (split : Split) (is : IsSplit msg split) where
  abbrev lengths_in : Rows ℕ
  lengths_in = length_rows s.header.count s.bytes s.lengths

  -- those of the message, after that of the state
  abbrev request_table : ℕ → List (Check Refusal)
  request_table room = icanhaz_port msg ++ room_checks lengths_in (frame_at 0 msg) (frame_at 2 msg) room

  read_so : (room : ℕ) → request_checks s msg split room ≡ ill_forms s ++ request_table room
  unfolding request_checks
  read_so room =
      ap (λ (port : List (Check Refusal)). ill_forms s ++ (port ++ room_checks lengths_in (body_in msg split.places 0) (body_in msg split.places 2) room)) (icanhaz_is msg split is)
      ∙ ap (λ (i : Bytes). ill_forms s ++ (icanhaz_port msg ++ room_checks lengths_in i (body_in msg split.places 2) room)) (body_is msg split is 0 (omega arith))
      ∙ ap (λ (t : Bytes). ill_forms s ++ (icanhaz_port msg ++ room_checks lengths_in (frame_at 0 msg) t room)) (body_is msg split is 2 (omega arith))

  lengths-held : WellFormed s → map_rows held_length (ledger_of (view s)).rows ≡ lengths_in
  unfolding ledger_of view plain
  lengths-held w = map-map plain held_length (row_list s) ∙ lengths_are s z (good_server s w).rows

  refusal_so : (room : ℕ) → first_refusal (request_checks s msg split room) ≡ refusal_of s (icanhaz msg room)
  unfolding call_checks
  refusal_so room =
      ap first_refusal (read_so room)
      ∙ refusal_is s (icanhaz msg room) (request_table room) (λ w. ap (λ (rows : Rows ℕ). first_refusal (icanhaz_port msg ++ room_checks rows (frame_at 0 msg) (frame_at 2 msg) room)) (sym (lengths-held w)))

  -- ---- the call
  module _ (out : Bytes) {found : Result (Unit {0}) Refusal} (e : found ≡ verdict (first_refusal (request_checks s msg split (length out)))) where
    pub snapshot-refused : {r : Refusal} → found ≡ Err r → {a : Answer} → a ≡ answer (Refused r s.header.number) 0 → Answered s (icanhaz msg (length out)) out s a out
    snapshot-refused {r} f {a} told =
        refused_call s (icanhaz msg (length out)) out s a r (sym (refusal_so (length out)) ∙ refused r (first_refusal (request_checks s msg split (length out))) (sym f ∙ e)) refl told

    module _ (f : found ≡ Ok tt) where
      clear : first_refusal (request_checks s msg split (length out)) ≡ none
      clear = accepted (first_refusal (request_checks s msg split (length out))) (sym f ∙ e)

      both : WellFormed s × (first_refusal (request_table (length out)) ≡ none)
      both = both_passed (ill_forms s) (request_table (length out)) (ap first_refusal (sym (read_so (length out))) ∙ clear)

      rows_good : GoodRows s.header.count s.bytes s.lengths
      rows_good = (good_server s both.0).rows

      fits : length (snapshot_bytes s.header.number.0 (frame_at 0 msg) (frame_at 2 msg) (row_list s)) ≤ length out
      fits =
          rw (snapshot-long s z rows_good s.header.number.0 (frame_at 0 msg) (frame_at 2 msg))
          (ltb-false _ _ (passed 0 (room_checks lengths_in (frame_at 0 msg) (frame_at 2 msg) (length out)) (both_passed (icanhaz_port msg) (room_checks lengths_in (frame_at 0 msg) (frame_at 2 msg) (length out)) both.1).1))

      module _ {identity subtree : Bytes} (identity-at : identity ≡ body_in msg split.places 0) (subtree-at : subtree ≡ body_in msg split.places 2) where
        same_bytes : snapshot_bytes s.header.number.0 identity subtree (row_list s) ≡ snapshot_bytes s.header.number.0 (frame_at 0 msg) (frame_at 2 msg) (row_list s)
        same_bytes = rw (identity-at ∙ body_is msg split is 0 (omega arith), subtree-at ∙ body_is msg split is 2 (omega arith))

        -- what the writer of a snapshot asks for
        pub snapshot-fits : GoodRows s.header.count s.bytes s.lengths × (length (snapshot_bytes s.header.number.0 identity subtree (row_list s)) ≤ length out)
        snapshot-fits = (rows_good, rw same_bytes fits)

        pub snapshot-answered : {out' : Bytes} {n : ℕ} → Written out 0 (snapshot_bytes s.header.number.0 identity subtree (row_list s)) n out'
            → {a : Answer} → a ≡ answer (Wrote s.header.number) n → Answered s (icanhaz msg (length out)) out s a out'
        unfolding accepted_bytes accepted_next view
        snapshot-answered {out'} {n} w {a} told =
            let u : Written out 0 (snapshot_bytes s.header.number.0 (frame_at 0 msg) (frame_at 2 msg) (row_list s)) n out' = rw same_bytes at w in
            let h : 0 + length (snapshot_bytes s.header.number.0 (frame_at 0 msg) (frame_at 2 msg) (row_list s)) ≤ length out = omega (arith, fits) in
            let b : n ≡ length (snapshot_bytes s.header.number.0 (frame_at 0 msg) (frame_at 2 msg) (row_list s)) = omega (arith, place u h) in
            accepted_call s (icanhaz msg (length out)) out s a out' (sym (refusal_so (length out)) ∙ clear) (told ∙ ap (answer (Wrote s.header.number)) b) refl (output u h) (λ g. g)
