-- A client that waits for a subtree accepts every message of an answer for it. Assumes nothing.
use Prim.Native.Nat.{ℕ, suc, ◌-◌, ◌≤◌, ◌<◌}
use native.Mathlib.Omega.{arith}
use mathlib.Core.Bool.{true, false, and-false}
use mathlib.Core.List.{[], ◌∷◌}
use mathlib.Core.Option.{none}
use mathlib.Core.Path.{◌≡◌, refl, sym, ap, subst, ◌∙◌}
use lib.ListN.{length}
use borrow.Author.Tests.{le-leb, lt-leb}
use Rattle.std.specs.declared.cmp.Ordering.TheVariants.{Less, Equal, Greater}
use Rattle.std.specs.declared.cmp.Ordering.{Ordering}
use Rattle.base.proofs.CheckLaws.{pass_all}
use Rattle.base.specs.Bytes.{Bytes, same}
use Rattle.base.specs.Checks.{first_refusal}
use Rattle.client_calls.specs.Start.{start_refusal, start_of}
use Rattle.client_calls.specs.Calls.Call.{snapshot}
use Rattle.client_calls.specs.Calls.{Call as ClientCall}
use Rattle.client_calls.specs.Effects.Effect.{sync}
use Rattle.client_calls.specs.Next.{effect_next, accepted_next}
use Rattle.client_calls.specs.Refusals.{call_checks as client_checks}
use Rattle.client_state.specs.Views.{Replica}
use Rattle.frames.specs.Messages.{frame_at}
use Rattle.messages.specs.Fields.{Fields}
use Rattle.keys.specs.Keys.{is_subtree, under}
use Rattle.numbers.specs.Sequences.{max_sequence}
use Rattle.numbers.specs.Ticks.{max_tick}
use Rattle.key_order.specs.Order.{order_of}
use Rattle.frame_forms.specs.Words.{word_kthxbai}
use Rattle.ports.specs.Ports.{snapshot_port}
use Rattle.round_trip.proofs.ArrivalLaws.{not_kthxbai, kvsync-arrives, kthxbai-arrives}
use Rattle.round_trip.proofs.RowsLaws.{Proper}
use Rattle.rows.proofs.RowLaws.{length-keep}
use Rattle.rows.specs.Rows.{Rows, place, set_row, keep}
use Rattle.server_state.specs.Views.{Entry, Ledger, ledger_of}
use Rattle.joining.proofs.BookLaws.{Sound}
use Rattle.joining.proofs.GrantLaws.{count}
use Rattle.joining.proofs.LogLaws.{AllOf, size, size_onto}
use Rattle.joining.proofs.SnapshotLaws.{Sent, all_sent, sync_of, end_of, sent_rows, syncs_of, snapshot_of, map_log, sound_number, sync-fields, end_word}
use Rattle.joining.specs.Ends.ClientStart.{wait}
use Rattle.joining.specs.Ends.{ClientStart, client_start, client_refusal, client_next, client_after, accepts, accepted}
use Rattle.base.specs.Logs.Log.{empty, ◌▷◌}
use Rattle.base.specs.Logs.{Log}
use Rattle.joining.specs.Possible.{handed_in}
use Rattle.row_cells.specs.Sizes.{max_rows}

length-put : (k a : Bytes) (l : Rows Bytes) → length (set_row k a l) ≤ suc (length l)
unfolding set_row
length-put k a [] = omega arith
length-put k a (r ∷ l) = go (order_of k r.0) (length-put k a l)
  where
    go : (o : Ordering) → length (set_row k a l) ≤ suc (length l) → length (place o (k, a) r l (set_row k a l)) ≤ suc (length (r ∷ l))
    go Less i = omega arith
    go Equal i = omega arith
    go Greater i = omega arith

-- ---- one message of it
module _ (v : Replica) (w : v.live ≡ false) where
  -- a row under the client's subtree, where there is room
  module _ (r : Bytes × Entry) (p : Proper r) (u : under v.subtree r.0 ≡ true) (room : length v.rows < max_rows) where
    row-head : frame_at 0 (sync_of r) ≡ r.0
    row-head = ap (λ (f : Fields). f.head) (sync-fields r p)

    row_word : same word_kthxbai (frame_at 0 (sync_of r)) ≡ false
    row_word = ap (same word_kthxbai) row-head ∙ not_kthxbai r.0 p.0

    row-passes : client_refusal v (snapshot (sync_of r)) ≡ none
    unfolding client_refusal client_checks first_refusal
    row-passes =
        pass_all (snapshot_port v.subtree (sync_of r)) _ (kvsync-arrives v.subtree r.0 r.1.value r.1.number p.0 u p.1.0 p.1.1).passes
        ∙ rw (w, row_word, lt-leb max_rows (length v.rows) room, and-false)

    row_next : client_next v (snapshot (sync_of r)) ≡ effect_next v (sync (frame_at 0 (sync_of r)) (frame_at 4 (sync_of r)))
    unfolding client_next accepted_next
    row_next = rw (row-passes, row_word)

  -- the end, with the client's subtree
  end_passes : (m : ℕ) → is_subtree v.subtree ≡ true → m ≤ max_sequence → client_refusal v (snapshot (end_of m v.subtree)) ≡ none
  unfolding client_refusal client_checks first_refusal
  end_passes m u h =
      pass_all (snapshot_port v.subtree (end_of m v.subtree)) _ (kthxbai-arrives v.subtree m u h).arrives.passes ∙ rw (w, end_word m v.subtree u)

-- a message that passes is accepted
accepted-next : (q : ClientStart) (C : Log ClientCall) (b : Bytes) → client_refusal (client_after q C) (snapshot b) ≡ none → accepted q (C ▷ snapshot b) ≡ accepted q C ▷ b
unfolding accepted accepts
accepted-next q C b e = rw e

-- ---- all of it
-- a client that waits, is of a subtree and has at most n rows
abbrev pub Waits : Replica → Bytes → ℕ → Type 0
Waits v subtree n = (v.live ≡ false) × ((v.subtree ≡ subtree) × (length v.rows ≤ n))

module _ (subtree : Bytes) (q : ClientStart) (begins : Waits (client_start q) subtree 0) where
  rows-accepted : (rs : Log (Bytes × Entry)) → AllOf (Sent subtree) rs → size rs ≤ max_rows
      → (accepted q (handed_in (map_log sync_of rs)) ≡ map_log sync_of rs) × Waits (client_after q (handed_in (map_log sync_of rs))) subtree (size rs)
  unfolding accepted client_after handed_in size effect_next
  rows-accepted empty h k = (refl, begins)
  rows-accepted (rs ▷ r) h k = go (rows-accepted rs h.0 (omega arith))
    where
      C : Log ClientCall
      C = handed_in (map_log sync_of rs)

      v : Replica
      v = client_after q C

      go : (accepted q C ≡ map_log sync_of rs) × Waits v subtree (size rs)
          → (accepted q (C ▷ snapshot (sync_of r)) ≡ map_log sync_of rs ▷ sync_of r) × Waits (client_next v (snapshot (sync_of r))) subtree (suc (size rs))
      go i =
          let w = i.1 in
          let u : under v.subtree r.0 ≡ true = ap (λ (t : Bytes). under t r.0) w.1.0 ∙ h.1.1 in
          let room : length v.rows < max_rows = omega (arith, w.1.1) in (
            accepted-next q C (sync_of r) (row-passes v w.0 r h.1.0 u room) ∙ ap (λ (a : Log Bytes). a ▷ sync_of r) i.0,
            subst (λ (v' : Replica). Waits v' subtree (suc (size rs))) (sym (row_next v w.0 r h.1.0 u room))
                (w.0, (w.1.0, omega (arith, length-put (frame_at 0 (sync_of r)) (frame_at 4 (sync_of r)) v.rows, w.1.1))),
          )

module _ (v : Ledger Entry) (s : Sound (ledger_of v)) (subtree : Bytes) (u : is_subtree subtree ≡ true) where
  few : size (sent_rows v subtree) ≤ max_rows
  unfolding size
  few = omega (arith, size_onto empty (keep (under subtree) v.rows), length-keep (under subtree) v.rows, count v s)

  pub answer-taken : (q : ClientStart) → Waits (client_start q) subtree 0 → accepted q (handed_in (snapshot_of v subtree)) ≡ snapshot_of v subtree
  unfolding handed_in
  answer-taken q begins =
      let i = rows-accepted subtree q begins (sent_rows v subtree) (all_sent v subtree s) few in
      let w = i.1 in
      let c : Replica = client_after q (handed_in (syncs_of v subtree)) in
      let passes : client_refusal c (snapshot (end_of v.number subtree)) ≡ none =
      subst (λ (t : Bytes). client_refusal c (snapshot (end_of v.number t)) ≡ none) w.1.0 (end_passes c w.0 v.number (rw w.1.0 u) (sound_number v s)) in
      accepted-next q (handed_in (syncs_of v subtree)) (end_of v.number subtree) passes ∙ ap (λ (a : Log Bytes). a ▷ end_of v.number subtree) i.0

pub start-waits : (subtree : Bytes) (t : ℕ) → is_subtree subtree ≡ true → t ≤ max_tick → Waits (client_start (wait subtree t)) subtree 0
unfolding client_start start_of start_refusal first_refusal
start-waits subtree t u h = rw (u, le-leb t max_tick h) (refl, (refl, omega arith))
