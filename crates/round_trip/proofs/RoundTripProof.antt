-- What one end writes the other reads: the proof, message by message. Assumes nothing.
use Prim.Native.Nat.{ℕ, suc, ◌-◌, ◌≤◌, ◌<◌}
use native.Mathlib.Omega.{arith}
use mathlib.Core.Bool.{Bool, true, false, cond, not}
use mathlib.Core.List.{List, [], ◌∷◌, ◌++◌, map}
use mathlib.Core.Option.{Option, none, some}
use mathlib.Core.Path.{◌≡◌, refl, sym, ap, subst, ◌∙◌}
use lib.Dec.{leb, ltb, eqb}
use lib.ListN.{length}
use borrow.Author.Tests.{leb-true, eqb-false, not-false}
use Rattle.answers.specs.declared.refusal.Refusal.TheVariants.{BadKey, BadSequence, ShortOutput}
use Rattle.answers.specs.declared.refusal.Refusal.{Refusal}
use Rattle.base.proofs.ByteLaws.{and_right, same_refl}
use Rattle.base.proofs.CheckLaws.{passed, both_passed}
use Rattle.base.specs.Bytes.{Bytes, every}
use Rattle.base.specs.Checks.Check.{when}
use Rattle.base.specs.Checks.{Check, first_refusal}
use Rattle.cells.specs.Cells.{All}
use Rattle.client_calls.specs.Calls.{write_icanhaz, write_kvset}
use Rattle.client_calls.specs.Output.{accepted_bytes as client_writes, bytes_for as client_bytes}
use Rattle.client_calls.specs.Refusals.{call_checks as client_checks, refusal_of as client_refusal}
use Rattle.client_state.proofs.FormLaws.{good_client}
use Rattle.client_state.specs.IllFormed.{ill_forms as client_faults}
use Rattle.client_state.specs.Views.{subtree_of, view as replica}
use Rattle.client_state.specs.declared.Client.{Client}
use Rattle.frames.proofs.RunLaws.{Whole, run-cut, joined_last}
use Rattle.frames.specs.Runs.{messages_in}
use Rattle.messages.proofs.RoundTrip.{identity_off, identity_on, request-on}
use Rattle.frames.specs.Messages.{frame_at}
use Rattle.messages.specs.Fields.{fields_of, bytes_of, kvset, kvpub, kvsync, kthxbai, icanhaz, with_identity, without_identity}
use Rattle.keys.proofs.UnderLaws.{subtree-short}
use Rattle.keys.specs.Keys.{is_key, is_subtree, under}
use Rattle.frame_forms.specs.Lengths.{is_identity}
use Rattle.base.specs.Octets.{octets}
use Rattle.numbers.specs.Sequences.{max_sequence, is_sequence}
use Rattle.frame_forms.specs.Words.{word_icanhaz, word_kthxbai}
use Rattle.ports.specs.Ports.{framed, payload_checks, update_checks, kvset_checks, kvset_port, subscriber_port, snapshot_port, icanhaz_checks, icanhaz_port, tick_checks}
use Rattle.properties.specs.Properties.{properties_in, properties_of, ttls}
use Rattle.base.specs.Cuts.{pieces}
use Rattle.rows.proofs.RowLaws.{map_keys}
use Rattle.rows.specs.Rows.{Rows, keep, keys_in, has_key, map_rows}
use Rattle.round_trip.proofs.ArrivalLaws.{kvset-arrives, kvpub-arrives, hugz-arrives, sync_sizes, kvsync-arrives, end_sizes, kthxbai-arrives}
use Rattle.round_trip.proofs.RowsLaws.{Proper, rows_proper, proper_keys, good_number, keep_all}
use Rattle.round_trip.specs.RoundTrip.{Arrives, Numbered, Requested, TickArrives, SyncArrives, SnapshotArrives, RoundTrip}
use Rattle.server_calls.specs.Calls.{kvset as update, tick, icanhaz as request}
use Rattle.server_calls.specs.Deeds.{expire, beat, quiet, deed, deed_of}
use Rattle.server_calls.specs.Output.{tick_bytes, accepted_bytes as server_writes, bytes_for as server_bytes}
use Rattle.server_calls.specs.Refusals.{update as published, expiry, store_checks, deed_checks, held_length, room_checks, call_checks as server_checks, refusal_of as server_refusal}
use Rattle.server_calls.proofs.DueLaws.{due_key}
use Rattle.server_state.proofs.FormLaws.{GoodServer, good_server}
use Rattle.server_calls.specs.Due.{least_due}
use Rattle.server_state.specs.IllFormed.{ill_forms as server_faults}
use Rattle.server_calls.specs.Snapshots.{sync, thanks, syncs, snapshot_bytes}
use Rattle.server_state.specs.Views.{Entry, plain, SizedServer, view, ledger_of}
use Rattle.server_state.specs.declared.Server.{Server}

-- ---- what a client writes
pub identity-short : (identity : Bytes) → is_identity identity ≡ true → length identity < 18446744073709551616
identity-short identity i = omega (arith, leb-true (length identity) 255 (and_right (leb 1 (length identity)) (leb (length identity) 255) i))

pub requested : (identity subtree : Bytes) → is_identity identity ≡ true → is_subtree subtree ≡ true → Requested (with_identity identity (icanhaz subtree)) identity subtree
unfolding first_refusal frame_at
requested identity subtree i s =
    let f = request-on identity subtree (identity-short identity i) (omega (arith, subtree-short subtree s)) in
    record { passes = rw (f, i, same_refl word_icanhaz, s) refl; frames = f }

module _ (c : Client) where
  abbrev kvset_check : Bytes → Bytes → Bytes → Bytes → ℕ → List (Check Refusal)
  kvset_check key uuid properties value room = when (ltb room (length (bytes_of (kvset key uuid properties value)))) ShortOutput ∷ []

  client-kvset : (key uuid properties value : Bytes) (room : ℕ) → client_refusal c (write_kvset key uuid properties value room) ≡ none
      → Arrives kvset_port (client_bytes c (write_kvset key uuid properties value room)) (kvset key uuid properties value)
  unfolding client_refusal client_checks client_bytes client_writes
  client-kvset key uuid properties value room e =
      let a = both_passed (client_faults c) (update_checks key uuid properties value ++ kvset_check key uuid properties value room) e in
      let b = (both_passed (update_checks key uuid properties value) (kvset_check key uuid properties value room) a.1).0 in
      let d = (both_passed (when (not (is_key key)) BadKey ∷ []) (payload_checks uuid properties value) b).1 in
      rw e (kvset-arrives key uuid properties value (not-false _ (passed 0 (update_checks key uuid properties value) b)) d)

  client-icanhaz : (room : ℕ) → client_refusal c (write_icanhaz room) ≡ none → (identity : Bytes) → is_identity identity ≡ true
      → Requested (with_identity identity (client_bytes c (write_icanhaz room))) identity (subtree_of c)
  unfolding client_refusal client_bytes client_writes replica
  client-icanhaz room e identity i =
      let g = good_client c (both_passed (client_faults c) (client_checks (replica c) (write_icanhaz room)) e).0 in
      rw e (requested identity (subtree_of c) i g.is-subtree)

-- ---- what a server publishes
-- a number that is not the last has one behind it
next-number : (n : ℕ) → n ≤ max_sequence → eqb n max_sequence ≡ false → suc n ≤ max_sequence
next-number n h e = omega (arith, eqb-false n max_sequence e)

pub nothing-more : first_refusal (payload_checks [] [] []) ≡ none
unfolding first_refusal properties_of properties_in pieces ttls
nothing-more = refl

module _ (s : Server) where
  abbrev change : Bytes → ℕ → List (Check Refusal)
  change msg room =
      store_checks (has_key (frame_at 0 msg) (ledger_of (view s)).rows) (length (ledger_of (view s)).rows) (ledger_of (view s)).number (fields_of msg) room

  server-update : (msg : Bytes) (t room : ℕ) → server_refusal s (update msg t room) ≡ none
      → Numbered subscriber_port (server_bytes s (update msg t room))
      (kvpub (suc (view s).number) (frame_at 0 msg) (frame_at 2 msg) (frame_at 3 msg) (frame_at 4 msg)) (suc (view s).number)
  unfolding server_refusal server_checks server_bytes server_writes published view ledger_of
  server-update msg t room e =
      let a = both_passed (server_faults s) (server_checks (ledger_of (view s)) (update msg t room)) e in
      let g = good_server s a.0 in
      let b = both_passed (kvset_port msg) (tick_checks (view s).last_tick t ++ change msg room) a.1 in
      let d = (both_passed (tick_checks (view s).last_tick t) (change msg room) b.1).1 in
      let f = (both_passed (framed 5 msg) (kvset_checks (fields_of msg)) b.0).1 in
      let front = when (not (is_key (frame_at 0 msg))) BadKey ∷ when (not (is_sequence (frame_at 1 msg))) BadSequence ∷ [] in
      let p = both_passed front (payload_checks (frame_at 2 msg) (frame_at 3 msg) (frame_at 4 msg)) f in
      rw e (kvpub-arrives (frame_at 0 msg) (frame_at 2 msg) (frame_at 3 msg) (frame_at 4 msg) (not-false _ (passed 0 front p.0)) p.1 (suc (view s).number) (next-number (view s).number g.number (passed 1 (change msg room) d)))

  module _ (z : SizedServer s) (t room : ℕ) where
    due-arrives : GoodServer s → (q : Option (Bytes × ℕ)) → least_due t (ledger_of (view s)).rows ≡ q → first_refusal (deed_checks (view s).number (deed_of t (view s).last_published q) room) ≡ none
        → TickArrives (tick_bytes (view s).number (deed_of t (view s).last_published q)) (view s).number (deed_of t (view s).last_published q)
    unfolding tick_bytes expiry view ledger_of
    due-arrives g (some b) f h =
        let keys : every is_key (keys_in (ledger_of (view s)).rows) ≡ true = ap (every is_key) (map_keys plain (view s).rows) ∙ proper_keys (view s).rows (rows_proper s z g) in
        kvpub-arrives b.0 [] [] [] (due_key is_key t (ledger_of (view s)).rows b keys f) nothing-more (suc (view s).number)
        (next-number (view s).number g.number (passed 0 (deed_checks (view s).number (expire b.0) room) h))
    due-arrives g none f h = idle (leb 1000 (t - (view s).last_published))
      where
        idle : (y : Bool) → TickArrives (tick_bytes (view s).number (cond y beat quiet)) (view s).number (cond y beat quiet)
        idle true = hugz-arrives
        idle false = refl

    server-tick : server_refusal s (tick t room) ≡ none → TickArrives (server_bytes s (tick t room)) (view s).number (deed (ledger_of (view s)) t)
    unfolding server_refusal server_checks server_bytes server_writes deed ledger_of
    server-tick e =
        let a = both_passed (server_faults s) (server_checks (ledger_of (view s)) (tick t room)) e in
        let d = (both_passed (tick_checks (view s).last_tick t) (deed_checks (view s).number (deed (ledger_of (view s)) t) room) a.1).1 in
        rw e (due-arrives (good_server s a.0) (least_due t (ledger_of (view s)).rows) refl d)

-- ---- a snapshot
module _ (identity subtree : Bytes) (i : is_identity identity ≡ true) where
  abbrev Kept : Bytes × Entry → Type 0
  Kept r = Proper r × (under subtree r.0 ≡ true)

  -- what holds of a message holds of it once its identity is put on and taken off
  routed : (P : Bytes → Type 0) (msg : Bytes) → P msg → P (without_identity (with_identity identity msg))
  routed P msg p = subst P (sym (identity_off identity msg (identity-short identity i))) p

  rows_arrive : (rows : Rows Entry) → All Kept rows → All (SyncArrives identity subtree) rows
  rows_arrive [] h = tt
  rows_arrive (r ∷ l) h =
      let p = h.0 in
      let f = kvsync r.1.number r.0 r.1.value in (
        routed (λ (m : Bytes). Arrives (snapshot_port subtree) m f) (bytes_of f) (kvsync-arrives subtree r.0 r.1.value r.1.number p.0.0 p.1 p.0.1.0 p.0.1.1),
        rows_arrive l h.1,
      )

  module _ (n : ℕ) (u : is_subtree subtree ≡ true) where
    whole : (rows : Rows Entry) → All Kept rows → Whole (map (sync identity) rows ++ (thanks identity n subtree ∷ []))
    whole [] h = ((identity ∷ word_kthxbai ∷ octets 8 n ∷ [] ∷ [] ∷ subtree ∷ [], identity_on identity (kthxbai n subtree) (identity-short identity i) (end_sizes subtree n u)), tt)
    whole (r ∷ l) h =
        let p = h.0 in (
          (
            identity ∷ r.0 ∷ octets 8 r.1.number ∷ [] ∷ [] ∷ r.1.value ∷ [],
            identity_on identity (kvsync r.1.number r.0 r.1.value) (identity-short identity i)
                (sync_sizes r.0 r.1.value r.1.number p.0.0 p.0.1.1),
          ),
          whole l h.1,
        )

    pub snapshot-arrives : n ≤ max_sequence → (rows : Rows Entry) → All Proper rows → SnapshotArrives (snapshot_bytes n identity subtree rows) identity subtree n rows
    unfolding snapshot_bytes syncs
    snapshot-arrives h rows ps =
        let kept = keep_all Proper (under subtree) rows ps in
        let ms = map (sync identity) (keep (under subtree) rows) in
        record {
          messages = ap messages_in (sym (joined_last ms (thanks identity n subtree))) ∙ run-cut (ms ++ (thanks identity n subtree ∷ [])) (whole (keep (under subtree) rows) kept);
          rows_arrive = rows_arrive (keep (under subtree) rows) kept;
          end_arrives = routed (λ (m : Bytes). Numbered (snapshot_port subtree) m (kthxbai n subtree) n) (bytes_of (kthxbai n subtree)) (kthxbai-arrives subtree n u h);
        }

module _ (s : Server) (z : SizedServer s) (msg : Bytes) (room : ℕ) where
  server-snapshot : server_refusal s (request msg room) ≡ none
      → SnapshotArrives (server_bytes s (request msg room)) (frame_at 0 msg) (frame_at 2 msg) (view s).number (view s).rows
  unfolding server_refusal server_checks server_bytes server_writes
  server-snapshot e =
      let lengths = map_rows held_length (ledger_of (view s)).rows in
      let a = both_passed (server_faults s) (server_checks (ledger_of (view s)) (request msg room)) e in
      let g = good_server s a.0 in
      let b = (both_passed (icanhaz_port msg) (room_checks lengths (frame_at 0 msg) (frame_at 2 msg) room) a.1).0 in
      let d = (both_passed (framed 3 msg) (icanhaz_checks (frame_at 0 msg) (frame_at 1 msg) (frame_at 2 msg)) b).1 in
      let asked = icanhaz_checks (frame_at 0 msg) (frame_at 1 msg) (frame_at 2 msg) in
      rw e (snapshot-arrives (frame_at 0 msg) (frame_at 2 msg) (not-false _ (passed 0 asked d)) (view s).number (not-false _ (passed 2 asked d)) (good_number s g) (view s).rows (rows_proper s z g))

-- ---- all of them
pub round_trip : RoundTrip
round_trip = record {
  kvset-arrives = client-kvset;
  icanhaz-arrives = client-icanhaz;
  update-arrives = server-update;
  tick-arrives = server-tick;
  snapshot-arrives = server-snapshot;
}
