-- The answer to a snapshot request, message by message, and a client that takes it: it then has the rows that were sent. Assumes nothing.
use Prim.Native.Nat.{ℕ, ◌≤◌}
use native.Mathlib.Omega.{arith}
use mathlib.Core.Bool.{true, false, true≢false}
use mathlib.Core.List.{List, [], ◌∷◌, ◌++◌, map}
use mathlib.Core.Option.{Option, none, some}
use mathlib.Core.Path.{◌≡◌, refl, sym, ap, ◌∙◌}
use borrow.Author.Tests.{not-false}
use Rattle.answers.specs.Refusals.{if_accepted}
use Rattle.answers.specs.declared.refusal.Refusal.{Refusal}
use Rattle.base.proofs.CheckLaws.{passed, both_passed}
use Rattle.base.proofs.OctetLaws.{number-octets}
use Rattle.base.specs.Bytes.{Bytes, same}
use Rattle.base.specs.Checks.{first_refusal}
use Rattle.base.specs.Octets.{number}
use Rattle.cells.specs.Cells.{All}
use Rattle.client_calls.specs.Start.{start_refusal, waiting_at, start_of}
use Rattle.client_calls.specs.Calls.{Call as ClientCall}
use Rattle.client_calls.specs.Next.{effect_next}
use Rattle.client_state.specs.Views.{Replica}
use Rattle.messages.proofs.RoundTrip.{fields_back, identity_off}
use Rattle.frames.specs.Messages.{frame_at}
use Rattle.messages.specs.Fields.{Fields, bytes_of, fields_of, kvsync, kthxbai, with_identity, without_identity}
use Rattle.keys.specs.Keys.{is_subtree, under}
use Rattle.frame_forms.specs.Lengths.{is_identity}
use Rattle.numbers.specs.Sequences.{max_sequence}
use Rattle.frame_forms.specs.Words.{word_kthxbai}
use Rattle.ports.specs.Ports.{framed, icanhaz_checks, icanhaz_port}
use Rattle.round_trip.proofs.ArrivalLaws.{not_kthxbai, sync_sizes, end_sizes}
use Rattle.round_trip.proofs.RoundTripProof.{identity-short, snapshot-arrives}
use Rattle.round_trip.proofs.RowsLaws.{Proper, keep_all}
use Rattle.rows.proofs.RowLaws.{set_all}
use Rattle.rows.specs.Rows.{Rows, set_row, keep, map_rows}
use Rattle.server_calls.specs.Calls.Call.{icanhaz}
use Rattle.server_calls.specs.Output.{accepted_bytes}
use Rattle.server_calls.specs.Refusals.{room_checks, held_length, call_checks}
use Rattle.server_calls.specs.Snapshots.{sync as sync_for, thanks}
use Rattle.server_state.specs.Views.{Entry, Ledger, plain, ledger_of}
use Rattle.joining.proofs.BookLaws.{Fit, Sound}
use Rattle.joining.proofs.ClientLaws.Take.{idle, synced, ended, alive, moved}
use Rattle.joining.proofs.ClientLaws.{Take, take}
use Rattle.joining.proofs.LogLaws.{AllOf, all_onto, empty_not_longer}
use Rattle.joining.specs.Book.{Book, book_refusal}
use Rattle.joining.specs.Ends.ClientStart.{wait}
use Rattle.joining.specs.Ends.{server_refusal, server_bytes, answer_to, ClientStart, client_start, client_after, accepted}
use Rattle.joining.specs.Joining.{held}
use Rattle.base.specs.Logs.Log.{empty, ◌▷◌}
use Rattle.base.specs.Logs.{Log, add, onto}
use Rattle.joining.specs.Readings.{number_of}

abbrev pub map_log : {A B : Type 0} → (A → B) → Log A → Log B
map_log f empty = empty
map_log f (xs ▷ x) = map_log f xs ▷ f x

-- ---- the messages as the client gets them
abbrev pub sync_of : Bytes × Entry → Bytes
sync_of r = bytes_of (kvsync r.1.number r.0 r.1.value)

abbrev pub end_of : ℕ → Bytes → Bytes
end_of n subtree = bytes_of (kthxbai n subtree)

-- the rows under a subtree, in key order
abbrev pub sent_rows : Ledger Entry → Bytes → Log (Bytes × Entry)
sent_rows v subtree = onto empty (keep (under subtree) v.rows)

abbrev pub syncs_of : Ledger Entry → Bytes → Log Bytes
syncs_of v subtree = map_log sync_of (sent_rows v subtree)

abbrev pub snapshot_of : Ledger Entry → Bytes → Log Bytes
snapshot_of v subtree = syncs_of v subtree ▷ end_of v.number subtree

-- ---- the rows of a sound server
proper_rows : (l : Rows Entry) → All Fit (map_rows plain l) → All Proper l
unfolding map_rows plain
proper_rows [] h = tt
proper_rows (r ∷ l) h = ((h.0.key, (h.0.filled, h.0.short)), proper_rows l h.1)

pub sound_rows : (v : Ledger Entry) → Sound (ledger_of v) → All Proper v.rows
unfolding ledger_of
sound_rows v s = proper_rows v.rows s.fit

pub sound_number : (v : Ledger Entry) → Sound (ledger_of v) → v.number ≤ max_sequence
unfolding ledger_of
sound_number v s = s.number

-- ---- a request that is granted
module _ (b : Book) (msg : Bytes) (room : ℕ) (e : book_refusal b (icanhaz msg room) ≡ none) where
  asks : first_refusal (icanhaz_checks (frame_at 0 msg) (frame_at 1 msg) (frame_at 2 msg)) ≡ none
  unfolding book_refusal call_checks
  asks =
      let port = (both_passed (icanhaz_port msg) (room_checks (map_rows held_length b.rows) (frame_at 0 msg) (frame_at 2 msg) room) e).0 in
      (both_passed (framed 3 msg) (icanhaz_checks (frame_at 0 msg) (frame_at 1 msg) (frame_at 2 msg)) port).1

  granted_identity : is_identity (frame_at 0 msg) ≡ true
  granted_identity = not-false _ (passed 0 (icanhaz_checks (frame_at 0 msg) (frame_at 1 msg) (frame_at 2 msg)) asks)

  pub granted-subtree : is_subtree (frame_at 2 msg) ≡ true
  granted-subtree = not-false _ (passed 2 (icanhaz_checks (frame_at 0 msg) (frame_at 1 msg) (frame_at 2 msg)) asks)

-- ---- the answer, cut into messages and without the identity
module _ (identity subtree : Bytes) (n : ℕ) (i : is_identity identity ≡ true) where
  off : (f : Fields) → without_identity (with_identity identity (bytes_of f)) ≡ bytes_of f
  off f = identity_off identity (bytes_of f) (identity-short identity i)

  all_off : (xs : Log (Bytes × Entry)) (l : Rows Entry)
      → onto (map_log sync_of xs) (map without_identity (map (sync_for identity) l ++ (thanks identity n subtree ∷ []))) ≡ map_log sync_of (onto xs l) ▷ end_of n subtree
  all_off xs [] = ap (λ (b : Bytes). map_log sync_of xs ▷ b) (off (kthxbai n subtree))
  all_off xs (r ∷ l) =
      ap (λ (b : Bytes). onto (map_log sync_of xs ▷ b) (map without_identity (map (sync_for identity) l ++ (thanks identity n subtree ∷ [])))) (off (kvsync r.1.number r.0 r.1.value))
      ∙ all_off (xs ▷ r) l

pub answer_is : (v : Ledger Entry) (msg : Bytes) (room : ℕ) → Sound (ledger_of v) → book_refusal (ledger_of v) (icanhaz msg room) ≡ none
    → answer_to v msg room ≡ snapshot_of v (frame_at 2 msg)
unfolding answer_to server_bytes server_refusal accepted_bytes book_refusal
answer_is v msg room s e =
    let i = granted_identity (ledger_of v) msg room e in
    let u = granted-subtree (ledger_of v) msg room e in
    let a = snapshot-arrives (frame_at 0 msg) (frame_at 2 msg) i v.number u (sound_number v s) v.rows (sound_rows v s) in
    rw e (ap (λ (ms : List Bytes). onto empty (map without_identity ms)) a.messages ∙ all_off (frame_at 0 msg) (frame_at 2 msg) v.number i empty (keep (under (frame_at 2 msg)) v.rows))

-- ---- the end of it, as it reads
module _ (n : ℕ) (subtree : Bytes) (u : is_subtree subtree ≡ true) where
  end_fields : fields_of (end_of n subtree) ≡ kthxbai n subtree
  end_fields = fields_back (kthxbai n subtree) (end_sizes subtree n u)

  pub end_word : same word_kthxbai (frame_at 0 (end_of n subtree)) ≡ true
  unfolding same
  end_word = ap (λ (f : Fields). same word_kthxbai f.head) end_fields

  pub end_subtree : frame_at 4 (end_of n subtree) ≡ subtree
  end_subtree = ap (λ (f : Fields). f.value) end_fields

  pub end_number : n ≤ max_sequence → number_of (end_of n subtree) ≡ n
  unfolding number_of
  end_number h = ap (λ (f : Fields). number f.sequence) end_fields ∙ number-octets 8 n (omega arith)

-- ---- a client that takes rows
pub sync-fields : (r : Bytes × Entry) → Proper r → fields_of (sync_of r) ≡ kvsync r.1.number r.0 r.1.value
sync-fields r p = fields_back (kvsync r.1.number r.0 r.1.value) (sync_sizes r.0 r.1.value r.1.number p.0 p.1.1)

-- a row as it is sent for a subtree
abbrev pub Sent : Bytes → Bytes × Entry → Type 0
Sent subtree r = Proper r × (under subtree r.0 ≡ true)

-- the rows put in one after another
put_all : Log (Bytes × Entry) → Rows Bytes
put_all empty = []
put_all (rs ▷ r) = set_row r.0 r.1.value (put_all rs)

-- a client that waits and has taken just these rows
abbrev Took : Replica → Log (Bytes × Entry) → Type 0
Took v rs = (v.live ≡ false) × (v.rows ≡ put_all rs)

sync_step : (subtree : Bytes) {v v' : Replica} {w h : Option Bytes} → Take v v' w h → (A : Log Bytes) (rs : Log (Bytes × Entry)) → add A w ≡ map_log sync_of rs → AllOf (Sent subtree) rs
    → ((rs' : Log (Bytes × Entry)) → A ≡ map_log sync_of rs' → AllOf (Sent subtree) rs' → Took v rs') → Took v' rs
unfolding put_all effect_next
sync_step subtree {v} {v'} {w} {h} (idle e f g) A rs q a ih = rw e (ih rs (rw f at q) a)
sync_step subtree {v} {v'} {w} {h} (synced b l k e f g) A empty q a ih = absurd (empty_not_longer A b (sym (rw f at q)))
sync_step subtree {v} {v'} {w} {h} (synced b l k e f g) A (rs ▷ r) q a ih =
    let q' : A ▷ b ≡ map_log sync_of rs ▷ sync_of r = rw f at q in
    let i = ih rs (cc) a.0 in
    let fr : fields_of b ≡ kvsync r.1.number r.0 r.1.value = ap fields_of (cc) ∙ sync-fields r a.1.0 in
    let key : frame_at 0 b ≡ r.0 = ap (λ (x : Fields). x.head) fr in
    let value : frame_at 4 b ≡ r.1.value = ap (λ (x : Fields). x.value) fr in
    rw (e, key, value, i.1) (i.0, refl)
sync_step subtree {v} {v'} {w} {h} (ended b l k s e f g) A empty q a ih = absurd (empty_not_longer A b (sym (rw f at q)))
sync_step subtree {v} {v'} {w} {h} (ended b l k s e f g) A (rs ▷ r) q a ih =
    let q' : A ▷ b ≡ map_log sync_of rs ▷ sync_of r = rw f at q in
    let fr : fields_of b ≡ kvsync r.1.number r.0 r.1.value = ap fields_of (cc) ∙ sync-fields r a.1.0 in
    let key : frame_at 0 b ≡ r.0 = ap (λ (x : Fields). x.head) fr in
    absurd (true≢false (sym k ∙ (ap (same word_kthxbai) key ∙ not_kthxbai r.0 a.1.0.0)))
sync_step subtree {v} {v'} {w} {h} (alive b t l k e f g) A empty q a ih = absurd (empty_not_longer A b (sym (rw f at q)))
sync_step subtree {v} {v'} {w} {h} (alive b t l k e f g) A (rs ▷ r) q a ih =
    let q' : A ▷ b ≡ map_log sync_of rs ▷ sync_of r = rw f at q in absurd (true≢false (sym l ∙ (ih rs (cc) a.0).0))
sync_step subtree {v} {v'} {w} {h} (moved b l k e f g) A empty q a ih = absurd (empty_not_longer A b (sym (rw f at q)))
sync_step subtree {v} {v'} {w} {h} (moved b l k e f g) A (rs ▷ r) q a ih =
    let q' : A ▷ b ≡ map_log sync_of rs ▷ sync_of r = rw f at q in absurd (true≢false (sym l ∙ (ih rs (cc) a.0).0))

start-took : (q : ClientStart) → Took (client_start q) empty
unfolding client_start start_of put_all
start-took (wait subtree t) = go (start_refusal subtree t)
  where
    go : (r : Option Refusal) → Took (if_accepted r (waiting_at subtree t) (waiting_at [] 0)) empty
    go none = (refl, refl)
    go (some r) = (refl, refl)

syncing : (subtree : Bytes) (q : ClientStart) (C : Log ClientCall) (rs : Log (Bytes × Entry)) → accepted q C ≡ map_log sync_of rs → AllOf (Sent subtree) rs → Took (client_after q C) rs
unfolding accepted client_after
syncing subtree q empty empty e a = start-took q
syncing subtree q empty (rs ▷ r) e a = absurd (empty_not_longer (map_log sync_of rs) (sync_of r) e)
syncing subtree q (C ▷ x) rs e a = sync_step subtree (take (client_after q C) x) (accepted q C) rs e a (λ (rs' : Log (Bytes × Entry)). syncing subtree q C rs')

-- ---- of the rows of a sound server
pub all_sent : (v : Ledger Entry) (subtree : Bytes) → Sound (ledger_of v) → AllOf (Sent subtree) (sent_rows v subtree)
all_sent v subtree s = all_onto (Sent subtree) empty (keep (under subtree) v.rows) tt (keep_all Proper (under subtree) v.rows (sound_rows v s))

put-onto : (xs : Log (Bytes × Entry)) (l : Rows Entry) → put_all (onto xs l) ≡ set_all (put_all xs) (map_rows held l)
unfolding put_all set_all map_rows
put-onto xs [] = refl
put-onto xs (r ∷ l) = put-onto (xs ▷ r) l

-- a client that accepted the rows of a snapshot and nothing else waits, and has these rows
pub rows_taken : (v : Ledger Entry) (subtree : Bytes) → Sound (ledger_of v) → (q : ClientStart) (C : Log ClientCall) → accepted q C ≡ syncs_of v subtree
    → ((client_after q C).live ≡ false) × ((client_after q C).rows ≡ set_all [] (map_rows held (keep (under subtree) v.rows)))
unfolding put_all
rows_taken v subtree s q C e =
    let w = syncing subtree q C (sent_rows v subtree) e (all_sent v subtree s) in
    (w.0, w.1 ∙ put-onto empty (keep (under subtree) v.rows))
