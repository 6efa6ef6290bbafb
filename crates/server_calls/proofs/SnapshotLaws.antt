-- Laws of snapshots: what one row more adds, how long they are by the lengths of what they hold, and the most that they
-- take. Assumes nothing.
use Prim.Native.Nat.{ℕ, ◌+◌, ◌*◌, ◌≤◌, ◌<◌, min}
use native.Mathlib.Nat.{add_assoc}
use native.Mathlib.Omega.{arith}
use mathlib.Core.Bool.{Bool, true, false, cond}
use mathlib.Core.List.{[], ◌∷◌, ◌++◌, append_assoc, append-nil, map}
use mathlib.Core.Path.{◌≡◌, refl, sym, ap, ◌∙◌}
use lib.Dec.{ltb}
use lib.ListN.{length, take, drop, drop_of_length-le, length-append, take-append-drop}
use lib.Seq.{take-add, take_all}
use borrow.Author.Tests.{ltb-true, ltb-false}
use Rattle.base.proofs.OctetLaws.{length-octets}
use Rattle.base.proofs.OutputLaws.{clamped_sum, wrote, both, room}
use Rattle.base.specs.Bytes.{Bytes}
use Rattle.base.specs.Output.{put, Written, largest}
use Rattle.cells.specs.Cells.{All}
use Rattle.frames.proofs.FrameLaws.{frame-length}
use Rattle.frames.specs.Runs.{joined}
use Rattle.frames.specs.Messages.{frame_length}
use Rattle.messages.proofs.LengthLaws.{kvsync_bound, kthxbai_bound}
use Rattle.messages.proofs.WriteLaws.{bytes-length}
use Rattle.messages.specs.Fields.{bytes_of, kvsync, kthxbai, identity_frame, message_length}
use Rattle.keys.proofs.UnderLaws.{key-short, subtree-short, key_longer}
use Rattle.keys.specs.Keys.{is_key, is_subtree, under}
use Rattle.row_cells.specs.Sizes.{max_rows}
use Rattle.rows.specs.Rows.{Rows, keep, map_rows}
use Rattle.server_calls.specs.Snapshots.{sync, thanks, syncs, snapshot_bytes, sum, sync_length, snapshot_length}
use Rattle.server_state.specs.Views.{Entry}

-- ---- how long a snapshot is, with a row more
module _ (identity : ℕ) (subtree : Bytes) where
  module _ (key : Bytes) (len : ℕ) (rows : Rows ℕ) where
    longer : under subtree key ≡ true
        → snapshot_length identity subtree ((key, len) ∷ rows) ≡ sync_length identity (key, len) + snapshot_length identity subtree rows
    unfolding snapshot_length keep sum
    longer e = rw e (add_assoc (sync_length identity (key, len)) (sum (map (sync_length identity) (keep (under subtree) rows))) (frame_length identity + message_length 7 0 0 (length subtree)))

    no_longer : under subtree key ≡ false → snapshot_length identity subtree ((key, len) ∷ rows) ≡ snapshot_length identity subtree rows
    unfolding snapshot_length keep
    no_longer e = rw e

  no_rows : snapshot_length identity subtree [] ≡ frame_length identity + message_length 7 0 0 (length subtree)
  unfolding snapshot_length keep sum
  no_rows = omega arith

  -- what a count from the end keeps: the total is that of the rows from place i on
  module _ (rows : Rows ℕ) (i : ℕ) {front : ℕ} (f : front ≡ min (frame_length identity) largest) where
    pub length_end : length rows ≤ i → {end total : ℕ} → end ≡ min (message_length 7 0 0 (length subtree)) largest → total ≡ min (front + end) largest
        → total ≡ min (snapshot_length identity subtree (drop i rows)) largest
    length_end h e t =
        clamped_sum (frame_length identity) (message_length 7 0 0 (length subtree)) f e t ∙ rw (drop_of_length-le rows h, no_rows)

    module _ {total : ℕ} (t : total ≡ min (snapshot_length identity subtree (drop i rows)) largest) (j : ℕ) (key : Bytes) (len : ℕ)
        (e : drop j rows ≡ (key, len) ∷ drop i rows) where
      pub length_in : under subtree key ≡ true → {row one new : ℕ} → row ≡ min (message_length (length key) 0 0 len) largest
          → one ≡ min (front + row) largest → new ≡ min (one + total) largest → new ≡ min (snapshot_length identity subtree (drop j rows)) largest
      length_in u r o w =
          clamped_sum (sync_length identity (key, len)) (snapshot_length identity subtree (drop i rows))
          (clamped_sum (frame_length identity) (message_length (length key) 0 0 len) f r o) t w
          ∙ ap (λ (n : ℕ). min n largest) (sym (ap (snapshot_length identity subtree) e ∙ longer key len (drop i rows) u))

      pub length-out : under subtree key ≡ false → total ≡ min (snapshot_length identity subtree (drop j rows)) largest
      length-out u = t ∙ ap (λ (n : ℕ). min n largest) (sym (ap (snapshot_length identity subtree) e ∙ no_longer key len (drop i rows) u))

-- ---- what is written, with a row more
module _ (identity subtree : Bytes) where
  module _ (key : Bytes) (e : Entry) (rows : Rows Entry) where
    sync_in : under subtree key ≡ true → syncs identity subtree ((key, e) ∷ rows) ≡ sync identity (key, e) ++ syncs identity subtree rows
    unfolding syncs keep joined
    sync_in u = rw u

    sync-out : under subtree key ≡ false → syncs identity subtree ((key, e) ∷ rows) ≡ syncs identity subtree rows
    unfolding syncs keep
    sync-out u = rw u

  no_syncs : syncs identity subtree [] ≡ []
  unfolding syncs keep joined
  no_syncs = refl

  pub syncs_append : (a b : Rows Entry) → syncs identity subtree (a ++ b) ≡ syncs identity subtree a ++ syncs identity subtree b
  syncs_append [] b = rw no_syncs
  syncs_append (r ∷ a) b = go (under subtree r.0) refl (syncs_append a b)
    where
      go : (t : Bool) → under subtree r.0 ≡ t → syncs identity subtree (a ++ b) ≡ syncs identity subtree a ++ syncs identity subtree b
          → syncs identity subtree (r ∷ (a ++ b)) ≡ syncs identity subtree (r ∷ a) ++ syncs identity subtree b
      go true u ih =
          rw (sync_in r.0 r.1 (a ++ b) u, sync_in r.0 r.1 a u, ih) (sym (append_assoc (sync identity r) (syncs identity subtree a) (syncs identity subtree b)))
      go false u ih = rw (sync-out r.0 r.1 (a ++ b) u, sync-out r.0 r.1 a u) ih

  -- what a writer of one row after the other keeps: those before place i are written
  module _ (d : Bytes) (rows : Rows Entry) where
    pub rows_start : Written d 0 (syncs identity subtree (take 0 rows)) 0 d
    unfolding put
    rows_start = rw no_syncs (wrote (omega arith) refl refl)

    pub rows_end : (i : ℕ) → length rows ≤ i → {at : ℕ} {o : Bytes} → Written d 0 (syncs identity subtree (take i rows)) at o
        → Written d 0 (syncs identity subtree rows) at o
    rows_end i h w = rw (take_all i rows h) at w

    module _ (fits : length (syncs identity subtree rows) ≤ length d) (i : ℕ) (key : Bytes) (e : Entry)
        (here : drop i rows ≡ (key, e) ∷ drop (i + 1) rows) {at : ℕ} {o : Bytes} (w : Written d 0 (syncs identity subtree (take i rows)) at o) where
      one_more : take (i + 1) rows ≡ take i rows ++ ((key, e) ∷ [])
      one_more = take-add i 1 rows ∙ rw here

      pub row_out : under subtree key ≡ false → {k : ℕ} {q : Bytes} → q ≡ o → k ≡ at → Written d 0 (syncs identity subtree (take (i + 1) rows)) k q
      row_out u f g =
          let s : syncs identity subtree (take (i + 1) rows) ≡ syncs identity subtree (take i rows) =
          ap (syncs identity subtree) one_more ∙ syncs_append (take i rows) ((key, e) ∷ []) ∙ rw (sync-out key e [] u, no_syncs) (append-nil (syncs identity subtree (take i rows))) in
          rw (s, f, g) w

      module _ (u : under subtree key ≡ true) where
        one_written : syncs identity subtree (take (i + 1) rows) ≡ syncs identity subtree (take i rows) ++ sync identity (key, e)
        one_written =
            ap (syncs identity subtree) one_more ∙ syncs_append (take i rows) ((key, e) ∷ [])
            ∙ rw (sync_in key e [] u, no_syncs) (ap (λ (x : Bytes). syncs identity subtree (take i rows) ++ x) (append-nil (sync identity (key, e))))

        one-fits : 0 + length (syncs identity subtree (take i rows) ++ sync identity (key, e)) ≤ length d
        one-fits =
            omega
            (arith, ap length one_written, length-append (syncs identity subtree (take (i + 1) rows)) (syncs identity subtree (drop (i + 1) rows)), ap length (syncs_append (take (i + 1) rows) (drop (i + 1) rows)), ap (λ (l : Rows Entry). length (syncs identity subtree l)) (take-append-drop (i + 1) rows))

        pub row_room : at + length (sync identity (key, e)) ≤ length o
        row_room = room w (sync identity (key, e)) one-fits

        pub row_in : {j : ℕ} {p : Bytes} → Written o at (sync identity (key, e)) j p → {k : ℕ} {q : Bytes} → q ≡ p → k ≡ j
            → Written d 0 (syncs identity subtree (take (i + 1) rows)) k q
        row_in v f g = rw (one_written, f, g) (both w (sync identity (key, e)) one-fits v)

  -- the end behind the rows
  module _ (d : Bytes) (number : ℕ) (rows : Rows Entry) (fits : length (snapshot_bytes number identity subtree rows) ≤ length d) where
    whole-fits : 0 + length (syncs identity subtree rows ++ thanks identity number subtree) ≤ length d
    unfolding snapshot_bytes
    whole-fits = omega arith

    pub rows_fit : length (syncs identity subtree rows) ≤ length d
    rows_fit = omega (arith, whole-fits, length-append (syncs identity subtree rows) (thanks identity number subtree))

    pub snapshot-written : {i : ℕ} {o : Bytes} → Written d 0 (syncs identity subtree rows) i o
        → {j : ℕ} {p : Bytes} → Written o i (identity_frame identity) j p
        → {k : ℕ} {q : Bytes} → Written p j (bytes_of (kthxbai number subtree)) k q
        → Written d 0 (snapshot_bytes number identity subtree rows) k q
    unfolding snapshot_bytes
    snapshot-written w v x =
        both w (thanks identity number subtree) whole-fits (both v (bytes_of (kthxbai number subtree)) (room w (thanks identity number subtree) whole-fits) x)

-- ---- how long a snapshot is, by the lengths
abbrev entry_length : Entry → ℕ
entry_length e = length e.value

sync-length : (identity : Bytes) (r : Bytes × Entry) → length (sync identity r) ≡ sync_length (length identity) (r.0, entry_length r.1)
sync-length identity r =
    length-append (identity_frame identity) (bytes_of (kvsync r.1.number r.0 r.1.value))
    ∙ rw (frame-length true identity, bytes-length (kvsync r.1.number r.0 r.1.value) (length-octets 8 r.1.number))

thanks-length : (identity : Bytes) (number : ℕ) (subtree : Bytes)
    → length (thanks identity number subtree) ≡ frame_length (length identity) + message_length 7 0 0 (length subtree)
thanks-length identity number subtree =
    length-append (identity_frame identity) (bytes_of (kthxbai number subtree))
    ∙ rw (frame-length true identity, bytes-length (kthxbai number subtree) (length-octets 8 number))

module _ (identity subtree : Bytes) where
  syncs-length : (rows : Rows Entry) → length (syncs identity subtree rows) + (frame_length (length identity) + message_length 7 0 0 (length subtree))
      ≡ snapshot_length (length identity) subtree (map_rows entry_length rows)
  unfolding map_rows
  syncs-length [] = rw (no_syncs identity subtree, no_rows (length identity) subtree) (omega arith)
  syncs-length (r ∷ l) = go (under subtree r.0) refl (syncs-length l)
    where
      go : (t : Bool) → under subtree r.0 ≡ t
          → length (syncs identity subtree l) + (frame_length (length identity) + message_length 7 0 0 (length subtree))
          ≡ snapshot_length (length identity) subtree (map_rows entry_length l)
          → length (syncs identity subtree (r ∷ l)) + (frame_length (length identity) + message_length 7 0 0 (length subtree))
          ≡ snapshot_length (length identity) subtree ((r.0, entry_length r.1) ∷ map_rows entry_length l)
      go true u ih =
          rw
          (sync_in identity subtree r.0 r.1 l u, longer (length identity) subtree r.0 (entry_length r.1) (map_rows entry_length l) u, ← ih, length-append, sync-length identity r)
          (add_assoc (sync_length (length identity) (r.0, entry_length r.1)) (length (syncs identity subtree l)) (frame_length (length identity) + message_length 7 0 0 (length subtree)))
      go false u ih =
          rw (sync-out identity subtree r.0 r.1 l u, no_longer (length identity) subtree r.0 (entry_length r.1) (map_rows entry_length l) u) ih

  pub snapshot-length : (number : ℕ) (rows : Rows Entry) → length (snapshot_bytes number identity subtree rows)
      ≡ snapshot_length (length identity) subtree (map_rows (λ (e : Entry). length e.value) rows)
  unfolding snapshot_bytes
  snapshot-length number rows =
      length-append (syncs identity subtree rows) (thanks identity number subtree) ∙ rw (thanks-length identity number subtree) (syncs-length rows)

-- ---- the most that a snapshot takes
-- a value no longer than its cell
abbrev pub Short : Bytes → Type 0
Short value = length value ≤ 256

-- a row whose key and whose value are no longer than their cells
abbrev pub Fits : Bytes × Entry → Type 0
Fits r = (length r.0 ≤ 96) × Short r.1.value

module _ (identity subtree : Bytes) (i : length identity ≤ 255) where
  syncs_bound : (rows : Rows Entry) → All Fits rows → length (syncs identity subtree rows) ≤ 634 * length (keep (under subtree) rows)
  unfolding keep
  syncs_bound [] f = rw (no_syncs identity subtree) (omega arith)
  syncs_bound (r ∷ l) f = go (under subtree r.0) refl (syncs_bound l f.1)
    where
      go : (t : Bool) → under subtree r.0 ≡ t → length (syncs identity subtree l) ≤ 634 * length (keep (under subtree) l)
          → length (syncs identity subtree (r ∷ l)) ≤ 634 * length (cond t (r ∷ keep (under subtree) l) (keep (under subtree) l))
      go true u ih =
          rw (sync_in identity subtree r.0 r.1 l u)
          (omega
          (arith, length-append (sync identity r) (syncs identity subtree l), kvsync_bound r.1.number r.0 f.0.0 identity r.1.value i f.0.1))
      go false u ih = rw (sync-out identity subtree r.0 r.1 l u) ih

  pub snapshot_bound : (number : ℕ) (rows : Rows Entry) → length subtree ≤ 96 → All Fits rows
      → length (snapshot_bytes number identity subtree rows) ≤ 634 * length (keep (under subtree) rows) + 282 + length subtree
  unfolding snapshot_bytes
  snapshot_bound number rows s f =
      omega
      (arith, length-append (syncs identity subtree rows) (thanks identity number subtree), syncs_bound rows f, kthxbai_bound number identity subtree i s)

-- and that is reached: by rows under the subtree that are all as long as can be
abbrev pub Longest : Bytes → Bytes × Entry → Type 0
Longest subtree r = (under subtree r.0 ≡ true) × (length r.0 ≡ 96) × (length r.1.value ≡ 256)

module _ (identity subtree : Bytes) (i : length identity ≡ 255) where
  syncs_reached : (rows : Rows Entry) → All (Longest subtree) rows → length (syncs identity subtree rows) ≡ 634 * length rows
  syncs_reached [] f = rw (no_syncs identity subtree) (omega arith)
  syncs_reached (r ∷ l) f =
      let e : length (sync identity r) ≡ 634 = sync-length identity r ∙ rw (i, f.0.1, f.0.2) in
      rw (sync_in identity subtree r.0 r.1 l f.0.0)
      (omega (arith, length-append (sync identity r) (syncs identity subtree l), syncs_reached l f.1))

  pub snapshot_reached : (number : ℕ) (rows : Rows Entry) → length subtree ≡ 95 → All (Longest subtree) rows
      → length (snapshot_bytes number identity subtree rows) ≡ 634 * length rows + 377
  unfolding snapshot_bytes
  snapshot_reached number rows s f =
      let e : length (thanks identity number subtree) ≡ 377 = thanks-length identity number subtree ∙ rw (i, s) in
      omega (arith, length-append (syncs identity subtree rows) (thanks identity number subtree), syncs_reached rows f)

-- ---- the most that a state's rows take: a row with a key, and a value that is no longer than its cell
abbrev pub Kept : Bytes × Entry → Type 0
Kept r = (is_key r.0 ≡ true) × Short r.1.value

kept_fit : (rows : Rows Entry) → All Kept rows → All Fits rows
kept_fit [] k = tt
kept_fit (r ∷ l) k = ((key-short r.0 k.0.0, k.0.1), kept_fit l k.1)

-- rows under a subtree leave it no more than 95 bytes
kept_under : (subtree : Bytes) → is_subtree subtree ≡ true → (rows : Rows Entry) → All Kept rows → 0 < length (keep (under subtree) rows) → length subtree ≤ 95
unfolding keep
kept_under subtree s [] k h = absurd (omega arith)
kept_under subtree s (r ∷ l) k h = go (under subtree r.0) refl h (kept_under subtree s l k.1)
  where
    go : (t : Bool) → under subtree r.0 ≡ t → 0 < length (cond t (r ∷ keep (under subtree) l) (keep (under subtree) l))
        → (0 < length (keep (under subtree) l) → length subtree ≤ 95) → length subtree ≤ 95
    go true u g ih = omega (arith, key_longer subtree r.0 s k.0.0 u, key-short r.0 k.0.0)
    go false u g ih = ih g

pub snapshot-most : (number : ℕ) (identity subtree : Bytes) (rows : Rows Entry) → length identity ≤ 255 → is_subtree subtree ≡ true → All Kept rows
    → length (keep (under subtree) rows) ≤ max_rows → length (snapshot_bytes number identity subtree rows) ≤ 40953
snapshot-most number identity subtree rows i s k h = go (ltb 0 (length (keep (under subtree) rows))) refl
  where
    bound : length (snapshot_bytes number identity subtree rows) ≤ 634 * length (keep (under subtree) rows) + 282 + length subtree
    bound = snapshot_bound identity subtree i number rows (subtree-short subtree s) (kept_fit rows k)

    go : (t : Bool) → ltb 0 (length (keep (under subtree) rows)) ≡ t → length (snapshot_bytes number identity subtree rows) ≤ 40953
    go true e = omega (arith, bound, kept_under subtree s rows k (ltb-true 0 (length (keep (under subtree) rows)) e))
    go false e = omega (arith, bound, ltb-false 0 (length (keep (under subtree) rows)) e, subtree-short subtree s)
