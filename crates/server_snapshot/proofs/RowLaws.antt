-- Laws of the rows of a state, one by one, for the loops over a snapshot; and how long a snapshot of a state is. Assumes
-- nothing.
use Prim.Native.Nat.{ℕ, ◌+◌, ◌*◌, ◌≤◌, ◌<◌}
use native.Mathlib.Omega.{arith}
use mathlib.Core.Bool.{Bool, true, false, cond}
use mathlib.Core.List.{List, [], ◌∷◌, map, zip_with}
use mathlib.Core.Path.{◌≡◌, sym, ap, ◌∙◌}
use lib.ListN.{length, get_or, drop, length-take, length-map, get_or-map}
use lib.Seq.{ext_get_or}
use Rattle.base.proofs.ByteLaws.{and_left, and_right}
use Rattle.base.specs.Bytes.{Bytes, every}
use Rattle.cells.proofs.CellLaws.{length-cells, cell-at}
use Rattle.cells.proofs.ListLaws.{length-zip, get_d_zip, drop-zip}
use Rattle.cells.specs.Cells.{cells, cell_at, All}
use Rattle.keys.specs.Keys.{key_room, is_key, is_subtree, under}
use Rattle.base.specs.Output.{Written}
use Rattle.messages.specs.Fields.{bytes_of, kvsync, with_identity}
use Rattle.messages.proofs.LengthLaws.{short-frame, value_frame}
use Rattle.row_cells.proofs.TextLaws.{key_is, value_is, keys_long, values_long, fitting_at, value-length, value-most, keys_short}
use Rattle.row_cells.specs.Faults.{fitting, GoodRows}
use Rattle.row_cells.specs.Sizes.{cell_size, length_count, byte_count}
use Rattle.row_cells.specs.Texts.{value_length, cell_value, row_key, row_value, keys_of, values_of, row, rows_of}
use Rattle.row_search.proofs.FindLaws.{map-rows}
use Rattle.rows.proofs.RowLaws.{length-keep}
use Rattle.rows.specs.Rows.{keep, map_rows}
use Rattle.server_calls.proofs.SnapshotLaws.{Short, Kept, snapshot-length, snapshot-most}
use Rattle.server_calls.specs.Snapshots.{snapshot_bytes, sum, sync_length, snapshot_length}
use Rattle.server_snapshot.specs.Requests.{length_rows}
use Rattle.server_state.proofs.FormLaws.{good_server}
use Rattle.server_state.proofs.StateLaws.{key_count, entry_count, row_count}
use Rattle.server_state.specs.IllFormed.{WellFormed}
use Rattle.server_state.specs.Stamps.{stamp_count}
use Rattle.server_state.specs.Views.{Entry, entry, key_list, entry_list, row_list}
use Rattle.server_state.specs.declared.Server.{Server}

-- ---- with the lengths of the values
module _ (n : ℕ) (bytes : Bytes) (lengths : List ℕ) where
  lengths-many : length (map value_length (cells length_count n lengths)) ≡ n
  lengths-many = length-map (cells length_count n lengths) value_length ∙ length-cells length_count n lengths

  pub length-rows : length (length_rows n bytes lengths) ≡ n
  unfolding rows_of
  length-rows = length-zip row n (keys_of n bytes lengths) (map value_length (cells length_count n lengths)) (keys_long n bytes lengths) lengths-many

  pub length-row : (i j : ℕ) → j + 1 ≡ i → i ≤ n → {key : Bytes} {len : ℕ} → key ≡ row_key j bytes lengths → len ≡ value_length (cell_at length_count j lengths)
      → drop j (length_rows n bytes lengths) ≡ (key, len) ∷ drop i (length_rows n bytes lengths)
  unfolding rows_of
  length-row i j e h {key} {len} k l =
      let g : j < n = omega arith in
      let a : j < length (keys_of n bytes lengths) = rw (keys_long n bytes lengths) g in
      let b : j < length (map value_length (cells length_count n lengths)) = rw lengths-many g in
      drop-zip row (keys_of n bytes lengths) (map value_length (cells length_count n lengths)) j [] 0 a b
      ∙ rw (key_is n bytes lengths j g, get_or-map value_length (cells length_count n lengths) j [], cell-at length_count n j lengths [] g, e, k, l)

-- ---- with all that is held
module _ (s : Server) where
  abbrev none_held : Entry
  none_held = entry [] []

  entry_at : (i : ℕ) → i < s.header.count → get_or (entry_list s) i none_held ≡ entry (row_value i s.bytes s.lengths) (cell_at stamp_count i s.stamps)
  unfolding entry_list
  entry_at i h =
      let n = s.header.count in
      let f : i < length (values_of n s.bytes s.lengths) = rw (values_long n s.bytes s.lengths) h in
      let g : i < length (cells stamp_count n s.stamps) = rw (length-cells stamp_count n s.stamps) h in
      get_d_zip entry (values_of n s.bytes s.lengths) (cells stamp_count n s.stamps) i [] [] (entry [] []) f g
      ∙ rw (value_is n s.bytes s.lengths i h, cell-at stamp_count n i s.stamps [] h)

  pub entry_row : (i : ℕ) → i < s.header.count → {key value : Bytes} → key ≡ row_key i s.bytes s.lengths → value ≡ row_value i s.bytes s.lengths
      → drop i (row_list s) ≡ (key, entry value (cell_at stamp_count i s.stamps)) ∷ drop (i + 1) (row_list s)
  unfolding rows_of
  entry_row i h {key} {value} k v =
      let a : i < length (key_list s) = rw (key_count s) h in
      let g : i < length (entry_list s) = rw (entry_count s) h in
      drop-zip row (key_list s) (entry_list s) i [] none_held a g
      ∙ rw (key_is s.header.count s.bytes s.lengths i h, entry_at i h, k, v)

  -- ---- the lengths of the values, as the lengths say
  module _ (z : length s.bytes ≡ byte_count) (good : GoodRows s.header.count s.bytes s.lengths) where
    abbrev entry_length : Entry → ℕ
    entry_length e = length e.value

    lengths-held : map entry_length (entry_list s) ≡ map value_length (cells length_count s.header.count s.lengths)
    lengths-held =
        let n = s.header.count in
        let c : length (map entry_length (entry_list s)) ≡ n = length-map (entry_list s) entry_length ∙ entry_count s in
        let few = good.few in
        ext_get_or 0 (map entry_length (entry_list s)) (map value_length (cells length_count n s.lengths)) (c ∙ sym (lengths-many n s.bytes s.lengths))
        (λ i h.
        let k : i < n = omega arith in
        get_or-map entry_length (entry_list s) i none_held
        ∙ ap entry_length (entry_at i k)
        ∙ value-length s.bytes s.lengths i z (omega arith) (fitting_at n s.lengths good.fit i k)
        ∙ sym (get_or-map value_length (cells length_count n s.lengths) i [] ∙ ap value_length (cell-at length_count n i s.lengths [] k)))

    pub lengths_are : map_rows (λ (e : Entry). length e.value) (row_list s) ≡ length_rows s.header.count s.bytes s.lengths
    lengths_are = map-rows entry_length (key_list s) (entry_list s) ∙ ap (rows_of (key_list s)) lengths-held

    pub snapshot-long : (number : ℕ) (identity subtree : Bytes)
        → length (snapshot_bytes number identity subtree (row_list s)) ≡ snapshot_length (length identity) subtree (length_rows s.header.count s.bytes s.lengths)
    snapshot-long number identity subtree = snapshot-length identity subtree number (row_list s) ∙ ap (snapshot_length (length identity) subtree) lengths_are

-- a row as it is written, by its number
module _ (identity key value : Bytes) {n m : ℕ} (e : n ≡ m) where
  pub sync-fits : (at room : ℕ) → at + length (with_identity identity (bytes_of (kvsync m key value))) ≤ room → at + length (with_identity identity (bytes_of (kvsync n key value))) ≤ room
  sync-fits at room h = rw e h

  pub sync_as : {o p : Bytes} {at j : ℕ} → Written o at (with_identity identity (bytes_of (kvsync n key value))) j p → Written o at (with_identity identity (bytes_of (kvsync m key value))) j p
  sync_as w = rw e at w

-- ---- no snapshot is longer than 64 rows of the longest, and its end: by the lengths alone
rows_bound : (identity : ℕ) (subtree : Bytes) → identity ≤ 255 → (keys : List Bytes) (lens : List (List ℕ)) → All (λ (k : Bytes). length k ≤ key_room) keys → every fitting lens ≡ true
    → sum (map (sync_length identity) (keep (under subtree) (rows_of keys (map value_length lens)))) ≤ 634 * length lens
unfolding sum keep rows_of zip_with every
rows_bound identity subtree i [] lens k v = omega arith
rows_bound identity subtree i (key ∷ keys) [] k v = omega arith
rows_bound identity subtree i (key ∷ keys) (l ∷ lens) k v =
    go (under subtree key) (rows_bound identity subtree i keys lens k.1 (and_right (fitting l) (every fitting lens) v))
  where
    value : value_length l ≤ 256
    value = value-most l (and_left (fitting l) (every fitting lens) v)

    go : (t : Bool) → sum (map (sync_length identity) (keep (under subtree) (rows_of keys (map value_length lens)))) ≤ 634 * length lens
        → sum (map (sync_length identity) (cond t ((key, value_length l) ∷ keep (under subtree) (rows_of keys (map value_length lens))) (keep (under subtree) (rows_of keys (map value_length lens))))) ≤ 634 * length (l ∷ lens)
    go true h = omega (arith, h, short-frame identity 255 i (omega arith), short-frame (length key) 96 k.0 (omega arith), value_frame (value_length l) value)
    go false h = omega (arith, h)

pub snapshot-short : (identity : ℕ) (subtree : Bytes) (n : ℕ) (bytes : Bytes) (lengths : List ℕ) → GoodRows n bytes lengths → identity ≤ 255 → length subtree ≤ 96
    → snapshot_length identity subtree (length_rows n bytes lengths) ≤ 40954
unfolding snapshot_length
snapshot-short identity subtree n bytes lengths g i t =
    omega
    (arith, rows_bound identity subtree i (keys_of n bytes lengths) (cells length_count n lengths) (keys_short n bytes lengths g.fit) g.fit, length-cells length_count n lengths, g.few, short-frame identity 255 i (omega arith), short-frame (length subtree) 96 t (omega arith))

-- ---- a snapshot of a well-formed state is at most so long
short_entries : (parts lens stamps : List (List ℕ)) → every fitting lens ≡ true → All (λ (e : Entry). Short e.value) (zip_with entry (zip_with cell_value parts lens) stamps)
unfolding zip_with every
short_entries [] lens stamps e = tt
short_entries (p ∷ parts) [] stamps e = tt
short_entries (p ∷ parts) (l ∷ lens) [] e = tt
short_entries (p ∷ parts) (l ∷ lens) (c ∷ stamps) e =
    (omega (arith, length-take (value_length l) (drop key_room p), value-most l (and_left (fitting l) (every fitting lens) e)), short_entries parts lens stamps (and_right (fitting l) (every fitting lens) e))

kept_rows : (keys : List Bytes) (held : List Entry) → every is_key keys ≡ true → All (λ (e : Entry). Short e.value) held → All Kept (rows_of keys held)
unfolding rows_of zip_with every
kept_rows [] held k h = tt
kept_rows (key ∷ keys) [] k h = tt
kept_rows (key ∷ keys) (e ∷ held) k h =
    ((and_left (is_key key) (every is_key keys) k, h.0), kept_rows keys held (and_right (is_key key) (every is_key keys) k) h.1)

pub state-most : (s : Server) → WellFormed s → (number : ℕ) (identity subtree : Bytes) → length identity ≤ 255 → is_subtree subtree ≡ true
    → length (snapshot_bytes number identity subtree (row_list s)) ≤ 40953
unfolding entry_list values_of
state-most s w number identity subtree i t =
    let g = good_server s w in
    let n = s.header.count in
    snapshot-most number identity subtree (row_list s) i t
    (kept_rows (key_list s) (entry_list s) g.rows.are_keys (short_entries (cells cell_size n s.bytes) (cells length_count n s.lengths) (cells stamp_count n s.stamps) g.rows.fit))
    (omega (arith, g.rows.few, length-keep (under subtree) (row_list s), row_count s))
