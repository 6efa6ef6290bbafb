-- The rows that a well-formed server holds: each has a key, and a value of 1 to 256 bytes; and what a part of them under a subtree keeps. Assumes nothing.
use Prim.Native.Nat.{ℕ, ◌≤◌, ◌<◌}
use native.Mathlib.Omega.{arith}
use mathlib.Core.Bool.{Bool, true, false, cond}
use mathlib.Core.List.{List, [], ◌∷◌, zip_with}
use mathlib.Core.Path.{◌≡◌, refl}
use lib.ListN.{length}
use Rattle.base.proofs.ByteLaws.{and_left, and_right}
use Rattle.base.specs.Bytes.{Bytes, is_nil, every}
use Rattle.cells.proofs.ListLaws.{all_from}
use Rattle.cells.specs.Cells.{All, cells, cell_at}
use Rattle.keys.specs.Keys.{is_key}
use Rattle.numbers.specs.Sequences.{max_sequence}
use Rattle.row_cells.proofs.TextLaws.{values_long, value_is, fitting_at, value-least, value-most, value-length}
use Rattle.row_cells.specs.Faults.{GoodRows}
use Rattle.row_cells.specs.Sizes.{byte_count, length_count}
use Rattle.row_cells.specs.Texts.{row, rows_of, row_value, values_of}
use Rattle.rows.specs.Rows.{Rows, keep, keys_in}
use Rattle.server_state.proofs.FormLaws.{GoodServer}
use Rattle.server_state.specs.Stamps.{stamp_count}
use Rattle.server_state.specs.Views.{Entry, SizedServer, entry, key_list, entry_list, view}
use Rattle.server_state.specs.declared.Server.{Server}

-- a row as a server may hold it
abbrev pub Proper : Bytes × Entry → Type 0
Proper r = (is_key r.0 ≡ true) × ((is_nil r.1.value ≡ false) × (length r.1.value ≤ 256))

abbrev Good : Bytes → Type 0
Good value = (is_nil value ≡ false) × (length value ≤ 256)

some_value : (value : Bytes) → 1 ≤ length value → length value ≤ 256 → Good value
some_value [] h k = absurd (omega (arith, h))
some_value (b ∷ value) h k = (refl, k)

values_good : (n : ℕ) (bytes : Bytes) (lengths : List ℕ) → length bytes ≡ byte_count → GoodRows n bytes lengths → All Good (values_of n bytes lengths)
values_good n bytes lengths z g =
    all_from Good (values_of n bytes lengths) []
    (λ i h.
    let k : i < n = rw (values_long n bytes lengths) at h in
    let few = g.few in
    let fits = fitting_at n lengths g.fit i k in
    let long = value-length bytes lengths i z (omega arith) fits in
    rw (value_is n bytes lengths i k) (some_value (row_value i bytes lengths) (rw long (value-least (cell_at length_count i lengths) fits)) (rw long (value-most (cell_at length_count i lengths) fits))))

proper : (keys values : List Bytes) (stamps : List (List ℕ)) → every is_key keys ≡ true → All Good values → All Proper (zip_with row keys (zip_with entry values stamps))
unfolding every zip_with
proper [] values stamps k v = tt
proper (key ∷ keys) [] stamps k v = tt
proper (key ∷ keys) (value ∷ values) [] k v = tt
proper (key ∷ keys) (value ∷ values) (s ∷ stamps) k v =
    ((and_left (is_key key) (every is_key keys) k, v.0), proper keys values stamps (and_right (is_key key) (every is_key keys) k) v.1)

pub rows_proper : (s : Server) → SizedServer s → GoodServer s → All Proper (view s).rows
unfolding view rows_of entry_list
rows_proper s z g =
    let n = s.header.count in
    proper (key_list s) (values_of n s.bytes s.lengths) (cells stamp_count n s.stamps) g.rows.are_keys (values_good n s.bytes s.lengths z.bytes g.rows)

pub good_number : (s : Server) → GoodServer s → (view s).number ≤ max_sequence
unfolding view
good_number s g = g.number

pub proper_keys : (rows : Rows Entry) → All Proper rows → every is_key (keys_in rows) ≡ true
unfolding every keys_in
proper_keys [] h = refl
proper_keys (r ∷ l) h = rw (h.0.0, proper_keys l h.1)

-- ---- a part of rows
pub keep_all : {A : Type 0} (P : Bytes × A → Type 0) (test : Bytes → Bool) (rows : Rows A) → All P rows → All (λ (r : Bytes × A). P r × (test r.0 ≡ true)) (keep test rows)
unfolding keep
keep_all P test [] h = tt
keep_all {A} P test (r ∷ l) h = go (test r.0) refl (keep_all P test l h.1)
  where
    go : (b : Bool) → test r.0 ≡ b → All (λ (q : Bytes × A). P q × (test q.0 ≡ true)) (keep test l)
        → All (λ (q : Bytes × A). P q × (test q.0 ≡ true)) (cond b (r ∷ keep test l) (keep test l))
    go true e rest = ((h.0, e), rest)
    go false e rest = rest
