-- Rows stay good when a key is set or removed, and when a row is taken out. Assumes nothing.
use Prim.Native.Nat.{ℕ, ◌≤◌, ◌<◌}
use native.Mathlib.Omega.{arith}
use mathlib.Core.Bool.{Bool, true, false}
use mathlib.Core.List.{List}
use mathlib.Core.Path.{◌≡◌}
use lib.ListN.{length}
use borrow.Author.Tests.{le-leb}
use Rattle.base.proofs.ByteLaws.{some_bytes}
use Rattle.base.specs.Bytes.{Bytes, is_nil}
use Rattle.cells.specs.Cells.{cells}
use Rattle.frame_forms.specs.Lengths.{value_room}
use Rattle.keys.proofs.UnderLaws.{key-short}
use Rattle.keys.specs.Keys.{is_key}
use Rattle.row_cells.proofs.TextLaws.{keys_long}
use Rattle.row_cells.specs.Faults.{fitting, GoodRows}
use Rattle.row_cells.specs.FreshRows.{cell_of, IsRow}
use Rattle.row_cells.specs.Sizes.{length_count}
use Rattle.row_cells.specs.Texts.{key_length, value_length, cell_key, keys_of}
use Rattle.row_cells.specs.declared.fresh.Row.{Row}
use Rattle.row_change.proofs.ChangeLaws.{fits-most, every-changed, keys_after}
use Rattle.row_change.specs.Changes.{changed, count_after, Fits, stores, Altered}
use Rattle.row_change.specs.declared.Change.TheVariants.{Remove}
use Rattle.row_change.specs.declared.Change.{Change}
use Rattle.row_search.proofs.FindLaws.{stores_some, rising-changed, rising-removed_at}
use Rattle.row_search.specs.Places.{place_of, change_to}
use Rattle.rows.specs.Rows.{rising}

module _ {change : Change} {n : ℕ} (f : Fits change n) {cell : Bytes} {lens bytes lengths bytes' lengths' : List ℕ}
    (c : Altered change cell lens n bytes lengths bytes' lengths') (g : GoodRows n bytes lengths) where
  -- what a row that is stored must have
  pub good_change : (stores change ≡ true → fitting lens ≡ true) → (stores change ≡ true → is_key (cell_key cell lens) ≡ true) → rising (changed change (cell_key cell lens) (keys_of n bytes lengths)) ≡ true
      → GoodRows (count_after change n) bytes' lengths'
  good_change fits keyed rises = record {
    few = (fits-most change n f).1;
    fit = rw c.of_lengths (every-changed fitting change lens (cells length_count n lengths) g.fit fits);
    are_keys = rw (keys_after change n f c) (every-changed is_key change (cell_key cell lens) (keys_of n bytes lengths) g.are_keys keyed);
    rise = rw (keys_after change n f c) rises;
  }

-- ---- a key is set to a value, or removed
row_fits : (lens : List ℕ) (key value : Bytes) → key_length lens ≡ length key → value_length lens ≡ length value → is_key key ≡ true → is_nil value ≡ false → length value ≤ value_room → fitting lens ≡ true
row_fits lens key value k v key_good some short =
    rw (k, v, le-leb (length key) 96 (key-short key key_good), le-leb 1 (length value) (some_bytes value some), le-leb (length value) value_room short)

pub update_good : {change : Change} {n : ℕ} (f : Fits change n) (row : Row) {bytes lengths bytes' lengths' : List ℕ}
    (c : Altered change (cell_of row) row.lengths n bytes lengths bytes' lengths') (g : GoodRows n bytes lengths)
    (removes : Bool) (key value : Bytes) → change ≡ change_to removes (place_of 0 key (keys_of n bytes lengths)) → IsRow row key value → is_key key ≡ true
    → (removes ≡ false → is_nil value ≡ false) → length value ≤ value_room → GoodRows (count_after change n) bytes' lengths'
update_good f row {bytes} {lengths} c g removes key value made h key_good some short =
    good_change f c g
    (λ e. row_fits row.lengths key value h.key-length h.value-length key_good (some (stores_some removes (place_of 0 key (keys_of _ bytes lengths)) (rw made at e))) short)
    (λ e. rw h.key key_good)
    (rw (h.key, made) (rising-changed key (keys_of _ bytes lengths) g.rise removes))

-- ---- a row is taken out
pub remove_good : {i n : ℕ} (h : i < n) {cell : Bytes} {lens bytes lengths bytes' lengths' : List ℕ}
    (c : Altered (Remove i) cell lens n bytes lengths bytes' lengths') (g : GoodRows n bytes lengths) → GoodRows (count_after (Remove i) n) bytes' lengths'
remove_good {i} {n} h {bytes = bytes} {lengths = lengths} c g =
    good_change (h, g.few) c g (λ e. absurd (let z : ◌≡◌ {A = ℕ} 0 1 = cc in omega arith)) (λ e. absurd (let z : ◌≡◌ {A = ℕ} 0 1 = cc in omega arith))
    (rising-removed_at (keys_of n bytes lengths) i g.rise (omega (arith, keys_long n bytes lengths)))
