-- Laws of the keys and the values of rows: each by its index, how many there are, how long they are. Assumes nothing.
use Prim.Native.Nat.{ℕ, zero, suc, ◌+◌, ◌≤◌, ◌<◌}
use native.Mathlib.Nat.{le_of_suc-le-suc, not-suc-le-zero}
use native.Mathlib.Omega.{arith}
use mathlib.Core.Bool.{Bool, true, ◌&&◌}
use mathlib.Core.List.{List, [], ◌∷◌, ◌++◌, append_assoc, append-nil, zip_with}
use mathlib.Core.Path.{◌≡◌, sym, ap, ◌∙◌}
use lib.Dec.{leb}
use lib.ListN.{length, get_or, take, drop, length-take, length-drop}
use lib.Seq.{take-append_seam, drop_at}
use borrow.Author.Tests.{leb-true}
use Rattle.base.proofs.ByteLaws.{and_left, and_right}
use Rattle.base.proofs.OutputLaws.{output}
use Rattle.base.specs.Bytes.{Bytes, every}
use Rattle.base.specs.Output.{put, Written}
use Rattle.cells.proofs.CellLaws.{length-cells, cell-at}
use Rattle.cells.proofs.ListLaws.{length-zip, get_d_zip}
use Rattle.cells.specs.Cells.{cells, cell_at, All}
use Rattle.frame_forms.specs.Lengths.{value_room}
use Rattle.keys.specs.Keys.{key_room}
use Rattle.row_cells.specs.Faults.{fitting}
use Rattle.row_cells.specs.Sizes.{max_rows, cell_size, length_count, byte_count}
use Rattle.row_cells.specs.Texts.{key_length, value_length, cell_key, cell_value, row_key, row_value, keys_of, values_of}

-- a test that holds of all of a list holds at each index
pub every_in : {A : Type 0} (test : A → Bool) (l : List A) (i : ℕ) (d : A) → every test l ≡ true → i < length l → test (get_or l i d) ≡ true
unfolding every
every_in test [] i d e h = absurd (not-suc-le-zero h)
every_in test (x ∷ l) zero d e h = and_left (test x) (every test l) e
every_in test (x ∷ l) (suc i) d e h = every_in test l i d (and_right (test x) (every test l) e) (le_of_suc-le-suc h)

-- ---- the first n rows
module _ (n : ℕ) (bytes : Bytes) (lengths : List ℕ) where
  pub keys_long : length (keys_of n bytes lengths) ≡ n
  unfolding keys_of
  keys_long = length-zip cell_key n (cells cell_size n bytes) (cells length_count n lengths) (length-cells cell_size n bytes) (length-cells length_count n lengths)

  pub values_long : length (values_of n bytes lengths) ≡ n
  unfolding values_of
  values_long = length-zip cell_value n (cells cell_size n bytes) (cells length_count n lengths) (length-cells cell_size n bytes) (length-cells length_count n lengths)

  module _ (i : ℕ) (h : i < n) where
    in_cells : (s : ℕ) (l : List ℕ) → i < length (cells s n l)
    in_cells s l = simp length-cells h

    pub key_is : get_or (keys_of n bytes lengths) i [] ≡ row_key i bytes lengths
    unfolding keys_of
    key_is =
        get_d_zip cell_key (cells cell_size n bytes) (cells length_count n lengths) i [] [] [] (in_cells cell_size bytes) (in_cells length_count lengths)
        ∙ rw (cell-at cell_size n i bytes [] h, cell-at length_count n i lengths [] h)

    pub value_is : get_or (values_of n bytes lengths) i [] ≡ row_value i bytes lengths
    unfolding values_of
    value_is =
        get_d_zip cell_value (cells cell_size n bytes) (cells length_count n lengths) i [] [] [] (in_cells cell_size bytes) (in_cells length_count lengths)
        ∙ rw (cell-at cell_size n i bytes [] h, cell-at length_count n i lengths [] h)

-- ---- lengths that fit
module _ (l : List ℕ) (e : fitting l ≡ true) where
  value-fits : (leb 1 (value_length l) && leb (value_length l) value_room) ≡ true
  value-fits = and_right (leb (key_length l) key_room) (leb 1 (value_length l) && leb (value_length l) value_room) e

  pub key-most : key_length l ≤ key_room
  key-most = leb-true (key_length l) key_room (and_left (leb (key_length l) key_room) (leb 1 (value_length l) && leb (value_length l) value_room) e)

  pub value-least : 1 ≤ value_length l
  value-least = leb-true 1 (value_length l) (and_left (leb 1 (value_length l)) (leb (value_length l) value_room) value-fits)

  pub value-most : value_length l ≤ value_room
  value-most = leb-true (value_length l) value_room (and_right (leb 1 (value_length l)) (leb (value_length l) value_room) value-fits)

-- those of each of n rows
module _ (n : ℕ) (lengths : List ℕ) (e : every fitting (cells length_count n lengths) ≡ true) (i : ℕ) (h : i < n) where
  pub fitting_at : fitting (cell_at length_count i lengths) ≡ true
  fitting_at = rw (cell-at length_count n i lengths [] h) at (every_in fitting (cells length_count n lengths) i [] e (simp length-cells h))

  pub key-most_at : key_length (cell_at length_count i lengths) ≤ key_room
  key-most_at = key-most (cell_at length_count i lengths) fitting_at

  pub value-most_at : value_length (cell_at length_count i lengths) ≤ value_room
  value-most_at = value-most (cell_at length_count i lengths) fitting_at

-- no key is longer than its room
keys_within : (parts lens : List (List ℕ)) → every fitting lens ≡ true → All (λ (k : Bytes). length k ≤ key_room) (zip_with cell_key parts lens)
unfolding zip_with every
keys_within [] lens e = tt
keys_within (p ∷ parts) [] e = tt
keys_within (p ∷ parts) (l ∷ lens) e =
    (omega (arith, length-take (key_length l) p, key-most l (and_left (fitting l) (every fitting lens) e)), keys_within parts lens (and_right (fitting l) (every fitting lens) e))

pub keys_short : (n : ℕ) (bytes : Bytes) (lengths : List ℕ) → every fitting (cells length_count n lengths) ≡ true
    → All (λ (k : Bytes). length k ≤ key_room) (keys_of n bytes lengths)
unfolding keys_of
keys_short n bytes lengths e = keys_within (cells cell_size n bytes) (cells length_count n lengths) e

pub row-key-short : (i : ℕ) (bytes : Bytes) (lengths : List ℕ) → key_length (cell_at length_count i lengths) ≤ key_room → length (row_key i bytes lengths) ≤ key_room
row-key-short i bytes lengths h = omega (arith, length-take (key_length (cell_at length_count i lengths)) (cell_at cell_size i bytes))

-- a value is as long as its length says, in an array that has all cells
pub value-length : (bytes : Bytes) (lengths : List ℕ) (i : ℕ) → length bytes ≡ byte_count → i < max_rows → fitting (cell_at length_count i lengths) ≡ true
    → length (row_value i bytes lengths) ≡ value_length (cell_at length_count i lengths)
unfolding cell_at
value-length bytes lengths i z h e =
    simp (length-take, length-drop) (omega (arith, z, value-most (cell_at length_count i lengths) e))

-- ---- a fresh row: what is written at the start of a cell, and counted
pub written_front : (d xs rest : Bytes) {i n : ℕ} {o : Bytes} → length xs ≤ length d → Written d 0 xs i o → n ≡ length xs → take n (o ++ rest) ≡ xs
unfolding put
written_front d xs rest {o = o} h w counted =
    ap (λ (n : ℕ). take n (o ++ rest)) counted
    ∙ ap (λ (b : Bytes). take (length xs) (b ++ rest)) (output w (omega arith))
    ∙ simp append_assoc (take-append_seam xs (drop (0 + length xs) d ++ rest))

pub written_back : (front d xs : Bytes) {i n : ℕ} {o : Bytes} → length front ≡ key_room → length xs ≤ length d → Written d 0 xs i o → n ≡ length xs
    → take n (drop key_room (front ++ o)) ≡ xs
written_back front d xs {n = n} {o = o} z h w counted =
    ap (take n) (drop_at front o key_room z) ∙ ap (take n) (sym (append-nil o)) ∙ written_front d xs [] h w counted
