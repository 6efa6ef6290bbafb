-- Laws of a change of one row: what it does to lists side by side is what it does to the rows that they make. Assumes nothing.
use Prim.Native.Nat.{ℕ, zero, suc, ◌≤◌}
use mathlib.Core.Bool.{Bool, true}
use mathlib.Core.List.{List, [], ◌∷◌, zip_with}
use mathlib.Core.Path.{◌≡◌, refl, ap, ◌∙◌}
use native.Mathlib.Omega.{arith}
use lib.ListN.{length, set}
use Rattle.base.proofs.ByteLaws.{and_left, and_right}
use Rattle.base.specs.Bytes.{Bytes, every}
use Rattle.cells.proofs.CellLaws.{length-cells}
use Rattle.cells.proofs.ListLaws.{zip_set, zip-insert, zip-remove}
use Rattle.cells.specs.Cells.{cells, insert_at, remove_at}
use Rattle.row_cells.specs.Sizes.{max_rows, cell_size, length_count}
use Rattle.row_cells.specs.Texts.{cell_key, cell_value, keys_of, values_of}
use Rattle.row_change.specs.Changes.{changed, count_after, Fits, stores, Altered}
use Rattle.row_change.specs.declared.Change.TheVariants.{Leave, Remove, Replace, Insert}
use Rattle.row_change.specs.declared.Change.{Change}

-- ---- two lists side by side
module _ {A B C : Type 0} (f : A → B → C) where
  pub zip-changed : (change : Change) (n : ℕ) (a : A) (b : B) (l : List A) (k : List B) → length l ≡ n → length k ≡ n → Fits change n
      → zip_with f (changed change a l) (changed change b k) ≡ changed change (f a b) (zip_with f l k)
  zip-changed Leave n a b l k p q h = refl
  zip-changed (Remove i) n a b l k p q h = zip-remove f l k i
  zip-changed (Replace i) n a b l k p q h = zip_set f l k i a b
  zip-changed (Insert i) n a b l k p q h = zip-insert f l k i a b (omega arith) (omega arith)

-- ---- how many rows there are
pub fits-most : (change : Change) (n : ℕ) → Fits change n → (n ≤ max_rows) × (count_after change n ≤ max_rows)
fits-most Leave n h = (h, h)
fits-most (Remove i) n h = (h.1, omega arith)
fits-most (Replace i) n h = (h.1, h.1)
fits-most (Insert i) n h = (omega arith, omega arith)

-- ---- a test that holds of all of a list, and of what the changed row has in it
-- what passes one test passes a weaker one
pub every_weaker : {A : Type 0} (p q : A → Bool) → ((a : A) → p a ≡ true → q a ≡ true) → (l : List A) → every p l ≡ true → every q l ≡ true
unfolding every
every_weaker p q h [] e = refl
every_weaker p q h (a ∷ l) e =
    rw (h a (and_left (p a) (every p l) e), every_weaker p q h l (and_right (p a) (every p l) e))

module _ {A : Type 0} (test : A → Bool) where
  every_cons : (x : A) (l : List A) → test x ≡ true → every test l ≡ true → every test (x ∷ l) ≡ true
  unfolding every
  every_cons x l e g = rw e g

  every-head : (x : A) (l : List A) → every test (x ∷ l) ≡ true → test x ≡ true
  unfolding every
  every-head x l e = and_left (test x) (every test l) e

  every_tail : (x : A) (l : List A) → every test (x ∷ l) ≡ true → every test l ≡ true
  unfolding every
  every_tail x l e = and_right (test x) (every test l) e

  every_set : (l : List A) (i : ℕ) (a : A) → every test l ≡ true → test a ≡ true → every test (set l i a) ≡ true
  every_set [] i a e g = e
  every_set (x ∷ l) zero a e g = every_cons a l g (every_tail x l e)
  every_set (x ∷ l) (suc i) a e g = every_cons x (set l i a) (every-head x l e) (every_set l i a (every_tail x l e) g)

  every-insert : (i : ℕ) (a : A) (l : List A) → every test l ≡ true → test a ≡ true → every test (insert_at i a l) ≡ true
  unfolding insert_at
  every-insert zero a l e g = every_cons a l g e
  every-insert (suc i) a [] e g = every_cons a [] g e
  every-insert (suc i) a (x ∷ l) e g = every_cons x (insert_at i a l) (every-head x l e) (every-insert i a l (every_tail x l e) g)

  every-remove : (i : ℕ) (l : List A) → every test l ≡ true → every test (remove_at i l) ≡ true
  unfolding remove_at
  every-remove zero [] e = e
  every-remove zero (x ∷ l) e = every_tail x l e
  every-remove (suc i) [] e = e
  every-remove (suc i) (x ∷ l) e = every_cons x (remove_at i l) (every-head x l e) (every-remove i l (every_tail x l e))

  pub every-changed : (change : Change) (a : A) (l : List A) → every test l ≡ true → (stores change ≡ true → test a ≡ true) → every test (changed change a l) ≡ true
  every-changed Leave a l e g = e
  every-changed (Remove i) a l e g = every-remove i l e
  every-changed (Replace i) a l e g = every_set l i a e (g refl)
  every-changed (Insert i) a l e g = every-insert i a l e (g refl)

-- ---- the keys and the values of n rows
module _ (change : Change) (n : ℕ) (h : Fits change n) {cell : Bytes} {lens bytes lengths bytes' lengths' : List ℕ}
    (c : Altered change cell lens n bytes lengths bytes' lengths') where
  -- read by f off a row's bytes and its lengths
  read_after : {C : Type 0} (f : Bytes → List ℕ → C) → zip_with f (cells cell_size (count_after change n) bytes') (cells length_count (count_after change n) lengths')
      ≡ changed change (f cell lens) (zip_with f (cells cell_size n bytes) (cells length_count n lengths))
  read_after f =
      ap (λ (l : List Bytes). zip_with f l (cells length_count (count_after change n) lengths')) c.of_bytes
      ∙ ap (zip_with f (changed change cell (cells cell_size n bytes))) c.of_lengths
      ∙ zip-changed f change n cell lens (cells cell_size n bytes) (cells length_count n lengths) (length-cells cell_size n bytes) (length-cells length_count n lengths) h

  pub keys_after : keys_of (count_after change n) bytes' lengths' ≡ changed change (cell_key cell lens) (keys_of n bytes lengths)
  unfolding keys_of
  keys_after = read_after cell_key

  pub values_after : values_of (count_after change n) bytes' lengths' ≡ changed change (cell_value cell lens) (values_of n bytes lengths)
  unfolding values_of
  values_after = read_after cell_value
