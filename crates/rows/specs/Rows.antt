-- A map as a list of rows, each a key and what is held under it, in the order of the keys.
use Rattle.std.specs.Prelude.{Bool, true, false, cond, ◌&&◌, ◌||◌, List, [], ◌∷◌, ◌≡◌}
use Rattle.std.proofs.Math.Option.{Option, none, some}
use Rattle.std.specs.declared.cmp.Ordering.TheVariants.{Less, Equal, Greater}
use Rattle.std.specs.declared.cmp.Ordering.{Ordering}
use Rattle.base.specs.Bytes.{Bytes, same}
use Rattle.key_order.specs.Order.{order_of}

abbrev pub Rows : Type 0 → Type 0
Rows A = List (Bytes × A)

module _ {A : Type 0} where
  -- a row set before r, in the place of r, or among the rows behind it: by how its key stands to that of r
  abbrev pub place : Ordering → Bytes × A → Bytes × A → Rows A → Rows A → Rows A
  place Less new r l rest = new ∷ r ∷ l
  place Equal new r l rest = new ∷ l
  place Greater new r l rest = r ∷ rest

  -- the rows with a under the key k, whatever was held under it
  unfoldable pub set_row : Bytes → A → Rows A → Rows A
  set_row k a [] = (k, a) ∷ []
  set_row k a (r ∷ l) = place (order_of k r.0) (k, a) r l (set_row k a l)

  -- the rows from r on without a key: r is behind it, has it, or is before it
  abbrev pub part : Ordering → Bytes × A → Rows A → Rows A → Rows A
  part Less r l rest = r ∷ l
  part Equal r l rest = l
  part Greater r l rest = r ∷ rest

  -- the rows without that of the key k, if there is one
  unfoldable pub remove_row : Bytes → Rows A → Rows A
  remove_row k [] = []
  remove_row k (r ∷ l) = part (order_of k r.0) r l (remove_row k l)

  -- the rows whose keys pass a test
  unfoldable pub keep : (Bytes → Bool) → Rows A → Rows A
  keep test [] = []
  keep test (r ∷ l) = cond (test r.0) (r ∷ keep test l) (keep test l)

  -- the keys
  unfoldable pub keys_in : Rows A → List Bytes
  keys_in [] = []
  keys_in (r ∷ l) = r.0 ∷ keys_in l

  -- whether something is held under the key k
  unfoldable pub has_key : Bytes → Rows A → Bool
  has_key k [] = false
  has_key k (r ∷ l) = same k r.0 || has_key k l

  -- what is held under the key k: that of the first row that has it, if there is one
  unfoldable pub held_under : Bytes → Rows A → Option A
  held_under k [] = none
  held_under k (r ∷ l) = cond (same k r.0) (some r.1) (held_under k l)

  -- every key is above k
  abbrev pub Above : Bytes → Rows A → Type 0
  Above k [] = Unit {0}
  Above k (r ∷ l) = (order_of k r.0 ≡ Less) × Above k l

  -- every key is below all that follow
  abbrev pub Sorted : Rows A → Type 0
  Sorted [] = Unit {0}
  Sorted (r ∷ l) = Above r.0 l × Sorted l

-- the keys kept, what is held under them changed
unfoldable pub map_rows : {A B : Type 0} → (A → B) → Rows A → Rows B
map_rows f [] = []
map_rows f (r ∷ l) = (r.0, f r.1) ∷ map_rows f l

abbrev pub is_less : Ordering → Bool
is_less Less = true
is_less Equal = false
is_less Greater = false

-- whether keys rise strictly: each is below the next
unfoldable pub rising : List Bytes → Bool
rising [] = true
rising (k ∷ []) = true
rising (k ∷ j ∷ l) = is_less (order_of k j) && rising (j ∷ l)
