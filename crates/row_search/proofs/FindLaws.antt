-- Laws of finding a key. Halving finds what a pass from the front finds, as long as what a part between two places holds is kept; and what is
-- found is the place at which rows are set and removed. Assumes nothing.
use Prim.Native.Nat.{ℕ, zero, suc, ◌+◌, ◌-◌, ◌≤◌, ◌<◌}
use native.Mathlib.Nat.{le_of_suc-le-suc, not-suc-le-zero, add-zero, zero-add}
use native.Mathlib.Omega.{arith}
use mathlib.Core.Bool.{Bool, true, false, not, ◌&&◌}
use mathlib.Core.List.{List, [], ◌∷◌, zip_with, map}
use mathlib.Core.Option.{Option, none, some}
use mathlib.Core.Path.{◌≡◌, refl, sym, ap, ◌∙◌, subst}
use lib.Dec.{leb}
use lib.ListN.{length, get_or, take, drop, set, length-take, length-drop, drop_of_length-le}
use lib.Seq.{get_or-take, get_or-drop, drop-drop, take-take}
use Rattle.std.proofs.lemmas.List.{drop-take, map-set}
use borrow.Author.Tests.{leb-false}
use Rattle.std.specs.Prelude.{Result, Ok, Err}
use Rattle.std.specs.Ordering.{ordering_reverse}
use Rattle.std.specs.declared.cmp.Ordering.TheVariants.{Less, Equal, Greater}
use Rattle.std.specs.declared.cmp.Ordering.{Ordering}
use Rattle.base.proofs.ByteLaws.{and_left, and_right}
use Rattle.base.specs.Bytes.{Bytes}
use Rattle.cells.proofs.ListLaws.{all_at, map-remove, map-insert}
use Rattle.cells.specs.Cells.{insert_at, remove_at, All}
use Rattle.key_order.proofs.OrderLaws.{order_self, order_flip, order_equal, order_trans}
use Rattle.key_order.specs.Order.{order_of}
use Rattle.row_cells.specs.Sizes.{max_rows}
use Rattle.row_cells.specs.Texts.{rows_of}
use Rattle.row_change.specs.Changes.{changed, Fits, is_over, stores}
use Rattle.row_search.specs.Places.{place_of, by_order, is_found, change_to}
use Rattle.rows.proofs.RowLaws.{same_by_order, is_some, held_has, sorted_set, sorted_remove, sorted_rising, rising_sorted, above_has_key, above_trans}
use Rattle.rows.specs.Rows.{Rows, map_rows, set_row, remove_row, has_key, held_under, keys_in, Sorted, Above, rising, is_less}
use Rattle.row_change.specs.declared.Change.TheVariants.{Leave, Remove, Replace, Insert}
use Rattle.row_change.specs.declared.Change.{Change}

-- ---- keys that rise: each is below all that follow
abbrev Below : Bytes → List Bytes → Type 0
Below x l = All (λ (y : Bytes). order_of x y ≡ Less) l

abbrev Rising : List Bytes → Type 0
Rising [] = Unit {0}
Rising (x ∷ l) = Below x l × Rising l

below_trans : (x y : Bytes) (l : List Bytes) → order_of x y ≡ Less → Below y l → Below x l
below_trans x y [] h p = tt
below_trans x y (k ∷ l) h p = (order_trans x y k h p.0, below_trans x y l h p.1)

is_rising : (ks : List Bytes) → rising ks ≡ true → Rising ks
unfolding rising
is_rising [] e = tt
is_rising (x ∷ []) e = (tt, tt)
is_rising (x ∷ y ∷ l) e = go (order_of x y) refl (and_left (is_less (order_of x y)) (rising (y ∷ l)) e) (is_rising (y ∷ l) (and_right (is_less (order_of x y)) (rising (y ∷ l)) e))
  where
    go : (o : Ordering) → order_of x y ≡ o → is_less o ≡ true → Rising (y ∷ l) → Rising (x ∷ y ∷ l)
    go Less q f r = ((q, below_trans x y l q r.0), r)
    go Equal q f r = cc
    go Greater q f r = cc

below-take : (x : Bytes) (n : ℕ) (l : List Bytes) → Below x l → Below x (take n l)
below-take x zero l p = tt
below-take x (suc n) [] p = tt
below-take x (suc n) (y ∷ l) p = (p.0, below-take x n l p.1)

rising-take : (n : ℕ) (l : List Bytes) → Rising l → Rising (take n l)
rising-take zero l r = tt
rising-take (suc n) [] r = tt
rising-take (suc n) (x ∷ l) r = (below-take x n l r.0, rising-take n l r.1)

rising-drop : (n : ℕ) (l : List Bytes) → Rising l → Rising (drop n l)
rising-drop zero l r = r
rising-drop (suc n) [] r = tt
rising-drop (suc n) (x ∷ l) r = rising-drop n l r.1

-- ---- what a look at one key says of a pass from the front
module _ (k : Bytes) where
  first_less : (i : ℕ) (x : Bytes) (xs : List Bytes) → order_of x k ≡ Less → place_of i k (x ∷ xs) ≡ place_of (suc i) k xs
  unfolding place_of
  first_less i x xs e = rw e

  -- a key before one that is below k, or is k, is below k
  before_less : (x : Bytes) (xs : List Bytes) (m : ℕ) → Below x xs → m < length xs → order_of (get_or xs m []) k ≡ Less → order_of x k ≡ Less
  before_less x xs m r h e = order_trans x (get_or xs m []) k (all_at (λ (y : Bytes). order_of x y ≡ Less) xs m [] r h) e

  before_equal : (x : Bytes) (xs : List Bytes) (m : ℕ) → Below x xs → m < length xs → order_of (get_or xs m []) k ≡ Equal → order_of x k ≡ Less
  before_equal x xs m r h e = subst (λ (y : Bytes). order_of x y ≡ Less) (order_equal (get_or xs m []) k e) (all_at (λ (y : Bytes). order_of x y ≡ Less) xs m [] r h)

  skip : (i m : ℕ) (xs : List Bytes) → Rising xs → m < length xs → order_of (get_or xs m []) k ≡ Less → place_of i k xs ≡ place_of (suc (i + m)) k (drop (suc m) xs)
  skip i m [] r h e = absurd (not-suc-le-zero h)
  skip i zero (x ∷ xs) r h e = rw add-zero (first_less i x xs e)
  skip i (suc m) (x ∷ xs) r h e =
      let b : m < length xs = le_of_suc-le-suc h in
      let g : suc (suc i + m) ≡ suc (i + suc m) = omega arith in
      first_less i x xs (before_less x xs m r.0 b e) ∙ skip (suc i) m xs r.1 b e ∙ ap (λ (j : ℕ). place_of j k (drop (suc m) xs)) g

  hit : (i m : ℕ) (xs : List Bytes) → Rising xs → m < length xs → order_of (get_or xs m []) k ≡ Equal → place_of i k xs ≡ Ok (i + m)
  unfolding place_of
  hit i m [] r h e = absurd (not-suc-le-zero h)
  hit i zero (x ∷ xs) r h e = rw (add-zero, e)
  hit i (suc m) (x ∷ xs) r h e =
      let b : m < length xs = le_of_suc-le-suc h in
      let g : suc i + m ≡ i + suc m = omega arith in
      first_less i x xs (before_equal x xs m r.0 b e) ∙ hit (suc i) m xs r.1 b e ∙ ap Ok g

  stop : (i m : ℕ) (xs : List Bytes) → m < length xs → order_of (get_or xs m []) k ≡ Greater → place_of i k xs ≡ place_of i k (take m xs)
  unfolding place_of
  stop i m [] h e = absurd (not-suc-le-zero h)
  stop i zero (x ∷ xs) h e = rw e
  stop i (suc m) (x ∷ xs) h e = ap (λ (f : Result ℕ ℕ). by_order (order_of x k) f (Ok i) (Err i)) (stop (suc i) m xs (le_of_suc-le-suc h) e)

-- ---- the same between two places of the keys: what halving keeps
abbrev pub between : ℕ → ℕ → List Bytes → List Bytes
between lo hi ks = drop lo (take hi ks)

module _ (k : Bytes) (ks : List Bytes) (lo hi mid : ℕ) (from : lo ≤ mid) (to : mid < hi) (fits : hi ≤ length ks) where
  here : lo + (mid - lo) ≡ mid
  here = omega arith

  inside : mid - lo < length (between lo hi ks)
  inside = simp (length-drop, length-take) (omega arith)

  told : {o : Ordering} → order_of (get_or ks mid []) k ≡ o → order_of (get_or (between lo hi ks) (mid - lo) []) k ≡ o
  told e = ap (λ (x : Bytes). order_of x k) (get_or-drop lo (take hi ks) (mid - lo) [] ∙ ap (λ (j : ℕ). get_or (take hi ks) j []) here ∙ get_or-take hi ks mid [] to) ∙ e

  rising_between : rising ks ≡ true → Rising (between lo hi ks)
  rising_between r = rising-drop lo (take hi ks) (rising-take hi ks (is_rising ks r))

  pub go_right : rising ks ≡ true → order_of (get_or ks mid []) k ≡ Less → place_of lo k (between lo hi ks) ≡ place_of (mid + 1) k (between (mid + 1) hi ks)
  go_right r e =
      let a : suc (lo + (mid - lo)) ≡ mid + 1 = omega arith in
      let b : lo + suc (mid - lo) ≡ mid + 1 = omega arith in
      skip k lo (mid - lo) (between lo hi ks) (rising_between r) inside (told e) ∙ rw (a, drop-drop, b)

  pub go_left : order_of (get_or ks mid []) k ≡ Greater → place_of lo k (between lo hi ks) ≡ place_of lo k (between lo mid ks)
  go_left e =
      let h : mid ≤ hi = omega arith in
      stop k lo (mid - lo) (between lo hi ks) inside (told e) ∙ ap (place_of lo k) (sym (drop-take lo (mid - lo) (take hi ks)) ∙ rw (here, take-take mid hi ks h))

  pub found : rising ks ≡ true → order_of (get_or ks mid []) k ≡ Equal → place_of lo k (between lo hi ks) ≡ Ok mid
  found r e = hit k lo (mid - lo) (between lo hi ks) (rising_between r) inside (told e) ∙ ap Ok here

pub missing : (k : Bytes) (ks : List Bytes) (lo hi : ℕ) → hi ≤ lo → place_of lo k (between lo hi ks) ≡ Err lo
unfolding place_of
missing k ks lo hi h =
    let b : length (take hi ks) ≤ lo = simp length-take (omega arith) in
    rw (drop_of_length-le (take hi ks) b)

-- the place of a key that is there
pub place_of_own : (keys : List Bytes) (i : ℕ) → rising keys ≡ true → i < length keys → place_of 0 (get_or keys i []) keys ≡ Ok i
place_of_own keys i r h =
    hit (get_or keys i []) 0 i keys (is_rising keys r) h (order_self (get_or keys i [])) ∙ ap Ok (zero-add i)

-- ---- rows made of columns
module _ {A : Type 0} where
  pub keys_in_rows : (keys : List Bytes) (held : List A) → length keys ≡ length held → keys_in (rows_of keys held) ≡ keys
  unfolding rows_of zip_with keys_in
  keys_in_rows [] held e = refl
  keys_in_rows (x ∷ keys) [] e = absurd (omega arith)
  keys_in_rows (x ∷ keys) (b ∷ held) e =
      let f : length keys ≡ length held = omega arith in
      ap (λ (l : List Bytes). x ∷ l) (keys_in_rows keys held f)

  below_above : (x : Bytes) (keys : List Bytes) (held : List A) → Below x keys → Above x (rows_of keys held)
  unfolding rows_of zip_with
  below_above x [] held p = tt
  below_above x (y ∷ keys) [] p = tt
  below_above x (y ∷ keys) (b ∷ held) p = (p.0, below_above x keys held p.1)

pub map-rows : {A B : Type 0} (f : A → B) (keys : List Bytes) (held : List A) → map_rows f (rows_of keys held) ≡ rows_of keys (map f held)
unfolding map_rows rows_of zip_with
map-rows f [] held = refl
map-rows f (k ∷ keys) [] = refl
map-rows {A} {B} f (k ∷ keys) (a ∷ held) = ap (λ (l : Rows B). (k, f a) ∷ l) (map-rows f keys held)

-- what a key's row, at place i, says of the rows
pub record There {A : Type 0} (k : Bytes) (keys : List Bytes) (held : List A) (i : ℕ) : Type 0 where
  pub bound : i < length keys
  pub own : get_or keys i [] ≡ k
  pub sets : (a : A) → set_row k a (rows_of keys held) ≡ set (rows_of keys held) i (k, a)
  pub removes : remove_row k (rows_of keys held) ≡ remove_at i (rows_of keys held)
  pub has : has_key k (rows_of keys held) ≡ true

-- and what the place where there is none says
pub record Gap {A : Type 0} (k : Bytes) (keys : List Bytes) (held : List A) (i : ℕ) : Type 0 where
  pub bound : i ≤ length keys
  pub sets : (a : A) → set_row k a (rows_of keys held) ≡ insert_at i (k, a) (rows_of keys held)
  pub removes : remove_row k (rows_of keys held) ≡ rows_of keys held
  pub lacks : Rising keys → has_key k (rows_of keys held) ≡ false

data Place {A : Type 0} (n : ℕ) (k : Bytes) (keys : List Bytes) (held : List A) : Type 0 where
  there : (i : ℕ) → place_of n k keys ≡ Ok (n + i) → There k keys held i → Place n k keys held
  gap : (i : ℕ) → place_of n k keys ≡ Err (n + i) → Gap k keys held i → Place n k keys held

module _ {A : Type 0} (k : Bytes) where
  place_step : (n : ℕ) (x : Bytes) (b : A) (keys : List Bytes) (held : List A) (o : Ordering) → order_of x k ≡ o → order_of k x ≡ ordering_reverse o → Place (suc n) k keys held
      → Place n k (x ∷ keys) (b ∷ held)
  unfolding place_of set_row remove_row has_key insert_at remove_at rows_of zip_with
  place_step n x b keys held Equal p q l =
      there 0 (rw p (ap Ok (sym (add-zero n)))) (record { bound = omega arith; own = order_equal x k p; sets = λ a. rw q; removes = rw q; has = rw (same_by_order k x q) })
  place_step n x b keys held Greater p q l =
      gap 0 (rw p (ap Err (sym (add-zero n)))) (record { bound = omega arith; sets = λ a. rw q; removes = rw q; lacks = λ r. rw (same_by_order k x q) (above_has_key k (rows_of keys held) (above_trans k x (rows_of keys held) q (below_above x keys held r.0))) })
  place_step n x b keys held Less p q (there i f t) =
      let m : suc n + i ≡ n + suc i = omega arith in
      let h = t.bound in
      there (suc i) (rw p (f ∙ ap Ok m)) (record { bound = omega arith; own = t.own; sets = λ a. rw q (ap (λ (l : Rows A). (x, b) ∷ l) (t.sets a)); removes = rw q (ap (λ (l : Rows A). (x, b) ∷ l) t.removes); has = rw (same_by_order k x q) t.has })
  place_step n x b keys held Less p q (gap i f t) =
      let m : suc n + i ≡ n + suc i = omega arith in
      let h = t.bound in
      gap (suc i) (rw p (f ∙ ap Err m)) (record { bound = omega arith; sets = λ a. rw q (ap (λ (l : Rows A). (x, b) ∷ l) (t.sets a)); removes = rw q (ap (λ (l : Rows A). (x, b) ∷ l) t.removes); lacks = λ r. rw (same_by_order k x q) (t.lacks r.1) })

  place : (n : ℕ) (keys : List Bytes) (held : List A) → length keys ≡ length held → Place n k keys held
  unfolding place_of set_row remove_row has_key insert_at remove_at rows_of zip_with
  place n [] held e = gap 0 (ap Err (sym (add-zero n))) (record { bound = omega arith; sets = λ a. refl; removes = refl; lacks = λ r. refl })
  place n (x ∷ keys) [] e = absurd (omega arith)
  place n (x ∷ keys) (b ∷ held) e =
      let f : length keys ≡ length held = omega arith in
      place_step n x b keys held (order_of x k) refl (order_flip x k) (place (suc n) keys held f)

module _ {A : Type 0} (k : Bytes) (d : A) where
  -- the row at the place of its own key
  held_place : (keys : List Bytes) (held : List A) (i : ℕ) → length keys ≡ length held → Rising keys → i < length keys → get_or keys i [] ≡ k
      → held_under k (rows_of keys held) ≡ some (get_or held i d)
  unfolding held_under rows_of zip_with
  held_place [] held i e r h own = absurd (not-suc-le-zero h)
  held_place (x ∷ keys) [] i e r h own = absurd (omega arith)
  held_place (x ∷ keys) (b ∷ held) zero e r h own = rw (same_by_order k x (ap (order_of k) own ∙ order_self k))
  held_place (x ∷ keys) (b ∷ held) (suc i) e r h own =
      let f : length keys ≡ length held = omega arith in
      let l : i < length keys = le_of_suc-le-suc h in
      let below : order_of x k ≡ Less = subst (λ (y : Bytes). order_of x y ≡ Less) own (all_at (λ (y : Bytes). order_of x y ≡ Less) keys i [] r.0 l) in
      rw (same_by_order k x (order_flip x k ∙ ap ordering_reverse below)) (held_place keys held i f r.1 l own)

module _ {A : Type 0} (k : Bytes) (keys : List Bytes) (held : List A) (same_length : length keys ≡ length held) where
  pub there_at : (i : ℕ) → place_of 0 k keys ≡ Ok i → There k keys held i
  there_at i p = go (place k 0 keys held same_length)
    where
      go : Place 0 k keys held → There k keys held i
      go (there j f t) = let e : 0 + j ≡ i = cc in let d : j ≡ i = omega arith in subst (There k keys held) d t
      go (gap j f t) = cc

  pub gap_at : (i : ℕ) → place_of 0 k keys ≡ Err i → Gap k keys held i
  gap_at i p = go (place k 0 keys held same_length)
    where
      go : Place 0 k keys held → Gap k keys held i
      go (there j f t) = cc
      go (gap j f t) = let e : 0 + j ≡ i = cc in let d : j ≡ i = omega arith in subst (Gap k keys held) d t

  pub changed_removes : (a : A) → changed (change_to true (place_of 0 k keys)) (k, a) (rows_of keys held) ≡ remove_row k (rows_of keys held)
  changed_removes a = go (place_of 0 k keys) refl
    where
      go : (f : Result ℕ ℕ) → place_of 0 k keys ≡ f → changed (change_to true f) (k, a) (rows_of keys held) ≡ remove_row k (rows_of keys held)
      go (Ok i) e = sym (there_at i e).removes
      go (Err i) e = sym (gap_at i e).removes

  pub changed-sets : (a : A) → changed (change_to false (place_of 0 k keys)) (k, a) (rows_of keys held) ≡ set_row k a (rows_of keys held)
  changed-sets a = go (place_of 0 k keys) refl
    where
      go : (f : Result ℕ ℕ) → place_of 0 k keys ≡ f → changed (change_to false f) (k, a) (rows_of keys held) ≡ set_row k a (rows_of keys held)
      go (Ok i) e = sym ((there_at i e).sets a)
      go (Err i) e = sym ((gap_at i e).sets a)

  pub has-key : (i : ℕ) → place_of 0 k keys ≡ Ok i → has_key k (rows_of keys held) ≡ true
  has-key i e = (there_at i e).has

  pub lacks_key : rising keys ≡ true → (i : ℕ) → place_of 0 k keys ≡ Err i → has_key k (rows_of keys held) ≡ false
  lacks_key r i e = (gap_at i e).lacks (is_rising keys r)

  -- what is held under a key: that of the row where it is found
  pub held_at : rising keys ≡ true → (i : ℕ) → place_of 0 k keys ≡ Ok i → (d : A) → held_under k (rows_of keys held) ≡ some (get_or held i d)
  held_at r i e d = held_place k d keys held i same_length (is_rising keys r) (there_at i e).bound (there_at i e).own

  pub held_missing : rising keys ≡ true → (i : ℕ) → place_of 0 k keys ≡ Err i → held_under k (rows_of keys held) ≡ none
  held_missing r i e = go (held_under k (rows_of keys held)) (sym (held_has k (rows_of keys held)) ∙ lacks_key r i e)
    where
      go : (x : Option A) → is_some x ≡ false → x ≡ none
      go none f = refl
      go (some a) f = cc

  -- a key is held if it is found
  pub held_found : rising keys ≡ true → has_key k (rows_of keys held) ≡ is_found (place_of 0 k keys)
  held_found r = go (place_of 0 k keys) refl
    where
      go : (f : Result ℕ ℕ) → place_of 0 k keys ≡ f → has_key k (rows_of keys held) ≡ is_found f
      go (Ok i) e = has-key i e
      go (Err i) e = lacks_key r i e

  module _ (n : ℕ) (rows : length keys ≡ n) where
    pub found_fits : (i : ℕ) → place_of 0 k keys ≡ Ok i → i < n
    found_fits i e = omega (arith, (there_at i e).bound)

    pub missing_fits : (i : ℕ) → place_of 0 k keys ≡ Err i → i ≤ n
    missing_fits i e = omega (arith, (gap_at i e).bound)

    -- a change that adds no row to as many as there is room for is one that the rows allow
    pub change_fits : (removes : Bool) → n ≤ max_rows → is_over (change_to removes (place_of 0 k keys)) n ≡ false → Fits (change_to removes (place_of 0 k keys)) n
    change_fits removes h over = go removes (place_of 0 k keys) refl over
      where
        go : (b : Bool) (f : Result ℕ ℕ) → place_of 0 k keys ≡ f → is_over (change_to b f) n ≡ false → Fits (change_to b f) n
        go true (Ok i) e o = (found_fits i e, h)
        go true (Err i) e o = h
        go false (Ok i) e o = (found_fits i e, h)
        go false (Err i) e o = (missing_fits i e, leb-false max_rows n o)

-- what a change to a key adds, and what it stores
pub over_is : (removes : Bool) (f : Result ℕ ℕ) (n : ℕ) → is_over (change_to removes f) n ≡ (not removes && (not (is_found f) && leb max_rows n))
over_is true (Ok i) n = refl
over_is true (Err i) n = refl
over_is false (Ok i) n = refl
over_is false (Err i) n = refl

pub stores_some : (removes : Bool) (f : Result ℕ ℕ) → stores (change_to removes f) ≡ true → removes ≡ false
stores_some true (Ok i) h = sym h
stores_some true (Err i) h = sym h
stores_some false (Ok i) h = refl
stores_some false (Err i) h = refl

-- a row taken out by its place
pub removed_at : {A : Type 0} (keys : List Bytes) (held : List A) (i : ℕ) → length keys ≡ length held → rising keys ≡ true → i < length keys
    → remove_at i (rows_of keys held) ≡ remove_row (get_or keys i []) (rows_of keys held)
removed_at keys held i e r h = sym (there_at (get_or keys i []) keys held e i (place_of_own keys i r h)).removes

-- ---- the keys after a change
keys_map : {A : Type 0} (l : Rows A) → keys_in l ≡ map (λ (r : Bytes × A). r.0) l
unfolding keys_in
keys_map [] = refl
keys_map (r ∷ l) = ap (λ (t : List Bytes). r.0 ∷ t) (keys_map l)

pub keys_changed : {A : Type 0} (c : Change) (k : Bytes) (a : A) (l : Rows A) → keys_in (changed c (k, a) l) ≡ changed c k (keys_in l)
keys_changed Leave k a l = refl
keys_changed {A} (Remove i) k a l = keys_map (remove_at i l) ∙ map-remove (λ (r : Bytes × A). r.0) i l ∙ ap (remove_at i) (sym (keys_map l))
keys_changed {A} (Replace i) k a l = keys_map (set l i (k, a)) ∙ map-set (λ (r : Bytes × A). r.0) l i (k, a) ∙ ap (λ (t : List Bytes). set t i k) (sym (keys_map l))
keys_changed {A} (Insert i) k a l = keys_map (insert_at i (k, a) l) ∙ map-insert (λ (r : Bytes × A). r.0) i (k, a) l ∙ ap (insert_at i k) (sym (keys_map l))

module _ (k : Bytes) (keys : List Bytes) (r : rising keys ≡ true) where
  sorted : Sorted (rows_of keys keys)
  sorted = rising_sorted (rows_of keys keys) (ap rising (keys_in_rows keys keys refl) ∙ r)

  changed_keys : (c : Change) → changed c k keys ≡ keys_in (changed c (k, k) (rows_of keys keys))
  changed_keys c = ap (changed c k) (sym (keys_in_rows keys keys refl)) ∙ sym (keys_changed c k k (rows_of keys keys))

  pub rising-removed : rising (changed (change_to true (place_of 0 k keys)) k keys) ≡ true
  rising-removed =
      ap rising (changed_keys (change_to true (place_of 0 k keys)) ∙ ap keys_in (changed_removes k keys keys refl k)) ∙ sorted_rising (remove_row k (rows_of keys keys)) (sorted_remove k (rows_of keys keys) sorted)

  pub rising_set : rising (changed (change_to false (place_of 0 k keys)) k keys) ≡ true
  rising_set =
      ap rising (changed_keys (change_to false (place_of 0 k keys)) ∙ ap keys_in (changed-sets k keys keys refl k)) ∙ sorted_rising (set_row k k (rows_of keys keys)) (sorted_set k k (rows_of keys keys) sorted)

  pub rising-changed : (removes : Bool) → rising (changed (change_to removes (place_of 0 k keys)) k keys) ≡ true
  rising-changed true = rising-removed
  rising-changed false = rising_set

pub rising-removed_at : (keys : List Bytes) (i : ℕ) → rising keys ≡ true → i < length keys → rising (remove_at i keys) ≡ true
rising-removed_at keys i r h = rw (place_of_own keys i r h) at (rising-removed (get_or keys i []) keys r)
