-- Laws of tests that pass over a list: from the front with a flag, and by what is left. Assumes nothing.
use Prim.Native.Nat.{ℕ, zero, suc, ◌+◌, ◌≤◌, ◌<◌}
use native.Mathlib.Nat.{le_of_suc-le-suc, not-suc-le-zero}
use native.Mathlib.Numerals.{add-one}
use native.Mathlib.Omega.{arith}
use mathlib.Core.Bool.{Bool, true, false, ◌&&◌, and-true, and-false, and_assoc}
use mathlib.Core.List.{List, [], ◌∷◌}
use mathlib.Core.Path.{◌≡◌, refl, sym, ap, ◌∙◌}
use lib.Dec.{leb}
use lib.ListN.{length, get_or, take, drop, drop_of_length-le}
use lib.Seq.{drop-cons}
use Rattle.std.specs.Ordering.{is_ge}
use Rattle.std.specs.declared.cmp.Ordering.TheVariants.{Less, Equal, Greater}
use Rattle.std.specs.declared.cmp.Ordering.{Ordering}
use Rattle.base.specs.Bytes.{Bytes, every, prefix}
use Rattle.base.specs.Cuts.{pieces}
use Rattle.key_order.specs.Order.{order_of}
use Rattle.rows.specs.Rows.{rising, is_less}
use Rattle.frame_forms.specs.Lengths.{value_room}
use Rattle.keys.specs.Keys.{key_room, is_key, under}
use Rattle.row_cells.specs.Faults.{fitting}
use Rattle.row_cells.specs.Texts.{key_length, value_length}

module _ {A : Type 0} (test : A → Bool) where
  -- one element more
  pub every_more : (l : List A) (i : ℕ) (d : A) → i < length l → every test (take (suc i) l) ≡ (every test (take i l) && test (get_or l i d))
  unfolding every
  every_more [] i d h = absurd (not-suc-le-zero h)
  every_more (x ∷ l) zero d h = and-true (test x)
  every_more (x ∷ l) (suc i) d h =
      ap (λ (b : Bool). test x && b) (every_more l i d (le_of_suc-le-suc h)) ∙ sym (and_assoc (test x) (every test (take i l)) (test (get_or l i d)))

  -- what is true at each place is true of all
  pub every_place : (l : List A) (d : A) → ((i : ℕ) → i < length l → test (get_or l i d) ≡ true) → every test l ≡ true
  unfolding every
  every_place [] d h = refl
  every_place (x ∷ l) d h = rw (h 0 (omega arith), every_place l d (λ i k. h (suc i) (omega arith)))

  -- and what is false at one is not
  pub every-but : (l : List A) (d : A) (i : ℕ) → i < length l → test (get_or l i d) ≡ false → every test l ≡ false
  unfolding every
  every-but [] d i k e = absurd (not-suc-le-zero k)
  every-but (x ∷ l) d zero k e = rw e
  every-but (x ∷ l) d (suc i) k e = rw (every-but l d i (le_of_suc-le-suc k) e, and-false (test x))

-- all keys are under the subtree that has no bytes
pub under_empty : (p : Bytes) (l : List Bytes) → length p ≡ 0 → every (under p) l ≡ true
unfolding prefix
under_empty [] l e = every_place (under []) l [] (λ i h. refl)
under_empty (x ∷ p) l e = absurd (omega (arith, e))

-- a flag, after the lengths of one row more
pub fitting-more : (cs : List (List ℕ)) (i : ℕ) (good : Bool) (cell : List ℕ) → get_or cs i [] ≡ cell → i < length cs → good ≡ every fitting (take i cs)
    → (good && (leb (key_length cell) key_room && leb 1 (value_length cell) && leb (value_length cell) value_room)) ≡ every fitting (take (i + 1) cs)
fitting-more cs i good cell own h e =
    ap (λ (b : Bool). good && b) (and_assoc (leb (key_length cell) key_room) (leb 1 (value_length cell)) (leb (value_length cell) value_room))
    ∙ ap (λ (b : Bool). b && fitting cell) e
    ∙ ap (λ (c : List ℕ). every fitting (take i cs) && fitting c) (sym own)
    ∙ sym (rw add-one (every_more fitting cs i [] h))

-- ---- keys, each after the one before it
unfoldable pub sorted_from : Bytes → List Bytes → Bool
sorted_from before [] = true
sorted_from before (k ∷ l) = is_key k && (is_less (order_of before k) && sorted_from k l)

sorted_after : (k : Bytes) (l : List Bytes) → sorted_from k l ≡ (every is_key l && rising (k ∷ l))
unfolding sorted_from every rising
sorted_after k [] = refl
sorted_after k (j ∷ l) = go (is_key j) (is_less (order_of k j)) (sorted_after j l)
  where
    go : (a b : Bool) → sorted_from j l ≡ (every is_key l && rising (j ∷ l)) → (a && (b && sorted_from j l)) ≡ ((a && every is_key l) && (b && rising (j ∷ l)))
    go true true e = e
    go true false e = sym (and-false (every is_key l))
    go false b e = refl

sorted_first : (l : List Bytes) → sorted_from [] l ≡ (every is_key l && rising l)
unfolding sorted_from every rising order_of is_key pieces
sorted_first [] = refl
sorted_first ([] ∷ l) = refl
sorted_first ((b ∷ s) ∷ l) =
    ap (λ (x : Bool). is_key (b ∷ s) && x) (sorted_after (b ∷ s) l) ∙ sym (and_assoc (is_key (b ∷ s)) (every is_key l) (rising ((b ∷ s) ∷ l)))

-- i keys are passed, `before` is the last of them, and x is the answer
abbrev pub Passed : Bool → List Bytes → Bytes → ℕ → Type 0
Passed x l before i = x ≡ sorted_from before (drop i l)

pub sorted_start : (l : List Bytes) → Passed (every is_key l && rising l) l [] 0
sorted_start l = sym (sorted_first l)

module _ (l : List Bytes) (before : Bytes) (i : ℕ) (x : Bool) (h : Passed x l before i) where
  next : i < length l → x ≡ (is_key (get_or l i []) && (is_less (order_of before (get_or l i [])) && sorted_from (get_or l i []) (drop (suc i) l)))
  unfolding sorted_from
  next k = h ∙ ap (sorted_from before) (drop-cons l i [] k)

  module _ {key : Bytes} (own : get_or l i [] ≡ key) (k : i < length l) where
    pub no_key : is_key key ≡ false → false ≡ x
    no_key e = sym (next k ∙ rw (own, e))

    pub not_above : is_ge (order_of before key) ≡ true → false ≡ x
    not_above e = go (order_of before key) refl e
      where
        go : (o : Ordering) → order_of before key ≡ o → is_ge o ≡ true → false ≡ x
        go Less f e = cc
        go Equal f e = sym (next k ∙ rw (own, f, and-false (is_key key)))
        go Greater f e = sym (next k ∙ rw (own, f, and-false (is_key key)))

    pub sorted_turn : is_key key ≡ true → is_ge (order_of before key) ≡ false → Passed x l key (i + 1)
    sorted_turn e n = go (order_of before key) refl n
      where
        go : (o : Ordering) → order_of before key ≡ o → is_ge o ≡ false → Passed x l key (i + 1)
        go Less f n = next k ∙ rw (own, e, f, add-one)
        go Equal f n = cc
        go Greater f n = cc

  pub sorted_done : length l ≤ i → true ≡ x
  unfolding sorted_from
  sorted_done k = sym (h ∙ ap (sorted_from before) (drop_of_length-le l k))
