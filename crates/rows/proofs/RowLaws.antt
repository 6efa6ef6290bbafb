-- Laws of maps as rows in key order: that keys stay sorted; what setting and removing do to what is held under every key, to the rows whose keys
-- pass a test and to the number of rows; and that all this goes with a change of what rows hold. Stated once over what a row holds.
-- Assumes nothing.
use Prim.Native.Nat.{suc, ◌≤◌}
use native.Mathlib.Omega.{arith}
use mathlib.Core.Bool.{Bool, true, false, cond, ◌||◌, true≢false}
use mathlib.Core.List.{List, [], ◌∷◌, ◌++◌, append_assoc, append-nil}
use mathlib.Core.Option.{Option, none, some}
use mathlib.Core.Path.{◌≡◌, refl, sym, ap, ◌∙◌}
use lib.ListN.{length}
use Rattle.std.specs.Ordering.{is_eq, ordering_reverse}
use Rattle.std.specs.declared.cmp.Ordering.TheVariants.{Less, Equal, Greater}
use Rattle.std.specs.declared.cmp.Ordering.{Ordering}
use Rattle.base.proofs.ByteLaws.{and_left, and_right, same_eq, same_refl}
use Rattle.base.specs.Bytes.{Bytes, same, every}
use Rattle.key_order.proofs.OrderLaws.{order_self, order_flip, order_equal, order_trans}
use Rattle.key_order.specs.Order.{order_of}
use Rattle.rows.specs.Rows.{Rows, set_row, remove_row, place, part, keep, has_key, held_under, Above, Sorted, map_rows, rising, is_less, keys_in}

-- ---- the order of two keys
less_is : (o : Ordering) → is_less o ≡ true → o ≡ Less
less_is Less e = refl
less_is Equal e = cc
less_is Greater e = cc

-- keys are the same where neither is below the other
pub same_by_order : (k j : Bytes) {o : Ordering} → order_of k j ≡ o → same k j ≡ is_eq o
same_by_order k j {o} e = go o e (same k j) refl
  where
    go : (o : Ordering) → order_of k j ≡ o → (b : Bool) → same k j ≡ b → b ≡ is_eq o
    go Less f true g = let h = ap (order_of k) (same_eq k j g) in let i = order_self k in cc
    go Less f false g = refl
    go Equal f b g = sym g ∙ ap (same k) (sym (order_equal k j f)) ∙ same_refl k
    go Greater f true g = let h = ap (order_of k) (same_eq k j g) in let i = order_self k in cc
    go Greater f false g = refl

module _ {A : Type 0} where
  -- ---- keys that are above one, and sorted rows: setting, removing and keeping a part leave them so
  pub above_trans : (j k : Bytes) (l : Rows A) → order_of j k ≡ Less → Above k l → Above j l
  above_trans j k [] e h = tt
  above_trans j k (r ∷ l) e h = (order_trans j k r.0 e h.0, above_trans j k l e h.1)

  pub above_equal : (j k : Bytes) (l : Rows A) → order_of j k ≡ Equal → Above k l → Above j l
  above_equal j k l e h = rw (order_equal j k e) h

  above_place : (o : Ordering) (j : Bytes) (new r : Bytes × A) (l rest : Rows A) → order_of j new.0 ≡ Less
      → Above j (r ∷ l) → Above j rest → Above j (place o new r l rest)
  above_place Less j new r l rest e h i = (e, h)
  above_place Equal j new r l rest e h i = (e, h.1)
  above_place Greater j new r l rest e h i = (h.0, i)

  pub above_set : (j k : Bytes) (a : A) (l : Rows A) → order_of j k ≡ Less → Above j l → Above j (set_row k a l)
  unfolding set_row
  above_set j k a [] e h = (e, tt)
  above_set j k a (r ∷ l) e h = above_place (order_of k r.0) j (k, a) r l (set_row k a l) e h (above_set j k a l e h.1)

  pub sorted_set : (k : Bytes) (a : A) (l : Rows A) → Sorted l → Sorted (set_row k a l)
  unfolding set_row
  sorted_set k a [] h = (tt, tt)
  sorted_set k a (r ∷ l) h = go (order_of k r.0) refl (sorted_set k a l h.1)
    where
      go : (o : Ordering) → order_of k r.0 ≡ o → Sorted (set_row k a l) → Sorted (place o (k, a) r l (set_row k a l))
      go Less e s = ((e, above_trans k r.0 l e h.0), h)
      go Equal e s = (above_equal k r.0 l e h.0, h.1)
      go Greater e s = (above_set r.0 k a l (order_flip k r.0 ∙ ap ordering_reverse e) h.0, s)

  pub above_remove : (j k : Bytes) (l : Rows A) → Above j l → Above j (remove_row k l)
  unfolding remove_row
  above_remove j k [] h = tt
  above_remove j k (r ∷ l) h = go (order_of k r.0) (above_remove j k l h.1)
    where
      go : (o : Ordering) → Above j (remove_row k l) → Above j (part o r l (remove_row k l))
      go Less i = h
      go Equal i = h.1
      go Greater i = (h.0, i)

  pub sorted_remove : (k : Bytes) (l : Rows A) → Sorted l → Sorted (remove_row k l)
  unfolding remove_row
  sorted_remove k [] h = tt
  sorted_remove k (r ∷ l) h = go (order_of k r.0) (sorted_remove k l h.1)
    where
      go : (o : Ordering) → Sorted (remove_row k l) → Sorted (part o r l (remove_row k l))
      go Less i = h
      go Equal i = h.1
      go Greater i = (above_remove r.0 k l h.0, i)

  pub above_keep : (p : Bytes → Bool) (j : Bytes) (l : Rows A) → Above j l → Above j (keep p l)
  unfolding keep
  above_keep p j [] h = tt
  above_keep p j (r ∷ l) h = go (p r.0) (above_keep p j l h.1)
    where
      go : (b : Bool) → Above j (keep p l) → Above j (cond b (r ∷ keep p l) (keep p l))
      go true i = (h.0, i)
      go false i = i

  pub sorted_keep : (p : Bytes → Bool) (l : Rows A) → Sorted l → Sorted (keep p l)
  unfolding keep
  sorted_keep p [] h = tt
  sorted_keep p (r ∷ l) h = go (p r.0) (sorted_keep p l h.1)
    where
      go : (b : Bool) → Sorted (keep p l) → Sorted (cond b (r ∷ keep p l) (keep p l))
      go true i = (above_keep p r.0 l h.0, i)
      go false i = i

  -- sorted rows are those whose keys rise, each above the one before
  pub sorted_rising : (l : Rows A) → Sorted l → rising (keys_in l) ≡ true
  unfolding rising keys_in
  sorted_rising [] h = refl
  sorted_rising (r ∷ []) h = refl
  sorted_rising (r ∷ q ∷ l) h = rw h.0.0 (sorted_rising (q ∷ l) h.1)

  pub rising_sorted : (l : Rows A) → rising (keys_in l) ≡ true → Sorted l
  unfolding rising keys_in
  rising_sorted [] e = tt
  rising_sorted (r ∷ []) e = (tt, tt)
  rising_sorted (r ∷ q ∷ l) e =
      let h = less_is (order_of r.0 q.0) (and_left (is_less (order_of r.0 q.0)) (rising (q.0 ∷ keys_in l)) e) in
      let s = rising_sorted (q ∷ l) (and_right (is_less (order_of r.0 q.0)) (rising (q.0 ∷ keys_in l)) e) in
      ((h, above_trans r.0 q.0 l h s.0), s)

  -- ---- what setting and removing do to what is held under every key
  abbrev pub is_some : Option A → Bool
  is_some none = false
  is_some (some a) = true

  pub held_has : (k : Bytes) (l : Rows A) → has_key k l ≡ is_some (held_under k l)
  unfolding has_key held_under
  held_has k [] = refl
  held_has k (r ∷ l) = go (same k r.0) (held_has k l)
    where
      go : (b : Bool) → has_key k l ≡ is_some (held_under k l) → (b || has_key k l) ≡ is_some (cond b (some r.1) (held_under k l))
      go true ih = refl
      go false ih = ih

  pub above_held : (k : Bytes) (l : Rows A) → Above k l → held_under k l ≡ none
  unfolding held_under
  above_held k [] h = refl
  above_held k (r ∷ l) h = rw (same_by_order k r.0 h.0) (above_held k l h.1)

  pub above_has_key : (k : Bytes) (l : Rows A) → Above k l → has_key k l ≡ false
  above_has_key k l h = held_has k l ∙ ap is_some (above_held k l h)

  pub held-keep : (p : Bytes → Bool) (k : Bytes) (l : Rows A) → p k ≡ true → held_under k (keep p l) ≡ held_under k l
  unfolding held_under keep
  held-keep p k [] e = refl
  held-keep p k (r ∷ l) e = go (p r.0) (same k r.0) refl refl (held-keep p k l e)
    where
      go : (b d : Bool) → p r.0 ≡ b → same k r.0 ≡ d → held_under k (keep p l) ≡ held_under k l
          → held_under k (cond b (r ∷ keep p l) (keep p l)) ≡ cond d (some r.1) (held_under k l)
      go true d f g ih = rw (g, ih)
      go false true f g ih = absurd (true≢false (sym e ∙ (ap p (same_eq k r.0 g) ∙ f)))
      go false false f g ih = ih

  pub held_set_same : (k : Bytes) (a : A) (l : Rows A) → held_under k (set_row k a l) ≡ some a
  unfolding set_row held_under
  held_set_same k a [] = rw (same_refl k)
  held_set_same k a (r ∷ l) = go (order_of k r.0) refl (held_set_same k a l)
    where
      go : (o : Ordering) → order_of k r.0 ≡ o → held_under k (set_row k a l) ≡ some a → held_under k (place o (k, a) r l (set_row k a l)) ≡ some a
      go Less e ih = rw (same_refl k)
      go Equal e ih = rw (same_refl k)
      go Greater e ih = rw (same_by_order k r.0 e) ih

  pub held_set_other : (j k : Bytes) (a : A) (l : Rows A) → same j k ≡ false → held_under j (set_row k a l) ≡ held_under j l
  unfolding set_row held_under
  held_set_other j k a [] e = rw e
  held_set_other j k a (r ∷ l) e = go (order_of k r.0) refl (held_set_other j k a l e)
    where
      go : (o : Ordering) → order_of k r.0 ≡ o → held_under j (set_row k a l) ≡ held_under j l
          → held_under j (place o (k, a) r l (set_row k a l)) ≡ cond (same j r.0) (some r.1) (held_under j l)
      go Less f ih = rw e
      go Equal f ih = rw (e, sym (ap (same j) (order_equal k r.0 f)) ∙ e)
      go Greater f ih = rw ih

  pub held-remove-same : (k : Bytes) (l : Rows A) → Sorted l → held_under k (remove_row k l) ≡ none
  unfolding remove_row held_under
  held-remove-same k [] h = refl
  held-remove-same k (r ∷ l) h = go (order_of k r.0) refl (held-remove-same k l h.1)
    where
      go : (o : Ordering) → order_of k r.0 ≡ o → held_under k (remove_row k l) ≡ none → held_under k (part o r l (remove_row k l)) ≡ none
      go Less e ih = above_held k (r ∷ l) (e, above_trans k r.0 l e h.0)
      go Equal e ih = above_held k l (above_equal k r.0 l e h.0)
      go Greater e ih = rw (same_by_order k r.0 e) ih

  pub held-remove_other : (j k : Bytes) (l : Rows A) → same j k ≡ false → held_under j (remove_row k l) ≡ held_under j l
  unfolding remove_row held_under
  held-remove_other j k [] e = refl
  held-remove_other j k (r ∷ l) e = go (order_of k r.0) refl (held-remove_other j k l e)
    where
      go : (o : Ordering) → order_of k r.0 ≡ o → held_under j (remove_row k l) ≡ held_under j l
          → held_under j (part o r l (remove_row k l)) ≡ cond (same j r.0) (some r.1) (held_under j l)
      go Less f ih = refl
      go Equal f ih = rw (sym (ap (same j) (order_equal k r.0 f)) ∙ e)
      go Greater f ih = rw ih

  -- what holds of every key holds of those that are left
  pub every-remove : (test : Bytes → Bool) (k : Bytes) (l : Rows A) → every test (keys_in l) ≡ true → every test (keys_in (remove_row k l)) ≡ true
  unfolding every keys_in remove_row
  every-remove test k [] e = refl
  every-remove test k (r ∷ l) e =
      let a = and_left (test r.0) (every test (keys_in l)) e in
      let b = and_right (test r.0) (every test (keys_in l)) e in
      go a b (order_of k r.0) (every-remove test k l b)
    where
      go : test r.0 ≡ true → every test (keys_in l) ≡ true → (o : Ordering) → every test (keys_in (remove_row k l)) ≡ true
          → every test (keys_in (part o r l (remove_row k l))) ≡ true
      go a b Less ih = rw (a, b)
      go a b Equal ih = b
      go a b Greater ih = rw (a, ih)

  -- ---- a key below all: setting it puts a row in front, removing it does nothing
  pub set_least : (k : Bytes) (a : A) (l : Rows A) → Above k l → set_row k a l ≡ (k, a) ∷ l
  unfolding set_row
  set_least k a [] h = refl
  set_least k a (r ∷ l) h = rw h.0

  pub remove-least : (k : Bytes) (l : Rows A) → Above k l → remove_row k l ≡ l
  unfolding remove_row
  remove-least k [] h = refl
  remove-least k (r ∷ l) h = rw h.0

  -- setting after removing is setting
  pub set_remove : (k : Bytes) (a : A) (l : Rows A) → Sorted l → set_row k a (remove_row k l) ≡ set_row k a l
  unfolding set_row remove_row
  set_remove k a [] h = refl
  set_remove k a (r ∷ l) h = go (order_of k r.0) refl (set_remove k a l h.1)
    where
      go : (o : Ordering) → order_of k r.0 ≡ o → set_row k a (remove_row k l) ≡ set_row k a l
          → set_row k a (part o r l (remove_row k l)) ≡ place o (k, a) r l (set_row k a l)
      go Less f ih = rw f
      go Equal f ih = set_least k a l (above_equal k r.0 l f h.0)
      go Greater f ih = rw f (ap (λ (t : Rows A). r ∷ t) ih)

  -- ---- the rows whose keys pass a test: setting and removing go into them where the key passes, and do not touch them where it does not
  pub keep_set_in : (p : Bytes → Bool) (k : Bytes) (a : A) (l : Rows A) → p k ≡ true → Sorted l → keep p (set_row k a l) ≡ set_row k a (keep p l)
  unfolding keep set_row
  keep_set_in p k a [] e h = rw e
  keep_set_in p k a (r ∷ l) e h = go (order_of k r.0) refl (p r.0) refl (keep_set_in p k a l e h.1)
    where
      go : (o : Ordering) → order_of k r.0 ≡ o → (b : Bool) → p r.0 ≡ b → keep p (set_row k a l) ≡ set_row k a (keep p l)
          → keep p (place o (k, a) r l (set_row k a l)) ≡ set_row k a (cond b (r ∷ keep p l) (keep p l))
      go Less f true g ih = rw (e, g, f)
      go Less f false g ih = rw (e, g) (sym (set_least k a (keep p l) (above_keep p k l (above_trans k r.0 l f h.0))))
      go Equal f true g ih = rw (e, f)
      go Equal f false g ih = cc (ap p (order_equal k r.0 f))
      go Greater f true g ih = rw (g, f) (ap (λ (t : Rows A). r ∷ t) ih)
      go Greater f false g ih = rw g ih

  pub keep_set_out : (p : Bytes → Bool) (k : Bytes) (a : A) (l : Rows A) → p k ≡ false → keep p (set_row k a l) ≡ keep p l
  unfolding keep set_row
  keep_set_out p k a [] e = rw e
  keep_set_out p k a (r ∷ l) e = go (order_of k r.0) refl (keep_set_out p k a l e)
    where
      go : (o : Ordering) → order_of k r.0 ≡ o → keep p (set_row k a l) ≡ keep p l
          → keep p (place o (k, a) r l (set_row k a l)) ≡ cond (p r.0) (r ∷ keep p l) (keep p l)
      go Less f ih = rw e
      go Equal f ih = rw (e, sym (ap p (order_equal k r.0 f)) ∙ e)
      go Greater f ih = rw ih

  pub keep-remove_in : (p : Bytes → Bool) (k : Bytes) (l : Rows A) → Sorted l → keep p (remove_row k l) ≡ remove_row k (keep p l)
  unfolding keep remove_row
  keep-remove_in p k [] h = refl
  keep-remove_in p k (r ∷ l) h = go (order_of k r.0) refl (p r.0) refl (keep-remove_in p k l h.1)
    where
      go : (o : Ordering) → order_of k r.0 ≡ o → (b : Bool) → p r.0 ≡ b → keep p (remove_row k l) ≡ remove_row k (keep p l)
          → keep p (part o r l (remove_row k l)) ≡ remove_row k (cond b (r ∷ keep p l) (keep p l))
      go Less f true g ih = rw (g, f)
      go Less f false g ih = rw g (sym (remove-least k (keep p l) (above_keep p k l (above_trans k r.0 l f h.0))))
      go Equal f true g ih = rw f
      go Equal f false g ih = sym (remove-least k (keep p l) (above_keep p k l (above_equal k r.0 l f h.0)))
      go Greater f true g ih = rw (g, f) (ap (λ (t : Rows A). r ∷ t) ih)
      go Greater f false g ih = rw g ih

  pub keep-remove-out : (p : Bytes → Bool) (k : Bytes) (l : Rows A) → p k ≡ false → keep p (remove_row k l) ≡ keep p l
  unfolding keep remove_row
  keep-remove-out p k [] e = refl
  keep-remove-out p k (r ∷ l) e = go (order_of k r.0) refl (keep-remove-out p k l e)
    where
      go : (o : Ordering) → order_of k r.0 ≡ o → keep p (remove_row k l) ≡ keep p l
          → keep p (part o r l (remove_row k l)) ≡ cond (p r.0) (r ∷ keep p l) (keep p l)
      go Less f ih = refl
      go Equal f ih = rw (sym (ap p (order_equal k r.0 f)) ∙ e)
      go Greater f ih = rw ih

  -- a test of what passed a weaker one
  pub keep-keep : (p q : Bytes → Bool) (l : Rows A) → ((k : Bytes) → q k ≡ true → p k ≡ true) → keep q (keep p l) ≡ keep q l
  unfolding keep
  keep-keep p q [] h = refl
  keep-keep p q (r ∷ l) h = go (p r.0) refl (q r.0) refl (keep-keep p q l h)
    where
      go : (b : Bool) → p r.0 ≡ b → (c : Bool) → q r.0 ≡ c → keep q (keep p l) ≡ keep q l
          → keep q (cond b (r ∷ keep p l) (keep p l)) ≡ cond c (r ∷ keep q l) (keep q l)
      go true e true f ih = rw f (ap (λ (t : Rows A). r ∷ t) ih)
      go true e false f ih = rw f ih
      go false e true f ih = cc (h r.0 f)
      go false e false f ih = ih

  -- ---- how many rows there are
  pub length-set : (k : Bytes) (a : A) (l : Rows A) → Sorted l → length (set_row k a l) ≡ cond (has_key k l) (length l) (suc (length l))
  unfolding set_row has_key
  length-set k a [] h = refl
  length-set k a (r ∷ l) h = rw (same_by_order k r.0 refl) (go (order_of k r.0) refl (length-set k a l h.1))
    where
      more : (b : Bool) → suc (cond b (length l) (suc (length l))) ≡ cond b (suc (length l)) (suc (suc (length l)))
      more true = refl
      more false = refl

      go : (o : Ordering) → order_of k r.0 ≡ o → length (set_row k a l) ≡ cond (has_key k l) (length l) (suc (length l))
          → length (place o (k, a) r l (set_row k a l)) ≡ cond (is_eq o || has_key k l) (suc (length l)) (suc (suc (length l)))
      go Less e ih = rw (above_has_key k l (above_trans k r.0 l e h.0))
      go Equal e ih = refl
      go Greater e ih = ap suc ih ∙ more (has_key k l)

  pub length-remove : (k : Bytes) (l : Rows A) → length (remove_row k l) ≤ length l
  unfolding remove_row
  length-remove k [] = omega arith
  length-remove k (r ∷ l) = go (order_of k r.0) (length-remove k l)
    where
      go : (o : Ordering) → length (remove_row k l) ≤ length l → length (part o r l (remove_row k l)) ≤ suc (length l)
      go Less ih = omega arith
      go Equal ih = omega arith
      go Greater ih = omega arith

  pub length-keep : (p : Bytes → Bool) (l : Rows A) → length (keep p l) ≤ length l
  unfolding keep
  length-keep p [] = omega arith
  length-keep p (r ∷ l) = go (p r.0) (length-keep p l)
    where
      go : (b : Bool) → length (keep p l) ≤ length l → length (cond b (r ∷ keep p l) (keep p l)) ≤ suc (length l)
      go true ih = omega arith
      go false ih = omega arith

  -- ---- rows put in one after another, in order
  unfoldable pub set_all : Rows A → Rows A → Rows A
  set_all acc [] = acc
  set_all acc (r ∷ l) = set_all (set_row r.0 r.1 acc) l

  -- every key of the list is below k
  abbrev pub Below : Rows A → Bytes → Type 0
  Below [] k = Unit {0}
  Below (r ∷ l) k = (order_of r.0 k ≡ Less) × Below l k

  pub set_last : (k : Bytes) (a : A) (l : Rows A) → Below l k → set_row k a l ≡ l ++ ((k, a) ∷ [])
  unfolding set_row
  set_last k a [] h = refl
  set_last k a (r ∷ l) h = rw (order_flip r.0 k ∙ ap ordering_reverse h.0) (ap (λ (t : Rows A). r ∷ t) (set_last k a l h.1))

  -- every key of the first list is below every key of the second
  abbrev Cross : Rows A → Rows A → Type 0
  Cross acc [] = Unit {0}
  Cross acc (r ∷ l) = Below acc r.0 × Cross acc l

  below_snoc : (acc : Rows A) (r : Bytes × A) (k : Bytes) → Below acc k → order_of r.0 k ≡ Less → Below (acc ++ (r ∷ [])) k
  below_snoc [] r k h e = (e, tt)
  below_snoc (q ∷ acc) r k h e = (h.0, below_snoc acc r k h.1 e)

  cross_snoc : (acc : Rows A) (r : Bytes × A) (l : Rows A) → Cross acc l → Above r.0 l → Cross (acc ++ (r ∷ [])) l
  cross_snoc acc r [] h a = tt
  cross_snoc acc r (q ∷ l) h a = (below_snoc acc r q.0 h.0 a.0, cross_snoc acc r l h.1 a.1)

  cross_nil : (l : Rows A) → Cross [] l
  cross_nil [] = tt
  cross_nil (r ∷ l) = (tt, cross_nil l)

  set-all : (acc l : Rows A) → Cross acc l → Sorted l → set_all acc l ≡ acc ++ l
  unfolding set_all
  set-all acc [] h s = sym (append-nil acc)
  set-all acc (r ∷ l) h s =
      rw (set_last r.0 r.1 acc h.0) (set-all (acc ++ (r ∷ [])) l (cross_snoc acc r l h.1 s.0) s.1 ∙ append_assoc acc (r ∷ []) l)

  -- putting a map's rows in, one after another in key order, gives the map
  pub set_all_nil : (l : Rows A) → Sorted l → set_all [] l ≡ l
  set_all_nil l s = set-all [] l (cross_nil l) s

-- ---- what a row holds changed, the keys kept
module _ {A B : Type 0} where
  pub map_set : (f : A → B) (k : Bytes) (a : A) (l : Rows A) → map_rows f (set_row k a l) ≡ set_row k (f a) (map_rows f l)
  unfolding map_rows set_row
  map_set f k a [] = refl
  map_set f k a (r ∷ l) = go (order_of k r.0) (map_set f k a l)
    where
      go : (o : Ordering) → map_rows f (set_row k a l) ≡ set_row k (f a) (map_rows f l)
          → map_rows f (place o (k, a) r l (set_row k a l)) ≡ place o (k, f a) (r.0, f r.1) (map_rows f l) (set_row k (f a) (map_rows f l))
      go Less ih = refl
      go Equal ih = refl
      go Greater ih = ap (λ (t : Rows B). (r.0, f r.1) ∷ t) ih

  pub map-remove : (f : A → B) (k : Bytes) (l : Rows A) → map_rows f (remove_row k l) ≡ remove_row k (map_rows f l)
  unfolding map_rows remove_row
  map-remove f k [] = refl
  map-remove f k (r ∷ l) = go (order_of k r.0) (map-remove f k l)
    where
      go : (o : Ordering) → map_rows f (remove_row k l) ≡ remove_row k (map_rows f l)
          → map_rows f (part o r l (remove_row k l)) ≡ part o (r.0, f r.1) (map_rows f l) (remove_row k (map_rows f l))
      go Less ih = refl
      go Equal ih = refl
      go Greater ih = ap (λ (t : Rows B). (r.0, f r.1) ∷ t) ih

  pub keep-map : (f : A → B) (p : Bytes → Bool) (l : Rows A) → keep p (map_rows f l) ≡ map_rows f (keep p l)
  unfolding map_rows keep
  keep-map f p [] = refl
  keep-map f p (r ∷ l) = go (p r.0) (keep-map f p l)
    where
      go : (b : Bool) → keep p (map_rows f l) ≡ map_rows f (keep p l)
          → cond b ((r.0, f r.1) ∷ keep p (map_rows f l)) (keep p (map_rows f l)) ≡ map_rows f (cond b (r ∷ keep p l) (keep p l))
      go true ih = ap (λ (t : Rows B). (r.0, f r.1) ∷ t) ih
      go false ih = ih

pub map-has_key : {A B : Type 0} (f : A → B) (k : Bytes) (l : Rows A) → has_key k (map_rows f l) ≡ has_key k l
unfolding map_rows has_key
map-has_key f k [] = refl
map-has_key f k (r ∷ l) = ap (λ (b : Bool). same k r.0 || b) (map-has_key f k l)

pub map-length : {A B : Type 0} (f : A → B) (l : Rows A) → length (map_rows f l) ≡ length l
unfolding map_rows
map-length f [] = refl
map-length f (r ∷ l) = ap suc (map-length f l)

pub map_keys : {A B : Type 0} (f : A → B) (l : Rows A) → keys_in (map_rows f l) ≡ keys_in l
unfolding map_rows keys_in
map_keys f [] = refl
map_keys f (r ∷ l) = ap (λ (t : List Bytes). r.0 ∷ t) (map_keys f l)

pub sorted_map : {A B : Type 0} (f : A → B) (l : Rows A) → Sorted l → Sorted (map_rows f l)
sorted_map f l s = rising_sorted (map_rows f l) (ap rising (map_keys f l) ∙ sorted_rising l s)

pub sorted_unmap : {A B : Type 0} (f : A → B) (l : Rows A) → Sorted (map_rows f l) → Sorted l
sorted_unmap f l s = rising_sorted l (sym (ap rising (map_keys f l)) ∙ sorted_rising (map_rows f l) s)

pub map-map : {A B D : Type 0} (f : A → B) (g : B → D) (l : Rows A) → map_rows g (map_rows f l) ≡ map_rows (λ (a : A). g (f a)) l
unfolding map_rows
map-map f g [] = refl
map-map f g (r ∷ l) = ap (λ (t : Rows _). (r.0, g (f r.1)) ∷ t) (map-map f g l)
