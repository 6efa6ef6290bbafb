-- Laws of the order of keys: it is that of slices in std, a strict total order. Assumes nothing.
use Prim.Native.Nat.{ℕ, ◌+◌, ◌<◌}
use native.Mathlib.Numerals.{add-one}
use native.Mathlib.Omega.{arith}
use mathlib.Core.Bool.{Bool, true, ◌&&◌}
use mathlib.Core.List.{[], ◌∷◌, ◌++◌}
use mathlib.Core.Path.{◌≡◌, refl, sym, ap, ◌∙◌}
use lib.Dec.{eqb}
use lib.ListN.{length, get_or, drop}
use lib.Seq.{drop-cons}
use borrow.Author.Tests.{eqb-true}
use Rattle.base.proofs.ByteLaws.{and_left, and_right}
use Rattle.std.proofs.lemmas.Bool.Decides.{nat_tests}
use Rattle.std.proofs.lemmas.Cmp.{nat_list_cmp_total, tied_itself}
use Rattle.std.proofs.lemmas.Map.Lookups.{exact_bytes}
use Rattle.std.specs.Cmp.Lexicographic.{slice_cmp}
use Rattle.std.specs.Ordering.{nat_cmp, ordering_reverse, ordering_then}
use Rattle.std.specs.declared.cmp.Ordering.TheVariants.{Less, Equal}
use Rattle.base.specs.Bytes.{Bytes}
use Rattle.key_order.specs.Order.{order_of}

-- the first byte decides, and else the rest
first_decides : (a b : ℕ) (s t : Bytes) → order_of (a ∷ s) (b ∷ t) ≡ ordering_then (nat_cmp a b) (order_of s t)
unfolding order_of
first_decides a b s t = grind (arith, nat_tests)

-- the order of slices in std
pub order_is : (s t : Bytes) → order_of s t ≡ slice_cmp nat_cmp s t
unfolding order_of
order_is [] [] = refl
order_is [] (b ∷ t) = refl
order_is (a ∷ s) [] = refl
order_is (a ∷ s) (b ∷ t) = first_decides a b s t ∙ ap (ordering_then (nat_cmp a b)) (order_is s t)

-- what a pass over bytes keeps: as long as all were alike, the order is that of what is left
pub equal_byte : (a b : Bytes) (i : ℕ) → i < length a → i < length b → get_or a i 0 ≡ get_or b i 0 → order_of (drop i a) (drop i b) ≡ order_of (drop (i + 1) a) (drop (i + 1) b)
unfolding order_of
equal_byte a b i ha hb e = rw (drop-cons a i 0 ha, drop-cons b i 0 hb, add-one, e) (grind (arith, nat_tests))

pub alike_turn : (a b : Bytes) (i j : ℕ) (alike : Bool) → i + j < length a → i + j < length b
    → (alike ≡ true → order_of (drop i a) (drop i b) ≡ order_of (drop (i + j) a) (drop (i + j) b))
    → (alike && eqb (get_or a (i + j) 0) (get_or b (i + j) 0)) ≡ true → order_of (drop i a) (drop i b) ≡ order_of (drop (i + (j + 1)) a) (drop (i + (j + 1)) b)
alike_turn a b i j alike ha hb h t =
    let e : i + j + 1 ≡ i + (j + 1) = omega arith in
    h (and_left alike _ t) ∙ equal_byte a b (i + j) ha hb (eqb-true _ _ (and_right alike _ t)) ∙ ap (λ (k : ℕ). order_of (drop k a) (drop k b)) e

-- ---- a strict total order
pub order_self : (s : Bytes) → order_of s s ≡ Equal
order_self s = order_is s s ∙ tied_itself nat_list_cmp_total s

pub order_flip : (s t : Bytes) → order_of t s ≡ ordering_reverse (order_of s t)
order_flip s t = order_is t s ∙ nat_list_cmp_total.antisymm t s ∙ ap ordering_reverse (sym (order_is s t))

pub order_equal : (s t : Bytes) → order_of s t ≡ Equal → s ≡ t
order_equal s t e = exact_bytes s t (sym (order_is s t) ∙ e)

pub order_trans : (s t u : Bytes) → order_of s t ≡ Less → order_of t u ≡ Less → order_of s u ≡ Less
order_trans s t u e f = order_is s u ∙ nat_list_cmp_total.trans s t u (sym (order_is s t) ∙ e) (sym (order_is t u) ∙ f)

-- a proper prefix is first
pub prefix_less : (s : Bytes) (b : ℕ) (t : Bytes) → order_of s (s ++ (b ∷ t)) ≡ Less
unfolding order_of
prefix_less [] b t = refl
prefix_less (a ∷ s) b t = grind (arith, nat_tests, prefix_less s b t)
