-- How long keys and subtrees are: at most 96 bytes, and a key is longer than a subtree that it is under. Assumes nothing.
use Prim.Native.Nat.{ℕ, suc, ◌-◌, ◌≤◌, ◌<◌}
use native.Mathlib.Omega.{arith}
use mathlib.Core.Bool.{Bool, true, false, cond, ◌&&◌, and-false}
use mathlib.Core.List.{List, [], ◌∷◌, ◌++◌}
use mathlib.Core.Path.{◌≡◌, refl, sym, ap, ◌∙◌}
use lib.Dec.{leb, ltb, eqb}
use lib.ListN.{length, get_or, take}
use lib.Seq.{take-length, take-suc}
use borrow.Author.Tests.{ltb-true, ltb-false, eqb-true, leb-true}
use Rattle.base.proofs.ByteLaws.{and_left, and_right, prefix_longer, same-prefix, same_eq}
use Rattle.base.specs.Bytes.{Bytes, is_nil, every}
use Rattle.base.specs.Cuts.{on_first, pieces}
use Rattle.keys.specs.Keys.{is_name, slashed, is_key, is_subtree, under}

-- ---- at most 96 bytes
pub key-short : (s : Bytes) → is_key s ≡ true → length s ≤ 96
unfolding is_key
key-short s k = leb-true (length s) 96 (and_left (leb (length s) 96) (slashed (pieces 47 s)) k)

pub subtree-short : (s : Bytes) → is_subtree s ≡ true → length s ≤ 96
unfolding is_subtree
subtree-short [] e = omega arith
subtree-short (b ∷ s) e =
    let n = length (b ∷ s) - 1 in
    leb-true (length (b ∷ s)) 96 (and_left (leb (length (b ∷ s)) 96) (eqb (get_or (b ∷ s) n 0) 47 && is_key (take n (b ∷ s))) e)

-- ---- a key is no subtree: a subtree that is not empty ends in a slash, and a key does not
abbrev names : List Bytes → Bool
names [] = true
names (first ∷ rest) = every is_name rest

slash_last : (s : Bytes) → names (pieces 47 (s ++ (47 ∷ []))) ≡ false
unfolding pieces every
slash_last [] = refl
slash_last (b ∷ s) = go (eqb b 47) (pieces 47 (s ++ (47 ∷ []))) (slash_last s)
  where
    go : (t : Bool) (ps : List Bytes) → names ps ≡ false → names (cond t ([] ∷ ps) (on_first b ps)) ≡ false
    go true [] e = e
    go true (p ∷ ps) e = rw e (and-false (is_name p))
    go false [] e = cc
    go false (p ∷ ps) e = e

slashed-names : (ps : List Bytes) → slashed ps ≡ true → names ps ≡ true
slashed-names [] e = refl
slashed-names (first ∷ []) e = cc
slashed-names (first ∷ name ∷ rest) e = and_right (is_nil first) (every is_name (name ∷ rest)) e

key_last : (s : Bytes) → is_key s ≡ true → 0 < length s → get_or s (length s - 1) 0 ≡ 47 → ⊥
unfolding is_key
key_last s k h e =
    let a : length s - 1 < length s = omega arith in
    let g : suc (length s - 1) ≡ length s = omega arith in
    let p : s ≡ take (length s - 1) s ++ (47 ∷ []) = sym (take-length s) ∙ ap (λ (n : ℕ). take n s) (sym g) ∙ take-suc s (length s - 1) 0 a ∙ ap (λ (b : ℕ). take (length s - 1) s ++ (b ∷ [])) e in
    let q : names (pieces 47 s) ≡ true = slashed-names (pieces 47 s) (and_right (leb (length s) 96) (slashed (pieces 47 s)) k) in
    let w : names (pieces 47 s) ≡ false = ap (λ (t : Bytes). names (pieces 47 t)) p ∙ slash_last (take (length s - 1) s) in
    let z : ◌≡◌ {A = ℕ} 0 1 = cc in
    omega arith

no_key : is_key [] ≡ true → ⊥
unfolding is_key pieces
no_key e = let z : ◌≡◌ {A = ℕ} 0 1 = cc in omega arith

not_both : (s : Bytes) → is_key s ≡ true → is_subtree s ≡ true → ⊥
unfolding is_subtree
not_both [] k t = no_key k
not_both (b ∷ s) k t =
    let n = length (b ∷ s) - 1 in
    let e = and_left (eqb (get_or (b ∷ s) n 0) 47) (is_key (take n (b ∷ s))) (and_right (leb (length (b ∷ s)) 96) (eqb (get_or (b ∷ s) n 0) 47 && is_key (take n (b ∷ s))) t) in
    key_last (b ∷ s) k (omega arith) (eqb-true (get_or (b ∷ s) n 0) 47 e)

-- ---- so that a key, beginning with the subtree, goes on behind it
pub key_longer : (subtree key : Bytes) → is_subtree subtree ≡ true → is_key key ≡ true → under subtree key ≡ true → length subtree < length key
key_longer subtree key s k u = go (ltb (length subtree) (length key)) refl
  where
    go : (t : Bool) → ltb (length subtree) (length key) ≡ t → length subtree < length key
    go true e = ltb-true (length subtree) (length key) e
    go false e = absurd (shorter (ltb (length key) (length subtree)) refl)
      where
        shorter : (t : Bool) → ltb (length key) (length subtree) ≡ t → ⊥
        shorter true f =
            let p = prefix_longer subtree key (ltb-true (length key) (length subtree) f) in
            let z : ◌≡◌ {A = ℕ} 0 1 = cc in
            omega arith
        shorter false f =
            let l : length subtree ≡ length key = omega (arith, ltb-false (length subtree) (length key) e, ltb-false (length key) (length subtree) f) in
            let p : subtree ≡ key = same_eq subtree key (same-prefix subtree key l ∙ u) in
            not_both key k (rw p at s)
