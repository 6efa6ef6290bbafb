-- One pass over some bytes finds whether they are a key. Assumes nothing.
use Prim.Native.Nat.{ℕ, suc, ◌+◌, ◌-◌, ◌≤◌, ◌<◌}
use native.Mathlib.Numerals.{add-one}
use native.Mathlib.Omega.{arith}
use mathlib.Core.Bool.{Bool, true, false, cond, not, ◌&&◌, ◌||◌}
use mathlib.Core.List.{List, [], ◌∷◌}
use mathlib.Core.Path.{◌≡◌, refl, sym, ap, ◌∙◌}
use lib.Dec.{eqb, leb}
use lib.ListN.{length, get_or, take, drop, drop_of_length-le}
use lib.Seq.{drop-cons}
use borrow.Author.Tests.{eqb-true, le-leb, lt-leb, eq-eqb, ne_eqb}
use Rattle.base.proofs.ByteLaws.{is_empty, not_empty}
use Rattle.base.proofs.CutLaws.{pieces_some}
use Rattle.base.specs.Bytes.{Bytes, is_nil, holds, every}
use Rattle.base.specs.Cuts.{on_first, pieces}
use Rattle.keys.specs.Keys.{is_name, slashed, is_key, is_subtree}

-- ---- a byte is a slash, zero, or neither
data Kind (b : ℕ) : Type 0 where
  slash : b ≡ 47 → Kind b
  nul : b ≡ 0 → Kind b
  plain : eqb b 47 ≡ false → eqb b 0 ≡ false → Kind b

kind : (b : ℕ) → Kind b
kind b = go (eqb b 47) refl (eqb b 0) refl
  where
    go : (t : Bool) → eqb b 47 ≡ t → (u : Bool) → eqb b 0 ≡ u → Kind b
    go true e u f = slash (eqb-true b 47 e)
    go false e true f = nul (eqb-true b 0 f)
    go false e false f = plain e f

-- ---- what is left of a key within a name: the rest of the name, and the names behind it
abbrev rest : List Bytes → Bool
rest [] = true
rest (name ∷ names) = not (holds 0 name) && every is_name names

module _ (b : ℕ) (e : eqb b 0 ≡ false) where
  first_byte : (ps : List Bytes) → every is_name (on_first b ps) ≡ rest ps
  unfolding every holds
  first_byte [] = rw e
  first_byte (p ∷ ps) = rw e

  next_byte : (ps : List Bytes) → rest (on_first b ps) ≡ rest ps
  unfolding every holds
  next_byte [] = rw e
  next_byte (p ∷ ps) = rw e

module _ (ps : List Bytes) where
  first_nul : every is_name (on_first 0 ps) ≡ false
  unfolding every holds
  first_nul = go ps
    where
      go : (ps : List Bytes) → every is_name (on_first 0 ps) ≡ false
      go [] = refl
      go (p ∷ ps) = refl

  next_nul : rest (on_first 0 ps) ≡ false
  unfolding every holds
  next_nul = go ps
    where
      go : (ps : List Bytes) → rest (on_first 0 ps) ≡ false
      go [] = refl
      go (p ∷ ps) = refl

-- ---- bytes behind another, as one pass sees them
-- no zero byte, and no slash behind a slash
unfoldable pub clean : ℕ → Bytes → Bool
clean a [] = true
clean a (b ∷ s) = not (eqb b 0) && (not (eqb a 47 && eqb b 47) && clean b s)

-- the last of them is no slash
unfoldable pub ends : ℕ → Bytes → Bool
ends a [] = not (eqb a 47)
ends a (b ∷ s) = ends b s

mutual
  unfolding clean ends pieces every holds

  behind_slash : (s : Bytes) → every is_name (pieces 47 s) ≡ (clean 47 s && ends 47 s)
  behind_slash [] = refl
  behind_slash (b ∷ s) = go (kind b) (λ e. in_name b e s)
    where
      go : Kind b → (eqb b 47 ≡ false → rest (pieces 47 s) ≡ (clean b s && ends b s)) → every is_name (pieces 47 (b ∷ s)) ≡ (clean 47 (b ∷ s) && ends 47 (b ∷ s))
      go (slash e) h = rw e
      go (nul e) h = rw e (first_nul (pieces 47 s))
      go (plain e f) h = rw (e, f) (first_byte b f (pieces 47 s) ∙ h e)

  in_name : (a : ℕ) → eqb a 47 ≡ false → (s : Bytes) → rest (pieces 47 s) ≡ (clean a s && ends a s)
  in_name a h [] = rw h
  in_name a h (b ∷ s) = go (kind b) (behind_slash s) (λ e. in_name b e s)
    where
      go : Kind b → every is_name (pieces 47 s) ≡ (clean 47 s && ends 47 s) → (eqb b 47 ≡ false → rest (pieces 47 s) ≡ (clean b s && ends b s))
          → rest (pieces 47 (b ∷ s)) ≡ (clean a (b ∷ s) && ends a (b ∷ s))
      go (slash e) k m = rw (e, h) k
      go (nul e) k m = rw e (next_nul (pieces 47 s))
      go (plain e f) k m = rw (e, f, h) (next_byte b f (pieces 47 s) ∙ m e)

-- ---- the whole key
pub first_slash : (ps : List Bytes) → is_nil ps ≡ false → slashed ([] ∷ ps) ≡ every is_name ps
first_slash [] h = cc
first_slash (p ∷ ps) h = refl

first_other : (b : ℕ) (ps : List Bytes) → slashed (on_first b ps) ≡ false
first_other b [] = refl
first_other b (p ∷ []) = refl
first_other b (p ∷ q ∷ ps) = refl

-- the last byte
ends_last : (a : ℕ) (s : Bytes) → ends a s ≡ not (eqb (get_or (a ∷ s) (length s) 0) 47)
unfolding ends
ends_last a [] = refl
ends_last a (b ∷ s) = ends_last b s

slashed_is : (a : ℕ) (s : Bytes) → slashed (pieces 47 (a ∷ s)) ≡ (eqb a 47 && (clean 47 s && ends 47 s))
unfolding pieces
slashed_is a s = go (eqb a 47)
  where
    go : (t : Bool) → slashed (cond t ([] ∷ pieces 47 s) (on_first a (pieces 47 s))) ≡ (t && (clean 47 s && ends 47 s))
    go true = first_slash (pieces 47 s) (pieces_some 47 s) ∙ behind_slash s
    go false = first_other a (pieces 47 s)

neither : (t u : Bool) → u ≡ false → (t && u) ≡ false
neither true u e = e
neither false u e = refl

and-true : (t : Bool) → (t && true) ≡ t
and-true true = refl
and-true false = refl

-- ---- the answers of the code
pub key_none : (s : Bytes) → length s < 1 → is_key s ≡ false
unfolding is_key pieces
key_none [] h = refl
key_none (a ∷ s) h = absurd (omega (arith, h))

pub key_other : (s : Bytes) → 1 ≤ length s → (get_or s 0 0 ≡ 47 → ⊥) → is_key s ≡ false
unfolding is_key
key_other [] h k = absurd (omega (arith, h))
key_other (a ∷ s) h k = neither (leb (length (a ∷ s)) 96) _ (slashed_is a s ∙ rw (ne_eqb a 47 k))

pub key_open : (s : Bytes) → 1 ≤ length s → get_or s 0 0 ≡ 47 → get_or s (length s - 1) 0 ≡ 47 → is_key s ≡ false
unfolding is_key
key_open [] h e l = absurd (omega (arith, h))
key_open (a ∷ s) h e l =
    let i : length s ≡ length (a ∷ s) - 1 = omega arith in
    let last : get_or (47 ∷ s) (length s) 0 ≡ 47 = ap (λ (x : ℕ). get_or (x ∷ s) (length s) 0) (sym e) ∙ ap (λ (k : ℕ). get_or (a ∷ s) k 0) i ∙ l in
    neither (leb (length (a ∷ s)) 96) _ (slashed_is a s ∙ neither (eqb a 47) _ (neither (clean 47 s) _ (ends_last 47 s ∙ ap not (eq-eqb (get_or (47 ∷ s) (length s) 0) 47 last))))

-- a slash first and none last: it is a key if the pass finds nothing
pub key-passed : (s : Bytes) → 1 ≤ length s → length s ≤ 96 → get_or s 0 0 ≡ 47 → (get_or s (length s - 1) 0 ≡ 47 → ⊥) → is_key s ≡ clean (get_or s 0 0) (drop 1 s)
unfolding is_key
key-passed [] h k e n = absurd (omega (arith, h))
key-passed (a ∷ s) h k e n =
    let i : length (a ∷ s) - 1 ≡ length s = omega arith in
    let same : get_or (a ∷ s) (length (a ∷ s) - 1) 0 ≡ get_or (47 ∷ s) (length s) 0 = ap (λ (k : ℕ). get_or (a ∷ s) k 0) i ∙ ap (λ (x : ℕ). get_or (x ∷ s) (length s) 0) e in
    let last : ends 47 s ≡ true = ends_last 47 s ∙ ap not (ne_eqb (get_or (47 ∷ s) (length s) 0) 47 (λ l. n (same ∙ l))) in
    rw (le-leb (length (a ∷ s)) 96 k) (slashed_is a s ∙ rw (e, last, and-true))

-- what the pass keeps: whether anything was found, and the bytes that are left
module _ (s : Bytes) (i a : ℕ) (x good : Bool) (h : x ≡ (good && clean a (drop i s))) where
  pub clean_turn : i < length s → x ≡ ((good && (not (eqb (get_or s i 0) 0) && (not (eqb a 47) || not (eqb (get_or s i 0) 47)))) && clean (get_or s (i + 1 - 1) 0) (drop (i + 1) s))
  unfolding clean
  clean_turn k =
      let e : i + 1 - 1 ≡ i = omega arith in
      h ∙ rw (e, drop-cons s i 0 k, add-one) (go good (not (eqb (get_or s i 0) 0)) (eqb a 47) (eqb (get_or s i 0) 47) (clean (get_or s i 0) (drop (suc i) s)))
    where
      go : (g z f l r : Bool) → (g && (z && (not (f && l) && r))) ≡ ((g && (z && (not f || not l))) && r)
      go false z f l r = refl
      go true false f l r = refl
      go true true false l r = refl
      go true true true false r = refl
      go true true true true r = refl

  pub clean_done : length s ≤ i → x ≡ good
  unfolding clean
  clean_done k = h ∙ rw (drop_of_length-le s k) (and-true good)

module _ (s : Bytes) where
  pub key-long : 96 < length s → is_key s ≡ false
  unfolding is_key
  key-long h = rw (lt-leb (length s) 96 h)

  pub subtree-empty : length s ≡ 0 → is_subtree s ≡ true
  unfolding is_subtree
  subtree-empty h = rw (is_empty s h)

  module _ (h : length s ≡ 0 → ⊥) where
    pub subtree-long : 96 < length s → is_subtree s ≡ false
    unfolding is_subtree
    subtree-long k = rw (not_empty s h, lt-leb (length s) 96 k)

    module _ (k : length s ≤ 96) where
      pub subtree_open : (get_or s (length s - 1) 0 ≡ 47 → ⊥) → is_subtree s ≡ false
      unfolding is_subtree
      subtree_open e = rw (not_empty s h, le-leb (length s) 96 k, ne_eqb (get_or s (length s - 1) 0) 47 e)

      pub subtree_closed : get_or s (length s - 1) 0 ≡ 47 → is_subtree s ≡ is_key (take (length s - 1) s)
      unfolding is_subtree
      subtree_closed e = rw (not_empty s h, le-leb (length s) 96 k, eq-eqb (get_or s (length s - 1) 0) 47 e)
