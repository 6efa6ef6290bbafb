-- `is_key` and `is_subtree` decide the grammars of keys and subtrees. Assumes nothing.
use Prim.Native.Nat.{ℕ, suc, ◌-◌, ◌≤◌, ◌<◌}
use native.Mathlib.Omega.{arith}
use mathlib.Core.Bool.{true, false, not, ◌&&◌}
use mathlib.Core.List.{List, [], ◌∷◌, ◌++◌}
use mathlib.Core.Logic.{◌↔◌}
use mathlib.Core.Path.{◌≡◌, refl, sym, ap, ◌∙◌, subst}
use lib.Dec.{leb, eqb}
use lib.ListN.{length, get_or, take, length-append, drop_of_length-le}
use lib.Seq.{split_at, take-append_seam, get_or-append_seam}
use borrow.Author.Tests.{leb-true, eqb-true, not-true, le-leb}
use Rattle.base.proofs.ByteLaws.{and_left, and_right, some_bytes, lacks_tested, tested_lacks}
use Rattle.base.proofs.CutLaws.{pieces_some, pieces_free, pieces-cut, glue, glue_pieces, without, pieces_without}
use Rattle.base.specs.Bytes.{Bytes, is_nil, holds, every}
use Rattle.base.specs.Cuts.{pieces}
use Rattle.keys.proofs.KeyLaws.{first_slash, subtree-empty, subtree_closed}
use Rattle.keys.specs.Grammar.Key.{one, more}
use Rattle.keys.specs.Grammar.Subtree.{whole, below}
use Rattle.keys.specs.Grammar.{Plain, Key, Subtree}
use Rattle.keys.specs.Keys.{is_name, slashed, is_key, is_subtree}

-- ---- a name, by its test and by the grammar
is-name : (s : Bytes) → 0 < length s → Plain s → is_name s ≡ true
is-name [] l h = absurd (omega arith)
is-name (b ∷ s) l h = rw (lacks_tested 0 (b ∷ s) h.1)

name_some : (s : Bytes) → is_name s ≡ true → 0 < length s
name_some s h = some_bytes s (not-true (is_nil s) (and_left (not (is_nil s)) (not (holds 0 s)) h))

name_free : (s : Bytes) → is_name s ≡ true → holds 0 s ≡ false
name_free s h = not-true (holds 0 s) (and_right (not (is_nil s)) (not (holds 0 s)) h)

-- ---- from the grammar to the test
key_slash : (s : Bytes) → Key s → (r : Bytes) × (s ≡ 47 ∷ r)
key_slash s (one name l h) = (name, refl)
key_slash s (more name rest l h k) = (name ++ rest, refl)

key-slashed : (s : Bytes) → Key s → slashed (pieces 47 s) ≡ true
unfolding pieces every
key-slashed s (one name l h) = rw (pieces_free 47 name (lacks_tested 47 name h.0), is-name name l h)
key-slashed s (more name rest l h k) =
    let r = key_slash rest k in
    let ih : every is_name (pieces 47 r.0) ≡ true = sym (first_slash (pieces 47 r.0) (pieces_some 47 r.0)) ∙ rw r.1 at (key-slashed rest k) in
    rw (r.1, pieces-cut 47 name r.0 (lacks_tested 47 name h.0), is-name name l h) ih

pub key_decided : (s : Bytes) → length s ≤ 96 → Key s → is_key s ≡ true
unfolding is_key
key_decided s l k = rw (le-leb (length s) 96 l) (key-slashed s k)

-- ---- from the test to the grammar
name-plain : (p : Bytes) → is_name p ≡ true → without 47 p ≡ true → Plain p
name-plain p h k = (tested_lacks 47 p (not-true (holds 47 p) k), tested_lacks 0 p (name_free p h))

names_key : (p : Bytes) (ps : List Bytes) → every is_name (p ∷ ps) ≡ true → every (without 47) (p ∷ ps) ≡ true → Key (47 ∷ glue 47 (p ∷ ps))
unfolding every
names_key p [] h k =
    let n = and_left (is_name p) true h in
    one p (name_some p n) (name-plain p n (and_left (without 47 p) true k))
names_key p (q ∷ ps) h k =
    let n = and_left (is_name p) (every is_name (q ∷ ps)) h in
    more p (47 ∷ glue 47 (q ∷ ps)) (name_some p n) (name-plain p n (and_left (without 47 p) (every (without 47) (q ∷ ps)) k))
    (names_key q ps (and_right (is_name p) (every is_name (q ∷ ps)) h) (and_right (without 47 p) (every (without 47) (q ∷ ps)) k))

slashed-key : (ps : List Bytes) → slashed ps ≡ true → every (without 47) ps ≡ true → Key (glue 47 ps)
unfolding every holds
slashed-key [] h k = absurd (let z : ◌≡◌ {A = ℕ} 0 1 = cc in omega arith)
slashed-key (p ∷ []) h k = absurd (let z : ◌≡◌ {A = ℕ} 0 1 = cc in omega arith)
slashed-key ([] ∷ q ∷ ps) h k = names_key q ps h k
slashed-key ((b ∷ p) ∷ q ∷ ps) h k = absurd (let z : ◌≡◌ {A = ℕ} 0 1 = cc in omega arith)

pub key_known : (s : Bytes) → is_key s ≡ true → (length s ≤ 96) × Key s
unfolding is_key
key_known s h =
    (leb-true (length s) 96 (and_left (leb (length s) 96) (slashed (pieces 47 s)) h), subst Key (glue_pieces 47 s) (slashed-key (pieces 47 s) (and_right (leb (length s) 96) (slashed (pieces 47 s)) h) (pieces_without 47 s)))

-- the test of a key is the grammar, with its bound
pub key_is : (s : Bytes) → (is_key s ≡ true) ↔ ((length s ≤ 96) × Key s)
key_is s = (key_known s, λ h. key_decided s h.0 h.1)

-- ---- subtrees
key_some : (s : Bytes) → Key s → 0 < length s
key_some s (one name l h) = omega arith
key_some s (more name rest l h k) = omega arith

pub subtree_decided : (s : Bytes) → length s ≤ 96 → Subtree s → is_subtree s ≡ true
subtree_decided s l whole = subtree-empty [] refl
subtree_decided s l (below key k) =
    let n = length-append key (47 ∷ []) in
    let last : length (key ++ (47 ∷ [])) - 1 ≡ length key = omega arith in
    subtree_closed (key ++ (47 ∷ [])) (λ e. omega (arith, key_some key k)) l (rw last (get_or-append_seam key 47 [] 0))
    ∙ rw (last, take-append_seam key (47 ∷ [])) (key_decided key (omega arith) k)

ends_in : (s : Bytes) → 0 < length s → s ≡ take (length s - 1) s ++ (get_or s (length s - 1) 0 ∷ [])
ends_in s h = split_at s (length s - 1) 0 (omega arith) ∙ rw (drop_of_length-le s {i = suc (length s - 1)} (omega arith))

pub subtree_known : (s : Bytes) → is_subtree s ≡ true → (length s ≤ 96) × Subtree s
unfolding is_subtree
subtree_known [] h = (omega arith, whole)
subtree_known (b ∷ t) h =
    let s : Bytes = b ∷ t in
    let l = and_left (leb (length s) 96) (eqb (get_or s (length s - 1) 0) 47 && is_key (take (length s - 1) s)) h in
    let r = and_right (leb (length s) 96) (eqb (get_or s (length s - 1) 0) 47 && is_key (take (length s - 1) s)) h in
    let slash = eqb-true (get_or s (length s - 1) 0) 47 (and_left (eqb (get_or s (length s - 1) 0) 47) (is_key (take (length s - 1) s)) r) in
    let key = key_known (take (length s - 1) s) (and_right (eqb (get_or s (length s - 1) 0) 47) (is_key (take (length s - 1) s)) r) in
    (leb-true (length s) 96 l, subst Subtree (sym (ends_in s (omega arith) ∙ ap (λ (x : ℕ). take (length s - 1) s ++ (x ∷ [])) slash)) (below (take (length s - 1) s) key.1))

-- the test of a subtree is the grammar, with its bound
pub subtree_is : (s : Bytes) → (is_subtree s ≡ true) ↔ ((length s ≤ 96) × Subtree s)
subtree_is s = (subtree_known s, λ h. subtree_decided s h.0 h.1)
