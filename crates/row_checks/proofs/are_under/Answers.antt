-- `row_checks::are_under` meets its contract: what each place answers is that of the key there. Assumes nothing.
use Prim.Native.Nat.{ℕ, ◌<◌}
use native.Mathlib.Nat.{zero-add}
use native.Mathlib.Omega.{arith}
use mathlib.Core.Bool.{Bool, true, false}
use mathlib.Core.List.{List, []}
use mathlib.Core.Path.{◌≡◌, refl, sym, ap, ◌∙◌}
use borrow.Author.Rules.{rules}
use borrow.Author.Tests.{eqb-true}
use lib.ListN.{length, get_or}
use Rattle.std.proofs.lemmas.Iterator.{serves_from_Range, cases_from_all, YieldsList-from_range}
use Rattle.std.proofs.lemmas.List.FromFn.{length-range_with_len, get_or-range_with_len}
use Rattle.std.specs.Bool.{MatchBool}
use Rattle.std.specs.List.{AllWithin, HoldsAt, range_with_len}
use Rattle.base.specs.Bytes.{Bytes, every}
use Rattle.keys.specs.Keys.{under}
use Rattle.row_cells.proofs.TextLaws.{key_is, keys_long, key-most_at}
use Rattle.row_cells.specs.Texts.{keys_of, row_key}
use Rattle.row_checks.proofs.PassLaws.{every_place, every-but, under_empty}
use Rattle.row_checks.proofs.are_under.Goals as goal

-- what `all` says of the places of a list
module _ (test : Bytes → Bool) (l : List Bytes) (n : ℕ) (e : length l ≡ n) where
  abbrev Is : Bool → ℕ → Type 0
  Is b i = (i < n) → test (get_or l i []) ≡ b

  all_is : (r : Bool) → MatchBool r (AllWithin (Is true) (range_with_len 0 n) 0 (length (range_with_len 0 n))) ((k : ℕ) × (k < length (range_with_len 0 n)) × HoldsAt (Is false) (range_with_len 0 n) k) → r ≡ every test l
  all_is true m = sym (every_place test l [] (λ i k. let h : i < n = omega arith in let j : i < length (range_with_len 0 n) = rw length-range_with_len h in rw (get_or-range_with_len 0 n i 0 h, zero-add) at (m i 0 (omega arith) j) h))
  all_is false (k, h, m) = let h' : k < n = rw length-range_with_len at h in sym (every-but test l [] k (omega arith) (rw (get_or-range_with_len 0 n k 0 h', zero-add) at (m 0) h'))

pub all-requires-clause-callable : goal.all-requires-clause-callable
all-requires-clause-callable c =
    let few = c.requires.few in
    serves_from_Range (λ x q h. search rules) (λ x lo hi κ p n e u f t l. (omega arith, key-most_at c.args.count c.args.lengths.now c.requires.fit x hi))

pub returns-then-is_empty : goal.returns-then-is_empty
returns-then-is_empty c =
    let none = eqb-true _ _ (sym c.is_empty.ensures ∙ c.if-is_empty.true) in
    c.if-is_empty.true ∙ sym (under_empty c.args.subtree.now (keys_of c.args.count c.args.bytes.now c.args.lengths.now) none)

pub returns-else-is_empty : goal.returns-else-is_empty
returns-else-is_empty c =
    let a = c.args in
    let ks = keys_of a.count a.bytes.now a.lengths.now in
    let many = keys_long a.count a.bytes.now a.lengths.now in
    let is = Is (under a.subtree.now) ks a.count many in
    let told = λ (b : Bool) (x : ℕ) (e : under a.subtree.now (row_key x a.bytes.now a.lengths.now) ≡ b) (h : x < a.count). ap (under a.subtree.now) (key_is a.count a.bytes.now a.lengths.now x h) ∙ e in
    all_is (under a.subtree.now) ks a.count many c.all.result
    (cases_from_all _ _ _ (is true) (is false) c.all.ensures.ran (YieldsList-from_range 0 a.count a.count refl (omega arith))
    (λ x q k. (search rules, told true x (search rules))) (λ x q k. told false x (search rules)))
