-- `row_search::find_row` meets its contract. The loop keeps that the keys between the two places answer for all of them:
-- the key in the middle tells which half does. Once there are none left between, the key is missing there. The measure is
-- how many are left between. Assumes nothing.
use Prim.Native.Nat.{ℕ, ◌+◌, ◌-◌, ◌/◌}
use native.Mathlib.Omega.{arith}
use mathlib.Core.List.{List, []}
use mathlib.Core.Path.{◌≡◌, sym, ap, ◌∙◌}
use lib.ListN.{length, get_or}
use lib.Seq.{take_all}
use Rattle.base.specs.Bytes.{Bytes}
use Rattle.key_order.specs.Order.{order_of}
use Rattle.row_cells.proofs.TextLaws.{key_is, keys_long, key-most_at}
use Rattle.row_cells.specs.Texts.{keys_of}
use Rattle.row_search.specs.Places.{place_of}
use Rattle.row_search.proofs.FindLaws.{go_right, go_left, found, missing}
use Rattle.row_search.proofs.find_row.Goals as goal
use Rattle.row_search.proofs.find_row.Goals.{After-compare, Start}

abbrev middle : ℕ → ℕ → ℕ
middle lo hi = lo + (hi - lo) / 2

abbrev keys : (c : Start) → List Bytes
keys s = keys_of s.args.count s.args.bytes.now s.args.lengths.now

-- as many as there are rows
many : (s : Start) → length (keys s) ≡ s.args.count
many s = keys_long s.args.count s.args.bytes.now s.args.lengths.now

-- what is compared with the key is the key of the row in the middle
told : (c : After-compare)
    → order_of (get_or (keys ((goal.at.After-compare c).Start)) (middle c.loop-lo.lo c.loop-lo.hi) []) c.args.key.now ≡ c.compare.result
told c =
    let l = c.loop-lo in
    let a = c.args in
    ap (λ (x : Bytes). order_of x a.key.now) (key_is a.count a.bytes.now a.lengths.now (middle l.lo l.hi) (omega arith) ∙ sym c.key_at.ensures)
    ∙ sym c.compare.ensures

pub loop-lo-init : goal.loop-lo-init
loop-lo-init c =
    let n = many ((goal.at.loop-lo-init c).Start) in
    record { from = omega arith; to = omega arith; keeps = ap (place_of 0 c.args.key.now) (sym (take_all c.args.count (keys ((goal.at.loop-lo-init c).Start)) (omega arith))) }

pub key_at-requires : goal.key_at-requires
key_at-requires c =
    let l = c.loop-lo in
    let s = (goal.at.key_at-requires c).Start in
    let few = s.requires.few in
    (omega arith, key-most_at s.args.count s.args.lengths.now s.requires.fit (middle l.lo l.hi) (omega arith))

pub loop-lo-preserved-in-Less : goal.loop-lo-preserved-in-Less
loop-lo-preserved-in-Less c =
    let l = c.loop-lo in
    let s = (goal.at.loop-lo-preserved-in-Less c).Start in
    let n = many s in
    record { from = omega arith; to = omega arith; keeps = l.invariant.keeps ∙ go_right s.args.key.now (keys s) l.lo l.hi (middle l.lo l.hi) (omega arith) (omega arith) (omega arith) s.requires.rise (told ((goal.at.loop-lo-preserved-in-Less c).After-compare) ∙ c.in-Less.is) }

pub returns-in-Equal : goal.returns-in-Equal
returns-in-Equal c =
    let l = c.loop-lo in
    let s = (goal.at.returns-in-Equal c).Start in
    let n = many s in
    sym (l.invariant.keeps ∙ found s.args.key.now (keys s) l.lo l.hi (middle l.lo l.hi) (omega arith) (omega arith) (omega arith) s.requires.rise (told ((goal.at.returns-in-Equal c).After-compare) ∙ c.in-Equal.is))

pub loop-lo-preserved : goal.loop-lo-preserved
loop-lo-preserved c =
    let l = c.loop-lo in
    let s = (goal.at.loop-lo-preserved c).Start in
    let n = many s in
    record { from = omega arith; to = omega arith; keeps = l.invariant.keeps ∙ go_left s.args.key.now (keys s) l.lo l.hi (middle l.lo l.hi) (omega arith) (omega arith) (omega arith) (told ((goal.at.loop-lo-preserved c).After-compare) ∙ c.in-Greater.is) }

pub returns : goal.returns
returns c =
    let l = c.loop-lo in
    let s = (goal.at.returns c).Start in
    sym (l.invariant.keeps ∙ missing s.args.key.now (keys s) l.lo l.hi (omega arith))
