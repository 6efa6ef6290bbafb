-- `row_checks::are_sorted_keys` meets its contract: the keys passed are keys and rise, so all do if the others do. Assumes nothing.
use mathlib.Core.Path.{ap}
use native.Mathlib.Omega.{arith}
use mathlib.Core.List.{List, []}
use mathlib.Core.Path.{◌≡◌, sym, ◌∙◌}
use lib.ListN.{length, get_or}
use Rattle.std.specs.Ordering.{is_ge}
use Rattle.base.specs.Bytes.{Bytes}
use Rattle.row_cells.proofs.TextLaws.{key_is, keys_long, key-most_at}
use Rattle.row_cells.specs.Texts.{keys_of}
use Rattle.row_checks.proofs.PassLaws.{sorted_start, no_key, not_above, sorted_turn, sorted_done}
use Rattle.row_checks.proofs.are_sorted_keys.Goals as goal
use Rattle.row_checks.proofs.are_sorted_keys.Goals.{After-key_at-key, Start, then-not-is_key-via-then-not-is_key, then-not-is_key-via-else-not-is_key+then-is_ge}

abbrev keys : (c : Start) → List Bytes
keys s = keys_of s.args.count s.args.bytes.now s.args.lengths.now

many : (s : Start) → length (keys s) ≡ s.args.count
many s = keys_long s.args.count s.args.bytes.now s.args.lengths.now

-- what is tested is the key of row i
own : (c : After-key_at-key) → get_or (keys ((goal.at.After-key_at-key c).Start)) c.loop-i.i [] ≡ c.key_at-key.result.now
own c =
    let a = c.args in
    key_is a.count a.bytes.now a.lengths.now c.loop-i.i (omega arith) ∙ sym c.key_at-key.ensures

pub loop-i-init : goal.loop-i-init
loop-i-init c = sorted_start (keys ((goal.at.loop-i-init c).Start))

pub key_at-key-requires : goal.key_at-key-requires
key_at-key-requires c =
    let s = (goal.at.key_at-key-requires c).Start in
    (omega arith, key-most_at s.args.count s.args.lengths.now s.requires.1 c.loop-i.i (omega arith))

pub returns-then-not-is_key : goal.returns-then-not-is_key
returns-then-not-is_key c =
    let l = c.loop-i in
    let ks = keys ((goal.at.returns-then-not-is_key c).Start) in
    let n = many ((goal.at.returns-then-not-is_key c).Start) in
    let key_of_i = own ((goal.at.returns-then-not-is_key c).After-key_at-key) in
    elim c.then-not-is_key.branch [
      | then-not-is_key-via-then-not-is_key w ↦ no_key ks l.before.now l.i _ l.invariant key_of_i (omega arith) (sym c.is_key.ensures ∙ w.if-not-is_key.true)
      | then-not-is_key-via-else-not-is_key+then-is_ge w ↦ not_above ks l.before.now l.i _ l.invariant key_of_i (omega arith) (ap is_ge (sym w.compare.ensures) ∙ sym w.is_ge.ensures ∙ w.if-is_ge.true)
    ]

pub loop-i-preserved : goal.loop-i-preserved
loop-i-preserved c =
    let l = c.loop-i in
    let n = many ((goal.at.loop-i-preserved c).Start) in
    sorted_turn (keys ((goal.at.loop-i-preserved c).Start)) l.before.now l.i _ l.invariant (own ((goal.at.loop-i-preserved c).After-key_at-key)) (omega arith) (sym c.is_key.ensures ∙ c.if-not-is_key.false) (ap is_ge (sym c.compare.ensures) ∙ sym c.is_ge.ensures ∙ c.if-is_ge.false)

pub returns : goal.returns
returns c =
    let l = c.loop-i in
    let n = many ((goal.at.returns c).Start) in
    sorted_done (keys ((goal.at.returns c).Start)) l.before.now l.i _ l.invariant (omega arith)
