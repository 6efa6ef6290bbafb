-- `properties::decimal::read_decimal` meets its contract: the digits passed are the number so far, which is within bounds. Assumes nothing.
use Rattle.std.proofs.Common.{◌+◌, ◌*◌, arith, ◌≡◌, sym, drop, ◌∙◌, ℕ, Bool, false}
use Rattle.std.proofs.lemmas.Bool.{eqb-true, eqb-false}
use Rattle.std.proofs.Math.Dec.{eqb}
use Rattle.properties.proofs.DecimalLaws.{digits_left, no_digits, too_many, digits_begin, digit_turn, no_digit, digits_done, too_large}
use Rattle.properties.specs.Decimals.{decimal_of}
use Rattle.properties.proofs.decimal.read_decimal.Goals as goal
use Rattle.properties.proofs.decimal.read_decimal.Goals.{After-wide, then-is_empty-via-then-is_empty, then-is_empty-via-else-is_empty+then-digits-s}

some_digits : {r : Bool} (n : ℕ) → r ≡ eqb n 0 → r ≡ false → n ≡ 0 → ⊥
some_digits n e h = eqb-false n 0 (sym e ∙ h)

on : (c : After-wide) → decimal_of c.args.digits c.args.most c.args.s.now ≡ digits_left c.args.most (c.loop-b.n * 10 + c.wide.result) (drop (c.loop-b.b-index + 1) c.args.s.now)
on c = rw c.wide.ensures.0 (digit_turn c.args.most c.args.s.now c.loop-b.b-index c.loop-b.n _ c.loop-b.invariant.0 c.loop-b-test.true (sym c.is_ascii_digit.ensures.value ∙ c.if-not-is_ascii_digit.false))

pub returns-then-is_empty : goal.returns-then-is_empty
returns-then-is_empty c = elim c.then-is_empty.branch [
  | then-is_empty-via-then-is_empty w ↦ sym (no_digits _ _ _ (eqb-true _ _ (sym c.is_empty.ensures ∙ w.if-is_empty.true)))
  | then-is_empty-via-else-is_empty+then-digits-s w ↦ sym (too_many _ _ _ (some_digits _ c.is_empty.ensures w.if-is_empty.false) w.if-digits-s.true)
]

pub loop-b-init : goal.loop-b-init
loop-b-init c = (digits_begin _ _ _ (some_digits _ c.is_empty.ensures c.if-is_empty.false) c.if-digits-s.false, omega arith)

pub returns-then-not-is_ascii_digit : goal.returns-then-not-is_ascii_digit
returns-then-not-is_ascii_digit c = no_digit _ _ _ _ _ c.loop-b.invariant.0 c.loop-b-test.true (sym c.is_ascii_digit.ensures.value ∙ c.if-not-is_ascii_digit.true)

pub returns-then-from-n : goal.returns-then-from-n
returns-then-from-n c = too_large _ _ (c.loop-b.b-index + 1) _ _ (on ((goal.at.returns-then-from-n c).After-wide)) (omega arith)

pub loop-b-preserved : goal.loop-b-preserved
loop-b-preserved c = (on ((goal.at.loop-b-preserved c).After-wide), omega arith)

pub returns : goal.returns
returns c = digits_done _ _ _ _ _ c.loop-b.invariant.0 c.loop-b-test.false c.loop-b.invariant.1
