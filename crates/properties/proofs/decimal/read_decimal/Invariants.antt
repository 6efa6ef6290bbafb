-- `properties::decimal::read_decimal` meets its contract: the digits passed are the number so far, which is within bounds. Assumes nothing.
use Rattle.std.proofs.Common.{◌≡◌, ◌≤◌, drop}
use Rattle.properties.proofs.DecimalLaws.{digits_left}
use Rattle.properties.specs.Decimals.{decimal_of}
use Rattle.properties.proofs.decimal.read_decimal.Given as goal

abbrev pub invariant-loop-b : goal.invariant-loop-b
invariant-loop-b l = (decimal_of l.digits l.most l.s ≡ digits_left l.most l.n (drop l.b-index l.s)) × (l.n ≤ l.most)
