-- `script::text::digit` meets its contract: the ranges give each byte its place among the digits. Assumes nothing.
use native.Mathlib.Omega.{arith}
use Rattle.script.proofs.TextLaws.{digit_number, digit_letter, digit_low, digit_between, digit_high}
use Rattle.script.proofs.text.digit.Goals as goal

pub returns-in-48-to-57 : goal.returns-in-48-to-57
returns-in-48-to-57 c = (digit_number _ (omega arith) (omega arith) (omega arith), omega arith)

pub returns-in-97-to-102 : goal.returns-in-97-to-102
returns-in-97-to-102 c = (digit_letter _ (omega arith) (omega arith) (omega arith) (omega arith), omega arith)

pub returns-in_default : goal.returns-in_default
returns-in_default c = (digit_low _ (omega arith) (omega arith), omega arith)

pub returns-in_default-2 : goal.returns-in_default-2
returns-in_default-2 c = (digit_between _ (omega arith) (omega arith) (omega arith), omega arith)

pub returns-in_default-3 : goal.returns-in_default-3
returns-in_default-3 c = (digit_high _ (omega arith) (omega arith), omega arith)
