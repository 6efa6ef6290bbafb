-- `parts::lent::frame_after` meets its contract: the frame where the one before ends, told as numbers. Assumes nothing.
use Rattle.std.proofs.Common.{◌≡◌, ℕ, Bool, true, false, sym, ◌∙◌, rules}
use mathlib.Core.Bool.{cond}
use mir.Val.{bool_byte}
use Rattle.parts.proofs.NumberLaws.{none_given, one_given}
use Rattle.parts.proofs.lent.frame_after.Goals as goal

as_number : {n : ℕ} (t : Bool) → n ≡ bool_byte t → n ≡ cond t 1 0
as_number true e = e
as_number false e = e

pub returns-in_default : goal.returns-in_default
returns-in_default c = none_given _ _ _ (search rules) c.add_lengths-at.ensures (sym c.in_default.is ∙ c.next_frame.ensures)

pub returns : goal.returns
returns c = one_given _ _ _ (search rules) c.add_lengths-at.ensures _ _ _ _ (sym c.in-Some.is ∙ c.next_frame.ensures) (as_number _ c.from.ensures)
