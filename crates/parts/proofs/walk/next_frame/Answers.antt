-- `parts::walk::next_frame` meets its contract: the frame at the place, after the question whether its whole message is there. Assumes nothing.
use native.Mathlib.Omega.{arith}
use mathlib.Core.Path.{sym, ◌∙◌}
use Rattle.parts.proofs.WalkLaws.{none_begins, none_there, one_there, place-fits}
use Rattle.parts.proofs.walk.next_frame.Goals as goal

pub returns-then-not-may_begin : goal.returns-then-not-may_begin
returns-then-not-may_begin c = none_begins _ _ _ (sym c.may_begin.ensures ∙ c.if-not-may_begin.true)

pub returns-in_err-frame : goal.returns-in_err-frame
returns-in_err-frame c = c.from_residual.ensures ∙ none_there _ _ _ (sym c.in_err-frame.was ∙ c.frame_at.ensures)

pub overflow_add-result : goal.overflow_add-result
overflow_add-result c = omega (arith, place-fits c.args.s.now c.args.at c.args.inside _ _ _ (sym c.in_ok-frame.was ∙ c.frame_at.ensures))

pub returns : goal.returns
returns c = one_there _ _ _ _ _ _ (sym c.in_ok-frame.was ∙ c.frame_at.ensures) (sym c.may_begin.ensures ∙ c.if-not-may_begin.false)
