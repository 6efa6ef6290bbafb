-- `base::output::copy` meets its contract: the bytes passed are in place, and the rest of the output is as it was.
-- Assumes nothing.
use native.Mathlib.Omega.{arith}
use mathlib.Core.Path.{refl, ◌∙◌}
use lib.Seq.{paste-zero}
use Rattle.base.proofs.OutputLaws.{paste_turn, paste_done}
use Rattle.base.proofs.output.copy.Goals as goal

pub loop-j-init : goal.loop-j-init
loop-j-init c = (omega arith, paste-zero c.args.out.now c.args.at c.args.src.now, refl)

pub loop-j-preserved : goal.loop-j-preserved
loop-j-preserved c = paste_turn _ _ _ _ _ c.requires c.loop-j.invariant c.loop-j-test.true

pub returns : goal.returns
returns c =
    let a = c.args in
    c.loop-j.invariant.1 ∙ paste_done a.out.now a.at a.src.now c.loop-j.j (omega arith)
