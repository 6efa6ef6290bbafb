-- `script::line::cut` meets its contract: the bar is the byte behind those before it. Assumes nothing.
use Rattle.std.proofs.Common.{◌+◌, add-one, arith, ◌∙◌}
use Rattle.base.proofs.CutLaws.{tail_part}
use Rattle.script.proofs.LineLaws.{take-before, drop-before, before_all_free, before_less_holds}
use Rattle.script.specs.Lines.{bar}
use Rattle.script.proofs.line.cut.Goals as goal

pub returns-then-n-line-clause-none : goal.returns-then-n-line-clause-none
returns-then-n-line-clause-none c = before_all_free bar _ (omega (arith, c.place-n.ensures.0))

pub returns-clause-some : goal.returns-clause-some
returns-clause-some c = before_less_holds bar _ (omega (arith, c.place-n.ensures.0))

pub returns-clause-front : goal.returns-clause-front
returns-clause-front c = rw c.place-n.ensures.0 (take-before bar _)

pub returns-clause-rest : goal.returns-clause-rest
returns-clause-rest c =
    let s = c.args.line.now in
    tail_part s (c.place-n.result + 1) ∙ rw (c.place-n.ensures.0, add-one) (drop-before bar s)
