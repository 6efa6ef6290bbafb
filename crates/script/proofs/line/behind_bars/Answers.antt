-- `script::line::behind_bars` meets its contract: a bar passed is a field less to be passed. Assumes nothing.
use Rattle.script.proofs.LineLaws.{bars_begin, bars_turn, bars_none, bars_done}
use Rattle.script.proofs.line.behind_bars.Goals as goal

pub loop-init : goal.loop-init
loop-init c = bars_begin _ _

pub returns-in_default : goal.returns-in_default
returns-in_default c = bars_none _ _ _ _ c.loop.invariant c.loop-test.true c.in_default.ensures.none

pub loop-preserved : goal.loop-preserved
loop-preserved c = bars_turn _ _ _ _ c.loop.invariant c.loop-test.true c.in-Some.ensures.rest

pub returns : goal.returns
returns c = bars_done _ _ _ _ c.loop.invariant c.loop-test.false
