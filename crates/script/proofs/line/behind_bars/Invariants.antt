-- `script::line::behind_bars` meets its contract: a bar passed is a field less to be passed. Assumes nothing.
use Rattle.std.proofs.Common.{◌≡◌, ◌-◌}
use Rattle.script.specs.Lines.{from_field}
use Rattle.script.proofs.line.behind_bars.Given as goal

abbrev pub invariant-loop : goal.invariant-loop
invariant-loop l = from_field l.k l.line ≡ from_field (l.k - l.counter) l.rest
