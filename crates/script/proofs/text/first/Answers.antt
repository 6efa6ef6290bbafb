-- `script::text::first` meets its contract, by whether a byte as \xNN is at the front. Assumes nothing.
use borrow.Author.Tests.{ltb-true, ltb-false}
use Rattle.std.proofs.Common.{◌≡◌, false, arith, rules}
use Rattle.base.proofs.CutLaws.{tail_part}
use Rattle.script.proofs.TextLaws.{escaped_here, unescaped_short, unescaped_first, unescaped_second}
use Rattle.script.specs.Texts.{escaped}
use Rattle.script.proofs.text.first.Goals as goal
use Rattle.script.proofs.text.first.Goals.{then-s-lt4, else-s-lt4+in-92+in_default-1, else-s-lt4+in_default-1}

pub returns-in-92 : goal.returns-in-92
returns-in-92 c =
    let e = escaped_here c.args.s.now (omega arith) (omega arith) (omega arith) in
    record { none = search rules; some = omega (arith, ltb-false); byte = rw e c.octet.ensures; rest = rw e (tail_part _ 4) }

pub returns-in-len1-up : goal.returns-in-len1-up
returns-in-len1-up c =
    let s = c.args.s.now in
    let e : escaped s ≡ false =
    elim c.in-len1-up-1.branch [
      | then-s-lt4 w ↦ unescaped_short s (omega (arith, ltb-true))
      | else-s-lt4+in-92+in_default-1 w ↦ unescaped_second s (omega (arith, ltb-false)) (omega arith) (λ h. omega arith)
      | else-s-lt4+in_default-1 w ↦ unescaped_first s (omega (arith, ltb-false)) (λ h. omega arith)
    ] in
    record { none = search rules; some = omega (arith, ltb-false); byte = rw e; rest = rw e (tail_part _ 1) }
