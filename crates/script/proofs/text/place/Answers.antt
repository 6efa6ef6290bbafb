-- `script::text::place` meets its contract: the place of a byte is the number of bytes before it. Assumes nothing.
use Rattle.std.proofs.Common.{◌≡◌, ◌≢◌, sym, ◌∙◌, arith, rules, tests}
use Rattle.std.proofs.lemmas.Iterator.{IsFirst-from_position, YieldsList-from_slice}
use Rattle.script.proofs.LineLaws.{place_is, before_within}
use Rattle.script.proofs.text.place.Goals as goal

pub returns : goal.returns
returns c =
    let b = c.args.b in
    let s = c.args.s.now in
    let found = IsFirst-from_position _ _ _ (λ x. x ≡ b) (λ x. x ≢ b) c.position.ensures.ran (YieldsList-from_slice s cc) (λ x q k. search (rules, tests)) (λ x q k. search (rules, tests)) in
    let e = c.unwrap_or.ensures ∙ sym (place_is b s _ found) in
    (e, omega (arith, e, before_within b s))
