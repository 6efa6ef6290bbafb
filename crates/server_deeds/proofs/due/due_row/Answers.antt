-- `server_deeds::due::due_row` meets its contract: what is found is right for the rows from the place reached on. Assumes
-- nothing.
use native.Mathlib.Omega.{arith}
use mathlib.Core.Path.{◌≡◌, sym, ◌∙◌}
use Rattle.server_deeds.proofs.DuePlaceLaws.{expiry_count, expiry_is, due_end, due_step}
use Rattle.server_deeds.specs.DuePlaces.{expiries_of}
use Rattle.server_deeds.proofs.due.due_row.Goals as goal

pub loop-i-init : goal.loop-i-init
loop-i-init c =
    let a = c.args in
    let n = expiry_count a.count a.stamps.now in
    due_end a.tick.0 (expiries_of a.count a.stamps.now) a.count (omega arith)

pub loop-i-preserved : goal.loop-i-preserved
loop-i-preserved c =
    let l = c.loop-i in
    let a = c.args in
    let n = expiry_count a.count a.stamps.now in
    due_step a.tick.0 (expiries_of a.count a.stamps.now) l.i _ (omega arith) (omega arith)
    (c.expiry_at.ensures ∙ sym (expiry_is a.count a.stamps.now _ (omega arith))) c.earlier_of-first.ensures l.invariant

pub returns : goal.returns
returns c =
    let l = c.loop-i in
    let e : l.i ≡ 0 = omega arith in
    rw e at l.invariant
