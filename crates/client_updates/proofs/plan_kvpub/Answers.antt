-- `client_updates::plan_kvpub` meets its contract where an update is new and under the subtree. Assumes nothing.
use mathlib.Core.Path.{sym, ◌∙◌}
use borrow.Author.Tests.{ltb-true, lt-leb, ne_eqb}
use Rattle.base.proofs.ByteLaws.{nil_length}
use Rattle.client_updates.proofs.plan_kvpub.Goals as goal

pub returns : goal.returns
returns c =
    let a = c.args in
    let n = a.header.number.0 in
    let m = a.next.0 in
    rw (ne_eqb a.header.phase 0 c.if-header-eq-WAITING.false, lt-leb m n (ltb-true n m (sym c.is_above.ensures ∙ c.if-not-is_above.false)), ← c.is_under.ensures, c.if-not-is_under.false, ← nil_length a.value.now) cc
