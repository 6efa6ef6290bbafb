-- `client_lookup::lookup_lent` meets its contract: the search, and then the value of the row, if there is room for it.
-- Assumes nothing.
use mathlib.Core.Path.{ap, ◌∙◌}
use lib.ListN.{length}
use borrow.Author.Rules.{rules}
use Rattle.std.specs.Prelude.{Ok}
use Rattle.answers.specs.declared.answer.Kind.TheVariants.{Found}
use Rattle.client_calls.proofs.QueryLaws.{put_done}
use Rattle.client_calls.specs.Calls.{Call, lookup}
use Rattle.client_lookup.proofs.LookupLaws.{own_checks, lookup-refused, lookup_absent, key-passes, value_known, lookup_puts}
use Rattle.client_state.specs.Views.{lent}
use Rattle.client_state.specs.declared.Client.{Client}
use Rattle.client_lookup.proofs.lookup_lent.Goals as goal
use Rattle.client_lookup.proofs.lookup_lent.Goals.{Start}

abbrev state : (c : Start) → Client
state s = lent s.args.bytes.now s.args.lengths.now s.args.subtree.now s.args.header

abbrev call : (c : Start) → Call
call s = lookup s.args.key.now (length s.args.out.now)

pub value_at-value-requires : goal.value_at-value-requires
value_at-value-requires c =
    let s = (goal.at.value_at-value-requires c).Start in
    value_known (state s) s.args.key.now c.search_rows.ensures (c.in-Ok-Some.is ∙ ap Ok c.in-Ok-Some.field-0-is)

pub returns-in-Err : goal.returns-in-Err
returns-in-Err c =
    let s = (goal.at.returns-in-Err c).Start in
    lookup-refused (state s) s.args.key.now c.search_rows.ensures c.in-Err.is _ c.without_output.ensures

pub returns-in-Ok-None : goal.returns-in-Ok-None
returns-in-Ok-None c =
    let s = (goal.at.returns-in-Ok-None c).Start in
    lookup_absent (state s) s.args.key.now c.search_rows.ensures (c.in-Ok-None.is ∙ ap Ok c.in-Ok-None.field-0-is) _ c.without_output-in-Ok-None.ensures

pub returns-in-Ok-Some : goal.returns-in-Ok-Some
returns-in-Ok-Some c =
    let s = (goal.at.returns-in-Ok-Some c).Start in
    let found = c.search_rows.ensures in
    let i = c.in-Ok-Some.is ∙ ap Ok c.in-Ok-Some.field-0-is in
    put_done (state s) (call s) (own_checks (state s) s.args.key.now) _ s.args.out.now (Found s.args.header.number)
    (lookup_puts (state s) s.args.key.now found i (search rules) (length s.args.out.now) c.value_at-value.ensures)
    (key-passes (state s) s.args.key.now found i) c.put_bytes-count.ensures c.written.ensures
