-- `client_subscriber::plan::plan_subscriber` meets its contract: the state, the frames, and then what the message is.
-- Assumes nothing.
use native.Mathlib.Omega.{arith}
use mathlib.Core.Path.{◌≡◌, sym, ap, ◌∙◌}
use Rattle.std.proofs.lemmas.Result.{err_from_is_err_and}
use Rattle.std.specs.Prelude.{Ok}
use Rattle.answers.proofs.VerdictLaws.{accepted, refused}
use Rattle.base.specs.Bytes.{Bytes}
use Rattle.base.specs.Checks.{first_refusal}
use Rattle.client_effects.proofs.CallLaws.{plan_ill}
use Rattle.client_ports.proofs.ReadLaws.{published_not, published-beat, published-update}
use Rattle.client_ports.specs.Readings.{published_of}
use Rattle.client_state.proofs.FormLaws.{good_client}
use Rattle.client_state.specs.IllFormed.{ill_forms, WellFormed}
use Rattle.client_state.specs.Views.{lent}
use Rattle.client_state.specs.declared.Client.{Client}
use Rattle.client_subscriber.proofs.SubscriberLaws.{subscriber-sends, published_is, stops, hears, updates}
use Rattle.client_subscriber.specs.Plans.{subscriber_plan}
use Rattle.messages.specs.Fields.{fields_of}
use Rattle.ports.proofs.PortLaws.{body_is}
use Rattle.ports.specs.Ports.{subscriber_port}
use Rattle.client_subscriber.proofs.plan.plan_subscriber.Goals as goal
use Rattle.client_subscriber.proofs.plan.plan_subscriber.Goals.{After-read_published, In_ok-check_state, Start}

abbrev state : (c : Start) → Client
state s = lent s.args.bytes.now s.args.lengths.now s.args.subtree.now s.args.header

abbrev message : (c : Start) → Bytes
message s = s.args.msg.now

well : (c : In_ok-check_state) → WellFormed (state ((goal.at.In_ok-check_state c).Start))
well c = accepted (first_refusal (ill_forms (state ((goal.at.In_ok-check_state c).Start)))) (sym c.in_ok-check_state.was ∙ c.check_state.ensures)

-- what is read of the message
read : (c : After-read_published) → c.read_published.result ≡ published_of (fields_of (message ((goal.at.After-read_published c).Start))) (first_refusal (subscriber_port (message ((goal.at.After-read_published c).Start))))
read c = published_is (message ((goal.at.After-read_published c).Start)) c.args.split c.requires c.read_published.ensures

pub plan_kvpub-requires : goal.plan_kvpub-requires
plan_kvpub-requires c = (good_client (state ((goal.at.plan_kvpub-requires c).Start)) (well ((goal.at.plan_kvpub-requires c).In_ok-check_state))).rows

pub returns-in_err-check_state : goal.returns-in_err-check_state
unfolding subscriber_plan
returns-in_err-check_state c =
    let s = (goal.at.returns-in_err-check_state c).Start in
    let p = err_from_is_err_and c.from_residual.result c.from_residual.ensures.1 in
    rw (p.1, p.2) (plan_ill (subscriber-sends (state s) (message s) s.args.tick.0) (refused _ _ (sym c.in_err-check_state.was ∙ c.check_state.ensures)))

pub returns-in_err-published : goal.returns-in_err-published
unfolding subscriber_plan
returns-in_err-published c =
    let s = (goal.at.returns-in_err-published c).Start in
    let p = err_from_is_err_and c.from_residual-in_err-published.result c.from_residual-in_err-published.ensures.1 in
    let w = well ((goal.at.returns-in_err-published c).In_ok-check_state) in
    rw (p.1, p.2) (stops (state s) w (message s) s.args.tick.0 (published_not _ _ _ (sym c.in_err-published.was ∙ read ((goal.at.returns-in_err-published c).After-read_published))))

pub returns-in-Hugz : goal.returns-in-Hugz
unfolding subscriber_plan
returns-in-Hugz c =
    let s = (goal.at.returns-in-Hugz c).Start in
    let e = published-beat _ _ (sym (c.in_ok-published.was ∙ ap Ok c.in-Hugz.is) ∙ read ((goal.at.returns-in-Hugz c).After-read_published)) in
    hears (state s) (well ((goal.at.returns-in-Hugz c).In_ok-check_state)) (message s) s.args.tick.0 e.0 e.1 c.plan_hugz.ensures

pub returns-in-Kvpub : goal.returns-in-Kvpub
unfolding subscriber_plan
returns-in-Kvpub c =
    let s = (goal.at.returns-in-Kvpub c).Start in
    let e = published-update _ _ _ (sym (c.in_ok-published.was ∙ ap Ok c.in-Kvpub.is) ∙ read ((goal.at.returns-in-Kvpub c).After-read_published)) in
    updates (state s) (well ((goal.at.returns-in-Kvpub c).In_ok-check_state)) (message s) s.args.tick.0 e.0 e.1.0 e.1.1 c.subtree_in-own.ensures
    (c.body-key.ensures ∙ body_is (message s) s.args.split s.requires 0 (omega arith)) (c.body-value.ensures ∙ body_is (message s) s.args.split s.requires 4 (omega arith)) c.plan_kvpub.ensures
