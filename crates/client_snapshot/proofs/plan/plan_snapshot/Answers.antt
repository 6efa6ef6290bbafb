-- `client_snapshot::plan::plan_snapshot` meets its contract: the state, the frames, and then what the message is.
-- Assumes nothing.
use native.Mathlib.Omega.{arith}
use mathlib.Core.Bool.{not}
use mathlib.Core.Path.{◌≡◌, sym, ap, ◌∙◌}
use Rattle.std.proofs.lemmas.Result.{err_from_is_err_and}
use Rattle.std.specs.Prelude.{Ok}
use Rattle.answers.proofs.VerdictLaws.{accepted, refused}
use Rattle.base.specs.Bytes.{Bytes}
use Rattle.base.specs.Checks.{first_refusal}
use Rattle.client_effects.proofs.CallLaws.{plan_ill, plan_stopped, plan_passed}
use Rattle.client_ports.proofs.ReadLaws.{sent_not, sent_end, sent_row}
use Rattle.client_ports.specs.Readings.{sent_of}
use Rattle.client_snapshot.proofs.SnapshotLaws.{snapshot-sends, sent_is, ends, syncs}
use Rattle.client_snapshot.specs.Plans.{snapshot_plan}
use Rattle.client_state.proofs.FormLaws.{good_client}
use Rattle.client_state.specs.IllFormed.{ill_forms, WellFormed}
use Rattle.client_state.specs.Views.{lent, is_waiting, subtree_of, key_list}
use Rattle.client_state.specs.declared.Client.{Client}
use Rattle.messages.specs.Fields.{fields_of}
use Rattle.ports.proofs.PortLaws.{body_is}
use Rattle.ports.specs.Ports.{snapshot_port}
use Rattle.client_snapshot.proofs.plan.plan_snapshot.Goals as goal
use Rattle.client_snapshot.proofs.plan.plan_snapshot.Goals.{After-read_sent, In_ok-check_state, Start}

abbrev state : (c : Start) → Client
state s = lent s.args.bytes.now s.args.lengths.now s.args.subtree.now s.args.header

abbrev message : (c : Start) → Bytes
message s = s.args.msg.now

well : (c : In_ok-check_state) → WellFormed (state ((goal.at.In_ok-check_state c).Start))
well c = accepted (first_refusal (ill_forms (state ((goal.at.In_ok-check_state c).Start)))) (sym c.in_ok-check_state.was ∙ c.check_state.ensures)

-- what is read of the message
read : (c : After-read_sent) → c.read_sent.result ≡ sent_of (fields_of (message ((goal.at.After-read_sent c).Start))) (first_refusal (snapshot_port (subtree_of (state ((goal.at.After-read_sent c).Start))) (message ((goal.at.After-read_sent c).Start))))
read c = sent_is (message ((goal.at.After-read_sent c).Start)) c.args.split c.requires c.subtree_in-own.ensures c.read_sent.ensures

pub plan_kvsync-requires : goal.plan_kvsync-requires
plan_kvsync-requires c = (good_client (state ((goal.at.plan_kvsync-requires c).Start)) (well ((goal.at.plan_kvsync-requires c).In_ok-check_state))).rows

pub returns-in_err-check_state : goal.returns-in_err-check_state
unfolding snapshot_plan
returns-in_err-check_state c =
    let s = (goal.at.returns-in_err-check_state c).Start in
    let p = err_from_is_err_and c.from_residual.result c.from_residual.ensures.1 in
    rw (p.1, p.2) (plan_ill (snapshot-sends (state s) (message s)) (refused _ _ (sym c.in_err-check_state.was ∙ c.check_state.ensures)))

pub returns-in_err-sent : goal.returns-in_err-sent
unfolding snapshot_plan
returns-in_err-sent c =
    let s = (goal.at.returns-in_err-sent c).Start in
    let p = err_from_is_err_and c.from_residual-in_err-sent.result c.from_residual-in_err-sent.ensures.1 in
    let w = well ((goal.at.returns-in_err-sent c).In_ok-check_state) in
    rw (p.1, p.2) (plan_stopped (snapshot-sends (state s) (message s)) w (sent_not _ _ _ (sym c.in_err-sent.was ∙ read ((goal.at.returns-in_err-sent c).After-read_sent))))

pub returns-in-Kthxbai : goal.returns-in-Kthxbai
unfolding snapshot_plan
returns-in-Kthxbai c =
    let s = (goal.at.returns-in-Kthxbai c).Start in
    let m = snapshot-sends (state s) (message s) in
    let e = sent_end _ _ _ (sym (c.in_ok-sent.was ∙ ap Ok c.in-Kthxbai.is) ∙ read ((goal.at.returns-in-Kthxbai c).After-read_sent)) in
    plan_passed m (well ((goal.at.returns-in-Kthxbai c).In_ok-check_state)) e.0 (ends (key_list (state s)) s.args.header (fields_of (message s)) (not (is_waiting s.args.header.phase)) e.1.0 e.1.1 c.plan_kthxbai.ensures)

pub returns-in-Kvsync : goal.returns-in-Kvsync
unfolding snapshot_plan
returns-in-Kvsync c =
    let s = (goal.at.returns-in-Kvsync c).Start in
    let m = snapshot-sends (state s) (message s) in
    let e = sent_row _ _ (sym (c.in_ok-sent.was ∙ ap Ok c.in-Kvsync.is) ∙ read ((goal.at.returns-in-Kvsync c).After-read_sent)) in
    plan_passed m (well ((goal.at.returns-in-Kvsync c).In_ok-check_state)) e.0
    (syncs (key_list (state s)) s.args.header (fields_of (message s)) (not (is_waiting s.args.header.phase)) e.1 (c.body-key.ensures ∙ body_is (message s) s.args.split s.requires 0 (omega arith)) c.plan_kvsync.ensures)
