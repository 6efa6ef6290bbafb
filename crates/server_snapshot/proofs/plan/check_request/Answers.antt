-- `server_snapshot::plan::check_request` meets its contract: the state, the frames, and then the output. Assumes nothing.
use Prim.Native.Nat.{ℕ}
use mathlib.Core.List.{List, ◌++◌}
use mathlib.Core.Option.{none}
use mathlib.Core.Path.{◌≡◌, sym, ap, ◌∙◌}
use Rattle.std.proofs.lemmas.Result.{err_from_is_err_and}
use Rattle.answers.proofs.VerdictLaws.{accepted, refused, past_refused}
use Rattle.answers.specs.Refusals.{verdict}
use Rattle.answers.specs.declared.refusal.Refusal.{Refusal}
use Rattle.base.proofs.CheckLaws.{both_passed, stop-second, reach_third}
use Rattle.base.specs.Bytes.{Bytes}
use Rattle.base.specs.Checks.{Check, first_refusal}
use Rattle.framing.specs.Splits.{body_in}
use Rattle.ports.proofs.SizeLaws.{request-short}
use Rattle.ports.specs.Bodies.{framed_by, icanhaz_by}
use Rattle.ports.specs.Ports.{icanhaz_checks}
use Rattle.server_calls.specs.Refusals.{room_checks}
use Rattle.server_snapshot.specs.Requests.{length_rows, request_checks}
use Rattle.server_state.proofs.FormLaws.{good_server}
use Rattle.server_state.specs.IllFormed.{ill_forms}
use Rattle.server_state.specs.Views.{lent}
use Rattle.server_state.specs.declared.Server.{Server}
use Rattle.server_snapshot.proofs.plan.check_request.Goals as goal
use Rattle.server_snapshot.proofs.plan.check_request.Goals.{In_ok-check_state, In_ok-check_icanhaz, Start}

abbrev server : (c : Start) → Server
server s = lent s.args.bytes.now s.args.lengths.now s.args.stamps.now s.args.header

abbrev state : (c : Start) → List (Check Refusal)
state s = ill_forms (server s)

abbrev port : (c : Start) → List (Check Refusal)
port s = icanhaz_by s.args.msg.now s.args.split

abbrev body : (c : Start) → ℕ → Bytes
body s k = body_in s.args.msg.now s.args.split.places k

abbrev room : (c : Start) → List (Check Refusal)
room s = room_checks (length_rows s.args.header.count s.args.bytes.now s.args.lengths.now) (body s 0) (body s 2) s.args.room

well : (c : In_ok-check_state) → first_refusal (state ((goal.at.In_ok-check_state c).Start)) ≡ none
well c = accepted _ (sym c.in_ok-check_state.was ∙ c.check_state.ensures)

taken : (c : In_ok-check_icanhaz) → first_refusal (port ((goal.at.In_ok-check_icanhaz c).Start)) ≡ none
taken c = accepted _ (sym c.in_ok-check_icanhaz.was ∙ c.check_icanhaz.ensures)

pub check_room-requires : goal.check_room-requires
check_room-requires c =
    let s = (goal.at.check_room-requires c).Start in
    let f = both_passed (framed_by 3 s.args.split.framing) (icanhaz_checks (body s 0) (body s 1) (body s 2)) (taken ((goal.at.check_room-requires c).In_ok-check_icanhaz)) in
    ((good_server (server s) (well ((goal.at.check_room-requires c).In_ok-check_state))).rows, request-short (body s 0) (body s 1) (body s 2) f.1)

pub returns-in_err-check_state : goal.returns-in_err-check_state
unfolding request_checks
returns-in_err-check_state c =
    let s = (goal.at.returns-in_err-check_state c).Start in
    let p = err_from_is_err_and c.from_residual.result c.from_residual.ensures.1 in
    rw (p.1, p.2) (past_refused verdict (state s) (port s ++ room s) _ (sym c.in_err-check_state.was ∙ c.check_state.ensures))

pub returns-in_err-check_icanhaz : goal.returns-in_err-check_icanhaz
unfolding request_checks
returns-in_err-check_icanhaz c =
    let s = (goal.at.returns-in_err-check_icanhaz c).Start in
    let p = err_from_is_err_and c.from_residual-in_err-check_icanhaz.result c.from_residual-in_err-check_icanhaz.ensures.1 in
    let stopped = refused _ (first_refusal (port s)) (sym c.in_err-check_icanhaz.was ∙ c.check_icanhaz.ensures) in
    rw (p.1, p.2) (sym (ap verdict (stop-second (state s) (port s) (room s) (well ((goal.at.returns-in_err-check_icanhaz c).In_ok-check_state)) _ stopped)))

pub returns : goal.returns
unfolding request_checks
returns c =
    let s = (goal.at.returns c).Start in
    c.check_room.ensures ∙ sym (ap verdict (reach_third (state s) (port s) (room s) (well ((goal.at.returns c).In_ok-check_state)) (taken ((goal.at.returns c).In_ok-check_icanhaz))))
