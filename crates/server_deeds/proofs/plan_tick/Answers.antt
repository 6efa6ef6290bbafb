-- `server_deeds::plan_tick` meets its contract: the state, the tick, and then what there is to do. Assumes nothing.
use mathlib.Core.List.{List, ◌++◌}
use mathlib.Core.Option.{Option, none}
use mathlib.Core.Path.{◌≡◌, sym, ap, ◌∙◌}
use Rattle.std.proofs.lemmas.Result.{err_from_is_err_and}
use Rattle.std.specs.Prelude.{Result}
use Rattle.answers.proofs.VerdictLaws.{accepted, refused, past_refused}
use Rattle.answers.specs.declared.refusal.Refusal.{Refusal}
use Rattle.base.proofs.CheckLaws.{stop-second, reach_third}
use Rattle.base.specs.Checks.{Check, first_refusal}
use Rattle.ports.specs.Ports.{tick_checks}
use Rattle.server_calls.specs.Refusals.{deed_checks}
use Rattle.server_state.proofs.FormLaws.{good_server}
use Rattle.server_state.specs.IllFormed.{ill_forms}
use Rattle.server_state.specs.Views.{lent}
use Rattle.server_state.specs.declared.Server.{Server}
use Rattle.server_deeds.specs.Plans.{or_refuse, deed_at, plan_at, due_in, tick_plan}
use Rattle.server_deeds.specs.declared.Plan.{Plan}
use Rattle.server_deeds.proofs.plan_tick.Goals as goal
use Rattle.server_deeds.proofs.plan_tick.Goals.{In_ok-check_state, In_ok-check_tick, Start}

abbrev server : (c : Start) → Server
server s = lent s.args.bytes.now s.args.lengths.now s.args.stamps.now s.args.header

abbrev state : (c : Start) → List (Check Refusal)
state s = ill_forms (server s)

abbrev time : (c : Start) → List (Check Refusal)
time s = tick_checks s.args.header.last_tick.0 s.args.tick.0

abbrev deeds : (c : Start) → List (Check Refusal)
deeds s = deed_checks s.args.header.number.0 (deed_at (server s) s.args.tick.0 (due_in (server s) s.args.tick.0)) s.args.room

-- what a first refusal, or none, comes to
abbrev plan : (c : Start) → Option Refusal → Result Plan Refusal
plan s x = or_refuse x (plan_at (server s) s.args.tick.0 (due_in (server s) s.args.tick.0))

good-state : (c : In_ok-check_state) → first_refusal (state ((goal.at.In_ok-check_state c).Start)) ≡ none
good-state c = accepted _ (sym c.in_ok-check_state.was ∙ c.check_state.ensures)

good-time : (c : In_ok-check_tick) → first_refusal (time ((goal.at.In_ok-check_tick c).Start)) ≡ none
good-time c = accepted _ (sym c.in_ok-check_tick.was ∙ c.check_tick.ensures)

pub plan_deed-requires : goal.plan_deed-requires
plan_deed-requires c =
    let g = good_server (server ((goal.at.plan_deed-requires c).Start)) (good-state ((goal.at.plan_deed-requires c).In_ok-check_state)) in
    (g.rows, g.number)

pub returns-in_err-check_state : goal.returns-in_err-check_state
unfolding tick_plan
returns-in_err-check_state c =
    let s = (goal.at.returns-in_err-check_state c).Start in
    let p = err_from_is_err_and c.from_residual.result c.from_residual.ensures.1 in
    rw (p.1, p.2) (past_refused (plan s) (state s) (time s ++ deeds s) _ (sym c.in_err-check_state.was ∙ c.check_state.ensures))

pub returns-in_err-check_tick : goal.returns-in_err-check_tick
unfolding tick_plan
returns-in_err-check_tick c =
    let s = (goal.at.returns-in_err-check_tick c).Start in
    let p = err_from_is_err_and c.from_residual-in_err-check_tick.result c.from_residual-in_err-check_tick.ensures.1 in
    let stopped = refused _ (first_refusal (time s)) (sym c.in_err-check_tick.was ∙ c.check_tick.ensures) in
    rw (p.1, p.2) (sym (ap (plan s) (stop-second (state s) (time s) (deeds s) (good-state ((goal.at.returns-in_err-check_tick c).In_ok-check_state)) _ stopped)))

pub returns : goal.returns
unfolding tick_plan
returns c =
    let s = (goal.at.returns c).Start in
    c.plan_deed.ensures ∙ sym (ap (plan s) (reach_third (state s) (time s) (deeds s) (good-state ((goal.at.returns c).In_ok-check_state)) (good-time ((goal.at.returns c).In_ok-check_tick))))
