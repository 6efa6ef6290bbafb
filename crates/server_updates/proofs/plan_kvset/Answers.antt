-- `server_updates::plan_kvset` meets its contract: the state, the frames, the tick, and then the update. Assumes
-- nothing.
use mathlib.Core.List.{List, ◌++◌}
use mathlib.Core.Option.{Option, none}
use mathlib.Core.Path.{◌≡◌, sym, ap, ◌∙◌}
use borrow.Author.Tests.{leb-true, not-false}
use Rattle.std.proofs.lemmas.Result.{err_from_is_err_and}
use Rattle.std.specs.Prelude.{Result}
use Rattle.answers.proofs.VerdictLaws.{accepted, past_refused}
use Rattle.answers.specs.declared.refusal.Refusal.{Refusal}
use Rattle.base.proofs.CheckLaws.{passed, pass_all, both_passed, stop-second, reach_third}
use Rattle.base.specs.Checks.{Check, first_refusal}
use Rattle.messages.specs.Fields.{Fields}
use Rattle.numbers.specs.Ticks.{max_tick}
use Rattle.ports.proofs.PortLaws.{update-refused, update-lasting}
use Rattle.ports.specs.Bodies.{framed_by, fields_at, kvset_by, lifetime_in}
use Rattle.ports.specs.Ports.{kvset_checks, tick_checks}
use Rattle.properties.specs.Properties.{properties_of}
use Rattle.server_updates.proofs.PlanLaws.{lifetime_most}
use Rattle.server_updates.specs.Plans.{store_plan, update_table, kvset_plan}
use Rattle.server_updates.specs.declared.Plan.{Plan}
use Rattle.server_state.proofs.FormLaws.{good_server}
use Rattle.server_state.specs.IllFormed.{ill_forms}
use Rattle.server_state.specs.Views.{lent, key_list}
use Rattle.server_state.specs.declared.Server.{Server}
use Rattle.server_updates.proofs.plan_kvset.Goals as goal
use Rattle.server_updates.proofs.plan_kvset.Goals.{In_ok-check_state, In_ok-check_tick, In_ok-lifetime, Start}

abbrev server : (c : Start) → Server
server s = lent s.args.bytes.now s.args.lengths.now s.args.stamps.now s.args.header

-- ---- the tables of checks
abbrev state : (c : Start) → List (Check Refusal)
state s = ill_forms (server s)

abbrev frames : (c : Start) → List (Check Refusal)
frames s = kvset_by s.args.msg.now s.args.split

abbrev time : (c : Start) → List (Check Refusal)
time s = tick_checks s.args.header.last_tick.0 s.args.tick.0

abbrev fields : (c : Start) → Fields
fields s = fields_at s.args.msg.now s.args.split.places

abbrev update : (c : Start) → List (Check Refusal)
update s = update_table (key_list (server s)) s.args.header (fields s) s.args.room

-- what a first refusal, or none, comes to
abbrev plan : (c : Start) → Option Refusal → Result Plan Refusal
plan s x = store_plan x (key_list (server s)) s.args.header (fields s) s.args.tick.0 (lifetime_in (properties_of (fields s).properties))

-- ---- what passed
good-state : (c : In_ok-check_state) → first_refusal (state ((goal.at.In_ok-check_state c).Start)) ≡ none
good-state c = accepted _ (sym c.in_ok-check_state.was ∙ c.check_state.ensures)

good-frames : (c : In_ok-lifetime) → (first_refusal (frames ((goal.at.In_ok-lifetime c).Start)) ≡ none) × (c.in_ok-lifetime.lifetime ≡ lifetime_in (properties_of (fields ((goal.at.In_ok-lifetime c).Start)).properties))
good-frames c = update-lasting _ _ _ (sym c.in_ok-lifetime.was ∙ c.read_kvset.ensures)

good-time : (c : In_ok-check_tick) → first_refusal (time ((goal.at.In_ok-check_tick c).Start)) ≡ none
good-time c = accepted _ (sym c.in_ok-check_tick.was ∙ c.check_tick.ensures)

pub plan_update-requires : goal.plan_update-requires
plan_update-requires c =
    let s = (goal.at.plan_update-requires c).Start in
    let g = good_server (server s) (good-state ((goal.at.plan_update-requires c).In_ok-check_state)) in
    let lasts = good-frames ((goal.at.plan_update-requires c).In_ok-lifetime) in
    record {
      rows = g.rows;
      number = g.number;
      frames = (both_passed (framed_by 5 s.args.split.framing) (kvset_checks (fields s)) lasts.0).1;
      time = leb-true s.args.tick.0 max_tick (not-false _ (passed 0 (time s) (good-time ((goal.at.plan_update-requires c).In_ok-check_tick))));
      short = rw lasts.1 (lifetime_most (fields s).properties);
    }

pub returns-in_err-check_state : goal.returns-in_err-check_state
unfolding kvset_plan
returns-in_err-check_state c =
    let s = (goal.at.returns-in_err-check_state c).Start in
    let p = err_from_is_err_and c.from_residual.result c.from_residual.ensures.1 in
    rw (p.1, p.2) (past_refused (plan s) (state s) (frames s ++ (time s ++ update s)) _ (sym c.in_err-check_state.was ∙ c.check_state.ensures))

pub returns-in_err-lifetime : goal.returns-in_err-lifetime
unfolding kvset_plan
returns-in_err-lifetime c =
    let s = (goal.at.returns-in_err-lifetime c).Start in
    let p = err_from_is_err_and c.from_residual-in_err-lifetime.result c.from_residual-in_err-lifetime.ensures.1 in
    let stopped = update-refused (fields s).properties (first_refusal (frames s)) _ (sym c.in_err-lifetime.was ∙ c.read_kvset.ensures) in
    rw (p.1, p.2) (sym (ap (plan s) (stop-second (state s) (frames s) (time s ++ update s) (good-state ((goal.at.returns-in_err-lifetime c).In_ok-check_state)) _ stopped)))

pub returns-in_err-check_tick : goal.returns-in_err-check_tick
unfolding kvset_plan
returns-in_err-check_tick c =
    let s = (goal.at.returns-in_err-check_tick c).Start in
    let p = err_from_is_err_and c.from_residual-in_err-check_tick.result c.from_residual-in_err-check_tick.ensures.1 in
    let reached = reach_third (state s) (frames s) (time s ++ update s) (good-state ((goal.at.returns-in_err-check_tick c).In_ok-check_state)) (good-frames ((goal.at.returns-in_err-check_tick c).In_ok-lifetime)).0 in
    rw (p.1, p.2) (past_refused (plan s) (time s) (update s) _ (sym c.in_err-check_tick.was ∙ c.check_tick.ensures) ∙ sym (ap (plan s) reached))

pub returns : goal.returns
unfolding kvset_plan
returns c =
    let s = (goal.at.returns c).Start in
    let lasts = good-frames ((goal.at.returns c).In_ok-lifetime) in
    c.plan_update.ensures
    ∙ ap (store_plan (first_refusal (update s)) (key_list (server s)) s.args.header (fields s) s.args.tick.0) lasts.1
    ∙ sym (ap (plan s) (pass_all (time s) (update s) (good-time ((goal.at.returns c).In_ok-check_tick))))
    ∙ sym (ap (plan s) (reach_third (state s) (frames s) (time s ++ update s) (good-state ((goal.at.returns c).In_ok-check_state)) lasts.0))
