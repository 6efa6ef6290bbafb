-- A Tick repeated at the same tick has nothing left to do by the 65th call: each call before takes out a row that is
-- due, of which there are at most as many as there is room for, or, where none is at first, gives the one sign of life. Assumes nothing.
use Prim.Native.Nat.{ℕ, zero, suc, ◌-◌, ◌≤◌, ◌<◌}
use native.Mathlib.Omega.{arith}
use mathlib.Core.Bool.{Bool, true, false}
use mathlib.Core.Option.{Option, none, some}
use mathlib.Core.Path.{◌≡◌, refl, sym, ap, ◌∙◌}
use lib.Dec.{leb, ltb, eqb}
use lib.ListN.{length}
use borrow.Author.Tests.{leb-true, leb-false, le-leb, le-ltb, lt-leb}
use Rattle.ports.specs.Ports.{tick_checks}
use Rattle.answers.specs.Answers.{answer}
use Rattle.answers.specs.declared.answer.Answer.{Answer}
use Rattle.answers.specs.declared.answer.Kind.TheVariants.{Refused, Nothing}
use Rattle.answers.specs.declared.refusal.Refusal.TheVariants.{Exhausted}
use Rattle.answers.specs.declared.refusal.Refusal.{Refusal}
use Rattle.base.proofs.CheckLaws.{pass_all}
use Rattle.base.specs.Bytes.{Bytes, every}
use Rattle.base.specs.Checks.{first_refusal}
use Rattle.base.specs.Output.{put}
use Rattle.keys.proofs.UnderLaws.{key-short}
use Rattle.keys.specs.Keys.{is_key}
use Rattle.numbers.specs.Sequences.{max_sequence}
use Rattle.numbers.specs.Ticks.{max_tick}
use Rattle.row_cells.specs.Sizes.{max_rows}
use Rattle.row_search.proofs.FindLaws.{keys_in_rows}
use Rattle.rows.proofs.RowLaws.{map-remove, map-length, map_keys, sorted_map, sorted_remove, rising_sorted, every-remove}
use Rattle.rows.specs.Rows.{Rows, remove_row, keys_in, Sorted, map_rows, rising}
use Rattle.server_calls.proofs.AnswerLaws.{well_refusal}
use Rattle.server_calls.proofs.LengthLaws.{expiry_bound, hugz-length}
use Rattle.server_calls.specs.Answers.{answer_for}
use Rattle.server_calls.specs.Calls.{tick}
use Rattle.server_calls.specs.Deeds.{Deed, expire, beat, quiet, deed_of, deed}
use Rattle.server_calls.specs.Next.{tick_next, accepted_next, next_of}
use Rattle.server_calls.specs.Output.{tick_bytes, accepted_bytes, bytes_for}
use Rattle.server_calls.specs.Promises.{Answered}
use Rattle.server_calls.specs.Refusals.{expiry, deed_checks, call_checks}
use Rattle.server_calls.specs.Repeats.QuietBy.{quietens, stops}
use Rattle.server_calls.specs.Repeats.SilentBy.{silent, spent}
use Rattle.server_calls.specs.Repeats.{tick_step, ticked, QuietBy, Ticking, SilentBy}
use Rattle.server_calls.proofs.DueLaws.{due_count, count_due, count_length, count_none, count_some, due_key}
use Rattle.server_state.proofs.FormLaws.{good_server}
use Rattle.server_state.proofs.StateLaws.{as_many, row_count}
use Rattle.server_calls.specs.Due.{least_due}
use Rattle.server_state.specs.IllFormed.{WellFormed}
use Rattle.server_state.specs.Views.{Held, Entry, Ledger, plain, ledger_of, view, key_list, entry_list}
use Rattle.server_state.specs.declared.Server.{Server}

-- ---- one Tick
-- what the refusals read of the rows
abbrev pub held_in : Ledger Entry → Rows Held
held_in v = map_rows plain v.rows

-- a ledger without a row that expired, and one after a sign of life
abbrev without : ℕ → Ledger Entry → Bytes → Ledger Entry
without t v key = record { number = suc v.number; last_tick = t; last_published = t; rows = remove_row key v.rows }

abbrev alive : ℕ → Ledger Entry → Ledger Entry
alive t v = record { number = v.number; last_tick = t; last_published = t; rows = v.rows }

module _ (t room : ℕ) (late : t ≤ max_tick) (enough : 114 ≤ room) where
  tick-passes : (last : ℕ) → last ≤ t → first_refusal (tick_checks last t) ≡ none
  unfolding first_refusal
  tick-passes last h = rw (le-leb t max_tick late, le-ltb t last h)

  -- the tick being good, the deed decides
  decided : (b : Ledger Held) (d : Deed) → b.last_tick ≤ t → deed b t ≡ d → first_refusal (call_checks b (tick t room)) ≡ first_refusal (deed_checks b.number d room)
  unfolding call_checks
  decided b d h e =
      pass_all (tick_checks b.last_tick t) (deed_checks b.number (deed b t) room) (tick-passes b.last_tick h)
      ∙ ap (λ (x : Deed). first_refusal (deed_checks b.number x room)) e

  -- one call more
  later : {n : ℕ} {v : Ledger Entry} → QuietBy n t room (tick_step t room v) → QuietBy (suc n) t room v
  unfolding ticked
  later (quietens k h a d) = quietens (suc k) (omega arith) a d
  later (stops k h a) = stops (suc k) (omega arith) a

  module _ (v : Ledger Entry) (h : v.last_tick ≤ t) where
    outcome : (d : Deed) → deed (ledger_of v) t ≡ d → first_refusal (call_checks (ledger_of v) (tick t room)) ≡ first_refusal (deed_checks v.number d room)
    unfolding ledger_of
    outcome d e = decided (ledger_of v) d h e

    stepped : (d : Deed) → deed (ledger_of v) t ≡ d → first_refusal (deed_checks v.number d room) ≡ none → tick_step t room v ≡ tick_next v d t
    unfolding tick_step accepted_next
    stepped d e f = rw (outcome d e ∙ f, e)

    deed_is : (x : Option (Bytes × ℕ)) → least_due t (held_in v) ≡ x → deed (ledger_of v) t ≡ deed_of t v.last_published x
    unfolding deed ledger_of
    deed_is x e = ap (deed_of t v.last_published) e

    -- no row is due, and something was published of late: quiet
    rests : (n : ℕ) → least_due t (held_in v) ≡ none → t - v.last_published < 1000 → QuietBy n t room v
    unfolding ticked first_refusal
    rests n e p =
        let d : deed (ledger_of v) t ≡ quiet = deed_is none e ∙ rw (lt-leb 1000 (t - v.last_published) p) in
        quietens 0 (omega arith) (outcome quiet d) d

    -- no row is due, and nothing was published of late: a sign of life
    beats : {n : ℕ} → least_due t (held_in v) ≡ none → 1000 ≤ t - v.last_published → QuietBy n t room (alive t v) → QuietBy (suc n) t room v
    unfolding first_refusal tick_next
    beats e p q =
        let d : deed (ledger_of v) t ≡ beat = deed_is none e ∙ rw (le-leb 1000 (t - v.last_published) p) in
        let f : first_refusal (deed_checks v.number beat room) ≡ none = rw (hugz-length, le-ltb room 22 (omega arith)) in
        later (rw (stepped beat d f) q)

    -- a row is due: it goes, or there is no number for that
    expires : {n : ℕ} (b : Bytes × ℕ) → least_due t (held_in v) ≡ some b → is_key b.0 ≡ true → QuietBy n t room (without t v b.0) → QuietBy (suc n) t room v
    unfolding first_refusal tick_next ticked
    expires {n} b e k q = go (eqb v.number max_sequence) refl
      where
        d : deed (ledger_of v) t ≡ expire b.0
        d = deed_is (some b) e

        short : ltb room (length (expiry (suc v.number) b.0)) ≡ false
        short = le-ltb room (length (expiry (suc v.number) b.0)) (omega (arith, expiry_bound (suc v.number) b.0 (key-short b.0 k)))

        go : (x : Bool) → eqb v.number max_sequence ≡ x → QuietBy (suc n) t room v
        go true f = stops 0 (omega arith) (outcome (expire b.0) d ∙ rw f)
        go false f = later (rw (stepped (expire b.0) d (rw (f, short))) q)

  -- ---- Tick after Tick
  -- at most n rows are due, and where none is, something was published of late
  drain : (n : ℕ) (v : Ledger Entry) → Sorted v.rows → every is_key (keys_in v.rows) ≡ true → v.last_tick ≤ t → due_count t (held_in v) ≤ n
      → (due_count t (held_in v) ≡ 0 → t - v.last_published < 1000) → QuietBy n t room v
  drain zero v s k h c p = go (least_due t (held_in v)) refl
    where
      go : (x : Option (Bytes × ℕ)) → least_due t (held_in v) ≡ x → QuietBy zero t room v
      go none e = rests v h zero e (p (count_none t (held_in v) e))
      go (some b) e = absurd (omega (arith, count_some t (held_in v) b e))
  drain (suc n) v s k h c p = go (least_due t (held_in v)) refl (λ w. drain n w)
    where
      go : (x : Option (Bytes × ℕ)) → least_due t (held_in v) ≡ x
          → ((w : Ledger Entry) → Sorted w.rows → every is_key (keys_in w.rows) ≡ true → w.last_tick ≤ t → due_count t (held_in w) ≤ n
          → (due_count t (held_in w) ≡ 0 → t - w.last_published < 1000) → QuietBy n t room w)
          → QuietBy (suc n) t room v
      go none e ih = rests v h (suc n) e (p (count_none t (held_in v) e))
      go (some b) e ih =
          let held = sorted_map plain v.rows s in
          let key = due_key is_key t (held_in v) b (ap (every is_key) (map_keys plain v.rows) ∙ k) e in
          let fewer = count_due t (held_in v) b.0 b.1 held e in
          let same = ap (due_count t) (map-remove plain b.0 v.rows) in
          expires v h b e key
          (ih (without t v b.0) (sorted_remove b.0 v.rows s) (every-remove is_key b.0 v.rows k) (omega arith) (omega arith) (λ z. omega arith))

  quiet_by : (v : Ledger Entry) → Sorted v.rows → length v.rows ≤ max_rows → every is_key (keys_in v.rows) ≡ true → v.last_tick ≤ t
      → QuietBy max_rows t room v
  quiet_by v s l k h = go (least_due t (held_in v)) refl (leb 1000 (t - v.last_published)) refl
    where
      few : due_count t (held_in v) ≤ max_rows
      few = omega (arith, count_length t (held_in v), map-length plain v.rows)

      go : (x : Option (Bytes × ℕ)) → least_due t (held_in v) ≡ x → (y : Bool) → leb 1000 (t - v.last_published) ≡ y → QuietBy max_rows t room v
      go (some b) e y f = drain max_rows v s k h few (λ z. absurd (omega (arith, count_some t (held_in v) b e)))
      go none e true f =
          let c = count_none t (held_in v) e in
          beats v h e (leb-true 1000 (t - v.last_published) f) (drain (max_rows - 1) (alive t v) s k (omega arith) (omega arith) (λ z. omega arith))
      go none e false f = rests v h max_rows e (leb-false 1000 (t - v.last_published) f)

-- ---- the call after as many as there may be rows
pub quiet_after_all : (v : Ledger Entry) (t room : ℕ) → Sorted v.rows → length v.rows ≤ max_rows → every is_key (keys_in v.rows) ≡ true
    → v.last_tick ≤ t → t ≤ max_tick → 114 ≤ room → QuietBy max_rows t room v
quiet_after_all v t room s l k h late enough = quiet_by t room late enough v s l k h

-- ---- the same from a well-formed state
module _ (s : Server) (w : WellFormed s) where
  few-rows : s.header.count ≤ max_rows
  few-rows = (good_server s w).rows.few

  keys_held : keys_in (view s).rows ≡ key_list s
  unfolding view
  keys_held = keys_in_rows (key_list s) (entry_list s) (as_many s)

  rows_few : length (view s).rows ≤ max_rows
  unfolding view
  rows_few = omega (arith, few-rows, row_count s)

  pub state_quiet : (t room : ℕ) → s.header.last_tick.0 ≤ t → t ≤ max_tick → 114 ≤ room → QuietBy max_rows t room (view s)
  unfolding view
  state_quiet t room h late enough =
      let g = good_server s w in
      quiet_after_all (view s) t room (rising_sorted (view s).rows (ap rising keys_held ∙ g.rows.rise)) rows_few (ap (every is_key) keys_held ∙ g.rows.are_keys) h late enough

-- ---- the calls on a server
-- one Tick more, at the end
ticked-more : (k t room : ℕ) (v : Ledger Entry) → ticked (suc k) t room v ≡ tick_step t room (ticked k t room v)
unfolding ticked
ticked-more zero t room v = refl
ticked-more (suc k) t room v = ticked-more k t room (tick_step t room v)

module _ (s : Server) (t room : ℕ) (w : WellFormed s) where
  pub next_is_step : next_of s (tick t room) ≡ tick_step t room (view s)
  unfolding next_of tick_step
  next_is_step = rw (well_refusal s (tick t room) w)

  module _ (out : Bytes) (s' : Server) (given : Answer) (out' : Bytes) (a : Answered s (tick t room) out s' given out') where
    abbrev verdict-on : Option Refusal
    verdict-on = first_refusal (call_checks (ledger_of (view s)) (tick t room))

    -- a call that has nothing to do answers Nothing and leaves the output
    pub quiet_answer : verdict-on ≡ none → deed (ledger_of (view s)) t ≡ quiet → given ≡ answer (Nothing s.header.number) 0
    unfolding answer_for accepted_bytes tick_bytes view
    quiet_answer e d = a.answer ∙ rw (well_refusal s (tick t room) w ∙ e, d)

    pub quiet_output : verdict-on ≡ none → deed (ledger_of (view s)) t ≡ quiet → out' ≡ out
    unfolding bytes_for accepted_bytes tick_bytes put
    quiet_output e d = a.output ∙ rw (well_refusal s (tick t room) w ∙ e, d)

    pub spent-answer : verdict-on ≡ some Exhausted → given ≡ answer (Refused Exhausted s.header.number) 0
    unfolding answer_for
    spent-answer e = a.answer ∙ rw (well_refusal s (tick t room) w ∙ e)

-- of Ticks one after another the 65th at the latest answers Nothing, unless one before is refused for want of a number
module _ {t room : ℕ} {state : ℕ → Server} {out : ℕ → Bytes} {given : ℕ → Answer} {out' : ℕ → Bytes} (c : Ticking t room state out given out')
    (w : WellFormed (state 0)) where
  stays : (k : ℕ) → WellFormed (state k)
  stays zero = w
  stays (suc k) = (c.each k).well_formed (stays k)

  ledger_at : (k : ℕ) → view (state k) ≡ ticked k t room (view (state 0))
  unfolding ticked
  ledger_at zero = refl
  ledger_at (suc k) =
      (c.each k).means ∙ next_is_step (state k) t room (stays k)
      ∙ ap (tick_step t room) (ledger_at k) ∙ sym (ticked-more k t room (view (state 0)))

  pub silent_by : (most : ℕ) → QuietBy most t room (view (state 0)) → SilentBy most state out given out'
  silent_by most (quietens k h a d) =
      let e = rw (← ledger_at k) at a in
      let f = rw (← ledger_at k) at d in
      silent k h (quiet_answer (state k) t room (stays k) (out k) (state (suc k)) (given k) (out' k) (c.each k) e f)
      (quiet_output (state k) t room (stays k) (out k) (state (suc k)) (given k) (out' k) (c.each k) e f)
  silent_by most (stops k h a) =
      spent k h (spent-answer (state k) t room (stays k) (out k) (state (suc k)) (given k) (out' k) (c.each k) (rw (← ledger_at k) at a))

  pub silent-after_all : (state 0).header.last_tick.0 ≤ t → t ≤ max_tick → 114 ≤ room → SilentBy max_rows state out given out'
  silent-after_all h late enough = silent_by max_rows (state_quiet (state 0) w t room h late enough)
