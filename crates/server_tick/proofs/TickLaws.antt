-- What a Tick makes of a server: by its plan, with nothing to do, with a sign of life, and with a row that expires. The
-- state stays well-formed. Assumes nothing.
use Rattle.std.specs.Prelude
use Rattle.std.specs.Prelude.{Some, None, Result, Ok, Err}
use Prim.Native.Nat.{ℕ, suc, ◌+◌, ◌-◌, ◌≤◌, ◌<◌}
use native.Mathlib.Nat.{zero-add}
use native.Mathlib.Omega.{arith}
use mathlib.Core.Bool.{Bool, true, false, cond}
use mathlib.Core.List.{List, [], ◌++◌}
use mathlib.Core.Option.{Option, none, some}
use mathlib.Core.Path.{◌≡◌, refl, sym, ap, ◌∙◌}
use lib.Dec.{leb}
use lib.ListN.{length, get_or}
use borrow.Author.Tests.{leb-true, ltb-false, eqb-false, not-false}
use Rattle.answers.specs.Answers.{answer}
use Rattle.answers.specs.declared.answer.Answer.{Answer}
use Rattle.answers.specs.declared.answer.Kind.TheVariants.{Wrote, Nothing}
use Rattle.answers.specs.declared.refusal.Refusal.TheVariants.{BadTick}
use Rattle.answers.specs.declared.refusal.Refusal.{Refusal}
use Rattle.base.proofs.CheckLaws.{passed, both_passed}
use Rattle.base.proofs.OutputLaws.{output, place}
use Rattle.base.specs.Bytes.{Bytes}
use Rattle.base.specs.Checks.{Check, first_refusal}
use Rattle.base.specs.Output.{put, Written}
use Rattle.messages.specs.Fields.{bytes_of, hugz}
use Rattle.numbers.specs.Sequences.{sequence, max_sequence}
use Rattle.numbers.specs.Ticks.{max_tick}
use Rattle.numbers.specs.declared.tick.Tick.{Tick}
use Rattle.ports.specs.Ports.{tick_checks}
use Rattle.row_cells.proofs.TextLaws.{key_is}
use Rattle.row_cells.specs.Faults.{GoodRows}
use Rattle.row_cells.specs.Texts.{row_key, rows_of}
use Rattle.row_change.specs.Changes.{Fits}
use Rattle.row_change.specs.declared.Change.TheVariants.{Remove}
use Rattle.row_search.proofs.FindLaws.{removed_at}
use Rattle.row_search.proofs.UpdateLaws.{remove_good}
use Rattle.rows.specs.Rows.{remove_row}
use Rattle.server_calls.proofs.AnswerLaws.{accepted_call, refusal_is}
use Rattle.server_calls.specs.Answers.{tick_kind}
use Rattle.server_calls.specs.Calls.{tick}
use Rattle.server_calls.specs.Deeds.{Deed, expire, beat, quiet, deed_of, deed}
use Rattle.server_calls.specs.Next.{tick_next, accepted_next}
use Rattle.server_calls.specs.Output.{tick_bytes, accepted_bytes}
use Rattle.server_calls.specs.Promises.{Answered}
use Rattle.server_calls.specs.Refusals.{expiry, deed_checks, call_checks, refusal_of}
use Rattle.server_state.proofs.FormLaws.{GoodServer, good_server, server_good}
use Rattle.server_state.proofs.StateLaws.{Restamped, key_count, as_many, rows-changed, good_after}
use Rattle.server_state.specs.IllFormed.{ill_forms, WellFormed}
use Rattle.server_state.specs.Views.{lent, key_list, entry_list, view, ledger_of}
use Rattle.server_state.specs.declared.Header.{Header}
use Rattle.server_state.specs.declared.Server.{Server}
use Rattle.server_deeds.proofs.DuePlaceLaws.{keyed, by_place, due_row-below}
use Rattle.server_deeds.proofs.PlanLaws.{goes_on, stops_with}
use Rattle.server_deeds.specs.DuePlaces.{due_at}
use Rattle.server_deeds.specs.Plans.{expired_header, beat_header, quiet_header, or_refuse, deed_at, plan_at, due_in, tick_plan}
use Rattle.server_tick.specs.Expired.{Expired}
use Rattle.server_deeds.specs.declared.due.Due.{Due}
use Rattle.server_deeds.specs.declared.Plan.TheVariants.{Expire, Beat, Quiet}
use Rattle.server_deeds.specs.declared.Plan.{Plan}

-- for cases that cannot be
clash : {A : Type 0} → ◌≡◌ {A = ℕ} 0 1 → A
clash z = absurd (omega arith)

-- ---- what there is to do, by the row that is due
module _ (s : Server) (t : ℕ) where
  quiet_is : {after : Header} (d : Prelude.Option Due) → plan_at s t d ≡ Quiet after → (deed_at s t d ≡ quiet) × (after ≡ quiet_header s.header t)
  quiet_is (Some d) q = clash cc
  quiet_is {after} None q = go (leb 1000 (t - s.header.last_published.0)) q
    where
      go : (b : Bool) → cond b (Beat (beat_header s.header t)) (Quiet (quiet_header s.header t)) ≡ Quiet after → (cond b beat quiet ≡ quiet) × (after ≡ quiet_header s.header t)
      go true e = clash cc
      go false e = (refl, cc)

  beat_is : {after : Header} (d : Prelude.Option Due) → plan_at s t d ≡ Beat after → (deed_at s t d ≡ beat) × (after ≡ beat_header s.header t)
  beat_is (Some d) q = clash cc
  beat_is {after} None q = go (leb 1000 (t - s.header.last_published.0)) q
    where
      go : (b : Bool) → cond b (Beat (beat_header s.header t)) (Quiet (quiet_header s.header t)) ≡ Beat after → (cond b beat quiet ≡ beat) × (after ≡ beat_header s.header t)
      go true e = (refl, cc)
      go false e = clash cc

  record Going (d : Prelude.Option Due) (i : ℕ) (after : Header) : Type 0 where
    when_due : Tick
    is_due : d ≡ due_at i when_due
    header_is : after ≡ expired_header s.header t

  expire_is : {i : ℕ} {after : Header} (d : Prelude.Option Due) → plan_at s t d ≡ Expire i after → Going d i after
  expire_is {i} (Some d) q = record { when_due = d.expiry; is_due = ap (λ (k : ℕ). due_at k d.expiry) cc; header_is = cc }
  expire_is {i} {after} None q = go (leb 1000 (t - s.header.last_published.0)) q
    where
      go : (b : Bool) → cond b (Beat (beat_header s.header t)) (Quiet (quiet_header s.header t)) ≡ Expire i after → Going None i after
      go true e = clash cc
      go false e = clash cc

  -- by place as by the rows
  keyed_deed : (d : Prelude.Option Due) → due_in s t ≡ d → deed_of t s.header.last_published.0 (keyed (key_list s) d) ≡ deed_at s t d
  keyed_deed (Some d) q = ap expire (key_is s.header.count s.bytes s.lengths d.at (due_row-below t s.header.count s.stamps refl q))
  keyed_deed None q = refl

  deed_is : t ≤ max_tick → deed (ledger_of (view s)) t ≡ deed_at s t (due_in s t)
  unfolding deed ledger_of view
  deed_is h = ap (deed_of t s.header.last_published.0) (by_place s t h) ∙ keyed_deed (due_in s t) refl

-- ---- the checks
module _ (s : Server) (t room : ℕ) where
  abbrev tick_table : Deed → List (Check Refusal)
  tick_table d = tick_checks s.header.last_tick.0 t ++ deed_checks s.header.number.0 d room

  calls_are : call_checks (ledger_of (view s)) (tick t room) ≡ tick_table (deed (ledger_of (view s)) t)
  unfolding call_checks ledger_of view
  calls_are = refl

  -- a tick that is out of range, whatever there would be to do
  out_of_range : leb t max_tick ≡ false → (d : Deed) → first_refusal (tick_table d) ≡ some BadTick
  unfolding first_refusal
  out_of_range e d = rw e

  same_checks : WellFormed s → first_refusal (tick_table (deed_at s t (due_in s t))) ≡ first_refusal (call_checks (ledger_of (view s)) (tick t room))
  same_checks w = go (leb t max_tick) refl ∙ ap first_refusal (sym calls_are)
    where
      go : (b : Bool) → leb t max_tick ≡ b → first_refusal (tick_table (deed_at s t (due_in s t))) ≡ first_refusal (tick_table (deed (ledger_of (view s)) t))
      go true e = ap (λ (d : Deed). first_refusal (tick_table d)) (sym (deed_is s t (leb-true t max_tick e)))
      go false e = out_of_range e (deed_at s t (due_in s t)) ∙ sym (out_of_range e (deed (ledger_of (view s)) t))

  refusal-in : first_refusal (ill_forms s ++ tick_table (deed_at s t (due_in s t))) ≡ refusal_of s (tick t room)
  refusal-in = refusal_is s (tick t room) (tick_table (deed_at s t (due_in s t))) same_checks

  plan_is : tick_plan s t room ≡ or_refuse (refusal_of s (tick t room)) (plan_at s t (due_in s t))
  unfolding tick_plan
  plan_is = ap (λ (x : Option Refusal). or_refuse x (plan_at s t (due_in s t))) refusal-in

  -- what is known of a Tick that passes
  record Passing : Type 0 where
    good : GoodServer s
    in_range : t ≤ max_tick
    later : s.header.last_tick.0 ≤ t
    deed-at : deed (ledger_of (view s)) t ≡ deed_at s t (due_in s t)
    lets : first_refusal (deed_checks s.header.number.0 (deed_at s t (due_in s t)) room) ≡ none

  passing : refusal_of s (tick t room) ≡ none → Passing
  passing e =
      let times = tick_checks s.header.last_tick.0 t in
      let deeds = deed_checks s.header.number.0 (deed_at s t (due_in s t)) room in
      let both = both_passed (ill_forms s) (tick_table (deed_at s t (due_in s t))) (refusal-in ∙ e) in
      let f = both_passed times deeds both.1 in
      let h = leb-true t max_tick (not-false _ (passed 0 times f.0)) in
      record {
        good = good_server s both.0;
        in_range = h;
        later = ltb-false t s.header.last_tick.0 (passed 1 times f.0);
        deed-at = deed_is s t h;
        lets = f.1;
      }

viewed_number : (s : Server) → (view s).number ≡ s.header.number.0
unfolding view
viewed_number s = refl

-- ---- a plan that was made, and what was done by it
module _ (s : Server) (t : ℕ) (out : Bytes) {found : Result Plan Refusal} (e : found ≡ tick_plan s t (length out)) where
  by_call : found ≡ or_refuse (refusal_of s (tick t (length out))) (plan_at s t (due_in s t))
  by_call = e ∙ plan_is s t (length out)

  pub tick_stopped : {r : Refusal} → found ≡ Err r → refusal_of s (tick t (length out)) ≡ some r
  tick_stopped g = stops_with (refusal_of s (tick t (length out))) (plan_at s t (due_in s t)) by_call g

  -- a call that passes
  accepted-tick : (d : Deed) {s' : Server} {a : Answer} {out' : Bytes} → refusal_of s (tick t (length out)) ≡ none → deed (ledger_of (view s)) t ≡ d
      → a ≡ answer (tick_kind s.header.number.0 d) (length (tick_bytes s.header.number.0 d))
      → view s' ≡ tick_next (view s) d t → out' ≡ put out 0 (tick_bytes s.header.number.0 d) → GoodServer s' → Answered s (tick t (length out)) out s' a out'
  unfolding accepted_next accepted_bytes
  accepted-tick d {s'} {a} {out'} clear f told became wrote stays =
      accepted_call s (tick t (length out)) out s' a out' clear (rw (f, viewed_number s) told) (rw f became) (rw (f, viewed_number s) wrote) (λ w. server_good s' stays)

  -- the rows as they were, under another header
  good_later : GoodServer s → (h : Header) → h.number ≡ s.header.number → h.count ≡ s.header.count → h.last_published.0 ≤ h.last_tick.0 → h.last_tick.0 ≤ max_tick
      → GoodServer (lent s.bytes s.lengths s.stamps h)
  good_later g h n c p l = record { rows = rw c g.rows; are_stamped = rw (n, c) g.are_stamped; number = rw n g.number; published = p; tick = l }

  module _ {after : Header} where
    -- a Tick with nothing to do
    pub tick_quiet : found ≡ Ok (Quiet after) → {h : Header} {a : Answer} → (h ≡ after) × (a ≡ answer (Nothing after.number) 0)
        → Answered s (tick t (length out)) out (lent s.bytes s.lengths s.stamps h) a out
    unfolding tick_bytes tick_next view put entry_list
    tick_quiet g {h} {a} left =
        let k = goes_on (refusal_of s (tick t (length out))) (plan_at s t (due_in s t)) by_call g in
        let p = passing s t (length out) k.0 in
        let q = quiet_is s t (due_in s t) k.1 in
        rw (left.0, q.1)
        (accepted-tick quiet k.0 (p.deed-at ∙ q.0) (rw q.1 at left.1) refl refl
        (good_later p.good (quiet_header s.header t) refl refl (omega (arith, p.good.published, p.later)) p.in_range))

    -- a sign of life
    pub tick-beat : found ≡ Ok (Beat after) → {w : ℕ} {out' : Bytes} → Written out 0 (bytes_of hugz) w out' → {h : Header} {a : Answer} → (h ≡ after) × (a ≡ answer (Wrote after.number) w)
        → Answered s (tick t (length out)) out (lent s.bytes s.lengths s.stamps h) a out'
    unfolding tick_bytes tick_next view entry_list
    tick-beat g {w} wrote {h} {a} left =
        let k = goes_on (refusal_of s (tick t (length out))) (plan_at s t (due_in s t)) by_call g in
        let p = passing s t (length out) k.0 in
        let q = beat_is s t (due_in s t) k.1 in
        let lets = rw q.0 at p.lets in
        let fits : 0 + length (bytes_of hugz) ≤ length out = omega (arith, ltb-false (length out) (length (bytes_of hugz)) (passed 0 (deed_checks s.header.number.0 beat (length out)) lets)) in
        rw (left.0, q.1)
        (accepted-tick beat k.0 (p.deed-at ∙ q.0) (rw q.1 at left.1 ∙ ap (answer (Wrote s.header.number)) (place wrote fits ∙ zero-add (length (bytes_of hugz)))) refl (output wrote fits)
        (good_later p.good (beat_header s.header t) refl refl (omega arith) p.in_range))

    -- a row that expires
    module _ {i : ℕ} (g : found ≡ Ok (Expire i after)) where
      both : (refusal_of s (tick t (length out)) ≡ none) × (plan_at s t (due_in s t) ≡ Expire i after)
      both = goes_on (refusal_of s (tick t (length out))) (plan_at s t (due_in s t)) by_call g

      p : Passing s t (length out)
      p = passing s t (length out) both.0

      goes : Going s t (due_in s t) i after
      goes = expire_is s t (due_in s t) both.1

      below : i < s.header.count
      below = due_row-below t s.header.count s.stamps refl goes.is_due

      pub expire_ready : GoodRows s.header.count s.bytes s.lengths × (i < s.header.count)
      expire_ready = (p.good.rows, below)

      abbrev key : Bytes
      key = row_key i s.bytes s.lengths

      row-deed : deed_at s t (due_in s t) ≡ expire key
      row-deed = ap (deed_at s t) goes.is_due

      lets : first_refusal (deed_checks s.header.number.0 (expire key) (length out)) ≡ none
      lets = rw row-deed at p.lets

      number_left : s.header.number.0 < max_sequence
      number_left = omega (arith, p.good.number, eqb-false s.header.number.0 max_sequence (passed 0 (deed_checks s.header.number.0 (expire key) (length out)) lets))

      has_room : 0 + length (expiry (suc s.header.number.0) key) ≤ length out
      has_room =
          omega (arith, ltb-false (length out) (length (expiry (suc s.header.number.0) key)) (passed 1 (deed_checks s.header.number.0 (expire key) (length out)) lets))

      module _ {bytes' lengths' stamps' : List ℕ} {w : ℕ} {out' : Bytes}
          (x : Expired s.header.count i after.number.0 s.bytes s.lengths s.stamps out bytes' lengths' stamps' w out') where
        abbrev new : Server
        new = lent bytes' lengths' stamps' (expired_header s.header t)

        gone : Restamped (Remove i) x.cell x.lens [] s new
        gone = record { of_rows = x.rows; of_stamps = x.stamps_gone; of_count = refl }

        fits : Fits (Remove i) s.header.count
        fits = (below, p.good.rows.few)

        own_key : get_or (key_list s) i [] ≡ key
        own_key = key_is s.header.count s.bytes s.lengths i below

        rows_are : rows_of (key_list new) (entry_list new) ≡ remove_row key (rows_of (key_list s) (entry_list s))
        rows_are =
            rows-changed fits gone ∙ removed_at (key_list s) (entry_list s) i (as_many s) p.good.rows.rise (omega (arith, key_count s, below))
            ∙ ap (λ (k : Bytes). remove_row k (rows_of (key_list s) (entry_list s))) own_key

        next_is : view new ≡ tick_next (view s) (expire key) t
        unfolding view tick_next
        next_is = rw rows_are

        never : {A : Type 0} → false ≡ true → A
        never q = clash cc

        stays : GoodServer new
        stays =
            good_after fits gone p.good (remove_good below x.rows p.good.rows) never (omega arith) (omega (arith, number_left)) (omega arith) p.in_range

        pub tick_expired : {h : Header} {a : Answer} → (h ≡ after) × (a ≡ answer (Wrote after.number) w) → Answered s (tick t (length out)) out (lent bytes' lengths' stamps' h) a out'
        unfolding tick_bytes
        tick_expired {h} {a} left =
            let wrote = rw goes.header_is at x.wrote in
            rw (left.0, goes.header_is)
            (accepted-tick (expire key) both.0 (p.deed-at ∙ row-deed) (rw goes.header_is at left.1 ∙ ap (answer (Wrote (sequence (suc s.header.number.0)))) (place wrote has_room ∙ zero-add (length (expiry (suc s.header.number.0) key)))) next_is (output wrote has_room) stays)
