-- A plan that is carried out is what the call of a message promises. Assumes nothing.
use Prim.Native.Nat.{ℕ}
use mathlib.Core.Bool.{Bool, false}
use mathlib.Core.List.{List, []}
use mathlib.Core.Option.{none}
use mathlib.Core.Path.{◌≡◌, refl, sym, ap, ◌∙◌}
use Rattle.std.specs.Prelude.{Result, Ok, Err}
use Rattle.answers.specs.Answers.{answer}
use Rattle.answers.specs.declared.answer.Answer.{Answer}
use Rattle.answers.specs.declared.answer.Kind.{Kind}
use Rattle.answers.specs.declared.outcome.Outcome.{Outcome}
use Rattle.answers.specs.declared.refusal.Refusal.{Refusal}
use Rattle.base.specs.Bytes.{Bytes}
use Rattle.base.specs.Checks.{Check}
use Rattle.base.specs.Output.{put}
use Rattle.client_calls.proofs.AnswerLaws.{refused_call, accepted_call}
use Rattle.client_calls.specs.Answers.{effect_kind}
use Rattle.client_calls.specs.Calls.{Call}
use Rattle.client_calls.specs.Effects.{Effect}
use Rattle.client_calls.specs.Promises.{Answered}
use Rattle.client_calls.specs.Refusals.{refusal_of}
use Rattle.client_effects.proofs.CallLaws.{Sends, taken}
use Rattle.client_effects.proofs.EffectLaws.{Carries, Taken, RowKnown, row_known, Done, done_view, done_good}
use Rattle.client_effects.proofs.PlanLaws.{same_sizes, made_fits, plan_refused, plan_noted, plan_stored, not_refused, is_noted, is_stored, StoredAs}
use Rattle.client_effects.specs.Carried.{Storable, Stored, CarriedOut}
use Rattle.client_effects.specs.Plans.{effect_header, effect_row, row_change, message_plan}
use Rattle.client_effects.specs.declared.Plan.TheVariants.{Note, Store}
use Rattle.client_effects.specs.declared.Plan.{Plan}
use Rattle.client_state.proofs.FormLaws.{client_good}
use Rattle.client_state.proofs.StateLaws.{key_count, RowChanged, keys_changed, rows-changed}
use Rattle.client_state.specs.Views.{lent, key_list}
use Rattle.client_state.specs.declared.Client.{Client}
use Rattle.client_state.specs.declared.Header.{Header}
use Rattle.frames.specs.Messages.{frame_at}
use Rattle.keys.proofs.UnderLaws.{key-short}
use Rattle.row_cells.specs.FreshRows.{cell_of}
use Rattle.row_change.specs.Changes.{count_after, Fits, is_over}
use Rattle.row_change.specs.declared.Change.{Change}
use Rattle.row_search.proofs.UpdateLaws.{update_good}
use Rattle.row_search.specs.Places.{place_of, change_to}

-- ---- the plan of a call that hands in a message, with the key and the value that the message carries
module _ {c : Client} {x : Call} {msg : Bytes} {e : Effect} {port : List (Check Refusal)} {other_phase : Bool} (m : Sends c x msg e port other_phase)
    {plan : Result Plan Refusal} (is : plan ≡ message_plan c x e) {key value : Bytes} (key_is : key ≡ frame_at 0 msg) (value_is : value ≡ frame_at 4 msg) where
  carries : Carries e key value
  carries = rw (key_is, value_is) m.carries

  -- nothing is one too many
  fitting_plan : Taken c e → is_over (row_change (effect_row e) (key_list c)) (effect_header c.header e).count ≡ false
  fitting_plan t = rw (same_sizes c.header e).0 t.room

  -- what is known where a row is to be stored
  module _ {change : Change} {after : Header} {kind : Kind} (q : plan ≡ Ok (Store change after kind)) where
    accepted : refusal_of c x ≡ none
    accepted = (plan_stored (refusal_of c x) is q).0

    stored : StoredAs (effect_row e) (key_list c) (effect_header c.header e) (effect_kind c.header.number.0 e) change after kind
    stored =
        is_stored (key_list c) (effect_header c.header e) (effect_kind c.header.number.0 e) (effect_row e) (fitting_plan (taken m accepted)) (plan_stored (refusal_of c x) is q).1

    row : (stored.own.1 ≡ key) × RowKnown c key value stored.own.0
    row = row_known c key value e (taken m accepted).sound carries stored.row_is

    made : change ≡ change_to stored.own.0 (place_of 0 key (key_list c))
    made = stored.change_is ∙ ap (λ (k : Bytes). change_to stored.own.0 (place_of 0 k (key_list c))) row.0

    own_change : change ≡ row_change (effect_row e) (key_list c)
    own_change = stored.change_is ∙ rw stored.row_is

    change_fits : Fits change c.header.count
    change_fits =
        let t = taken m accepted in
        made_fits stored.own.0 key (key_list c) c.header.count (key_count c) t.good.rows.few made (rw own_change t.room)

  pub storable : Storable plan c.header.count key value
  unfolding Storable
  storable = go plan refl
    where
      go : (p : Result Plan Refusal) → plan ≡ p → Storable p c.header.count key value
      go (Err r) q = tt
      go (Ok (Note after kind)) q = tt
      go (Ok (Store change after kind)) q = (change_fits q, (key-short key (row q).1.key_good, (row q).1.value-short))

  finished : refusal_of c x ≡ none → (c' : Client) {a : Answer} {kind : Kind} → a ≡ answer kind 0 → kind ≡ effect_kind c.header.number.0 e → Done c e key value c' → Answered c x [] c' a []
  unfolding put
  finished f c' told kind_is d =
      accepted_call c x [] c' _ [] f (told ∙ rw (kind_is, m.kind, m.bytes)) (done_view c key value c' e carries d ∙ sym m.next) (rw m.bytes) (λ w. client_good c' (done_good c key value c' e (taken m f) carries d))

  module _ (bytes' lengths' : List ℕ) (o : Outcome Header) where
    abbrev left : Client
    left = lent bytes' lengths' c.subtree o.header

    noted_done : {after : Header} {kind : Kind} → plan ≡ Ok (Note after kind) → bytes' ≡ c.bytes → lengths' ≡ c.lengths → o.header ≡ after → o.answer ≡ answer kind 0 → Answered c x [] left o.answer []
    noted_done q same_bytes same-lengths header told =
        let s = plan_noted (refusal_of c x) is q in
        let t = taken m s.0 in
        let n = is_noted (key_list c) (effect_header c.header e) (effect_kind c.header.number.0 e) (effect_row e) (fitting_plan t) s.1 in
        let h = header ∙ n.1.0 in
        let counts : o.header.count ≡ c.header.count = ap (λ (h : Header). h.count) h ∙ (same_sizes c.header e).0 in
        finished s.0 left told n.1.1
        (record {
          count = (effect_header c.header e).count;
          header = h;
          subtree = refl;
          keys = rw (counts, same_bytes, same-lengths, n.0);
          rows = rw (counts, same_bytes, same-lengths, n.0);
          good = rw (counts, same_bytes, same-lengths) t.good.rows;
        })

    stored_done : {change : Change} {after : Header} {kind : Kind} → plan ≡ Ok (Store change after kind) → Stored change key value c.header.count c.bytes c.lengths bytes' lengths'
        → o.header ≡ after → o.answer ≡ answer kind 0 → Answered c x [] left o.answer []
    stored_done {change} q d header told =
        let a = stored q in
        let r = (row q).1 in
        let counts : o.header.count ≡ count_after change c.header.count = ap (λ (h : Header). h.count) (header ∙ a.after_is) ∙ ap (count_after change) (same_sizes c.header e).0 in
        let w : RowChanged change (cell_of d.row) d.row.lengths c left = record { of_rows = d.altered; of_count = counts } in
        finished (accepted q) left told a.kind_is
        (record {
          count = count_after change (effect_header c.header e).count;
          header = header ∙ a.after_is;
          subtree = refl;
          keys = rw (← own_change q, ← d.holds.key) (keys_changed (change_fits q) w);
          rows = rw (← own_change q, ← d.holds.key, ← d.holds.value) (rows-changed (change_fits q) w);
          good = rw counts (update_good (change_fits q) d.row d.altered (taken m (accepted q)).good.rows a.own.0 key value (made q) d.holds r.key_good r.value_some r.value-short);
        })

    -- carried out, the plan is what the call is to do
    pub carried : CarriedOut plan c.header key value c.bytes c.lengths bytes' lengths' o → Answered c x [] left o.answer []
    unfolding CarriedOut
    carried = go plan refl
      where
        go : (p : Result Plan Refusal) → plan ≡ p → CarriedOut p c.header key value c.bytes c.lengths bytes' lengths' o → Answered c x [] left o.answer []
        go (Err r) q d =
            refused_call c x [] left o.answer r (plan_refused (refusal_of c x) is q (λ n p. not_refused (key_list c) (effect_header c.header e) (effect_kind c.header.number.0 e) (effect_row e) (fitting_plan (taken m n)) p))
            (rw (d.0, d.1.0, d.1.1.0)) d.1.1.1
        go (Ok (Note after kind)) q d = noted_done q d.0 d.1.0 d.1.1.0 d.1.1.1
        go (Ok (Store change after kind)) q d = stored_done q d.0 d.1.0 d.1.1
