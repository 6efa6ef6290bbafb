-- What joining supposes can always be met: a client is handed the answer, and then each KVPUB in its turn. Assumes nothing.
use Prim.Native.Nat.{ℕ, zero, suc, ◌+◌, ◌-◌, ◌≤◌, ◌<◌}
use native.Mathlib.Omega.{arith}
use mathlib.Core.Bool.{true}
use mathlib.Core.Logic.{inl, inr}
use mathlib.Core.Option.{Option, none, some, none-ne-some}
use mathlib.Core.Path.{◌≡◌, sym, ap, subst, ◌∙◌}
use Rattle.answers.specs.Refusals.{if_accepted}
use Rattle.answers.specs.declared.refusal.Refusal.{Refusal}
use Rattle.base.specs.Bytes.{Bytes}
use Rattle.client_calls.specs.Calls.Call.{snapshot, subscriber}
use Rattle.client_calls.specs.Calls.{Call as ClientCall}
use Rattle.client_calls.specs.Next.{accepted_next}
use Rattle.client_state.specs.Views.{Replica}
use Rattle.frames.specs.Messages.{frame_at}
use Rattle.messages.specs.Fields.{Fields}
use Rattle.keys.specs.Keys.{is_subtree}
use Rattle.frame_forms.specs.Lengths.{is_identity}
use Rattle.numbers.specs.Sequences.{max_sequence}
use Rattle.numbers.specs.Ticks.{max_tick}
use Rattle.server_calls.specs.Calls.Call.{icanhaz}
use Rattle.server_calls.specs.Calls.{Call as ServerCall}
use Rattle.server_calls.specs.Refusals.{update}
use Rattle.joining.proofs.ClientLaws.{update-max}
use Rattle.joining.proofs.GrantLaws.{request-granted}
use Rattle.joining.proofs.HistoryLaws.{latest, first_latest, latest_max, Step, step_of}
use Rattle.joining.proofs.JoinLaws.{answer_here}
use Rattle.joining.proofs.JoiningProof.{follows, goes_on}
use Rattle.joining.proofs.LogLaws.{append_assoc}
use Rattle.joining.proofs.PublicationLaws.{update_is, update_not_hugz, update-number}
use Rattle.joining.proofs.ServerLaws.{server_is_book, server_sound}
use Rattle.joining.proofs.SnapshotLaws.{granted-subtree}
use Rattle.joining.proofs.TakingLaws.{answer-taken, start-waits}
use Rattle.joining.specs.Book.{ServerStart, book_refusal, book_after}
use Rattle.joining.specs.Ends.ClientStart.{wait}
use Rattle.joining.specs.Ends.{ClientStart, server_after, published, answer_to, client_refusal, client_next, client_after, accepts, hears, accepted}
use Rattle.joining.specs.Joining.{AllBetween, NoGap, Joined}
use Rattle.base.specs.Logs.Log.{empty, ◌▷◌}
use Rattle.base.specs.Logs.{Log, ◌⧺◌, Among}
use Rattle.joining.specs.Possible.{handed_in, Possible}
use Rattle.joining.specs.Readings.{is_kvpub, number_of}

-- ---- nothing is heard at the snapshot entry
hears-none : (v : Replica) (b c : Bytes) → hears v (snapshot b) ≡ some c → ⊥
unfolding hears
hears-none v b c e = go (client_refusal v (snapshot b)) e
  where
    go : (r : Option Refusal) → if_accepted r none none ≡ some c → ⊥
    go none f = none-ne-some c f
    go (some r) f = none-ne-some c f

handed-no-gap : (p : ServerStart) (S : Log ServerCall) (q : ClientStart) (bs : Log Bytes) → NoGap p S q (handed_in bs)
unfolding handed_in
handed-no-gap p S q empty = tt
handed-no-gap p S q (bs ▷ b) = (handed-no-gap p S q bs, λ c e k n. absurd (hears-none (client_after q (handed_in bs)) b c e))

-- ---- a client joins
module _ (p : ServerStart) (S : Log ServerCall) where
  joins : (before : Log ServerCall) (request : Bytes) (room : ℕ) (after : Log ServerCall) → S ≡ (before ▷ icanhaz request room) ⧺ after
      → book_refusal (book_after p before) (icanhaz request room) ≡ none → (t : ℕ) → t ≤ max_tick
      → Joined p S (wait (frame_at 2 request) t) (handed_in (answer_to (server_after p before) request room))
  joins before request room after asked granted t h =
      let subtree = frame_at 2 request in
      let u = granted-subtree (book_after p before) request room granted in
      let taken = answer-taken (server_after p before) (server_sound p before) subtree u (wait subtree t) (start-waits subtree t u h) in
      record {
        taken = record {
          before = before;
          request = request;
          room = room;
          after = after;
          asked = asked;
          granted = granted;
          later = empty;
          took = subst (λ (a : Log Bytes). accepted (wait subtree t) (handed_in a) ≡ a) (sym (answer_here p before request room granted)) taken;
          own = λ (b : Bytes) (a : Among b empty). absurd a;
        };
        no_gap = handed-no-gap p S (wait subtree t) (answer_to (server_after p before) request room);
      }

  -- ---- and follows
  -- a KVPUB that leaves no gap is one message more
  one_more : (q : ClientStart) (C : Log ClientCall) (j : Joined p S q C) (b : Bytes) → Among b (published p S) → is_kvpub b ≡ true → AllBetween p S q C b
      → Joined p S q (C ▷ subscriber b 0)
  unfolding accepted accepts hears
  one_more q C j b a k between =
      let e = goes_on p S q C j b 0 a k between in
      let t = j.taken in
      record {
        taken = record {
          before = t.before;
          request = t.request;
          room = t.room;
          after = t.after;
          asked = t.asked;
          granted = t.granted;
          later = t.later ▷ b;
          took = rw e (ap (λ (l : Log Bytes). l ▷ b) t.took);
          own = own;
        };
        no_gap = (j.no_gap, λ (c : Bytes) (h : if_accepted (client_refusal (client_after q C) (subscriber b 0)) (some b) none ≡ some c). heard-one c (rw e at h));
      }
    where
      own : (c : Bytes) → Among c (j.taken.later ▷ b) → Among c (published p S)
      own c (inl h) = rw h a
      own c (inr h) = j.taken.own c h

      heard-one : (c : Bytes) → some b ≡ some c → is_kvpub c ≡ true → (client_after q C).number < number_of c → AllBetween p S q C c
      heard-one c h k' n = subst (AllBetween p S q C) (let z : b ≡ c = cc in z) between

  -- the KVPUB with the number behind the client's
  module _ (q : ClientStart) (C : Log ClientCall) (j : Joined p S q C) (f : Fields) (l : Step p S (client_after q C).number f)
      (a : Among (update (suc (client_after q C).number) f) (published p S)) where
    abbrev v : Replica
    v = client_after q C

    abbrev next : Bytes
    next = update (suc v.number) f

    in_range : suc v.number ≤ max_sequence
    in_range = omega (arith, l.below, latest_max p S)

    num : number_of next ≡ suc v.number
    num = update-number (suc v.number) f l.good in_range

    nothing_between : AllBetween p S q C next
    nothing_between b m k u above below = absurd (omega (arith, num))

    is : is_kvpub next ≡ true
    is = update_is (suc v.number) f l.good in_range

    step-joined : Joined p S q (C ▷ subscriber next 0)
    step-joined = one_more q C j next a is nothing_between

    step-number : (client_after q (C ▷ subscriber next 0)).number ≡ suc v.number
    unfolding client_after client_next accepted_next
    step-number = rw (goes_on p S q C j next 0 a is nothing_between, update_not_hugz (suc v.number) f l.good in_range) (update-max v next ∙ rw num (omega arith))

  Caught : ClientStart → Log ClientCall → Type 0
  Caught q C = (D : Log ClientCall) × Joined p S q (C ⧺ D) × ((client_after q (C ⧺ D)).number ≡ latest p S)

  -- one call more in front
  caught-behind : (q : ClientStart) (C : Log ClientCall) (x : ClientCall) → Caught q (C ▷ x) → Caught q C
  unfolding Caught
  caught-behind q C x i =
      let e : (C ▷ x) ⧺ i.0 ≡ C ⧺ ((empty ▷ x) ⧺ i.0) = append_assoc C (empty ▷ x) i.0 in
      ((empty ▷ x) ⧺ i.0, subst (Joined p S q) e i.1, ap (λ (A : Log ClientCall). (client_after q A).number) (sym e) ∙ i.2)

  catch-up : (d : ℕ) (q : ClientStart) (C : Log ClientCall) → Joined p S q C → d + (client_after q C).number ≡ latest p S → Caught q C
  unfolding Caught
  catch-up zero q C j e = (empty, j, omega arith)
  catch-up (suc d) q C j e =
      let F = follows p S q C j in
      let w = step_of p S (client_after q C).number (omega (arith, F.least, first_latest p j.taken.before)) (omega arith) in
      let b : Bytes = update (suc (client_after q C).number) w.0 in
      let n : (client_after q (C ▷ subscriber b 0)).number ≡ suc (client_after q C).number = step-number q C j w.0 w.1 w.2 in
      caught-behind q C (subscriber b 0) (catch-up d q (C ▷ subscriber b 0) (step-joined q C j w.0 w.1 w.2) (omega arith))

  catches_up : (q : ClientStart) (C : Log ClientCall) → Joined p S q C → Caught q C
  catches_up q C j = let F = follows p S q C j in catch-up (latest p S - (client_after q C).number) q C j (omega (arith, F.most))

pub possible : (p : ServerStart) (S : Log ServerCall) → Possible p S
unfolding Caught
possible p S = record {
  granted = λ (identity subtree : Bytes) (i : is_identity identity ≡ true) (u : is_subtree subtree ≡ true).
      rw (← server_is_book p S) (request-granted (server_after p S) (server_sound p S) identity subtree i u);
  joins = joins p S;
  catches_up = catches_up p S;
}
