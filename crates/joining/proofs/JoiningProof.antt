-- Joining is the same whenever it is done: the proof. Assumes nothing.
use Prim.Native.Nat.{ℕ, suc}
use native.Mathlib.Omega.{arith}
use mathlib.Core.Bool.{true, false, true≢false}
use mathlib.Core.Logic.{inl, inr}
use mathlib.Core.Option.{none}
use mathlib.Core.Path.{◌≡◌, refl, sym, ap, ap₂, subst, ◌∙◌}
use Rattle.base.proofs.ByteLaws.{prefix_trans}
use Rattle.base.specs.Bytes.{Bytes}
use Rattle.client_calls.specs.Calls.Call.{subscriber}
use Rattle.client_calls.specs.Calls.{Call as ClientCall}
use Rattle.client_state.specs.Views.{Replica}
use Rattle.messages.specs.Fields.{Fields}
use Rattle.keys.specs.Keys.{under}
use Rattle.rows.proofs.RowLaws.{held-keep, keep-keep}
use Rattle.rows.specs.Rows.{keep, held_under}
use Rattle.server_calls.specs.Calls.{Call as ServerCall}
use Rattle.joining.proofs.ClientLaws.{again}
use Rattle.joining.proofs.FollowLaws.{refuses_none}
use Rattle.joining.proofs.HistoryLaws.{first_latest, latest_max, one_map, Step, IsStep, published_steps, rises-published}
use Rattle.joining.proofs.JoinLaws.{server-map, answer_here, clear, follow}
use Rattle.joining.proofs.LogLaws.{among_left, add_append, append_assoc, cancel}
use Rattle.joining.proofs.PublicationLaws.{update-number, hugz_not}
use Rattle.joining.proofs.ServerLaws.{server-number}
use Rattle.joining.specs.Book.{ServerStart, map_at}
use Rattle.joining.specs.Ends.{ClientStart, published, client_refusal, client_after, accepts, accepted}
use Rattle.joining.specs.Joining.{Joined, joined_at, answered, AllBetween, NoGap, highest, Follows, Joining}
use Rattle.base.specs.Logs.Log.{empty, ◌▷◌}
use Rattle.base.specs.Logs.{Log, ◌⧺◌, Among, add}
use Rattle.joining.specs.Readings.{is_kvpub, number_of}

-- ---- what a client accepts
accepted-grows : (q : ClientStart) (C D : Log ClientCall) → (more : Log Bytes) × (accepted q (C ⧺ D) ≡ accepted q C ⧺ more)
unfolding accepted
accepted-grows q C empty = (empty, refl)
accepted-grows q C (D ▷ x) =
    let h = accepted-grows q C D in
    let o = accepts (client_after q (C ⧺ D)) x in
    (add h.0 o, ap (λ (t : Log Bytes). add t o) h.1 ∙ add_append (accepted q C) h.0 o)

module _ (p : ServerStart) (S : Log ServerCall) where
  pub follows : (q : ClientStart) (C : Log ClientCall) (j : Joined p S q C) → Follows p S (client_after q C) (joined_at j) j.taken.later
  follows q C j =
      let k = j.taken in
      subst (λ (T : Log ServerCall). Follows p T (client_after q C) (joined_at j) k.later) (sym k.asked)
      (follow p k.before k.request k.room k.after k.granted q C k.later
      (k.took ∙ ap (λ (a : Log Bytes). a ⧺ k.later) (answer_here p k.before k.request k.room k.granted))
      (λ (b : Bytes) (a : Among b k.later). subst (λ (T : Log ServerCall). Among b (published p T)) k.asked (k.own b a)) (rw k.asked at j.no_gap))

  -- ---- a beginning of the client's list that has the whole answer
  no-gap-before : (q : ClientStart) (C D : Log ClientCall) → NoGap p S q (C ⧺ D) → NoGap p S q C
  no-gap-before q C empty g = g
  no-gap-before q C (D ▷ x) g = no-gap-before q C D g.0

  joined-before : (q : ClientStart) (C D : Log ClientCall) (j : Joined p S q (C ⧺ D)) (since : Log Bytes) → accepted q C ≡ answered j ⧺ since → Joined p S q C
  joined-before q C D j since e =
      let k = j.taken in
      let h = accepted-grows q C D in
      let l : since ⧺ h.0 ≡ k.later =
      cancel (answered j) (since ⧺ h.0) k.later (sym (append_assoc (answered j) since h.0) ∙ (ap (λ (t : Log Bytes). t ⧺ h.0) (sym e) ∙ (sym h.1 ∙ k.took))) in
      record {
        taken = record {
          before = k.before;
          request = k.request;
          room = k.room;
          after = k.after;
          asked = k.asked;
          granted = k.granted;
          later = since;
          took = e;
          own = λ (b : Bytes) (i : Among b since). k.own b (subst (Among b) l (among_left b since h.0 i));
        };
        no_gap = no-gap-before q C D j.no_gap;
      }

  follows-since : (q : ClientStart) (C D : Log ClientCall) (j : Joined p S q (C ⧺ D)) (since : Log Bytes) → accepted q C ≡ answered j ⧺ since
      → Follows p S (client_after q C) (joined_at j) since
  unfolding joined-before
  follows-since q C D j since e = follows q C (joined-before q C D j since e)

  finds : (q : ClientStart) (C : Log ClientCall) → Joined p S q C → (key : Bytes) → under (client_after q C).subtree key ≡ true
      → held_under key (client_after q C).rows ≡ held_under key (map_at p S (client_after q C).number)
  finds q C j key u =
      ap (held_under key) (follows q C j).map ∙ held-keep (under (client_after q C).subtree) key (map_at p S (client_after q C).number) u

  -- ---- two clients
  module _ (q₁ q₂ : ClientStart) (C₁ C₂ : Log ClientCall) where
    abbrev v₁ : Replica
    v₁ = client_after q₁ C₁

    abbrev v₂ : Replica
    v₂ = client_after q₂ C₂

    whenever : (j₁ : Joined p S q₁ C₁) (j₂ : Joined p S q₂ C₂) → v₁.subtree ≡ v₂.subtree → j₂.taken.later ≡ empty
        → v₁.number ≡ joined_at j₂ → (v₁.number ≡ v₂.number) × (v₁.rows ≡ v₂.rows)
    unfolding highest
    whenever j₁ j₂ s l n =
        let f₁ = follows q₁ C₁ j₁ in
        let f₂ = follows q₂ C₂ j₂ in
        let e : v₁.number ≡ v₂.number = n ∙ sym (f₂.number ∙ ap (highest (joined_at j₂)) l) in
        (e, f₁.map ∙ (ap₂ (λ (t : Bytes) (i : ℕ). keep (under t) (map_at p S i)) s e ∙ sym f₂.map))

    narrower : Joined p S q₁ C₁ → Joined p S q₂ C₂ → v₁.number ≡ v₂.number → under v₁.subtree v₂.subtree ≡ true
        → v₂.rows ≡ keep (under v₂.subtree) v₁.rows
    narrower j₁ j₂ n u =
        let f₁ = follows q₁ C₁ j₁ in
        let f₂ = follows q₂ C₂ j₂ in
        f₂.map
        ∙ (sym (keep-keep (under v₁.subtree) (under v₂.subtree) (map_at p S v₂.number) (λ (k : Bytes). prefix_trans v₁.subtree v₂.subtree k u))
        ∙ ap (keep (under v₂.subtree)) (ap (λ (i : ℕ). keep (under v₁.subtree) (map_at p S i)) (sym n) ∙ sym f₁.map))

  -- ---- no KVPUB that leaves no gap is refused
  pub goes_on : (q : ClientStart) (C : Log ClientCall) → Joined p S q C → (b : Bytes) (t : ℕ) → Among b (published p S) → is_kvpub b ≡ true → AllBetween p S q C b
      → client_refusal (client_after q C) (subscriber b t) ≡ none
  goes_on q C j b t a k heard_all = go (published_steps p S b a)
    where
      go : IsStep p S b → client_refusal (client_after q C) (subscriber b t) ≡ none
      go (inl y) = absurd (true≢false (sym k ∙ (ap is_kvpub y ∙ hugz_not)))
      go (inr y) =
          let n : ℕ = y.0 in
          let f : Fields = y.1 in
          let lk : Step p S n f = y.2 in
          let num : number_of b ≡ suc n = ap number_of y.3 ∙ update-number (suc n) f lk.good (omega (arith, lk.below, latest_max p S)) in
          rw y.3 (refuses_none p S (client_after q C) (joined_at j) j.taken.later (first_latest p j.taken.before) (follows q C j) n f lk (λ d. clear p S q C b (suc n) num heard_all) t)

pub joining : (p : ServerStart) (S : Log ServerCall) → Joining p S
joining p S = record {
  number = server-number p S;
  map = server-map p S;
  one_map = λ (S₁ S₂ : Log ServerCall) (e : S ≡ S₁ ⧺ S₂). rw e (one_map p S₁ S₂);
  published_once = rises-published p S;
  follows = follows-since p S;
  finds = finds p S;
  whenever = whenever p S;
  narrower = narrower p S;
  again = again;
  goes_on = goes_on p S;
}
