-- Each call on a client is one of five: nothing is taken, or a row of a snapshot, its end, a sign of life, or an update. Assumes nothing.
use Prim.Native.Nat.{ℕ, ◌≤◌, max}
use native.Mathlib.Omega.{arith}
use mathlib.Core.Bool.{Bool, true, false, cond, not, true≢false}
use mathlib.Core.List.{List, ◌++◌}
use mathlib.Core.Logic.{◌⊎◌, inl, inr}
use mathlib.Core.Option.{Option, none, some, none-ne-some}
use mathlib.Core.Path.{◌≡◌, refl, sym, ap, subst, ◌∙◌}
use lib.Dec.{leb}
use lib.ListN.{length}
use borrow.Author.Tests.{leb-true, leb-false, le-leb, not-false}
use Rattle.answers.specs.Refusals.{if_accepted}
use Rattle.answers.specs.declared.refusal.Refusal.{Refusal}
use Rattle.base.proofs.ByteLaws.{same_eq}
use Rattle.base.proofs.CheckLaws.{passed, both_passed}
use Rattle.base.specs.Bytes.{Bytes, same}
use Rattle.base.specs.Checks.{Check, first_refusal}
use Rattle.base.specs.Octets.{number}
use Rattle.client_calls.specs.Calls.Call.{snapshot, subscriber, write_icanhaz, write_kvset, ask, lookup}
use Rattle.client_calls.specs.Calls.{Call}
use Rattle.client_calls.specs.Effects.Effect.{sync, finish, hear, stale, outside, apply}
use Rattle.client_calls.specs.Effects.{Effect, snapshot_effect, update_effect, subscriber_effect}
use Rattle.client_calls.specs.Next.{effect_next, accepted_next}
use Rattle.client_calls.specs.Refusals.{effect_checks, time_checks, call_checks}
use Rattle.client_state.specs.Views.{Replica}
use Rattle.frames.specs.Messages.{frame_at}
use Rattle.messages.specs.Fields.{fields_of}
use Rattle.keys.specs.Keys.{under}
use Rattle.frame_forms.specs.Words.{word_kthxbai, word_hugz}
use Rattle.ports.specs.Ports.{framed, kthxbai_checks, kvsync_checks, snapshot_checks, snapshot_port, subscriber_port}
use Rattle.rows.specs.Rows.{has_key}
use Rattle.joining.proofs.PublicationLaws.{passes-kvpub, passes-hugz}
use Rattle.joining.specs.Ends.{ClientStart, client_refusal, client_next, client_after, handed, accepts, hears, heard}
use Rattle.base.specs.Logs.Log.{empty, ◌▷◌}
use Rattle.base.specs.Logs.{Log, Among, add}
use Rattle.joining.specs.Readings.{is_kvpub, number_of}

-- what an update makes of a client
abbrev pub after_update : Replica → Bytes → Replica
after_update v b = effect_next v (update_effect v.number v.subtree (fields_of b))

-- w is the message that is taken, and h the same where it came in at the subscriber entry
pub data Take (v v' : Replica) (w h : Option Bytes) : Type 0 where
  idle : v' ≡ v → w ≡ none → h ≡ none → Take v v' w h
  synced : (b : Bytes) → v.live ≡ false → same word_kthxbai (frame_at 0 b) ≡ false → v' ≡ effect_next v (sync (frame_at 0 b) (frame_at 4 b)) → w ≡ some b
      → h ≡ none → Take v v' w h
  ended : (b : Bytes) → v.live ≡ false → same word_kthxbai (frame_at 0 b) ≡ true → v.subtree ≡ frame_at 4 b → v' ≡ effect_next v (finish (number_of b)) → w ≡ some b
      → h ≡ none → Take v v' w h
  alive : (b : Bytes) (t : ℕ) → v.live ≡ true → is_kvpub b ≡ false → v' ≡ effect_next v (hear t) → w ≡ some b → h ≡ some b → Take v v' w h
  moved : (b : Bytes) → v.live ≡ true → is_kvpub b ≡ true → v' ≡ after_update v b → w ≡ some b → h ≡ some b → Take v v' w h

module _ (v : Replica) where
  -- ---- at the snapshot entry
  module _ (b : Bytes) where
    abbrev snapshot_end : List (Check Refusal)
    snapshot_end = effect_checks v.live (λ (k : Bytes). has_key k v.rows) (length v.rows) (snapshot_effect (fields_of b))

    snapshot-take : (r : Option Refusal) → first_refusal (call_checks v (snapshot b)) ≡ r
        → Take v (if_accepted r (effect_next v (snapshot_effect (fields_of b))) v) (if_accepted r (some b) none) (if_accepted r none none)
    unfolding call_checks number_of
    snapshot-take (some r) e = idle refl refl refl
    snapshot-take none e = go (same word_kthxbai (frame_at 0 b)) refl (both_passed (framed 5 b) (snapshot_checks v.subtree (fields_of b)) parts.0).1
      where
        parts : (first_refusal (snapshot_port v.subtree b) ≡ none) × (first_refusal snapshot_end ≡ none)
        parts = both_passed (snapshot_port v.subtree b) snapshot_end e

        waits : v.live ≡ false
        waits = passed 0 snapshot_end parts.1

        go : (k : Bool) → same word_kthxbai (frame_at 0 b) ≡ k → first_refusal (cond k (kthxbai_checks v.subtree (fields_of b)) (kvsync_checks v.subtree (fields_of b))) ≡ none
            → Take v (effect_next v (cond k (finish (number (frame_at 1 b))) (sync (frame_at 0 b) (frame_at 4 b)))) (some b) none
        go true f g = ended b waits f (same_eq v.subtree (frame_at 4 b) (not-false _ (passed 0 (kthxbai_checks v.subtree (fields_of b)) g))) refl refl refl
        go false f g = synced b waits f refl refl refl

  -- ---- at the subscriber entry
  module _ (b : Bytes) (t : ℕ) where
    abbrev subscriber_end : List (Check Refusal)
    subscriber_end = effect_checks (not v.live) (λ (k : Bytes). has_key k v.rows) (length v.rows) (subscriber_effect v.number v.subtree (fields_of b) t)

    subscriber-take : (r : Option Refusal) → first_refusal (call_checks v (subscriber b t)) ≡ r
        → Take v (if_accepted r (effect_next v (subscriber_effect v.number v.subtree (fields_of b) t)) v) (if_accepted r (some b) none) (if_accepted r (some b) none)
    unfolding call_checks
    subscriber-take (some r) e = idle refl refl refl
    subscriber-take none e = go (same word_hugz (frame_at 0 b)) refl
      where
        parts : (first_refusal (subscriber_port b) ≡ none) × (first_refusal (time_checks v.clock (fields_of b) t ++ subscriber_end) ≡ none)
        parts = both_passed (subscriber_port b) (time_checks v.clock (fields_of b) t ++ subscriber_end) e

        lives : v.live ≡ true
        lives = not-false _ (passed 0 subscriber_end (both_passed (time_checks v.clock (fields_of b) t) subscriber_end parts.1).1)

        go : (k : Bool) → same word_hugz (frame_at 0 b) ≡ k
            → Take v (effect_next v (cond k (hear t) (update_effect v.number v.subtree (fields_of b)))) (some b) (some b)
        go true f = alive b t lives (passes-hugz b parts.0 f) refl refl refl
        go false f = moved b lives (passes-kvpub b parts.0 f) refl refl refl

  -- ---- the calls that take no message
  idly : (r : Option Refusal) → Take v (if_accepted r v v) (if_accepted r none none) (if_accepted r none none)
  idly none = idle refl refl refl
  idly (some r) = idle refl refl refl

  pub take : (x : Call) → Take v (client_next v x) (accepts v x) (hears v x)
  unfolding client_next client_refusal accepted_next accepts hears
  take (snapshot b) = snapshot-take b (first_refusal (call_checks v (snapshot b))) refl
  take (subscriber b t) = subscriber-take b t (first_refusal (call_checks v (subscriber b t))) refl
  take (write_icanhaz room) = idly (first_refusal (call_checks v (write_icanhaz room)))
  take (write_kvset key uuid properties value room) = idly (first_refusal (call_checks v (write_kvset key uuid properties value room)))
  take (ask t) = idly (first_refusal (call_checks v (ask t)))
  take (lookup key room) = idly (first_refusal (call_checks v (lookup key room)))

-- a call that takes nothing changes nothing
pub idle_of : {v v' : Replica} {w h : Option Bytes} → Take v v' w h → w ≡ none → v' ≡ v
idle_of (idle e f g) k = e
idle_of (synced c a b e f g) k = absurd (none-ne-some c (sym k ∙ f))
idle_of (ended c a b s e f g) k = absurd (none-ne-some c (sym k ∙ f))
idle_of (alive c t a b e f g) k = absurd (none-ne-some c (sym k ∙ f))
idle_of (moved c a b e f g) k = absurd (none-ne-some c (sym k ∙ f))

-- ---- what an update leaves as it is, and the number after it
module _ (v : Replica) (b : Bytes) where
  abbrev n : ℕ
  n = number (frame_at 1 b)

  abbrev by : Bool → Bool → Effect
  by old inside = cond old stale (cond inside (apply n (frame_at 0 b) (frame_at 4 b)) (outside n))

  pub update-live : (after_update v b).live ≡ v.live
  unfolding effect_next
  update-live = go (leb n v.number) (under v.subtree (frame_at 0 b))
    where
      go : (old inside : Bool) → (effect_next v (by old inside)).live ≡ v.live
      go true inside = refl
      go false true = refl
      go false false = refl

  pub update-max : (after_update v b).number ≡ max v.number (number_of b)
  unfolding effect_next number_of
  update-max = go (leb n v.number) (under v.subtree (frame_at 0 b)) refl
    where
      go : (old inside : Bool) → leb n v.number ≡ old → (effect_next v (by old inside)).number ≡ max v.number n
      go true inside e = omega (arith, leb-true n v.number e)
      go false true e = omega (arith, leb-false n v.number e)
      go false false e = omega (arith, leb-false n v.number e)

  pub update-stale : number_of b ≤ v.number → after_update v b ≡ v
  unfolding effect_next number_of
  update-stale h = rw (le-leb n v.number h)

-- ---- the number of a KVPUB that was accepted is never above the client's
module _ (b : Bytes) where
  abbrev Heard : Replica → Type 0
  Heard v = (number_of b ≤ v.number) × (v.live ≡ true)

  heard_step : (H : Log Bytes) {v v' : Replica} {w h : Option Bytes} → Take v v' w h → (Among b H → is_kvpub b ≡ true → Heard v) → Among b (add H h) → is_kvpub b ≡ true → Heard v'
  unfolding effect_next
  heard_step H {v} {v'} {w} {h} (idle e f g) ih m k = rw e (ih (subst (λ (o : Option Bytes). Among b (add H o)) g m) k)
  heard_step H {v} {v'} {w} {h} (synced c l a e f g) ih m k =
      absurd (true≢false (sym (ih (subst (λ (o : Option Bytes). Among b (add H o)) g m) k).1 ∙ l))
  heard_step H {v} {v'} {w} {h} (ended c l a s e f g) ih m k =
      absurd (true≢false (sym (ih (subst (λ (o : Option Bytes). Among b (add H o)) g m) k).1 ∙ l))
  heard_step H {v} {v'} {w} {h} (alive c t l a e f g) ih m k = go (subst (λ (o : Option Bytes). Among b (add H o)) g m)
    where
      go : Among b (H ▷ c) → Heard v'
      go (inl q) = absurd (true≢false (sym k ∙ (ap is_kvpub q ∙ a)))
      go (inr i) = rw e (ih i k)
  heard_step H {v} {v'} {w} {h} (moved c l a e f g) ih m k = go (subst (λ (o : Option Bytes). Among b (add H o)) g m)
    where
      bound : (n : ℕ) → (number_of b ≤ v.number) ⊎ (number_of b ≡ n) → number_of b ≤ max v.number n
      bound n (inl i) = omega arith
      bound n (inr i) = omega arith

      go : Among b (H ▷ c) → Heard v'
      go (inl q) = rw e (rw update-max (bound (number_of c) (inr (ap number_of q))), update-live v c ∙ l)
      go (inr i) = rw e (rw update-max (bound (number_of c) (inl (ih i k).0)), update-live v c ∙ l)

  pub heard-number : (q : ClientStart) (C : Log Call) → Among b (heard q C) → is_kvpub b ≡ true → Heard (client_after q C)
  unfolding heard client_after
  heard-number q empty m k = absurd m
  heard-number q (C ▷ x) m k = heard_step (heard q C) (take (client_after q C) x) (heard-number q C) m k

-- ---- a KVPUB that was accepted changes nothing when it comes again
again_step : {v v' : Replica} {w h : Option Bytes} → Take v v' w h → (b : Bytes) → (w ≡ none) ⊎ (w ≡ some b) → is_kvpub b ≡ true → number_of b ≤ v.number → v.live ≡ true → v' ≡ v
again_step (idle e f g) b o k n l = e
again_step (synced c a i e f g) b o k n l = absurd (true≢false (sym l ∙ a))
again_step (ended c a i s e f g) b o k n l = absurd (true≢false (sym l ∙ a))
again_step (alive c t a i e f g) b (inl o) k n l = absurd (none-ne-some c (sym o ∙ f))
again_step (alive c t a i e f g) b (inr o) k n l = let q : b ≡ c = cc in absurd (true≢false (sym k ∙ (ap is_kvpub q ∙ i)))
again_step (moved c a i e f g) b (inl o) k n l = absurd (none-ne-some c (sym o ∙ f))
again_step {v} (moved c a i e f g) b (inr o) k n l = let q : c ≡ b = cc in e ∙ update-stale v c (rw q n)

accepts-handed : (v : Replica) (b : Bytes) (x : Call) → handed x ≡ some b → (accepts v x ≡ none) ⊎ (accepts v x ≡ some b)
unfolding accepts
accepts-handed v b x e = go (client_refusal v x)
  where
    go : (r : Option Refusal) → (if_accepted r (handed x) none ≡ none) ⊎ (if_accepted r (handed x) none ≡ some b)
    go none = inr e
    go (some r) = inl refl

pub again : (q : ClientStart) (C : Log Call) (b : Bytes) → Among b (heard q C) → is_kvpub b ≡ true → (x : Call) → handed x ≡ some b
    → client_next (client_after q C) x ≡ client_after q C
again q C b m k x h =
    let y = heard-number b q C m k in again_step (take (client_after q C) x) b (accepts-handed (client_after q C) b x h) k y.0 y.1
