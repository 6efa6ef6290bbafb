-- A client joins and follows: by induction over its list of calls. Assumes nothing.
use Prim.Native.Nat.{ℕ, suc, ◌≤◌, ◌<◌}
use native.Mathlib.Omega.{arith}
use mathlib.Core.Bool.{Bool, true, false, true≢false}
use mathlib.Core.List.{[]}
use mathlib.Core.Logic.{inl, inr}
use mathlib.Core.Option.{Option, none, some, none-ne-some}
use mathlib.Core.Path.{◌≡◌, refl, sym, ap, ◌∙◌}
use Rattle.base.specs.Bytes.{Bytes, same}
use Rattle.client_calls.specs.Calls.{Call as ClientCall}
use Rattle.client_calls.specs.Effects.Effect.{finish}
use Rattle.client_calls.specs.Next.{effect_next}
use Rattle.client_state.specs.Views.{Replica}
use Rattle.frames.specs.Messages.{frame_at}
use Rattle.messages.specs.Fields.{Fields, bytes_of, kthxbai}
use Rattle.keys.specs.Keys.{under}
use Rattle.numbers.specs.Sequences.{max_sequence}
use Rattle.frame_forms.specs.Words.{word_kthxbai}
use Rattle.rows.proofs.RowLaws.{set_all, set_all_nil, sorted_keep, keep-map, map-map}
use Rattle.rows.specs.Rows.{keep, map_rows}
use Rattle.server_calls.specs.Calls.Call.{icanhaz}
use Rattle.server_calls.specs.Calls.{Call as ServerCall}
use Rattle.server_calls.specs.Refusals.{update}
use Rattle.server_state.specs.Views.{plain, ledger_of}
use Rattle.joining.proofs.ClientLaws.Take.{idle, synced, ended, alive, moved}
use Rattle.joining.proofs.ClientLaws.{Take, take, idle_of, heard-number}
use Rattle.joining.proofs.FollowLaws.{Clear, takes-update}
use Rattle.joining.proofs.HistoryLaws.{latest, latest_rises, first_latest, latest_append, latest_max, map_kept, map_now, map_sorted, Step, IsStep, published_steps}
use Rattle.joining.proofs.LogLaws.{empty_not_longer}
use Rattle.joining.proofs.PublicationLaws.{unnumbered, update_is, update-number, update-key, hugz_not}
use Rattle.joining.proofs.ServerLaws.{server_is_book, server_sound, server-number}
use Rattle.joining.proofs.SnapshotLaws.{snapshot_of, syncs_of, granted-subtree, answer_is, end_word, end_subtree, end_number, rows_taken}
use Rattle.joining.specs.Book.{Book, ServerStart, book_refusal, book_after, value_of, map_of, map_at}
use Rattle.joining.specs.Ends.{ClientStart, server_after, published, answer_to, client_next, client_after, accepts, hears, accepted}
use Rattle.joining.specs.Joining.{AllBetween, NoGap, highest, Follows, held, held_by}
use Rattle.base.specs.Logs.Log.{empty, ◌▷◌}
use Rattle.base.specs.Logs.{Log, ◌⧺◌, Among, add}
use Rattle.joining.specs.Readings.{is_kvpub, number_of}

-- ---- the server's keys and values are the book's, and a part of them is the same part of the book's map
pub server-map : (p : ServerStart) (S : Log ServerCall) → held_by (server_after p S) ≡ map_of (book_after p S)
unfolding held_by map_of value_of plain ledger_of
server-map p S = sym (map-map plain value_of (server_after p S).rows) ∙ ap (λ (b : Book). map_rows value_of b.rows) (server_is_book p S)

sent-rows : (p : ServerStart) (S : Log ServerCall) (test : Bytes → Bool) → map_rows held (keep test (server_after p S).rows) ≡ keep test (map_of (book_after p S))
unfolding held_by
sent-rows p S test = sym (keep-map held test (server_after p S).rows) ∙ ap (keep test) (server-map p S)

-- ---- the answer to a request that is granted
pub answer_here : (p : ServerStart) (S : Log ServerCall) (request : Bytes) (room : ℕ) → book_refusal (book_after p S) (icanhaz request room) ≡ none
    → answer_to (server_after p S) request room ≡ snapshot_of (server_after p S) (frame_at 2 request)
answer_here p S request room e = answer_is (server_after p S) request room (server_sound p S) (rw (server_is_book p S) e)

-- a client that has accepted all that is numbered between has nothing before it
pub clear : (p : ServerStart) (S : Log ServerCall) (q : ClientStart) (C : Log ClientCall) (b : Bytes) (n : ℕ) → number_of b ≡ n → AllBetween p S q C b → Clear p S (client_after q C) n
clear p S q C b n e heard_all i f l a low below = go (under (client_after q C).subtree f.head) refl
  where
    few : suc i ≤ max_sequence
    few = omega (arith, l.below, latest_max p S)

    num : number_of (update (suc i) f) ≡ suc i
    num = update-number (suc i) f l.good few

    go : (t : Bool) → under (client_after q C).subtree f.head ≡ t → t ≡ false
    go false u = refl
    go true u =
        let is = update_is (suc i) f l.good few in
        let y = heard-number (update (suc i) f) q C
        (heard_all (update (suc i) f) a is (ap (under (client_after q C).subtree) (update-key (suc i) f l.good few) ∙ u) (omega (arith, num)) (omega (arith, num))) is in
        absurd (omega (arith, y.0, num))

-- ---- a client joins and follows
module _ (p : ServerStart) (before : Log ServerCall) (request : Bytes) (room : ℕ) (after : Log ServerCall)
    (granted : book_refusal (book_after p before) (icanhaz request room) ≡ none) where
  abbrev S : Log ServerCall
  S = (before ▷ icanhaz request room) ⧺ after

  abbrev m : ℕ
  m = latest p before

  abbrev asked : Bytes
  asked = frame_at 2 request

  abbrev answer : Log Bytes
  answer = snapshot_of (server_after p before) asked

  map_then : map_at p S m ≡ map_of (book_after p before)
  map_then =
      map_kept p (before ▷ icanhaz request room) after m (latest_rises p before (icanhaz request room))
      ∙ (map_kept p before (empty ▷ icanhaz request room) m (omega arith) ∙ map_now p before)

  -- the rows that were sent are the part of the map at m
  rows_then : set_all [] (map_rows held (keep (under asked) (server_after p before).rows)) ≡ keep (under asked) (map_at p S m)
  rows_then =
      ap (set_all []) (sent-rows p before (under asked) ∙ ap (keep (under asked)) (sym map_then))
      ∙ set_all_nil (keep (under asked) (map_at p S m)) (sorted_keep (under asked) (map_at p S m) (map_sorted p S m))

  at_most : m ≤ latest p S
  at_most = omega (arith, latest_rises p before (icanhaz request room), latest_append p (before ▷ icanhaz request room) after)

  -- the end of the answer is taken: the client is live, with the part of the map at m
  finishes : (v : Replica) (b : Bytes) → b ≡ bytes_of (kthxbai (server_after p before).number asked) → v.subtree ≡ frame_at 4 b → v.rows ≡ set_all [] (map_rows held (keep (under asked) (server_after p before).rows))
      → Follows p S (effect_next v (finish (number_of b))) m empty
  unfolding effect_next highest
  finishes v b e s r =
      let u = granted-subtree (book_after p before) request room granted in
      let n : number_of b ≡ m =
      ap number_of e ∙ (end_number (server_after p before).number asked u (omega (arith, server-number p before, latest_max p before)) ∙ server-number p before) in
      let z : v.subtree ≡ asked = s ∙ (ap (frame_at 4) e ∙ end_subtree (server_after p before).number asked u) in
      record { live = refl; number = n; least = omega arith; most = omega (arith, at_most); map = rw (n, z) (r ∙ rows_then) }

  join_step : {v v' : Replica} {w h : Option Bytes} → Take v v' w h → (A : Log Bytes) (b : Bytes) → w ≡ some b → A ▷ b ≡ answer
      → (A ≡ syncs_of (server_after p before) asked → (v.live ≡ false) × (v.rows ≡ set_all [] (map_rows held (keep (under asked) (server_after p before).rows))))
      → Follows p S v' m empty
  join_step {v} {v'} {w} {h} (idle e f g) A b z a s = absurd (none-ne-some b (sym f ∙ z))
  join_step {v} {v'} {w} {h} (ended c l k t e f g) A b z a s = rw e (finishes v c (cc) t (s (cc)).1)
  join_step {v} {v'} {w} {h} (synced c l k e f g) A b z a s =
      let u = granted-subtree (book_after p before) request room granted in
      let q : c ≡ bytes_of (kthxbai (server_after p before).number asked) = cc in
      absurd (true≢false (sym (end_word (server_after p before).number asked u) ∙ (ap (λ (x : Bytes). same word_kthxbai (frame_at 0 x)) (sym q) ∙ k)))
  join_step {v} {v'} {w} {h} (alive c t l k e f g) A b z a s = absurd (true≢false (sym l ∙ (s (cc)).0))
  join_step {v} {v'} {w} {h} (moved c l k e f g) A b z a s = absurd (true≢false (sym l ∙ (s (cc)).0))

  follow_step : (q : ClientStart) (C : Log ClientCall) (x : ClientCall) (since : Log Bytes) (b : Bytes) → accepts (client_after q C) x ≡ some b → Among b (published p S)
      → ((b' : Bytes) → hears (client_after q C) x ≡ some b' → is_kvpub b' ≡ true → (client_after q C).number < number_of b' → AllBetween p S q C b')
      → {v' : Replica} {w h : Option Bytes} → w ≡ accepts (client_after q C) x → h ≡ hears (client_after q C) x → Take (client_after q C) v' w h
      → Follows p S (client_after q C) m since → Follows p S v' m (since ▷ b)
  unfolding effect_next highest
  follow_step q C x since b t a gap {v'} {w} {h} wt ht (idle e f k) F = absurd (none-ne-some b (sym f ∙ (wt ∙ t)))
  follow_step q C x since b t a gap {v'} {w} {h} wt ht (synced c l k e f i) F = absurd (true≢false (sym F.live ∙ l))
  follow_step q C x since b t a gap {v'} {w} {h} wt ht (ended c l k s e f i) F = absurd (true≢false (sym F.live ∙ l))
  follow_step q C x since b t a gap {v'} {w} {h} wt ht (alive c y l k e f i) F =
      let bc : b ≡ c = cc in
      rw (e, bc) (record { live = F.live; number = rw (unnumbered c k) F.number; least = F.least; most = F.most; map = F.map })
  follow_step q C x since b t a gap {v'} {w} {h} wt ht (moved c l k e f i) F = go (published_steps p S b a)
    where
      bc : b ≡ c
      bc = cc

      go : IsStep p S b → Follows p S v' m (since ▷ b)
      go (inl y) = absurd (true≢false (sym k ∙ (ap is_kvpub (sym bc ∙ y) ∙ hugz_not)))
      go (inr y) =
          let n : ℕ = y.0 in
          let g : Fields = y.1 in
          let lk : Step p S n g = y.2 in
          let cu : c ≡ update (suc n) g = sym bc ∙ y.3 in
          let num : number_of c ≡ suc n = ap number_of cu ∙ update-number (suc n) g lk.good (omega (arith, lk.below, latest_max p S)) in
          rw (e, y.3, cu)
          (takes-update p S (client_after q C) m since (first_latest p before) F n g lk
          (λ (d : (client_after q C).number < suc n). clear p S q C c (suc n) num (gap c (sym ht ∙ i) k (omega (arith, num)))))

  pub follow : (q : ClientStart) (C : Log ClientCall) (since : Log Bytes) → accepted q C ≡ answer ⧺ since → ((b : Bytes) → Among b since → Among b (published p S)) → NoGap p S q C
      → Follows p S (client_after q C) m since
  unfolding accepted client_after
  follow q empty empty e o g = absurd (empty_not_longer (syncs_of (server_after p before) asked) _ e)
  follow q empty (since ▷ b) e o g = absurd (empty_not_longer (answer ⧺ since) b e)
  follow q (C ▷ x) since e o g = go (accepts (client_after q C) x) refl (take (client_after q C) x) since e o (λ (s : Log Bytes). follow q C s)
    where
      go : (w : Option Bytes) → accepts (client_after q C) x ≡ w → Take (client_after q C) (client_next (client_after q C) x) (accepts (client_after q C) x) (hears (client_after q C) x)
          → (s : Log Bytes) → add (accepted q C) w ≡ answer ⧺ s → ((b : Bytes) → Among b s → Among b (published p S))
          → ((s' : Log Bytes) → accepted q C ≡ answer ⧺ s' → ((b : Bytes) → Among b s' → Among b (published p S)) → NoGap p S q C → Follows p S (client_after q C) m s')
          → Follows p S (client_next (client_after q C) x) m s
      go none t k s e' o' ih = rw (idle_of k t) (ih s e' o' g.0)
      go (some b) t k empty e' o' ih = join_step k (accepted q C) b t e' (rows_taken (server_after p before) asked (server_sound p before) q C)
      go (some b) t k (s ▷ c) e' o' ih =
          let bc : b ≡ c = cc in
          rw (← bc)
          (follow_step q C x s b t (rw bc (o' c (inl refl))) g.1 refl refl k (ih s (cc) (λ (d : Bytes) (y : Among d s). o' d (inr y)) g.0))
