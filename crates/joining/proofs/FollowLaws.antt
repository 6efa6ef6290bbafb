-- A client that follows takes an update: its map is then the part under its subtree of the server's map at the update's number. Assumes nothing.
use Prim.Native.Nat.{ℕ, zero, suc, ◌+◌, ◌-◌, ◌≤◌, ◌<◌, max}
use native.Mathlib.Omega.{arith}
use mathlib.Core.Bool.{Bool, true, false, cond, not, ◌&&◌}
use mathlib.Core.Option.{none}
use mathlib.Core.Path.{◌≡◌, refl, sym, ap, subst, ◌∙◌}
use lib.Dec.{leb}
use lib.ListN.{length}
use borrow.Author.Tests.{leb-true, leb-false, lt-leb}
use Rattle.base.proofs.CheckLaws.{pass_all}
use Rattle.base.specs.Bytes.{Bytes, is_nil}
use Rattle.base.specs.Checks.{first_refusal}
use Rattle.base.specs.Octets.{number}
use Rattle.client_calls.specs.Calls.Call.{subscriber}
use Rattle.client_calls.specs.Effects.Effect.{stale, outside, apply}
use Rattle.client_calls.specs.Effects.{update_effect}
use Rattle.client_calls.specs.Next.{rows_after, effect_next}
use Rattle.client_calls.specs.Refusals.{overfilled_by, call_checks}
use Rattle.client_state.specs.Views.{Replica}
use Rattle.frames.specs.Messages.{frame_at}
use Rattle.messages.specs.Fields.{Fields, fields_of}
use Rattle.keys.specs.Keys.{under}
use Rattle.numbers.specs.Sequences.{max_sequence}
use Rattle.ports.specs.Ports.{subscriber_port}
use Rattle.rows.proofs.RowLaws.{sorted_keep, keep_set_in, keep_set_out, keep-remove_in, keep-remove-out, length-set, length-keep}
use Rattle.rows.specs.Rows.{Rows, Sorted, set_row, remove_row, keep, has_key}
use Rattle.server_calls.specs.Calls.{Call as ServerCall}
use Rattle.server_calls.specs.Refusals.{update}
use Rattle.joining.proofs.ClientLaws.{after_update}
use Rattle.joining.proofs.HistoryLaws.{first, latest, latest_max, map_sorted, map_count, Step, step_of}
use Rattle.joining.proofs.PublicationLaws.{update-passes, update-head, update_not_hugz, update-number, update-value, update-kvpub}
use Rattle.joining.specs.Book.{ServerStart, map_at}
use Rattle.joining.specs.Ends.{published, client_refusal}
use Rattle.joining.specs.Joining.{highest, at_least, Follows}
use Rattle.base.specs.Logs.Log.{◌▷◌}
use Rattle.base.specs.Logs.{Log, Among}
use Rattle.joining.specs.Readings.{number_of, kvpub_number}
use Rattle.row_cells.specs.Sizes.{max_rows}

-- ---- an update, cut to a part
keep_in : (test : Bytes → Bool) (k x : Bytes) (l : Rows Bytes) → test k ≡ true → Sorted l → keep test (rows_after k x l) ≡ rows_after k x (keep test l)
keep_in test k x l e s = go (is_nil x)
  where
    go : (b : Bool) → keep test (cond b (remove_row k l) (set_row k x l)) ≡ cond b (remove_row k (keep test l)) (set_row k x (keep test l))
    go true = keep-remove_in test k l s
    go false = keep_set_in test k x l e s

keep_out : (test : Bytes → Bool) (k x : Bytes) (l : Rows Bytes) → test k ≡ false → keep test (rows_after k x l) ≡ keep test l
keep_out test k x l e = go (is_nil x)
  where
    go : (b : Bool) → keep test (cond b (remove_row k l) (set_row k x l)) ≡ keep test l
    go true = keep-remove-out test k l e
    go false = keep_set_out test k x l e

module _ (p : ServerStart) (S : Log ServerCall) where
  unmoved_one : (test : Bytes → Bool) (i : ℕ) (f : Fields) → Step p S i f → test f.head ≡ false → keep test (map_at p S (suc i)) ≡ keep test (map_at p S i)
  unmoved_one test i f l e = ap (keep test) l.makes ∙ keep_out test f.head f.value (map_at p S i) e

  -- no update of the part from c to n = c + d: the part is the same
  unmoved : (test : Bytes → Bool) (d c n : ℕ) → n ≡ c + d → first p ≤ c → n ≤ latest p S
      → ((i : ℕ) (f : Fields) → Step p S i f → Among (update (suc i) f) (published p S) → c ≤ i → i < n → test f.head ≡ false)
      → keep test (map_at p S n) ≡ keep test (map_at p S c)
  unmoved test zero c n e l h k = ap (λ (i : ℕ). keep test (map_at p S i)) (omega arith)
  unmoved test (suc d) c n e l h k =
      let w = step_of p S (c + d) (omega arith) (omega arith) in
      ap (λ (i : ℕ). keep test (map_at p S i)) e'
      ∙ (unmoved_one test (c + d) w.0 w.1 (k (c + d) w.0 w.1 w.2 (omega arith) (omega arith))
      ∙ unmoved test d c (c + d) refl l (omega arith)
      (λ (j : ℕ) (f : Fields) (a : Step p S j f) (b : Among (update (suc j) f) (published p S)) (x : c ≤ j) (y : j < c + d). k j f a b x (omega arith)))
    where
      e' : n ≡ suc (c + d)
      e' = omega arith

  -- between the client's number and n there is no KVPUB of its subtree
  abbrev pub Clear : Replica → ℕ → Type 0
  Clear v n =
      (i : ℕ) (f : Fields) → Step p S i f → Among (update (suc i) f) (published p S) → v.number ≤ i → suc i < n → under v.subtree f.head ≡ false

  -- the step from n to the next number, at a client whose number is n or less
  module _ (v : Replica) (n : ℕ) (f : Fields) (l : Step p S n f) (h : first p ≤ v.number) (k : v.number ≤ n) (c : Clear v (suc n))
      (e : v.rows ≡ keep (under v.subtree) (map_at p S v.number)) where
    abbrev test : Bytes → Bool
    test = under v.subtree

    before : keep test (map_at p S n) ≡ v.rows
    before =
        unmoved test (n - v.number) v.number n (omega arith) h (omega (arith, l.below))
        (λ (i : ℕ) (g : Fields) (a : Step p S i g) (b : Among (update (suc i) g) (published p S)) (x : v.number ≤ i) (y : i < n). c i g a b x (omega arith))
        ∙ sym e

    inside : test f.head ≡ true → rows_after f.head f.value v.rows ≡ keep test (map_at p S (suc n))
    inside g =
        ap (rows_after f.head f.value) (sym before)
        ∙ (sym (keep_in test f.head f.value (map_at p S n) g (map_sorted p S n)) ∙ ap (keep test) (sym l.makes))

    outside_it : test f.head ≡ false → v.rows ≡ keep test (map_at p S (suc n))
    outside_it g = sym before ∙ (sym (keep_out test f.head f.value (map_at p S n) g) ∙ ap (keep test) (sym l.makes))

    -- the client has room for it: its map is a part of the server's
    never_full : test f.head ≡ true → (not (is_nil f.value) && (not (has_key f.head v.rows) && leb max_rows (length v.rows))) ≡ false
    never_full g = go (is_nil f.value) (has_key f.head v.rows) refl (inside g)
      where
        sorted : Sorted v.rows
        sorted = subst Sorted (sym e) (sorted_keep test (map_at p S v.number) (map_sorted p S v.number))

        few : length (keep test (map_at p S (suc n))) ≤ max_rows
        few = omega (arith, length-keep test (map_at p S (suc n)), map_count p S (suc n))

        go : (b d : Bool) → has_key f.head v.rows ≡ d → cond b (remove_row f.head v.rows) (set_row f.head f.value v.rows) ≡ keep test (map_at p S (suc n))
            → (not b && (not d && leb max_rows (length v.rows))) ≡ false
        go true d a i = refl
        go false true a i = refl
        go false false a i =
            let s : length (set_row f.head f.value v.rows) ≡ suc (length v.rows) =
            length-set f.head f.value v.rows sorted ∙ ap (λ (x : Bool). cond x (length v.rows) (suc (length v.rows))) a in
            lt-leb max_rows (length v.rows) (omega (arith, s, ap length i, few))

  -- ---- a client that follows takes a KVPUB of the server
  module _ (v : Replica) (m : ℕ) (since : Log Bytes) (low : first p ≤ m) (F : Follows p S v m since) (n : ℕ) (f : Fields) (l : Step p S n f)
      (c : v.number < suc n → Clear v (suc n)) where
    abbrev msg : Bytes
    msg = update (suc n) f

    most : suc n ≤ max_sequence
    most = omega (arith, l.below, latest_max p S)

    -- its frames
    num : number (frame_at 1 msg) ≡ suc n
    unfolding number_of
    num = update-number (suc n) f l.good most

    key : frame_at 0 msg ≡ f.head
    key = update-head (suc n) f l.good most

    value : frame_at 4 msg ≡ f.value
    value = update-value (suc n) f l.good most

    low_enough : first p ≤ v.number
    low_enough = omega (arith, F.least)

    top : at_least (highest m since) (kvpub_number msg) ≡ max v.number (suc n)
    top = rw (update-kvpub (suc n) f l.good most, F.number)

    -- by what the update does
    pub takes-update : Follows p S (after_update v msg) m (since ▷ msg)
    unfolding highest effect_next
    takes-update = go (leb (number (frame_at 1 msg)) v.number) (under v.subtree (frame_at 0 msg)) refl refl
      where
        total : (i : ℕ) → i ≡ max v.number (suc n) → i ≡ highest m (since ▷ msg)
        total i e = e ∙ sym top

        go : (old near : Bool) → leb (number (frame_at 1 msg)) v.number ≡ old → under v.subtree (frame_at 0 msg) ≡ near
            → Follows p S (effect_next v (cond old stale (cond near (apply (number (frame_at 1 msg)) (frame_at 0 msg) (frame_at 4 msg)) (outside (number (frame_at 1 msg)))))) m (since ▷ msg)
        go true near a b =
            let k : number (frame_at 1 msg) ≤ v.number = leb-true _ _ a in
            record { live = F.live; number = total v.number (omega (arith, num)); least = F.least; most = F.most; map = F.map }
        go false true a b =
            let k : v.number < number (frame_at 1 msg) = leb-false _ _ a in
            let k' : v.number < suc n = omega (arith, num) in
            record {
              live = F.live;
              number = total (number (frame_at 1 msg)) (omega (arith, num));
              least = omega (arith, num, F.least);
              most = omega (arith, num, l.below);
              map = rw (num, key, value) (inside v n f l low_enough (omega arith) (c k') F.map (ap (under v.subtree) (sym key) ∙ b));
            }
        go false false a b =
            let k : v.number < number (frame_at 1 msg) = leb-false _ _ a in
            let k' : v.number < suc n = omega (arith, num) in
            record {
              live = F.live;
              number = total (number (frame_at 1 msg)) (omega (arith, num));
              least = omega (arith, num, F.least);
              most = omega (arith, num, l.below);
              map = rw num (outside_it v n f l low_enough (omega arith) (c k') F.map (ap (under v.subtree) (sym key) ∙ b));
            }

    -- it has room for it
    fits : overfilled_by (λ (k : Bytes). has_key k v.rows) (length v.rows) (update_effect v.number v.subtree (fields_of msg)) ≡ false
    fits = go (leb (number (frame_at 1 msg)) v.number) (under v.subtree (frame_at 0 msg)) refl refl
      where
        go : (old near : Bool) → leb (number (frame_at 1 msg)) v.number ≡ old → under v.subtree (frame_at 0 msg) ≡ near
            → overfilled_by (λ (k : Bytes). has_key k v.rows) (length v.rows)
            (cond old stale (cond near (apply (number (frame_at 1 msg)) (frame_at 0 msg) (frame_at 4 msg)) (outside (number (frame_at 1 msg))))) ≡ false
        go true near a b = refl
        go false false a b = refl
        go false true a b =
            let k : v.number < number (frame_at 1 msg) = leb-false _ _ a in
            let k' : v.number < suc n = omega (arith, num) in
            rw (key, value) (never_full v n f l low_enough (omega arith) (c k') F.map (ap (under v.subtree) (sym key) ∙ b))

    pub refuses_none : (t : ℕ) → client_refusal v (subscriber msg t) ≡ none
    unfolding client_refusal call_checks first_refusal
    refuses_none t =
        pass_all (subscriber_port msg) _ (update-passes (suc n) f l.good most) ∙ rw (update_not_hugz (suc n) f l.good most, F.live, fits)
