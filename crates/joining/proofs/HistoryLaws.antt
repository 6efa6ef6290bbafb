-- The history of a server: each number has one map, reached from the one before by the update that the KVPUB with that number carries. Assumes nothing.
use Prim.Native.Nat.{ℕ, suc, ◌≤◌, ◌<◌}
use native.Mathlib.Decide.{dec_lt}
use native.Mathlib.Omega.{arith}
use mathlib.Core.Bool.{Bool, true, false, cond}
use mathlib.Core.Logic.{◌⊎◌, inl, inr}
use mathlib.Core.Option.{Option, none, some}
use mathlib.Core.Path.{◌≡◌, refl, sym, ap, ◌∙◌}
use lib.Dec.{leb}
use lib.ListN.{length}
use borrow.Author.Tests.{lt-ltb, le-ltb, le-leb, lt-leb}
use Rattle.base.specs.Bytes.{Bytes}
use Rattle.client_calls.specs.Next.{rows_after}
use Rattle.messages.specs.Fields.{Fields, bytes_of, hugz}
use Rattle.numbers.specs.Sequences.{max_sequence}
use Rattle.row_cells.specs.Sizes.{max_rows}
use Rattle.rows.proofs.RowLaws.{map-length, sorted_map}
use Rattle.rows.specs.Rows.{Rows, Sorted}
use Rattle.server_calls.specs.Calls.{Call}
use Rattle.server_calls.specs.Refusals.{update}
use Rattle.joining.proofs.BookLaws.{sound}
use Rattle.joining.proofs.LogLaws.{among_add, add_cases, among_new}
use Rattle.joining.proofs.PublicationLaws.{GoodUpdate, update-kvpub, hugz-number}
use Rattle.joining.proofs.ServerLaws.Move.{stays, steps}
use Rattle.joining.proofs.ServerLaws.{Move, book_move}
use Rattle.joining.specs.Book.{Book, ServerStart, book_start, book_after, value_of, map_of, map_at, rise, rises}
use Rattle.joining.specs.Ends.{server_after, publishes, published}
use Rattle.base.specs.Logs.Log.{empty, ◌▷◌}
use Rattle.base.specs.Logs.{Log, ◌⧺◌, Among, add}
use Rattle.joining.specs.Readings.{kvpub_numbers}

-- ---- the book's number, first and last
abbrev pub first : ServerStart → ℕ
first p = (book_start p).number

abbrev pub latest : ServerStart → Log Call → ℕ
latest p S = (book_after p S).number

move_rises : {b b' : Book} {w : Option Bytes} → Move b b' w → b.number ≤ b'.number
move_rises (stays e f h) = omega arith
move_rises (steps f g h e k w) = omega arith

pub latest_rises : (p : ServerStart) (S : Log Call) (x : Call) → latest p S ≤ latest p (S ▷ x)
latest_rises p S x = move_rises (book_move p S x)

latest_start : (p : ServerStart) → latest p empty ≡ first p
unfolding book_after
latest_start p = refl

pub first_latest : (p : ServerStart) (S : Log Call) → first p ≤ latest p S
first_latest p empty = omega (arith, latest_start p)
first_latest p (S ▷ x) = let a = first_latest p S in let b = latest_rises p S x in omega arith

pub latest_append : (p : ServerStart) (S D : Log Call) → latest p S ≤ latest p (S ⧺ D)
latest_append p S empty = omega arith
latest_append p S (D ▷ x) = let a = latest_append p S D in let b = latest_rises p (S ⧺ D) x in omega arith

pub latest_max : (p : ServerStart) (S : Log Call) → latest p S ≤ max_sequence
latest_max p S = (sound p S).number

-- ---- the map at a number
-- it does not change any more
map_stays : (p : ServerStart) (S : Log Call) (x : Call) (n : ℕ) → n ≤ latest p S → map_at p (S ▷ x) n ≡ map_at p S n
unfolding map_at
map_stays p S x n h = rw (le-leb n (book_after p S).number h)

pub map_kept : (p : ServerStart) (S D : Log Call) (n : ℕ) → n ≤ latest p S → map_at p (S ⧺ D) n ≡ map_at p S n
map_kept p S empty n h = refl
map_kept p S (D ▷ x) n h = map_stays p (S ⧺ D) x n (omega (arith, latest_append p S D)) ∙ map_kept p S D n h

-- that at the book's number is the book's
pub map_now : (p : ServerStart) (S : Log Call) → map_at p S (latest p S) ≡ map_of (book_after p S)
unfolding map_at book_after
map_now p empty = refl
map_now p (S ▷ x) = go (book_move p S x) (map_now p S)
  where
    go : Move (book_after p S) (book_after p (S ▷ x)) (publishes (server_after p S) x) → map_at p S (latest p S) ≡ map_of (book_after p S)
        → map_at p (S ▷ x) (latest p (S ▷ x)) ≡ map_of (book_after p (S ▷ x))
    go (stays e f h) ih = ap (λ (n : ℕ). map_at p (S ▷ x) n) e ∙ (map_stays p S x (latest p S) (omega arith) ∙ (ih ∙ sym f))
    go (steps f g h e k w) ih = rw (lt-leb (book_after p (S ▷ x)).number (book_after p S).number (omega arith))

pub one_map : (p : ServerStart) (S D : Log Call) → map_at p (S ⧺ D) (latest p S) ≡ map_of (book_after p S)
one_map p S D = map_kept p S D (latest p S) (omega arith) ∙ map_now p S

-- in key order, and of at most as many rows as there is room for
abbrev Tidy : Rows Bytes → Type 0
Tidy l = Sorted l × (length l ≤ max_rows)

book_tidy : (p : ServerStart) (S : Log Call) → Tidy (map_of (book_after p S))
unfolding map_of
book_tidy p S =
    let s = sound p S in
    (sorted_map value_of (book_after p S).rows s.sorted, omega (arith, map-length value_of (book_after p S).rows, s.count))

map_tidy : (p : ServerStart) (S : Log Call) (n : ℕ) → Tidy (map_at p S n)
unfolding map_at book_after
map_tidy p empty n = book_tidy p empty
map_tidy p (S ▷ x) n = go (leb n (book_after p S).number) (map_tidy p S n)
  where
    go : (b : Bool) → Tidy (map_at p S n) → Tidy (cond b (map_at p S n) (map_of (book_after p (S ▷ x))))
    go true i = i
    go false i = book_tidy p (S ▷ x)

pub map_sorted : (p : ServerStart) (S : Log Call) (n : ℕ) → Sorted (map_at p S n)
map_sorted p S n = (map_tidy p S n).0

pub map_count : (p : ServerStart) (S : Log Call) (n : ℕ) → length (map_at p S n) ≤ max_rows
map_count p S n = (map_tidy p S n).1

-- ---- the step from n to the next number, and the update that makes it
pub record Step (p : ServerStart) (S : Log Call) (n : ℕ) (f : Fields) : Type 0 where
  pub good : GoodUpdate f
  pub above : first p ≤ n
  pub below : n < latest p S
  pub makes : map_at p S (suc n) ≡ rows_after f.head f.value (map_at p S n)

step_stays : (p : ServerStart) (S : Log Call) (x : Call) (n : ℕ) (f : Fields) → Step p S n f → Step p (S ▷ x) n f
step_stays p S x n f l = record {
  good = l.good;
  above = l.above;
  below = omega (arith, l.below, latest_rises p S x);
  makes = map_stays p S x (suc n) l.below ∙ (l.makes ∙ ap (rows_after f.head f.value) (sym (map_stays p S x n (omega (arith, l.below)))));
}

new_step : (p : ServerStart) (S : Log Call) (x : Call) (f : Fields) → GoodUpdate f → latest p (S ▷ x) ≡ suc (latest p S)
    → map_of (book_after p (S ▷ x)) ≡ rows_after f.head f.value (map_of (book_after p S)) → Step p (S ▷ x) (latest p S) f
new_step p S x f g e k = record {
  good = g;
  above = first_latest p S;
  below = omega arith;
  makes = ap (λ (n : ℕ). map_at p (S ▷ x) n) (sym e)
      ∙ (map_now p (S ▷ x) ∙ (k ∙ ap (rows_after f.head f.value) (sym (map_stays p S x (latest p S) (omega arith) ∙ map_now p S))));
}

-- each number above the first has its KVPUB
pub step_of : (p : ServerStart) (S : Log Call) (n : ℕ) → first p ≤ n → n < latest p S → (f : Fields) × Step p S n f × Among (update (suc n) f) (published p S)
unfolding published
step_of p empty n h k = absurd (omega (arith, latest_start p))
step_of p (S ▷ x) n h k = go (dec_lt n (latest p S)) (book_move p S x) (λ (l : n < latest p S). step_of p S n h l)
  where
    go : Dec (n < latest p S) → Move (book_after p S) (book_after p (S ▷ x)) (publishes (server_after p S) x)
        → (n < latest p S → (f : Fields) × Step p S n f × Among (update (suc n) f) (published p S))
        → (f : Fields) × Step p (S ▷ x) n f × Among (update (suc n) f) (add (published p S) (publishes (server_after p S) x))
    go (yes l) m ih = let i = ih l in (i.0, step_stays p S x n i.0 i.1, among_add _ (published p S) (publishes (server_after p S) x) i.2)
    go (no l) (stays e f w) ih = absurd (omega arith)
    go (no l) (steps f g w e k' z) ih =
        let q : n ≡ latest p S = omega arith in
        (f, rw q (new_step p S x f g e k'), among_new (update (suc n) f) (published p S) (publishes (server_after p S) x) (rw q z))

-- each message that is published is HUGZ or such a KVPUB
abbrev pub IsStep : ServerStart → Log Call → Bytes → Type 0
IsStep p S b = (b ≡ bytes_of hugz) ⊎ ((n : ℕ) × (f : Fields) × Step p S n f × (b ≡ update (suc n) f))

pub published_steps : (p : ServerStart) (S : Log Call) (b : Bytes) → Among b (published p S) → IsStep p S b
unfolding published
published_steps p empty b h = absurd h
published_steps p (S ▷ x) b h = go (add_cases b (published p S) (publishes (server_after p S) x) h) (book_move p S x) (published_steps p S b)
  where
    older : IsStep p S b → IsStep p (S ▷ x) b
    older (inl e) = inl e
    older (inr l) = inr (l.0, l.1, step_stays p S x l.0 l.1 l.2, l.3)

    go : (publishes (server_after p S) x ≡ some b) ⊎ Among b (published p S) → Move (book_after p S) (book_after p (S ▷ x)) (publishes (server_after p S) x)
        → (Among b (published p S) → IsStep p S b) → IsStep p (S ▷ x) b
    go (inr i) m ih = older (ih i)
    go (inl i) (stays e f (inl w)) ih = inl cc
    go (inl i) (stays e f (inr w)) ih = inl cc
    go (inl i) (steps f g w e k z) ih = inr (latest p S, f, new_step p S x f g e k, cc)

-- ---- each rise of the number is published in exactly one KVPUB, with the new number
rise_none : (n : ℕ) → rise n n ≡ none
unfolding rise
rise_none n = rw (le-ltb n n (omega arith))

rise_one : (n : ℕ) → rise n (suc n) ≡ some (suc n)
unfolding rise
rise_one n = rw (lt-ltb n (suc n) (omega arith))

pub rises-published : (p : ServerStart) (S : Log Call) → kvpub_numbers (published p S) ≡ rises p S
unfolding kvpub_numbers published rises
rises-published p empty = refl
rises-published p (S ▷ x) = go (book_move p S x) (rises-published p S)
  where
    go : Move (book_after p S) (book_after p (S ▷ x)) (publishes (server_after p S) x) → kvpub_numbers (published p S) ≡ rises p S
        → kvpub_numbers (add (published p S) (publishes (server_after p S) x)) ≡ add (rises p S) (rise (book_after p S).number (book_after p (S ▷ x)).number)
    go (stays e f (inl w)) ih = rw (w, e, rise_none) ih
    go (stays e f (inr w)) ih = rw (w, e, rise_none, hugz-number) ih
    go (steps f g h e k w) ih =
        rw (w, e, rise_one, update-kvpub (suc (book_after p S).number) f g h) (ap (λ (c : Log ℕ). c ▷ suc (book_after p S).number) ih)
