-- Laws of lookup: what the search says, and the value that is held where the key is found. Assumes nothing.
use Prim.Native.Nat.{ℕ, ◌≤◌, ◌<◌}
use native.Mathlib.Omega.{arith}
use mathlib.Core.Bool.{not-not}
use mathlib.Core.List.{List, [], ◌∷◌, ◌++◌, append_assoc}
use mathlib.Core.Option.{Option, none, some}
use mathlib.Core.Path.{◌≡◌, refl, sym, ap, ◌∙◌}
use lib.Dec.{ltb}
use lib.ListN.{length}
use borrow.Author.Tests.{le-ltb}
use Rattle.std.specs.Prelude
use Rattle.std.specs.Prelude.{Some, None, Result, Ok, Err}
use Rattle.answers.specs.Answers.{answer}
use Rattle.answers.specs.Refusals.{verdict}
use Rattle.answers.specs.declared.answer.Answer.{Answer}
use Rattle.answers.specs.declared.answer.Kind.TheVariants.{Refused, Found as Told, Absent as Nowhere}
use Rattle.answers.specs.declared.refusal.Refusal.TheVariants.{ShortOutput}
use Rattle.answers.specs.declared.refusal.Refusal.{Refusal}
use Rattle.base.proofs.CheckLaws.{pass_all, stop_all, both_passed}
use Rattle.base.proofs.OutputLaws.{put-nothing}
use Rattle.base.specs.Bytes.{Bytes}
use Rattle.base.specs.Checks.Check.{when}
use Rattle.base.specs.Checks.{Check, first_refusal}
use Rattle.cells.specs.Cells.{cell_at}
use Rattle.client_calls.proofs.QueryLaws.{query_refused, query_accepted, Puts}
use Rattle.client_calls.specs.Calls.{lookup}
use Rattle.client_calls.specs.Next.{accepted_next}
use Rattle.client_calls.specs.Output.{accepted_bytes}
use Rattle.client_calls.specs.Promises.{Answered}
use Rattle.client_calls.specs.Refusals.{value_under, call_checks, refusal_of}
use Rattle.client_lookup.specs.Search.{key_checks, search_of}
use Rattle.client_state.proofs.FormLaws.{GoodClient, good_client}
use Rattle.client_state.proofs.StateLaws.{key_count, as_many}
use Rattle.client_state.specs.IllFormed.{ill_forms}
use Rattle.client_state.specs.Views.{is_waiting, key_list, value_list, view}
use Rattle.client_state.specs.declared.Client.{Client}
use Rattle.frame_forms.specs.Lengths.{value_room}
use Rattle.numbers.specs.Sequences.{sequence}
use Rattle.row_cells.proofs.TextLaws.{value_is, fitting_at, value-least, value-most_at, value-length}
use Rattle.row_cells.specs.Sizes.{max_rows, length_count, byte_count}
use Rattle.row_cells.specs.Texts.{value_length, row_value}
use Rattle.row_search.proofs.FindLaws.{held_at, held_missing, found_fits}
use Rattle.row_search.specs.Places.{place_of}
use Rattle.rows.specs.Rows.{held_under}

-- ---- checks behind those of the state
-- a verdict, and what a search comes to where it accepts
abbrev pub if_passed : Result (Unit {0}) Refusal → Result (Prelude.Option ℕ) Refusal → Result (Prelude.Option ℕ) Refusal
if_passed (Ok u) behind = behind
if_passed (Err r) behind = Err r

pub search_behind : (a b : List (Check Refusal)) (f : Result ℕ ℕ) → search_of (first_refusal (a ++ b)) f ≡ if_passed (verdict (first_refusal a)) (search_of (first_refusal b) f)
search_behind a b f = go (first_refusal a) refl
  where
    go : (x : Option Refusal) → first_refusal a ≡ x → search_of (first_refusal (a ++ b)) f ≡ if_passed (verdict x) (search_of (first_refusal b) f)
    go none e = ap (λ (x : Option Refusal). search_of x f) (pass_all a b e)
    go (some r) e = ap (λ (x : Option Refusal). search_of x f) (stop_all a b r e)

-- ---- what the search says of the checks and of the place
module _ (x : Option Refusal) (f : Result ℕ ℕ) {s : Result (Prelude.Option ℕ) Refusal} (is : s ≡ search_of x f) where
  clash : {A : Type 0} → ◌≡◌ {A = ℕ} 0 1 → A
  clash z = absurd (omega arith)

  search_refused : {r : Refusal} → s ≡ Err r → x ≡ some r
  search_refused {r} p = go x f (sym is ∙ p)
    where
      go : (y : Option Refusal) (g : Result ℕ ℕ) → search_of y g ≡ Err r → y ≡ some r
      go none (Ok i) q = clash cc
      go none (Err i) q = clash cc
      go (some o) g q = let i : o ≡ r = cc in ap some i

  search_found : {i : ℕ} → s ≡ Ok (Some i) → (x ≡ none) × (f ≡ Ok i)
  search_found {i} p = go x f (sym is ∙ p)
    where
      go : (y : Option Refusal) (g : Result ℕ ℕ) → search_of y g ≡ Ok (Some i) → (y ≡ none) × (g ≡ Ok i)
      go none (Ok j) q = let e : j ≡ i = cc in (refl, ap Ok e)
      go none (Err j) q = clash cc
      go (some o) g q = clash cc

  search_missed : s ≡ Ok None → (i : ℕ) × (x ≡ none) × (f ≡ Err i)
  search_missed p = go x f (sym is ∙ p)
    where
      go : (y : Option Refusal) (g : Result ℕ ℕ) → search_of y g ≡ Ok None → (i : ℕ) × (y ≡ none) × (g ≡ Err i)
      go none (Ok j) q = clash cc
      go none (Err j) q = (j, refl, refl)
      go (some o) g q = clash cc

-- ---- an answer has the number of the state
module _ (c : Client) where
  absent-number : answer (Nowhere c.header.number) 0 ≡ answer (Nowhere (sequence (view c).number)) 0
  unfolding view
  absent-number = refl

  found_number : Told (sequence (view c).number) ≡ Told c.header.number
  unfolding view
  found_number = refl

-- ---- the checks before that of the output, as the code makes them
abbrev pub own_checks : Client → Bytes → List (Check Refusal)
own_checks c key = key_checks c.header.phase key

-- and that of the output
abbrev room_check : Client → Bytes → ℕ → List (Check Refusal)
room_check c key room = when (ltb room (length (value_under key (view c).rows))) ShortOutput ∷ []

lookup-table : (c : Client) (key : Bytes) (room : ℕ) → call_checks (view c) (lookup key room) ≡ own_checks c key ++ room_check c key room
unfolding call_checks view
lookup-table c key room = rw (not-not (is_waiting c.header.phase))

-- a lookup that passes them is on a good state
searched : (c : Client) (key : Bytes) → first_refusal (ill_forms c ++ own_checks c key) ≡ none → GoodClient c
searched c key e = good_client c (both_passed (ill_forms c) (own_checks c key) e).0

-- ---- a lookup, by what the search comes to
module _ (c : Client) (key : Bytes) {s : Result (Prelude.Option ℕ) Refusal} (is : s ≡ search_of (first_refusal (ill_forms c ++ own_checks c key)) (place_of 0 key (key_list c))) where
  whole : (room : ℕ) → refusal_of c (lookup key room) ≡ first_refusal ((ill_forms c ++ own_checks c key) ++ room_check c key room)
  unfolding refusal_of
  whole room =
      ap (λ (table : List (Check Refusal)). first_refusal (ill_forms c ++ table)) (lookup-table c key room)
      ∙ ap first_refusal (sym (append_assoc (ill_forms c) (own_checks c key) (room_check c key room)))

  pub lookup-refused : {r : Refusal} → s ≡ Err r → (out : Bytes) {a : Answer} → a ≡ answer (Refused r c.header.number) 0
      → Answered c (lookup key (length out)) out c a out
  lookup-refused {r} p out told =
      query_refused c (lookup key (length out)) out (whole (length out) ∙ stop_all (ill_forms c ++ own_checks c key) (room_check c key (length out)) r (search_refused (first_refusal (ill_forms c ++ own_checks c key)) (place_of 0 key (key_list c)) is p)) told

  module _ (p : s ≡ Ok None) where
    missed : (i : ℕ) × (first_refusal (ill_forms c ++ own_checks c key) ≡ none) × (place_of 0 key (key_list c) ≡ Err i)
    missed = search_missed (first_refusal (ill_forms c ++ own_checks c key)) (place_of 0 key (key_list c)) is p

    none_held : held_under key (view c).rows ≡ none
    unfolding view
    none_held = held_missing key (key_list c) (value_list c) (as_many c) (searched c key missed.1).rows.rise missed.0 missed.2

    pub lookup_absent : (out : Bytes) {a : Answer} → a ≡ answer (Nowhere c.header.number) 0 → Answered c (lookup key (length out)) out c a out
    unfolding first_refusal accepted_next accepted_bytes
    lookup_absent out told =
        query_accepted c (lookup key (length out)) out out
        (whole (length out) ∙ pass_all (ill_forms c ++ own_checks c key) (room_check c key (length out)) missed.1 ∙ rw (none_held, le-ltb (length out) 0 (omega arith)))
        refl (told ∙ rw none_held (absent-number c)) (rw none_held (sym (put-nothing out)))

  module _ {i : ℕ} (p : s ≡ Ok (Some i)) where
    hit : (first_refusal (ill_forms c ++ own_checks c key) ≡ none) × (place_of 0 key (key_list c) ≡ Ok i)
    hit = search_found (first_refusal (ill_forms c ++ own_checks c key)) (place_of 0 key (key_list c)) is p

    pub key-passes : first_refusal (ill_forms c ++ own_checks c key) ≡ none
    key-passes = hit.0

    good : GoodClient c
    good = searched c key hit.0

    row_below : i < c.header.count
    row_below = found_fits key (key_list c) (value_list c) (as_many c) c.header.count (key_count c) i hit.1

    row-most : i < max_rows
    row-most = omega (arith, row_below, good.rows.few)

    -- its value lies in its cell
    pub value_known : (i < max_rows) × (value_length (cell_at length_count i c.lengths) ≤ value_room)
    value_known = (row-most, value-most_at c.header.count c.lengths good.rows.fit i row_below)

    -- and is what is held under the key
    held : held_under key (view c).rows ≡ some (row_value i c.bytes c.lengths)
    unfolding view
    held =
        held_at key (key_list c) (value_list c) (as_many c) good.rows.rise i hit.1 [] ∙ ap some (value_is c.header.count c.bytes c.lengths i row_below)

    -- it has bytes, in an array that has them all
    some_value : length c.bytes ≡ byte_count → 0 < length (row_value i c.bytes c.lengths)
    some_value z =
        let f = fitting_at c.header.count c.lengths good.rows.fit i row_below in
        omega (arith, value-length c.bytes c.lengths i z row-most f, value-least (cell_at length_count i c.lengths) f)

    pub lookup_puts : length c.bytes ≡ byte_count → (room : ℕ) → {value : Bytes} → value ≡ row_value i c.bytes c.lengths → Puts c (lookup key room) (own_checks c key) value room (Told c.header.number)
    unfolding accepted_next accepted_bytes
    lookup_puts z room value-own =
        let h = held ∙ ap some (sym value-own) in
        record {
          table = lookup-table c key room ∙ rw h;
          next = refl;
          bytes = rw h;
          kind_is = rw h (found_number c);
          some_bytes = rw value-own (some_value z);
        }
