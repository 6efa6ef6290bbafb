-- Laws of the search for the row that is due: the cases of a step, a scan from the end, and places against rows. Assumes
-- nothing.
use Rattle.std.specs.Prelude
use Rattle.std.specs.Prelude.{Some, None}
use Prim.Native.Nat.{ℕ, suc, ◌≤◌, ◌<◌}
use native.Mathlib.Omega.{arith}
use mathlib.Core.Bool.{Bool, true, false, cond}
use mathlib.Core.List.{List, [], ◌∷◌, map, zip_with}
use mathlib.Core.Option.{Option, none, some}
use mathlib.Core.Path.{◌≡◌, refl, sym, ap, ap₂, ◌∙◌}
use lib.Dec.{leb, ltb, eqb}
use lib.ListN.{length, get_or, drop, drop_of_length-le, length-map, get_or-map}
use lib.Seq.{drop-cons}
use borrow.Author.Tests.{ltb-true, ltb-false, lt-ltb, le-ltb, le-leb, lt-leb, ne_eqb}
use Rattle.base.specs.Bytes.{Bytes}
use Rattle.cells.proofs.CellLaws.{length-cells, cell-at}
use Rattle.cells.specs.Cells.{cells, cell_at}
use Rattle.numbers.specs.Ticks.{tick, max_tick}
use Rattle.numbers.specs.declared.tick.Tick.{Tick}
use Rattle.row_cells.proofs.TextLaws.{values_long}
use Rattle.row_cells.specs.Texts.{rows_of, values_of}
use Rattle.rows.specs.Rows.{map_rows}
use Rattle.server_calls.specs.Due.{sooner, least_due}
use Rattle.server_state.proofs.StateLaws.{key_count}
use Rattle.server_state.specs.Stamps.{stamp_count, stamp_expiry, never, expiry_in}
use Rattle.server_state.specs.Views.{Entry, entry, plain, key_list, entry_list}
use Rattle.server_state.specs.declared.Server.{Server}
use Rattle.server_deeds.specs.DuePlaces.{due_at, before, earlier, due_from, expiries_of}
use Rattle.server_deeds.specs.declared.due.Due.{Due}

-- ---- the expiries of the first n rows
module _ (n : ℕ) (stamps : List ℕ) where
  pub expiry_count : length (expiries_of n stamps) ≡ n
  unfolding expiries_of
  expiry_count = length-map (cells stamp_count n stamps) stamp_expiry ∙ length-cells stamp_count n stamps

  pub expiry_is : (i : ℕ) → i < n → get_or (expiries_of n stamps) i 0 ≡ stamp_expiry (cell_at stamp_count i stamps)
  unfolding expiries_of
  expiry_is i h = get_or-map stamp_expiry (cells stamp_count n stamps) i [] ∙ ap stamp_expiry (cell-at stamp_count n i stamps [] h)

-- ---- a scan from the end
module _ (t : ℕ) (es : List ℕ) where
  pub due_end : (n : ℕ) → length es ≤ n → None ≡ due_from n t (drop n es)
  unfolding due_from
  due_end n h = rw (drop_of_length-le es h)

  pub due_step : (i j : ℕ) → i ≡ suc j → i ≤ length es → {e : Tick} → e.0 ≡ get_or es j 0 → {rest found : Prelude.Option Due} → found ≡ earlier t j e rest → rest ≡ due_from i t (drop i es) → found ≡ due_from j t (drop j es)
  unfolding due_from
  due_step i j i-is h {e} e-is {rest} found-is rest_is =
      let b : j < length es = omega arith in
      found-is ∙ ap₂ (earlier t j) (ap tick e-is) rest_is ∙ rw (i-is, drop-cons es j 0 b)

-- ---- places against rows
-- a place one further
abbrev next : Prelude.Option Due → Prelude.Option Due
next (Some d) = due_at (suc d.at) d.expiry
next None = None

next_step : (t at : ℕ) (e : Tick) (rest : Prelude.Option Due) → earlier t (suc at) e (next rest) ≡ next (earlier t at e rest)
next_step t at e rest = go (ltb e.0 t) rest
  where
    pick : (b : Bool) (i : ℕ) (f : Tick) → cond b (due_at (suc i) f) (due_at (suc at) e) ≡ next (cond b (due_at i f) (due_at at e))
    pick true i f = refl
    pick false i f = refl

    go : (b : Bool) (rest : Prelude.Option Due) → cond b (before (suc at) e (next rest)) (next rest) ≡ next (cond b (before at e rest) rest)
    go false rest = refl
    go true (Some d) = pick (ltb d.expiry.0 e.0) d.at d.expiry
    go true None = refl

due_next : (i t : ℕ) (es : List ℕ) → due_from (suc i) t es ≡ next (due_from i t es)
unfolding due_from
due_next i t [] = refl
due_next i t (e ∷ es) = rw (due_next (suc i) t es) (next_step t i (tick e) (due_from (suc i) t es))

-- a row that is found is one of them
due_below : (t : ℕ) (es : List ℕ) (d : Due) → due_from 0 t es ≡ Some d → d.at < length es
unfolding due_from
due_below t [] d q = absurd (let z : ◌≡◌ {A = ℕ} 0 1 = cc in omega arith)
due_below t (e ∷ es) d q = go (ltb e t) (due_from 0 t es) (λ f. due_below t es f) (rw (due_next 0 t es) at q)
  where
    placed : (i : ℕ) (f : Tick) → i ≤ length es → due_at i f ≡ Some d → d.at < length (e ∷ es)
    placed i f h q = let a : record { at = i; expiry = f } ≡ d = cc in omega (arith, ap (λ (x : Due). x.at) a)

    pick : (b : Bool) (f : Due) → f.at < length es → cond b (due_at (suc f.at) f.expiry) (due_at 0 (tick e)) ≡ Some d → d.at < length (e ∷ es)
    pick true f h q = placed (suc f.at) f.expiry (omega arith) q
    pick false f h q = placed 0 (tick e) (omega arith) q

    go : (b : Bool) (x : Prelude.Option Due) → ((f : Due) → x ≡ Some f → f.at < length es) → cond b (before 0 (tick e) (next x)) (next x) ≡ Some d → d.at < length (e ∷ es)
    go false (Some f) ih q = pick true f (ih f refl) q
    go false None ih q = absurd (let z : ◌≡◌ {A = ℕ} 0 1 = cc in omega arith)
    go true (Some f) ih q = pick (ltb f.expiry.0 e) f (ih f refl) q
    go true None ih q = placed 0 (tick e) (omega arith) q

pub due_row-below : (t n : ℕ) (stamps : List ℕ) {d : Due} {found : Prelude.Option Due} → found ≡ due_from 0 t (expiries_of n stamps) → found ≡ Some d → d.at < n
due_row-below t n stamps {d} is at = omega (arith, due_below t (expiries_of n stamps) d (sym is ∙ at), expiry_count n stamps)

-- the key at a place that is due, with the expiry
abbrev pub keyed : List Bytes → Prelude.Option Due → Option (Bytes × ℕ)
keyed keys (Some d) = some (get_or keys d.at [], d.expiry.0)
keyed keys None = none

keyed_next : (k : Bytes) (keys : List Bytes) (d : Prelude.Option Due) → keyed (k ∷ keys) (next d) ≡ keyed keys d
keyed_next k keys (Some d) = refl
keyed_next k keys None = refl

-- a row whose expiry is not before t does not go in front of others
sooner_not : (t e : ℕ) (k : Bytes) (best : Option (Bytes × ℕ)) → t ≤ e → sooner t k (expiry_in e) best ≡ best
sooner_not t e k best h = go (eqb e never) best
  where
    go : (b : Bool) (best : Option (Bytes × ℕ)) → sooner t k (cond b none (some e)) best ≡ best
    go true best = refl
    go false none = rw (le-ltb e t h)
    go false (some b) = rw (le-ltb e t h)

sooner_keyed : (t e : ℕ) (k : Bytes) (keys : List Bytes) (d : Prelude.Option Due) → t ≤ max_tick
    → sooner t k (expiry_in e) (keyed keys d) ≡ keyed (k ∷ keys) (earlier t 0 (tick e) (next d))
sooner_keyed t e k keys d late = go (ltb e t) refl d
  where
    pick : (b : Bool) (i : ℕ) (f : Tick) → ltb f.0 e ≡ b
        → cond (leb e f.0) (some (k, e)) (some (get_or keys i [], f.0)) ≡ keyed (k ∷ keys) (cond b (due_at (suc i) f) (due_at 0 (tick e)))
    pick true i f q = rw (lt-leb e f.0 (ltb-true f.0 e q))
    pick false i f q = rw (le-leb e f.0 (ltb-false f.0 e q))

    go : (b : Bool) → ltb e t ≡ b → (d : Prelude.Option Due)
        → sooner t k (expiry_in e) (keyed keys d) ≡ keyed (k ∷ keys) (cond b (before 0 (tick e) (next d)) (next d))
    go false h d = sooner_not t e k (keyed keys d) (ltb-false e t h) ∙ sym (keyed_next k keys d)
    go true h (Some d) =
        let l = ltb-true e t h in
        rw (ne_eqb e never (λ q. omega arith), lt-ltb e t l) (pick (ltb d.expiry.0 e) d.at d.expiry refl)
    go true h None =
        let l = ltb-true e t h in
        rw (ne_eqb e never (λ q. omega arith), lt-ltb e t l)

-- when an entry expires
abbrev expires : Entry → Option ℕ
expires h = h.expiry

-- the row that goes is the one at the place that is due
by_places : (t : ℕ) (keys : List Bytes) (es : List ℕ) (held : List Entry) → t ≤ max_tick → length keys ≡ length es
    → map expires held ≡ map expiry_in es → least_due t (map_rows plain (rows_of keys held)) ≡ keyed keys (due_from 0 t es)
unfolding least_due map_rows rows_of zip_with plain due_from
by_places t [] [] held late n q = refl
by_places t [] (e ∷ es) held late n q = absurd (omega arith)
by_places t (k ∷ keys) [] held late n q = absurd (omega arith)
by_places t (k ∷ keys) (e ∷ es) [] late n q = absurd (let z : ◌≡◌ {A = ℕ} 0 1 = cc in omega arith)
by_places t (k ∷ keys) (e ∷ es) (h ∷ held) late n q =
    let a : h.expiry ≡ expiry_in e = cc in
    let b : map expires held ≡ map expiry_in es = cc in
    rw (a, by_places t keys es held late (omega arith) b, due_next 0 t es) (sooner_keyed t e k keys (due_from 0 t es) late)

-- what entries expire at is what their stamps say
entries_expire : (values : List Bytes) (stamps : List (List ℕ)) → length values ≡ length stamps → map expires (zip_with entry values stamps) ≡ map expiry_in (map stamp_expiry stamps)
unfolding zip_with
entries_expire [] [] n = refl
entries_expire [] (c ∷ stamps) n = absurd (omega arith)
entries_expire (v ∷ values) [] n = absurd (omega arith)
entries_expire (v ∷ values) (c ∷ stamps) n = ap (λ (l : List (Option ℕ)). expiry_in (stamp_expiry c) ∷ l) (entries_expire values stamps (omega arith))

-- of a server
pub by_place : (s : Server) (t : ℕ) → t ≤ max_tick
    → least_due t (map_rows plain (rows_of (key_list s) (entry_list s))) ≡ keyed (key_list s) (due_from 0 t (expiries_of s.header.count s.stamps))
unfolding expiries_of entry_list
by_place s t late =
    let n = s.header.count in
    let vs = values_of n s.bytes s.lengths in
    by_places t (key_list s) (map stamp_expiry (cells stamp_count n s.stamps)) (zip_with entry vs (cells stamp_count n s.stamps)) late
    (key_count s ∙ sym (length-map (cells stamp_count n s.stamps) stamp_expiry ∙ length-cells stamp_count n s.stamps))
    (entries_expire vs (cells stamp_count n s.stamps) (values_long n s.bytes s.lengths ∙ sym (length-cells stamp_count n s.stamps)))
