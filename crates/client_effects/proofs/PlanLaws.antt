-- Laws of plans: a change of a row that is not one too many is one that the rows allow, and what is planned for an effect
-- is what its checks and its phase leave of it. Assumes nothing.
use Prim.Native.Nat.{ℕ, ◌≤◌}
use native.Mathlib.Omega.{arith}
use mathlib.Core.Bool.{Bool, true, false, cond}
use mathlib.Core.List.{List}
use mathlib.Core.Option.{Option, none, some}
use mathlib.Core.Path.{◌≡◌, refl, sym, ap, ◌∙◌}
use lib.ListN.{length}
use Rattle.std.specs.Prelude.{Result, Ok, Err}
use Rattle.answers.specs.declared.answer.Kind.{Kind}
use Rattle.answers.specs.declared.refusal.Refusal.TheVariants.{Full}
use Rattle.answers.specs.declared.refusal.Refusal.{Refusal}
use Rattle.base.specs.Bytes.{Bytes, is_nil}
use Rattle.base.specs.Checks.{first_refusal}
use Rattle.client_calls.specs.Answers.{effect_kind}
use Rattle.client_calls.specs.Effects.{Effect, sync, finish, hear, stale, outside, apply}
use Rattle.client_calls.specs.Refusals.{overfilled_by, effect_checks}
use Rattle.client_effects.specs.Plans.{counted, effect_header, effect_row, row_change, plan_unless, plan_in_phase, plan_with, effect_plan}
use Rattle.client_effects.specs.declared.Plan.TheVariants.{Note, Store}
use Rattle.client_effects.specs.declared.Plan.{Plan}
use Rattle.client_state.specs.declared.Header.{Header}
use Rattle.row_cells.specs.Sizes.{max_rows}
use Rattle.row_change.specs.Changes.{count_after, Fits, is_over}
use Rattle.row_change.specs.declared.Change.{Change}
use Rattle.row_search.proofs.FindLaws.{over_is, change_fits}
use Rattle.row_search.specs.Places.{place_of, is_found, change_to}

-- ---- a row that is set or removed
-- a change that is not one too many is one that the rows allow
pub made_fits : (removes : Bool) (key : Bytes) (keys : List Bytes) (n : ℕ) → length keys ≡ n → n ≤ max_rows → {made : Change} → made ≡ change_to removes (place_of 0 key keys) → is_over made n ≡ false → Fits made n
made_fits removes key keys n many few is over = rw is (change_fits key keys keys refl n many removes few (rw is at over))

-- ---- an effect, by keys and a header
-- no effect counts rows by itself, and none changes the subtree
pub same_sizes : (h : Header) (e : Effect) → ((effect_header h e).count ≡ h.count) × ((effect_header h e).subtree_length ≡ h.subtree_length)
same_sizes h (sync key value) = (refl, refl)
same_sizes h (finish n) = (refl, refl)
same_sizes h (hear t) = (refl, refl)
same_sizes h stale = (refl, refl)
same_sizes h (outside n) = (refl, refl)
same_sizes h (apply n key value) = (refl, refl)

module _ (keys : List Bytes) where
  abbrev pub held_among : Bytes → Bool
  held_among k = is_found (place_of 0 k keys)

  -- what it refuses as one too many is what its change would add
  pub over_same : (e : Effect) (n : ℕ) → overfilled_by held_among n e ≡ is_over (row_change (effect_row e) keys) n
  over_same (sync key value) n = sym (over_is false (place_of 0 key keys) n)
  over_same (finish m) n = refl
  over_same (hear t) n = refl
  over_same stale n = refl
  over_same (outside m) n = refl
  over_same (apply m key value) n = sym (over_is (is_nil value) (place_of 0 key keys) n)

  -- so that this check is part of its plan
  room_planned : (row : Option (Bool × Bytes)) (h : Header) (kind : Kind) (n : ℕ) → h.count ≡ n
      → plan_unless (cond (is_over (row_change row keys) n) (some Full) none) (plan_with row keys h kind) ≡ plan_with row keys h kind
  room_planned none h kind n e = refl
  room_planned (some row) h kind n e = rw (← e) (go (is_over (row_change (some row) keys) h.count) _)
    where
      go : (t : Bool) (store : Result Plan Refusal) → plan_unless (cond t (some Full) none) (cond t (Err Full) store) ≡ cond t (Err Full) store
      go true store = refl
      go false store = refl

  pub checks_planned : (h : Header) (e : Effect) (other_phase : Bool)
      → plan_unless (first_refusal (effect_checks other_phase held_among h.count e)) (effect_plan keys h e) ≡ plan_in_phase other_phase (effect_plan keys h e)
  unfolding first_refusal
  checks_planned h e true = refl
  checks_planned h e false =
      rw (over_same e h.count) (room_planned (effect_row e) (effect_header h e) (effect_kind h.number.0 e) h.count (same_sizes h e).0)

-- ---- for cases that cannot be
pub clash : {A : Type 0} → ◌≡◌ {A = ℕ} 0 1 → A
clash z = absurd (omega arith)

-- ---- what a plan says of the refusal, and of the effect where there is none
module _ (x : Option Refusal) {whole plan : Result Plan Refusal} (is : whole ≡ plan_unless x plan) where
  pub plan_refused : {r : Refusal} → whole ≡ Err r → (x ≡ none → plan ≡ Err r → ⊥) → x ≡ some r
  plan_refused {r} p never = go x (sym is ∙ p) never
    where
      go : (y : Option Refusal) → plan_unless y plan ≡ Err r → (y ≡ none → plan ≡ Err r → ⊥) → y ≡ some r
      go none q n = absurd (n refl q)
      go (some s) q n = let i : s ≡ r = cc in ap some i

  pub plan_noted : {after : Header} {kind : Kind} → whole ≡ Ok (Note after kind) → (x ≡ none) × (plan ≡ Ok (Note after kind))
  plan_noted {after} {kind} p = go x (sym is ∙ p)
    where
      go : (y : Option Refusal) → plan_unless y plan ≡ Ok (Note after kind) → (y ≡ none) × (plan ≡ Ok (Note after kind))
      go none q = (refl, q)
      go (some s) q = clash cc

  pub plan_stored : {change : Change} {after : Header} {kind : Kind} → whole ≡ Ok (Store change after kind) → (x ≡ none) × (plan ≡ Ok (Store change after kind))
  plan_stored {change} {after} {kind} p = go x (sym is ∙ p)
    where
      go : (y : Option Refusal) → plan_unless y plan ≡ Ok (Store change after kind) → (y ≡ none) × (plan ≡ Ok (Store change after kind))
      go none q = (refl, q)
      go (some s) q = clash cc

-- what a plan that stores a row says
pub record StoredAs (row : Option (Bool × Bytes)) (keys : List Bytes) (h : Header) (kind : Kind) (change : Change) (after : Header) (k : Kind) : Type 0 where
  pub own : Bool × Bytes
  pub row_is : row ≡ some own
  pub change_is : change ≡ change_to own.0 (place_of 0 own.1 keys)
  pub after_is : after ≡ counted h (count_after change h.count)
  pub kind_is : k ≡ kind

-- a plan that stores nothing too many
module _ (keys : List Bytes) (h : Header) (kind : Kind) where
  pub not_refused : (row : Option (Bool × Bytes)) → is_over (row_change row keys) h.count ≡ false → {r : Refusal} → plan_with row keys h kind ≡ Err r → ⊥
  not_refused none room q = clash cc
  not_refused (some row) room q = let p = rw room at q in clash cc

  pub is_noted : (row : Option (Bool × Bytes)) → is_over (row_change row keys) h.count ≡ false → {after : Header} {k : Kind} → plan_with row keys h kind ≡ Ok (Note after k)
      → (row ≡ none) × ((after ≡ h) × (k ≡ kind))
  is_noted none room q = (refl, (cc, cc))
  is_noted (some row) room q = let p = rw room at q in clash cc

  pub is_stored : (row : Option (Bool × Bytes)) → is_over (row_change row keys) h.count ≡ false → {change : Change} {after : Header} {k : Kind} → plan_with row keys h kind ≡ Ok (Store change after k)
      → StoredAs row keys h kind change after k
  is_stored none room q = clash cc
  is_stored (some row) room q = let p = rw room at q in record { own = row; row_is = refl; change_is = cc; after_is = cc; kind_is = cc }
