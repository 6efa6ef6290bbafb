-- Laws of rows that are due: what the row that goes is, how many rows are due. Assumes nothing.
use Prim.Native.Nat.{ℕ, suc, ◌+◌, ◌≤◌, ◌<◌}
use native.Mathlib.Omega.{arith}
use mathlib.Core.Bool.{Bool, true, false, cond, ◌&&◌}
use mathlib.Core.List.{[], ◌∷◌}
use mathlib.Core.Logic.{◌⊎◌, inl, inr}
use mathlib.Core.Option.{Option, none, some}
use mathlib.Core.Path.{◌≡◌, refl, sym, ap, ◌∙◌, subst}
use lib.Dec.{leb, ltb}
use lib.ListN.{length}
use borrow.Author.Tests.{ltb-true, ltb-false, leb-true, leb-false, lt-ltb, le-ltb}
use Rattle.std.specs.Ordering.{is_le, ordering_reverse}
use Rattle.std.specs.declared.cmp.Ordering.TheVariants.{Less}
use Rattle.base.proofs.ByteLaws.{and_left, and_right}
use Rattle.base.specs.Bytes.{Bytes, every}
use Rattle.key_order.proofs.OrderLaws.{order_self, order_flip}
use Rattle.key_order.specs.Order.{order_of}
use Rattle.rows.specs.Rows.{Rows, remove_row, keys_in, Above, Sorted}
use Rattle.server_calls.specs.Due.{sooner, least_due}
use Rattle.server_state.specs.Views.{Held}

-- ---- what the row that goes is
-- r is one of some rows
abbrev pub Among : Bytes × Held → Rows Held → Type 0
Among r [] = ⊥
Among r (q ∷ l) = (r ≡ q) ⊎ Among r l

-- k is held with the expiry e, which is below t; no row has an earlier one, and of sorted rows none before k has the
-- same
pub record LeastDue (t : ℕ) (rows : Rows Held) (k : Bytes) (e : ℕ) : Type 0 where
  pub held : Held
  pub among : Among (k, held) rows
  pub expiry : held.expiry ≡ some e
  pub due : e < t
  pub least : (r : Bytes × Held) (f : ℕ) → Among r rows → r.1.expiry ≡ some f → f < t → e ≤ f
  pub first : Sorted rows → (r : Bytes × Held) → Among r rows → r.1.expiry ≡ some e → is_le (order_of k r.0) ≡ true

-- no expiry is below t
abbrev pub NoneDue : ℕ → Rows Held → Type 0
NoneDue t rows = (r : Bytes × Held) (f : ℕ) → Among r rows → r.1.expiry ≡ some f → t ≤ f

-- a key below those of all rows is below that of each
pub above_among : (k : Bytes) (l : Rows Held) (r : Bytes × Held) → Above k l → Among r l → order_of k r.0 ≡ Less
above_among k [] r h m = absurd m
above_among k (q ∷ l) r h (inl e) = ap (λ (x : Bytes × Held). order_of k x.0) e ∙ h.0
above_among k (q ∷ l) r h (inr m) = above_among k l r h.1 m

-- the first row goes: the others that are due expire no earlier
least_here : (t : ℕ) (q : Bytes × Held) (l : Rows Held) (x : ℕ) → q.1.expiry ≡ some x → x < t
    → ((r : Bytes × Held) (f : ℕ) → Among r l → r.1.expiry ≡ some f → f < t → x ≤ f) → LeastDue t (q ∷ l) q.0 x
least_here t q l x e h least = record { held = q.1; among = inl refl; expiry = e; due = h; least = go; first = ord }
  where
    go : (r : Bytes × Held) (f : ℕ) → Among r (q ∷ l) → r.1.expiry ≡ some f → f < t → x ≤ f
    go r f (inl p) g s = let z : x ≡ f = cc in omega arith
    go r f (inr m) g s = least r f m g s

    ord : Sorted (q ∷ l) → (r : Bytes × Held) → Among r (q ∷ l) → r.1.expiry ≡ some x → is_le (order_of q.0 r.0) ≡ true
    ord s r (inl p) g = ap is_le (ap (λ (y : Bytes × Held). order_of q.0 y.0) p ∙ order_self q.0)
    ord s r (inr m) g = ap is_le (above_among q.0 l r s.0 m)

-- the first row is not due, or expires later
least_there : (t : ℕ) (q : Bytes × Held) (l : Rows Held) (k : Bytes) (e : ℕ) → LeastDue t l k e
    → ((f : ℕ) → q.1.expiry ≡ some f → f < t → e < f) → LeastDue t (q ∷ l) k e
least_there t q l k e d late = record { held = d.held; among = inr d.among; expiry = d.expiry; due = d.due; least = go; first = ord }
  where
    go : (r : Bytes × Held) (f : ℕ) → Among r (q ∷ l) → r.1.expiry ≡ some f → f < t → e ≤ f
    go r f (inl p) g s = omega (arith, late f (ap (λ (y : Bytes × Held). y.1.expiry) (sym p) ∙ g) s)
    go r f (inr m) g s = d.least r f m g s

    ord : Sorted (q ∷ l) → (r : Bytes × Held) → Among r (q ∷ l) → r.1.expiry ≡ some e → is_le (order_of k r.0) ≡ true
    ord s r (inl p) g = absurd (omega (arith, late e (ap (λ (y : Bytes × Held). y.1.expiry) (sym p) ∙ g) d.due))
    ord s r (inr m) g = d.first s.1 r m g

none_there : (t : ℕ) (q : Bytes × Held) (l : Rows Held) → NoneDue t l → ((f : ℕ) → q.1.expiry ≡ some f → t ≤ f) → NoneDue t (q ∷ l)
none_there t q l d late r f (inl p) g = late f (ap (λ (y : Bytes × Held). y.1.expiry) (sym p) ∙ g)
none_there t q l d late r f (inr m) g = d r f m g

-- what least_due tells: the row, or that there is none
abbrev pub Told : ℕ → Rows Held → Option (Bytes × ℕ) → Type 0
Told t rows none = NoneDue t rows
Told t rows (some b) = LeastDue t rows b.0 b.1

told_step : (t : ℕ) (q : Bytes × Held) (l : Rows Held) (x : Option ℕ) (best : Option (Bytes × ℕ)) → q.1.expiry ≡ x → Told t l best
    → Told t (q ∷ l) (sooner t q.0 x best)
told_step t q l none none e d = none_there t q l d (λ f g. absurd (let z : ◌≡◌ {A = ℕ} 0 1 = cc in omega arith))
told_step t q l none (some b) e d = least_there t q l b.0 b.1 d (λ f g. absurd (let z : ◌≡◌ {A = ℕ} 0 1 = cc in omega arith))
told_step t q l (some x) none e d = go (ltb x t) refl
  where
    go : (b : Bool) → ltb x t ≡ b → Told t (q ∷ l) (cond b (some (q.0, x)) none)
    go true h = least_here t q l x e (ltb-true x t h) (λ r f m g s. absurd (omega (arith, d r f m g)))
    go false h = none_there t q l d (λ f g. let z : x ≡ f = cc in omega (arith, ltb-false x t h))
told_step t q l (some x) (some b) e d = go (ltb x t) refl (leb x b.1) refl
  where
    go : (u : Bool) → ltb x t ≡ u → (v : Bool) → leb x b.1 ≡ v → Told t (q ∷ l) (cond (u && v) (some (q.0, x)) (some b))
    go true h true i = least_here t q l x e (ltb-true x t h) (λ r f m g s. omega (arith, leb-true x b.1 i, d.least r f m g s))
    go true h false i = least_there t q l b.0 b.1 d (λ f g s. let z : x ≡ f = cc in omega (arith, leb-false x b.1 i))
    go false h v i = least_there t q l b.0 b.1 d (λ f g s. let z : x ≡ f = cc in absurd (omega (arith, ltb-false x t h)))

told : (t : ℕ) (rows : Rows Held) → Told t rows (least_due t rows)
unfolding least_due
told t [] = λ r f m g. absurd m
told t (q ∷ l) = told_step t q l q.1.expiry (least_due t l) refl (told t l)

pub least-due : (t : ℕ) (rows : Rows Held) (k : Bytes) (e : ℕ) → least_due t rows ≡ some (k, e) → LeastDue t rows k e
least-due t rows k e h = subst (Told t rows) h (told t rows)

pub none_due : (t : ℕ) (rows : Rows Held) → least_due t rows ≡ none → NoneDue t rows
none_due t rows h = subst (Told t rows) h (told t rows)

-- what holds of every key holds of its key
among_every : (test : Bytes → Bool) (r : Bytes × Held) (l : Rows Held) → every test (keys_in l) ≡ true → Among r l → test r.0 ≡ true
unfolding every keys_in
among_every test r [] h m = absurd m
among_every test r (q ∷ l) h (inl e) = ap (λ (x : Bytes × Held). test x.0) e ∙ and_left (test q.0) (every test (keys_in l)) h
among_every test r (q ∷ l) h (inr m) = among_every test r l (and_right (test q.0) (every test (keys_in l)) h) m

pub due_key : (test : Bytes → Bool) (t : ℕ) (rows : Rows Held) (b : Bytes × ℕ) → every test (keys_in rows) ≡ true → least_due t rows ≡ some b
    → test b.0 ≡ true
due_key test t rows b h e =
    let d = least-due t rows b.0 b.1 e in
    among_every test (b.0, d.held) rows h d.among

-- ---- how many rows are due
-- 1 for an expiry below t
abbrev pub due_one : ℕ → Option ℕ → ℕ
due_one t none = 0
due_one t (some e) = cond (ltb e t) 1 0

-- the number of rows whose expiry is below t
unfoldable pub due_count : ℕ → Rows Held → ℕ
due_count t [] = 0
due_count t (r ∷ l) = due_one t r.1.expiry + due_count t l

one_due : (t e : ℕ) (x : Option ℕ) → x ≡ some e → e < t → due_one t x ≡ 1
one_due t e x q h = ap (due_one t) q ∙ rw (lt-ltb e t h)

one_at_most : (t : ℕ) (x : Option ℕ) → due_one t x ≤ 1
one_at_most t none = omega arith
one_at_most t (some e) = go (ltb e t)
  where
    go : (b : Bool) → cond b 1 0 ≤ 1
    go true = omega arith
    go false = omega arith

pub count_length : (t : ℕ) (rows : Rows Held) → due_count t rows ≤ length rows
unfolding due_count
count_length t [] = omega arith
count_length t (r ∷ l) = omega (arith, one_at_most t r.1.expiry, count_length t l)

-- a row that is taken out counts no more
pub count_removed : (t : ℕ) (r : Bytes × Held) (rows : Rows Held) → Sorted rows → Among r rows
    → due_one t r.1.expiry + due_count t (remove_row r.0 rows) ≡ due_count t rows
unfolding due_count remove_row
count_removed t r [] s m = absurd m
count_removed t r (q ∷ l) s (inl e) =
    rw (ap (λ (x : Bytes × Held). order_of r.0 x.0) (sym e) ∙ order_self r.0)
    (ap (λ (x : Bytes × Held). due_one t x.1.expiry + due_count t l) e)
count_removed t r (q ∷ l) s (inr m) =
    let i = count_removed t r l s.1 m in
    rw (order_flip q.0 r.0 ∙ ap ordering_reverse (above_among q.0 l r s.0 m)) (omega (arith, i))

pub count_due : (t : ℕ) (rows : Rows Held) (k : Bytes) (e : ℕ) → Sorted rows → least_due t rows ≡ some (k, e)
    → suc (due_count t (remove_row k rows)) ≡ due_count t rows
count_due t rows k e s h =
    let d = least-due t rows k e h in
    omega (arith, one_due t e d.held.expiry d.expiry d.due, count_removed t (k, d.held) rows s d.among)

count_among : (t : ℕ) (r : Bytes × Held) (rows : Rows Held) → Among r rows → due_one t r.1.expiry ≤ due_count t rows
unfolding due_count
count_among t r [] m = absurd m
count_among t r (q ∷ l) (inl e) = omega (arith, ap (λ (x : Bytes × Held). due_one t x.1.expiry) e)
count_among t r (q ∷ l) (inr m) = omega (arith, count_among t r l m)

pub count_some : (t : ℕ) (rows : Rows Held) (b : Bytes × ℕ) → least_due t rows ≡ some b → 0 < due_count t rows
count_some t rows b h =
    let d = least-due t rows b.0 b.1 h in
    omega (arith, one_due t b.1 d.held.expiry d.expiry d.due, count_among t (b.0, d.held) rows d.among)

none_counts : (t : ℕ) (rows : Rows Held) → NoneDue t rows → due_count t rows ≡ 0
unfolding due_count
none_counts t [] d = refl
none_counts t (q ∷ l) d = omega (arith, go q.1.expiry refl, none_counts t l (λ r f m g. d r f (inr m) g))
  where
    go : (x : Option ℕ) → q.1.expiry ≡ x → due_one t x ≡ 0
    go none e = refl
    go (some f) e = rw (le-ltb f t (d q f (inl refl) e))

pub count_none : (t : ℕ) (rows : Rows Held) → least_due t rows ≡ none → due_count t rows ≡ 0
count_none t rows h = none_counts t rows (none_due t rows h)
