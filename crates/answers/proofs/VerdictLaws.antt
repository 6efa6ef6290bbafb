-- Laws of verdicts on tables of checks. Assumes nothing.
use Prim.Native.Nat.{ℕ}
use native.Mathlib.Omega.{arith}
use mathlib.Core.List.{List, ◌++◌}
use mathlib.Core.Option.{Option, none, some}
use mathlib.Core.Path.{◌≡◌, refl, ap}
use Rattle.answers.specs.Refusals.{verdict}
use Rattle.answers.specs.declared.refusal.Refusal.{Refusal}
use Rattle.std.specs.Prelude.{Ok, Err}
use Rattle.base.proofs.CheckLaws.{stop_all}
use Rattle.base.specs.Checks.{Check, first_refusal}

-- the table behind the verdict
pub accepted : (x : Option Refusal) → Ok tt ≡ verdict x → x ≡ none
accepted none e = refl
accepted (some r) e = absurd (let z : ◌≡◌ {A = ℕ} 0 1 = cc in omega arith)

pub refused : (r : Refusal) (x : Option Refusal) → Err r ≡ verdict x → x ≡ some r
refused r none e = absurd (let z : ◌≡◌ {A = ℕ} 0 1 = cc in omega arith)
refused r (some s) e = let z : s ≡ r = cc in ap some z

-- checks behind a table that refused do not count: f is what a function makes of the first refusal
pub past_refused : {A : Type 0} (f : Option Refusal → A) (a b : List (Check Refusal)) (r : Refusal) → Err r ≡ verdict (first_refusal a)
    → f (some r) ≡ f (first_refusal (a ++ b))
past_refused f a b r e = rw (stop_all a b r (refused r (first_refusal a) e))
