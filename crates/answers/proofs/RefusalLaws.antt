-- Tables of checks that do not refuse a state as ill-formed. Assumes nothing.
use Prim.Native.Nat.{ℕ}
use native.Mathlib.Omega.{arith}
use mathlib.Core.Bool.{Bool, true, false, not, ◌&&◌}
use mathlib.Core.List.{List, [], ◌∷◌}
use mathlib.Core.Option.{some}
use mathlib.Core.Path.{◌≡◌, ap}
use lib.Dec.{eqb}
use Rattle.answers.specs.Refusals.{refusal_number}
use Rattle.answers.specs.declared.refusal.Refusal.TheVariants.{IllFormed}
use Rattle.answers.specs.declared.refusal.Refusal.{Refusal}
use Rattle.base.proofs.ByteLaws.{and_left, and_right}
use Rattle.base.specs.Checks.Check.{when}
use Rattle.base.specs.Checks.{Check, first_refusal}

-- no row of a table refuses as ill-formed
abbrev pub spares : List (Check Refusal) → Bool
spares [] = true
spares (when test r ∷ rows) = not (eqb (refusal_number r) (refusal_number IllFormed)) && spares rows

pub none_ill : (checks : List (Check Refusal)) → spares checks ≡ true → first_refusal checks ≡ some IllFormed → ⊥
unfolding first_refusal
none_ill [] h e = absurd (let z : ◌≡◌ {A = ℕ} 0 1 = cc in omega arith)
none_ill (when true r ∷ rows) h e =
    let a : r ≡ IllFormed = cc in
    let b = and_left (not (eqb (refusal_number r) 16)) (spares rows) h in
    let d = ap (λ (x : Refusal). not (eqb (refusal_number x) 16)) a in
    absurd (let z : ◌≡◌ {A = ℕ} 0 1 = cc in omega arith)
none_ill (when false r ∷ rows) h e = none_ill rows (and_right (not (eqb (refusal_number r) 16)) (spares rows) h) e
