-- Laws of lists that grow at their right end. Assumes nothing.
use Prim.Native.Nat.{ℕ, suc, ◌+◌, ◌≤◌}
use native.Mathlib.Omega.{arith}
use mathlib.Core.List.{List, [], ◌∷◌}
use mathlib.Core.Logic.{◌⊎◌, inl, inr}
use mathlib.Core.Option.{Option, none, some}
use mathlib.Core.Path.{◌≡◌, refl, sym, ap}
use lib.ListN.{length}
use Rattle.cells.specs.Cells.{All}
use Rattle.base.specs.Logs.Log.{empty, ◌▷◌}
use Rattle.base.specs.Logs.{Log, ◌⧺◌, Among, add, onto}

module _ {A : Type 0} where
  -- ---- what stands in a list
  pub among_add : (a : A) (xs : Log A) (o : Option A) → Among a xs → Among a (add xs o)
  among_add a xs none h = h
  among_add a xs (some b) h = inr h

  pub add_cases : (a : A) (xs : Log A) (o : Option A) → Among a (add xs o) → (o ≡ some a) ⊎ Among a xs
  add_cases a xs none h = inr h
  add_cases a xs (some b) (inl e) = inl (ap some (sym e))
  add_cases a xs (some b) (inr h) = inr h

  pub among_new : (a : A) (xs : Log A) (o : Option A) → o ≡ some a → Among a (add xs o)
  among_new a xs o e = rw e (inl refl)

  pub among_left : (x : A) (a b : Log A) → Among x a → Among x (a ⧺ b)
  among_left x a empty h = h
  among_left x a (b ▷ y) h = inr (among_left x a b h)

  -- ---- what holds of all of a list
  abbrev pub AllOf : (A → Type 0) → Log A → Type 0
  AllOf P empty = Unit {0}
  AllOf P (xs ▷ x) = AllOf P xs × P x

  pub all_onto : (P : A → Type 0) (xs : Log A) (l : List A) → AllOf P xs → All P l → AllOf P (onto xs l)
  all_onto P xs [] a h = a
  all_onto P xs (x ∷ l) a h = all_onto P (xs ▷ x) l (a, h.0) h.1

  -- ---- one list and then another
  pub add_append : (a b : Log A) (o : Option A) → add (a ⧺ b) o ≡ a ⧺ add b o
  add_append a b none = refl
  add_append a b (some x) = refl

  pub append_assoc : (a b c : Log A) → (a ⧺ b) ⧺ c ≡ a ⧺ (b ⧺ c)
  append_assoc a b empty = refl
  append_assoc a b (c ▷ x) = ap (λ (t : Log A). t ▷ x) (append_assoc a b c)

  unfoldable pub size : Log A → ℕ
  size empty = 0
  size (xs ▷ x) = suc (size xs)

  size_append : (a b : Log A) → size a ≤ size (a ⧺ b)
  unfolding size
  size_append a empty = omega arith
  size_append a (b ▷ x) = omega (arith, size_append a b)

  pub size_onto : (xs : Log A) (l : List A) → size (onto xs l) ≡ size xs + length l
  unfolding size
  size_onto xs [] = omega arith
  size_onto xs (x ∷ l) = omega (arith, size_onto (xs ▷ x) l)

  longer : (a b : Log A) (x : A) → a ≡ (a ⧺ b) ▷ x → ⊥
  unfolding size
  longer a b x e = omega (arith, ap size e, size_append a b)

  pub cancel : (a b c : Log A) → a ⧺ b ≡ a ⧺ c → b ≡ c
  cancel a empty empty e = refl
  cancel a empty (c ▷ x) e = absurd (longer a c x e)
  cancel a (b ▷ x) empty e = absurd (longer a b x (sym e))
  cancel a (b ▷ x) (c ▷ y) e = let h : b ≡ c = cancel a b c cc in cc

  pub empty_not_longer : (xs : Log A) (x : A) → empty ≡ xs ▷ x → ⊥
  empty_not_longer xs x e = let z : ◌≡◌ {A = ℕ} 0 1 = cc in omega arith
