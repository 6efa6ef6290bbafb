-- Lists that grow at their right end, as lists of calls and of messages do: the newest entry stands last.
use Rattle.std.specs.Prelude.{List, [], ◌∷◌, ◌⊎◌, ◌≡◌}
use Rattle.std.proofs.Math.Option.{Option, none, some}

infixl 20 ◌▷◌
pub data Log (A : Type 0) : Type 0 where
  empty : Log A
  ◌▷◌ : Log A → A → Log A

module _ {A : Type 0} where
  -- one list and then another
  infixl 19 ◌⧺◌
  abbrev pub ◌⧺◌ : Log A → Log A → Log A
  xs ⧺ empty = xs
  xs ⧺ (ys ▷ y) = (xs ⧺ ys) ▷ y

  -- a stands in a list
  abbrev pub Among : A → Log A → Type 0
  Among a empty = ⊥
  Among a (xs ▷ x) = (a ≡ x) ⊎ Among a xs

  -- an entry, if there is one
  abbrev pub add : Log A → Option A → Log A
  add xs none = xs
  add xs (some a) = xs ▷ a

  -- the entries of a list that is written from its left end
  abbrev pub onto : Log A → List A → Log A
  onto xs [] = xs
  onto xs (y ∷ ys) = onto (xs ▷ y) ys
