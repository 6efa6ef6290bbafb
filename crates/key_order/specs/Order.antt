-- The order of keys: by bytes, a proper prefix first.
use Rattle.std.specs.Prelude.{cond, [], ◌∷◌, ltb}
use Rattle.std.specs.declared.cmp.Ordering.TheVariants.{Less, Equal, Greater}
use Rattle.std.specs.declared.cmp.Ordering.{Ordering}
use Rattle.base.specs.Bytes.{Bytes}

unfoldable pub order_of : Bytes → Bytes → Ordering
order_of [] [] = Equal
order_of [] (_ ∷ _) = Less
order_of (_ ∷ _) [] = Greater
order_of (a ∷ s) (b ∷ t) = cond (ltb a b) Less (cond (ltb b a) Greater (order_of s t))
