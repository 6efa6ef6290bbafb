-- Laws of a line of properties, as the code reads it. Assumes nothing.
use Rattle.std.specs.Prelude
use Rattle.std.specs.Prelude.{Some, None}
use Prim.Native.Nat.{ℕ, ◌+◌, ◌-◌}
use native.Mathlib.Omega.{arith}
use mathlib.Core.Bool.{true, false}
use mathlib.Core.Option.{some}
use mathlib.Core.Path.{◌≡◌, refl}
use lib.ListN.{length, take, drop}
use lib.Seq.{length-take-le}
use Rattle.std.specs.Option.{is_some}
use Rattle.base.proofs.ByteLaws.{not_empty}
use Rattle.base.proofs.CutLaws.{tail_part, cut_at, uncut}
use Rattle.base.specs.Bytes.{Bytes, ascii, is_nil, same}
use Rattle.base.specs.Cuts.{found_of, before}
use Rattle.properties.specs.Decimals.{decimal_of}
use Rattle.properties.specs.Lines.{line_with, line_of}
use Rattle.properties.specs.Properties.{property_in}
use Rattle.properties.specs.declared.read.Line.TheVariants.{Other}

-- what a test of a search tells
pub nothing : (x : Prelude.Option ℕ) → is_some x ≡ false → None ≡ x
nothing (Some i) e = cc
nothing None e = refl

pub something : (x : Prelude.Option ℕ) → is_some x ≡ true → (i : ℕ) × (Some i ≡ x)
something (Some i) e = (i, refl)
something None e = cc

module _ (line : Bytes) where
  pub line_nul : (i : ℕ) → Some i ≡ found_of 0 line → None ≡ line_of line
  unfolding property_in
  line_nul i e = rw (cut_at 0 line i e).held

  module _ (z : None ≡ found_of 0 line) where
    pub line_bare : None ≡ found_of 61 line → None ≡ line_of line
    unfolding property_in
    line_bare e = rw ((uncut 0 line z).free, (uncut 61 line e).free)

    module _ (i : ℕ) (e : Some i ≡ found_of 61 line) where
      pub line_nameless : i ≡ 0 → None ≡ line_of line
      unfolding property_in
      line_nameless h = rw ((uncut 0 line z).free, (cut_at 61 line i e).held, (cut_at 61 line i e).front, h)

      module _ (h : i ≡ 0 → ⊥) where
        named : is_nil (before 61 line) ≡ false
        named = rw (cut_at 61 line i e).front (not_empty (take i line) (λ z. h (omega (arith, length-take-le i line (omega (arith, (cut_at 61 line i e).below))))))

        property_is : property_in line ≡ some (record { name = take i line; value = take (length line - (i + 1)) (drop (i + 1) line) })
        unfolding property_in
        property_is = rw ((uncut 0 line z).free, (cut_at 61 line i e).held, named, (cut_at 61 line i e).front, (cut_at 61 line i e).rest, tail_part line (i + 1))

        pub line_other : same (ascii "ttl") (take i line) ≡ false → Some Other ≡ line_of line
        line_other t = rw (property_is, t)

        pub line_ttl : same (ascii "ttl") (take i line) ≡ true → (d : Prelude.Option ℕ) → d ≡ decimal_of 5 86400 (take (length line - (i + 1)) (drop (i + 1) line)) → line_with d ≡ line_of line
        line_ttl t d f = rw (property_is, t, f)
