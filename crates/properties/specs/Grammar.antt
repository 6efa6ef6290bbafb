-- The rule for properties as a grammar. That `properties_in` of `Properties` decides it is proved in proofs/PropertyGrammar.
use Rattle.std.specs.Prelude.{◌<◌, List, [], ◌∷◌, ◌++◌, length}
use Rattle.base.specs.Bytes.{Bytes, Lacks}
use Rattle.properties.specs.Properties.{Property}

-- bytes of a value: neither newline nor zero
abbrev pub Unbroken : Bytes → Type 0
Unbroken s = Lacks 10 s × Lacks 0 s

-- bytes of a name: neither equals sign nor newline nor zero
abbrev pub Unsigned : Bytes → Type 0
Unsigned s = Lacks 61 s × Lacks 10 s × Lacks 0 s

-- any number of lines: a name that is not empty, an equals sign, a value, a newline
pub data Text : List Property → Bytes → Type 0 where
  empty : Text [] []
  entry : (p : Property) (ps : List Property) (rest : Bytes) → 0 < length p.name → Unsigned p.name → Unbroken p.value → Text ps rest
      → Text (p ∷ ps) ((p.name ++ (61 ∷ p.value)) ++ (10 ∷ rest))
