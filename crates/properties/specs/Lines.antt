-- Properties line by line, as the reader takes them. That this is what `Properties` says is proved in proofs/PropertyLaws.
use Rattle.std.specs.Prelude
use Rattle.std.specs.Prelude.{ℕ, cond, Some, None}
use Rattle.std.proofs.Math.Option.{Option, none, some}
use Rattle.base.specs.Bytes.{Bytes, ascii, same}
use Rattle.properties.specs.Properties.{Property, property_in, seconds_in}
use Rattle.properties.specs.declared.read.Lifetime.TheVariants.{Unlimited, Seconds}
use Rattle.properties.specs.declared.read.Lifetime.{Lifetime}
use Rattle.properties.specs.declared.read.Line.TheVariants.{Other, Lasting}
use Rattle.properties.specs.declared.read.Line.{Line}

abbrev pub line_with : Prelude.Option ℕ → Prelude.Option Line
line_with (Some n) = Some (Lasting n)
line_with None = None

-- what a property says of the lifetime
abbrev pub line_for : Option Property → Prelude.Option Line
line_for none = None
line_for (some p) = cond (same (ascii "ttl") p.name) (line_with (seconds_in p.value)) (Some Other)

abbrev pub line_of : Bytes → Prelude.Option Line
line_of line = line_for (property_in line)

-- a line more, behind those that gave a lifetime
abbrev pub with_line : Lifetime → Prelude.Option Line → Prelude.Option Lifetime
with_line l (Some Other) = Some l
with_line Unlimited (Some (Lasting n)) = Some (Seconds n)
with_line (Seconds m) (Some (Lasting n)) = None
with_line l None = None
