-- Messages written as a line: a field for each frame.
use Rattle.std.specs.Prelude.{cond, List, [], ◌∷◌, map, take, drop}
use Rattle.base.specs.Bytes.{Bytes, ascii, prefix}
use Rattle.base.specs.Octets.{octets}
use Rattle.frames.specs.Messages.{encode}
use Rattle.script.specs.Lines.{line_fields}
use Rattle.script.specs.Numbers.{text_number}
use Rattle.script.specs.Texts.{text_bytes}

-- the body that a field stands for: #N is the number N as eight octets, and else the field is a text of up to 512 bytes
unfoldable pub field_body : Bytes → Bytes
field_body f = cond (prefix (ascii "#") f) (octets 8 (text_number (drop 1 f))) (take 512 (text_bytes f))

-- the message of some bodies
abbrev pub encoded : List Bytes → Bytes
encoded [] = []
encoded (b ∷ bs) = encode b bs

-- the message of a line
unfoldable pub message_of : Bytes → Bytes
message_of line = encoded (map field_body (line_fields line))
