-- Bytes written as text: \xNN is one byte, by its two hexadecimal digits, and every other byte is itself.
use Rattle.std.specs.Prelude.{ℕ, ◌+◌, ◌*◌, Bool, cond, ◌&&◌, [], ◌∷◌, leb, length, get_or, take}
use Rattle.base.specs.Bytes.{Bytes, ascii, prefix, holds}
use Rattle.base.specs.Cuts.{before}

-- the hexadecimal digits, in the order of their values
abbrev pub hex_digits : Bytes
hex_digits = ascii "0123456789abcdef"

-- the value of a digit: how many digits are before it. A byte that is no digit counts as 0
unfoldable pub digit_of : ℕ → ℕ
digit_of b = cond (holds b hex_digits) (length (before b hex_digits)) 0

-- the byte of two digits
abbrev pub octet_of : ℕ → ℕ → ℕ
octet_of high low = digit_of high * 16 + digit_of low

-- a backslash and an x
abbrev pub escape : Bytes
escape = 92 ∷ 120 ∷ []

-- the bytes that a text stands for; fewer than four are no \xNN
unfoldable pub text_bytes : Bytes → Bytes
text_bytes [] = []
text_bytes (a ∷ []) = a ∷ []
text_bytes (a ∷ b ∷ []) = a ∷ b ∷ []
text_bytes (a ∷ b ∷ c ∷ []) = a ∷ b ∷ c ∷ []
text_bytes (a ∷ b ∷ c ∷ d ∷ s) =
    cond (prefix escape (a ∷ b ∷ [])) (octet_of c d ∷ text_bytes s) (a ∷ text_bytes (b ∷ c ∷ d ∷ s))

-- those of them that an output has room for
abbrev pub text_in : Bytes → Bytes → Bytes
text_in out s = take (length out) (text_bytes s)

-- ---- the front of a text
-- whether \xNN is there
unfoldable pub escaped : Bytes → Bool
escaped s = leb 4 (length s) && prefix escape s

-- the byte that the front stands for, and how many bytes of text it takes
abbrev pub front_byte : Bytes → ℕ
front_byte s = cond (escaped s) (octet_of (get_or s 2 0) (get_or s 3 0)) (get_or s 0 0)

abbrev pub front_width : Bytes → ℕ
front_width s = cond (escaped s) 4 1
