-- The bytes of W1, written out frame by frame.
use Rattle.std.specs.Prelude.{[], ◌∷◌}
use Rattle.base.specs.Bytes.{Bytes}

-- the KVPUB of the first KVSET: key, number, no UUID, no properties, value
abbrev pub update_bytes : Bytes
update_bytes =
    1 ∷ 12 ∷ 47 ∷ 99 ∷ 108 ∷ 105 ∷ 112 ∷ 47 ∷ 55 ∷ 47 ∷ 117 ∷ 110 ∷ 100 ∷ 111
    ∷ 1 ∷ 8 ∷ 0 ∷ 0 ∷ 0 ∷ 0 ∷ 0 ∷ 0 ∷ 0 ∷ 1
    ∷ 1 ∷ 0
    ∷ 1 ∷ 0
    ∷ 0 ∷ 3 ∷ 99 ∷ 117 ∷ 116
    ∷ []

-- the answer to the first desk: the identity and the KVSYNC of its row, the identity and KTHXBAI
abbrev pub answer_bytes : Bytes
answer_bytes =
    1 ∷ 5 ∷ 0 ∷ 65 ∷ 66 ∷ 67 ∷ 68
    ∷ 1 ∷ 12 ∷ 47 ∷ 99 ∷ 108 ∷ 105 ∷ 112 ∷ 47 ∷ 55 ∷ 47 ∷ 117 ∷ 110 ∷ 100 ∷ 111
    ∷ 1 ∷ 8 ∷ 0 ∷ 0 ∷ 0 ∷ 0 ∷ 0 ∷ 0 ∷ 0 ∷ 1
    ∷ 1 ∷ 0
    ∷ 1 ∷ 0
    ∷ 0 ∷ 3 ∷ 99 ∷ 117 ∷ 116
    ∷ 1 ∷ 5 ∷ 0 ∷ 65 ∷ 66 ∷ 67 ∷ 68
    ∷ 1 ∷ 7 ∷ 75 ∷ 84 ∷ 72 ∷ 88 ∷ 66 ∷ 65 ∷ 73
    ∷ 1 ∷ 8 ∷ 0 ∷ 0 ∷ 0 ∷ 0 ∷ 0 ∷ 0 ∷ 0 ∷ 2
    ∷ 1 ∷ 0
    ∷ 1 ∷ 0
    ∷ 0 ∷ 8 ∷ 47 ∷ 99 ∷ 108 ∷ 105 ∷ 112 ∷ 47 ∷ 55 ∷ 47
    ∷ []

-- a sign of life: its word, eight zero bytes, three empty frames
abbrev pub beat_bytes : Bytes
beat_bytes =
    1 ∷ 4 ∷ 72 ∷ 85 ∷ 71 ∷ 90
    ∷ 1 ∷ 8 ∷ 0 ∷ 0 ∷ 0 ∷ 0 ∷ 0 ∷ 0 ∷ 0 ∷ 0
    ∷ 1 ∷ 0
    ∷ 1 ∷ 0
    ∷ 0 ∷ 0
    ∷ []
