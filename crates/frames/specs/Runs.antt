-- Messages one behind another: each ends with its first frame that promises no other.
use Rattle.std.specs.Prelude.{ℕ, zero, suc, ◌+◌, cond, List, [], ◌∷◌, ◌++◌, length, take, drop, Some, None}
use Rattle.std.proofs.Math.Option.{Option, none, some, map, get_or}
use Rattle.base.specs.Bytes.{Bytes}
use Rattle.frames.specs.Steps.{Step, step_of}

-- ---- the first message
-- where a message ends that begins with a step, the end of what is behind it being found by rest
abbrev pub end_through : (Bytes → Option ℕ) → Bytes → Step → Option ℕ
end_through rest s None = none
end_through rest s (Some f) =
    cond f.more (map (λ (n : ℕ). f.start + f.len + n) (rest (drop f.len (drop f.start s)))) (some (f.start + f.len))

-- at most n frames
unfoldable pub end_up_to : ℕ → Bytes → Option ℕ
end_up_to zero s = none
end_up_to (suc n) s = end_through (end_up_to n) s (step_of s)

-- where the message ends that some bytes begin with; none where they begin with no whole message
unfoldable pub end_in : Bytes → Option ℕ
end_in s = end_up_to (length s) s

-- the message that some bytes begin with; no bytes where there is none
unfoldable pub message_in : Bytes → Bytes
message_in s = take (get_or (end_in s) 0) s

-- ---- a run of messages
-- some messages, one behind the other
unfoldable pub joined : List Bytes → Bytes
joined [] = []
joined (m ∷ ms) = m ++ joined ms

-- the messages of some bytes by where the first of them ends, those behind it being cut by rest
abbrev pub cut_through : (Bytes → List Bytes) → Bytes → Option ℕ → List Bytes
cut_through rest s none = []
cut_through rest s (some n) = take n s ∷ rest (drop n s)

-- at most n messages
unfoldable pub cut_up_to : ℕ → Bytes → List Bytes
cut_up_to zero s = []
cut_up_to (suc n) s = cut_through (cut_up_to n) s (end_in s)

-- the messages that some bytes are, one behind another, as far as they are whole messages. There are no more of them than bytes
unfoldable pub messages_in : Bytes → List Bytes
messages_in s = cut_up_to (length s) s
