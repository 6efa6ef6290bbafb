-- A session: a server that four desks join. Its messages are written out, and that the ends write and publish these is part of what is claimed of it.
use Rattle.std.specs.Prelude.{[], ◌∷◌, ◌++◌}
use Rattle.base.specs.Bytes.{Bytes, ascii}
use Rattle.client_calls.specs.Calls.Call.{snapshot, subscriber, write_icanhaz, write_kvset, ask, lookup}
use Rattle.client_calls.specs.Calls.{Call as ClientCall}
use Rattle.joining.specs.Book.ServerStart.{begin}
use Rattle.joining.specs.Book.{ServerStart}
use Rattle.joining.specs.Ends.ClientStart.{wait}
use Rattle.joining.specs.Ends.{ClientStart}
use Rattle.base.specs.Logs.Log.{empty, ◌▷◌}
use Rattle.base.specs.Logs.{Log, ◌⧺◌}
use Rattle.messages.specs.Fields.{bytes_of, kvset as update, kvpub, kvsync, kthxbai, hugz, icanhaz as question, with_identity}
use Rattle.server_calls.specs.Calls.Call.{kvset, tick, icanhaz}
use Rattle.server_calls.specs.Calls.{Call as ServerCall}

-- ---- keys, subtrees, values
abbrev pub undo7 : Bytes
undo7 = ascii "/clip/7/undo"

abbrev pub undo70 : Bytes
undo70 = ascii "/clip/70/undo"

abbrev pub clip7 : Bytes
clip7 = ascii "/clip/7/"

abbrev pub clip70 : Bytes
clip70 = ascii "/clip/70/"

abbrev pub cut : Bytes
cut = ascii "cut"

abbrev pub new : Bytes
new = ascii "new"

-- properties of a row that lives for one second
abbrev pub brief : Bytes
brief = ascii "ttl=1\n"

-- ---- messages to the server
abbrev pub setting : Bytes → Bytes → Bytes → Bytes
setting key properties value = bytes_of (update key [] properties value)

-- a byte stands behind the last frame
abbrev pub broken : Bytes
broken = setting undo7 [] cut ++ (0 ∷ [])

abbrev pub first_identity : Bytes
first_identity = 0 ∷ ascii "ABCD"

abbrev pub first_request : Bytes
first_request = with_identity first_identity (question clip7)

abbrev pub second_request : Bytes
second_request = with_identity (0 ∷ ascii "EFGH") (question clip7)

abbrev pub third_request : Bytes
third_request = with_identity (ascii "every clip") (question [])

abbrev pub fourth_request : Bytes
fourth_request = with_identity (ascii "clip 70") (question clip70)

-- ---- messages that the server publishes
abbrev pub kvpub1 : Bytes
kvpub1 = bytes_of (kvpub 1 undo7 [] [] cut)

abbrev pub kvpub2 : Bytes
kvpub2 = bytes_of (kvpub 2 undo70 [] [] cut)

abbrev pub kvpub3 : Bytes
kvpub3 = bytes_of (kvpub 3 undo7 [] brief new)

-- the row has expired
abbrev pub kvpub4 : Bytes
kvpub4 = bytes_of (kvpub 4 undo7 [] [] [])

abbrev pub beating : Bytes
beating = bytes_of hugz

-- ---- the server
abbrev pub opens : ServerStart
opens = begin 0 0

abbrev pub first_set : ServerCall
first_set = kvset (setting undo7 [] cut) 5 33

-- two rows are set; broken framing, and an output one byte short, are refused
abbrev pub opening : Log ServerCall
opening = empty ▷ first_set ▷ kvset (setting undo70 [] cut) 6 34 ▷ kvset broken 7 521 ▷ kvset (setting undo7 [] new) 7 32

-- the fourth desk asks right behind the first
abbrev pub joining : Log ServerCall
joining = opening ▷ icanhaz first_request 80 ▷ icanhaz fourth_request 521

-- the row of clip 7 is set anew, to expire at 2000; it stays at 2000 and goes at 2001
abbrev pub changes : Log ServerCall
changes = empty ▷ kvset (setting undo7 brief new) 1000 521 ▷ tick 2000 521 ▷ tick 2001 521

-- the other two ask
abbrev pub asked : Log ServerCall
asked = (joining ⧺ changes) ▷ icanhaz second_request 521 ▷ icanhaz third_request 521

-- much later nothing is due
abbrev pub calls : Log ServerCall
calls = asked ▷ tick 60000 22

-- ---- the first desk, of clip 7: it joins at 2 and follows
abbrev pub first_start : ClientStart
first_start = wait clip7 0

-- a KVPUB that comes before the answer is refused
abbrev pub first_waits : Log ClientCall
first_waits = empty ▷ ask 1 ▷ subscriber kvpub1 5

abbrev pub first_joins : Log ClientCall
first_joins = first_waits ▷ write_icanhaz 521 ▷ snapshot (bytes_of (kvsync 1 undo7 cut)) ▷ snapshot (bytes_of (kthxbai 2 clip7))

abbrev pub first_follows : Log ClientCall
first_follows = first_joins ▷ subscriber kvpub3 1000

-- the same KVPUB again, a broken message, the expiry, and that KVPUB once more
abbrev pub first_calls : Log ClientCall
first_calls =
    first_follows
    ▷ lookup undo7 3
    ▷ subscriber kvpub3 1001
    ▷ subscriber broken 1002
    ▷ subscriber kvpub4 2001
    ▷ write_kvset undo7 [] [] cut 521
    ▷ subscriber beating 60000
    ▷ subscriber kvpub3 60001

-- ---- the second, of clip 7 too: it joins at 4
abbrev pub second_start : ClientStart
second_start = wait clip7 3000

abbrev pub second_calls : Log ClientCall
second_calls = empty ▷ snapshot (bytes_of (kthxbai 4 clip7))

-- ---- the third, of every clip: it joins at 4
abbrev pub third_start : ClientStart
third_start = wait [] 3000

abbrev pub third_calls : Log ClientCall
third_calls = empty ▷ snapshot (bytes_of (kvsync 2 undo70 cut)) ▷ snapshot (bytes_of (kthxbai 4 []))

-- ---- the fourth, of clip 70: it joins at 2, loses the KVPUB numbered 3, which is not of its subtree, and so goes from 2 to 4 with no gap
abbrev pub fourth_start : ClientStart
fourth_start = wait clip70 0

abbrev pub fourth_calls : Log ClientCall
fourth_calls = empty ▷ snapshot (bytes_of (kvsync 2 undo70 cut)) ▷ snapshot (bytes_of (kthxbai 2 clip70)) ▷ subscriber kvpub4 2001
