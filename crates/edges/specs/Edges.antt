-- Both sides of each edge of the rules, W2 to W15: one table and one statement. What is expected in a row, octets, counts, numbers and states, is written
-- out by hand, and so are the messages handed in. The states are such as a well-formed server or client holds.
use Rattle.std.specs.Prelude.{ℕ, zero, suc, ◌+◌, true, false, List, [], ◌∷◌, ◌++◌}
use Rattle.std.proofs.Math.Option.{Option, none, some}
use Rattle.base.specs.Bytes.{Bytes, ascii}
use Rattle.cells.specs.Cells.{All}
use Rattle.client_calls.specs.Calls.Call.{snapshot, subscriber, write_icanhaz, write_kvset, lookup}
use Rattle.client_state.specs.Views.{Replica}
use Rattle.edges.specs.Outcomes.Edge.{server, client, start}
use Rattle.edges.specs.Outcomes.{Edge, Holds, refused, wrote, started, applied, stale, synced, live, nothing, absent}
use Rattle.rows.specs.Rows.{Rows}
use Rattle.server_calls.specs.Calls.Call.{kvset, tick, icanhaz}
use Rattle.server_state.specs.Views.{Entry, Ledger}

-- ---- states
-- a server: its number, its last tick, when it last published, its rows
abbrev pub ledger : ℕ → ℕ → ℕ → Rows Entry → Ledger Entry
ledger n t published rows = record { number = n; last_tick = t; last_published = published; rows = rows }

-- a row of a server: key, value, expiry, and the number of its last set
abbrev pub row : Bytes → Bytes → Option ℕ → ℕ → Bytes × Entry
row key value expiry n = (key, record { value = value; expiry = expiry; number = n })

-- clients of the empty subtree: one that waits since a tick; one that is live at a number, its silence clock at 3
abbrev pub waits : ℕ → Rows Bytes → Replica
waits t rows = record { live = false; number = 0; clock = t; subtree = []; rows = rows }

abbrev pub follows : ℕ → Rows Bytes → Replica
follows n rows = record { live = true; number = n; clock = 3; subtree = []; rows = rows }

-- ---- bytes
-- n bytes, all the same
unfoldable pub many : ℕ → Bytes
many zero = []
many (suc n) = 0x41 ∷ many n

-- a key of n bytes
unfoldable pub key : ℕ → Bytes
key zero = []
key (suc n) = 0x2F ∷ many n

abbrev pub undo : Bytes
undo = ascii "/clip/7/undo"

abbrev pub cut : Bytes
cut = ascii "cut"

abbrev pub paste : Bytes
paste = ascii "paste"

-- the keys /0, /1, /2 and so on: a slash and the octet 30 + i
abbrev pub key_at : ℕ → Bytes
key_at i = 0x2F ∷ (0x30 + i) ∷ []

-- n rows with these keys from the i-th on: of a client, and of a server that set each of them once
unfoldable pub client_rows : ℕ → ℕ → Rows Bytes
client_rows i zero = []
client_rows i (suc n) = (key_at i, cut) ∷ client_rows (suc i) n

unfoldable pub server_rows : ℕ → ℕ → Rows Entry
server_rows i zero = []
server_rows i (suc n) = row (key_at i) cut none (suc i) ∷ server_rows (suc i) n

-- ---- frames: the flag octet, the size, the body
abbrev pub undo_frame : Bytes
undo_frame = 0x01 ∷ 0x0C ∷ undo

-- a number below 256
abbrev pub number_frame : ℕ → Bytes
number_frame n = 0x01 ∷ 0x08 ∷ 0x00 ∷ 0x00 ∷ 0x00 ∷ 0x00 ∷ 0x00 ∷ 0x00 ∷ 0x00 ∷ n ∷ []

abbrev pub cut_frame : Bytes
cut_frame = 0x00 ∷ 0x03 ∷ cut

abbrev pub paste_frame : Bytes
paste_frame = 0x00 ∷ 0x05 ∷ paste

-- values of 255, 256 and 257 bytes
abbrev pub frame255 : Bytes
frame255 = 0x00 ∷ 0xFF ∷ many 255

abbrev pub frame256 : Bytes
frame256 = 0x02 ∷ 0x00 ∷ 0x00 ∷ 0x00 ∷ 0x00 ∷ 0x00 ∷ 0x00 ∷ 0x01 ∷ 0x00 ∷ many 256

abbrev pub frame257 : Bytes
frame257 = 0x02 ∷ 0x00 ∷ 0x00 ∷ 0x00 ∷ 0x00 ∷ 0x00 ∷ 0x00 ∷ 0x01 ∷ 0x01 ∷ many 257

-- an empty last frame
abbrev pub empty_frame : Bytes
empty_frame = 0x00 ∷ 0x00 ∷ []

-- ---- messages
-- a first frame, a number, an empty UUID, empty properties, a last frame
abbrev pub message : Bytes → ℕ → Bytes → Bytes
message first n last = first ++ number_frame n ++ (0x01 ∷ 0x00 ∷ 0x01 ∷ 0x00 ∷ last)

-- the undo's cut with properties of ten bytes
abbrev pub lasting : ℕ → Bytes → Bytes
lasting n properties = undo_frame ++ number_frame n ++ (0x01 ∷ 0x00 ∷ 0x01 ∷ 0x0A ∷ properties) ++ cut_frame

-- behind the frame of an identity
abbrev pub routed : Bytes → Bytes
routed msg = 0x01 ∷ 0x05 ∷ 0x00 ∷ 0x41 ∷ 0x42 ∷ 0x43 ∷ 0x44 ∷ msg

-- a request, with the frame of a subtree; the end of a snapshot of the empty one, at a number
abbrev pub request : Bytes → Bytes
request subtree = 0x01 ∷ 0x08 ∷ ascii "ICANHAZ?" ++ subtree

abbrev pub thanks : ℕ → Bytes
thanks n = message (0x01 ∷ 0x07 ∷ ascii "KTHXBAI") n empty_frame

-- ---- the table
unfoldable pub table : List Edge
table =
    -- W2: a subtree of one slash
    start (ascii "/") 3 (refused 5 0 (waits 0 []))
    ∷ server (ledger 1 4 4 (row undo cut none 1 ∷ [])) (icanhaz (routed (request (0x00 ∷ 0x01 ∷ 0x2F ∷ []))) 40953)
    (refused 5 1 (ledger 1 4 4 (row undo cut none 1 ∷ [])))
    -- W3: the empty one
    ∷ start [] 3 (started 0 (waits 3 []))
    ∷ client (waits 3 []) (write_icanhaz 108) (wrote 0 12 (request empty_frame) (waits 3 []))
    ∷ server (ledger 1 4 4 (row undo cut none 1 ∷ [])) (icanhaz (routed (request empty_frame)) 40953)
    (wrote 1 72 (routed (message undo_frame 1 cut_frame) ++ routed (thanks 1)) (ledger 1 4 4 (row undo cut none 1 ∷ [])))
    ∷ client (waits 3 []) (snapshot (thanks 1)) (live 1 (follows 1 []))
    -- W4: a key of 96 bytes
    ∷ server (ledger 0 0 0 []) (kvset (message (0x01 ∷ 0x60 ∷ key 96) 0 cut_frame) 5 521)
    (wrote 1 117 (message (0x01 ∷ 0x60 ∷ key 96) 1 cut_frame) (ledger 1 5 5 (row (key 96) cut none 1 ∷ [])))
    ∷ client (follows 7 []) (write_kvset (key 96) [] [] cut 521) (wrote 7 117 (message (0x01 ∷ 0x60 ∷ key 96) 0 cut_frame) (follows 7 []))
    ∷ client (follows 7 []) (subscriber (message (0x01 ∷ 0x60 ∷ key 96) 8 cut_frame) 5) (applied 8 (follows 8 ((key 96, cut) ∷ [])))
    ∷ client (waits 3 []) (snapshot (message (0x01 ∷ 0x60 ∷ key 96) 1 cut_frame)) (synced 0 (waits 3 ((key 96, cut) ∷ [])))
    ∷ client (follows 7 []) (lookup (key 96) 256) (absent 7 (follows 7 []))
    -- W5: of 97
    ∷ server (ledger 0 0 0 []) (kvset (message (0x01 ∷ 0x61 ∷ key 97) 0 cut_frame) 5 521) (refused 4 0 (ledger 0 0 0 []))
    ∷ client (follows 7 []) (write_kvset (key 97) [] [] cut 521) (refused 4 7 (follows 7 []))
    ∷ client (follows 7 []) (subscriber (message (0x01 ∷ 0x61 ∷ key 97) 8 cut_frame) 5) (refused 4 7 (follows 7 []))
    ∷ client (waits 3 []) (snapshot (message (0x01 ∷ 0x61 ∷ key 97) 1 cut_frame)) (refused 4 0 (waits 3 []))
    ∷ client (follows 7 []) (lookup (key 97) 256) (refused 4 7 (follows 7 []))
    -- W6: a value of 255 bytes has the short size
    ∷ server (ledger 0 0 0 []) (kvset (message undo_frame 0 frame255) 5 521)
    (wrote 1 285 (message undo_frame 1 frame255) (ledger 1 5 5 (row undo (many 255) none 1 ∷ [])))
    ∷ server (ledger 1 4 4 (row undo (many 255) none 1 ∷ [])) (icanhaz (routed (request empty_frame)) 40953)
    (wrote 1 324 (routed (message undo_frame 1 frame255) ++ routed (thanks 1)) (ledger 1 4 4 (row undo (many 255) none 1 ∷ [])))
    ∷ client (follows 7 []) (write_kvset undo [] [] (many 255) 521) (wrote 7 285 (message undo_frame 0 frame255) (follows 7 []))
    ∷ client (follows 7 []) (subscriber (message undo_frame 8 frame255) 5) (applied 8 (follows 8 ((undo, many 255) ∷ [])))
    ∷ client (waits 3 []) (snapshot (message undo_frame 1 frame255)) (synced 0 (waits 3 ((undo, many 255) ∷ [])))
    -- W7: of 256, the long size
    ∷ server (ledger 0 0 0 []) (kvset (message undo_frame 0 frame256) 5 521)
    (wrote 1 293 (message undo_frame 1 frame256) (ledger 1 5 5 (row undo (many 256) none 1 ∷ [])))
    ∷ server (ledger 1 4 4 (row undo (many 256) none 1 ∷ [])) (icanhaz (routed (request empty_frame)) 40953)
    (wrote 1 332 (routed (message undo_frame 1 frame256) ++ routed (thanks 1)) (ledger 1 4 4 (row undo (many 256) none 1 ∷ [])))
    ∷ client (follows 7 []) (write_kvset undo [] [] (many 256) 521) (wrote 7 293 (message undo_frame 0 frame256) (follows 7 []))
    ∷ client (follows 7 []) (subscriber (message undo_frame 8 frame256) 5) (applied 8 (follows 8 ((undo, many 256) ∷ [])))
    ∷ client (waits 3 []) (snapshot (message undo_frame 1 frame256)) (synced 0 (waits 3 ((undo, many 256) ∷ [])))
    -- W8: of 257
    ∷ server (ledger 0 0 0 []) (kvset (message undo_frame 0 frame257) 5 521) (refused 9 0 (ledger 0 0 0 []))
    ∷ client (follows 7 []) (write_kvset undo [] [] (many 257) 521) (refused 9 7 (follows 7 []))
    ∷ client (follows 7 []) (subscriber (message undo_frame 8 frame257) 5) (refused 9 7 (follows 7 []))
    ∷ client (waits 3 []) (snapshot (message undo_frame 1 frame257)) (refused 9 0 (waits 3 []))
    -- W9: a lifetime of 86,400 seconds
    ∷ server (ledger 0 0 0 []) (kvset (lasting 0 (ascii "ttl=86400\n")) 5 521)
    (wrote 1 43 (lasting 1 (ascii "ttl=86400\n")) (ledger 1 5 5 (row undo cut (some 86400005) 1 ∷ [])))
    ∷ client (follows 7 []) (write_kvset undo [] (ascii "ttl=86400\n") cut 521) (wrote 7 43 (lasting 0 (ascii "ttl=86400\n")) (follows 7 []))
    ∷ client (follows 7 []) (subscriber (lasting 8 (ascii "ttl=86400\n")) 5) (applied 8 (follows 8 ((undo, cut) ∷ [])))
    -- W10: of 86,401
    ∷ server (ledger 0 0 0 []) (kvset (lasting 0 (ascii "ttl=86401\n")) 5 521) (refused 8 0 (ledger 0 0 0 []))
    ∷ client (follows 7 []) (write_kvset undo [] (ascii "ttl=86401\n") cut 521) (refused 8 7 (follows 7 []))
    ∷ client (follows 7 []) (subscriber (lasting 8 (ascii "ttl=86401\n")) 5) (refused 8 7 (follows 7 []))
    -- W11: at the tick of its expiry a row stays, whether there is nothing to write or a sign of life
    ∷ server (ledger 1 4001 4001 (row undo cut (some 5000) 1 ∷ [])) (tick 5000 521)
    (nothing 1 (ledger 1 5000 4001 (row undo cut (some 5000) 1 ∷ [])))
    ∷ server (ledger 1 4000 4000 (row undo cut (some 5000) 1 ∷ [])) (tick 5000 521)
    (wrote 1 22 (message (0x01 ∷ 0x04 ∷ ascii "HUGZ") 0 empty_frame) (ledger 1 5000 5000 (row undo cut (some 5000) 1 ∷ [])))
    -- W12: a tick later it goes
    ∷ server (ledger 1 4001 4001 (row undo cut (some 5000) 1 ∷ [])) (tick 5001 521) (wrote 2 30 (message undo_frame 2 empty_frame) (ledger 2 5001 5001 []))
    -- W13: 64 rows, and a key that is held
    ∷ server (ledger 64 4 4 (server_rows 0 64)) (kvset (message (0x01 ∷ 0x02 ∷ ascii "/5") 0 paste_frame) 5 521)
    (wrote 65 25 (message (0x01 ∷ 0x02 ∷ ascii "/5") 65 paste_frame) (ledger 65 5 5 (server_rows 0 5 ++ (row (ascii "/5") paste none 65 ∷ server_rows 6 58))))
    ∷ client (follows 64 (client_rows 0 64)) (subscriber (message (0x01 ∷ 0x02 ∷ ascii "/5") 65 paste_frame) 5)
    (applied 65 (follows 65 (client_rows 0 5 ++ ((ascii "/5", paste) ∷ client_rows 6 58))))
    ∷ client (waits 3 (client_rows 0 64)) (snapshot (message (0x01 ∷ 0x02 ∷ ascii "/5") 1 paste_frame))
    (synced 0 (waits 3 (client_rows 0 5 ++ ((ascii "/5", paste) ∷ client_rows 6 58))))
    -- W14: 64 rows, and a new key: the next octet behind those of the rows is that of p
    ∷ server (ledger 64 4 4 (server_rows 0 64)) (kvset (message (0x01 ∷ 0x02 ∷ ascii "/p") 0 paste_frame) 5 521) (refused 11 64 (ledger 64 4 4 (server_rows 0 64)))
    ∷ client (follows 64 (client_rows 0 64)) (subscriber (message (0x01 ∷ 0x02 ∷ ascii "/p") 65 paste_frame) 5) (refused 11 64 (follows 64 (client_rows 0 64)))
    ∷ client (waits 3 (client_rows 0 64)) (snapshot (message (0x01 ∷ 0x02 ∷ ascii "/p") 1 paste_frame)) (refused 11 0 (waits 3 (client_rows 0 64)))
    -- W15: a KVPUB of the client's number, and of the next
    ∷ client (follows 7 ((undo, cut) ∷ [])) (subscriber (message undo_frame 7 paste_frame) 5) (stale 7 (follows 7 ((undo, cut) ∷ [])))
    ∷ client (follows 7 ((undo, cut) ∷ [])) (subscriber (message undo_frame 8 paste_frame) 5) (applied 8 (follows 8 ((undo, paste) ∷ [])))
    ∷ []

-- ---- the statement
abbrev pub Edges : Type 0
Edges = All Holds table
