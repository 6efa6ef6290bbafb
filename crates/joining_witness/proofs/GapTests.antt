-- Tests that compute on closed lists of calls, and what follows where they hold: that messages are among others, and that no gap is left. Assumes nothing.
use Prim.Native.Nat.{◌<◌}
use mathlib.Core.Bool.{Bool, true, false, true≢false, not, ◌&&◌, ◌||◌}
use mathlib.Core.Logic.{inl, inr}
use mathlib.Core.Option.{Option, none, some}
use mathlib.Core.Path.{◌≡◌, refl, sym, ap, ◌∙◌}
use lib.Dec.{ltb}
use borrow.Author.Tests.{lt-ltb}
use Rattle.base.proofs.ByteLaws.{and_left, and_right, or_left, or_right, same_refl, same_eq}
use Rattle.base.specs.Bytes.{Bytes, same}
use Rattle.client_calls.specs.Calls.{Call as ClientCall}
use Rattle.client_state.specs.Views.{Replica}
use Rattle.joining.specs.Book.{ServerStart}
use Rattle.joining.specs.Ends.{ClientStart, published, client_after, hears}
use Rattle.joining.specs.Joining.{AllBetween, NoGap}
use Rattle.base.specs.Logs.Log.{empty, ◌▷◌}
use Rattle.base.specs.Logs.{Log, Among}
use Rattle.joining.specs.Readings.{is_kvpub, key_of, number_of}
use Rattle.keys.specs.Keys.{under}
use Rattle.server_calls.specs.Calls.{Call as ServerCall}

-- ---- messages among others
unfoldable pub among : Bytes → Log Bytes → Bool
among b empty = false
among b (bs ▷ c) = same b c || among b bs

unfoldable pub all_among : Log Bytes → Log Bytes → Bool
all_among empty cs = true
all_among (bs ▷ b) cs = among b cs && all_among bs cs

is_among : (b : Bytes) (bs : Log Bytes) → among b bs ≡ true → Among b bs
unfolding among
is_among b empty e = absurd (true≢false (sym e))
is_among b (bs ▷ c) e = go (same b c) refl e (is_among b bs)
  where
    go : (t : Bool) → same b c ≡ t → (t || among b bs) ≡ true → (among b bs ≡ true → Among b bs) → Among b (bs ▷ c)
    go true s e rest = inl (same_eq b c s)
    go false s e rest = inr (rest e)

pub are_among : (bs cs : Log Bytes) → all_among bs cs ≡ true → (b : Bytes) → Among b bs → Among b cs
unfolding all_among
are_among empty cs e b x' = elim x' [ ]
are_among (bs ▷ c) cs e b (inl h) = rw h (is_among c cs (and_left (among c cs) (all_among bs cs) e))
are_among (bs ▷ c) cs e b (inr h) = are_among bs cs (and_right (among c cs) (all_among bs cs) e) b h

pub not_among : (b : Bytes) (cs : Log Bytes) → among b cs ≡ false → Among b cs → ⊥
unfolding among
not_among b empty e x' = elim x' [ ]
not_among b (cs ▷ c) e (inl h) = true≢false (sym (same_refl b) ∙ ap (same b) h ∙ or_left (same b c) (among b cs) e)
not_among b (cs ▷ c) e (inr h) = not_among b cs (or_right (same b c) (among b cs) e) h

-- ---- gaps
-- c is a KVPUB of a client's subtree, above the client's number and below that of b
unfoldable pub between : Replica → Bytes → Bytes → Bool
between v b c = is_kvpub c && (under v.subtree (key_of c) && (ltb v.number (number_of c) && ltb (number_of c) (number_of b)))

unfoldable pub none_between : Replica → Bytes → Log Bytes → Bool
none_between v b empty = true
none_between v b (cs ▷ c) = not (between v b c) && none_between v b cs

-- of the message that a client hears, if it hears one
abbrev pub close : Replica → Log Bytes → Option Bytes → Bool
close v cs none = true
close v cs (some b) = none_between v b cs

-- of each message that it hears, all that is published being cs
unfoldable pub gapless : Log Bytes → ClientStart → Log ClientCall → Bool
gapless cs q empty = true
gapless cs q (C ▷ x) = gapless cs q C && close (client_after q C) cs (hears (client_after q C) x)

not_between : (v : Replica) (b c : Bytes) → not (between v b c) ≡ true
    → is_kvpub c ≡ true → under v.subtree (key_of c) ≡ true → v.number < number_of c → number_of c < number_of b → ⊥
unfolding between
not_between v b c e k u l r = true≢false (sym e ∙ rw (k, u, lt-ltb v.number (number_of c) l, lt-ltb (number_of c) (number_of b) r) refl)

nothing_between : (v : Replica) (b : Bytes) (cs : Log Bytes) → none_between v b cs ≡ true
    → (c : Bytes) → Among c cs → is_kvpub c ≡ true → under v.subtree (key_of c) ≡ true → v.number < number_of c → number_of c < number_of b → ⊥
unfolding none_between
nothing_between v b empty e c x' = elim x' [ ]
nothing_between v b (cs ▷ d) e c (inl h) = rw h (not_between v b d (and_left (not (between v b d)) (none_between v b cs) e))
nothing_between v b (cs ▷ d) e c (inr h) = nothing_between v b cs (and_right (not (between v b d)) (none_between v b cs) e) c h

module _ (p : ServerStart) (S : Log ServerCall) (cs : Log Bytes) (all : published p S ≡ cs) (q : ClientStart) where
  pub near : (C : Log ClientCall) (b : Bytes) → none_between (client_after q C) b cs ≡ true → AllBetween p S q C b
  near C b e c m k u l r = absurd (nothing_between (client_after q C) b cs e c (rw all at m) k u l r)

  pub no_gap : (C : Log ClientCall) → gapless cs q C ≡ true → NoGap p S q C
  unfolding gapless
  no_gap empty e = tt
  no_gap (C ▷ x) e = (
    no_gap C (and_left (gapless cs q C) (close (client_after q C) cs (hears (client_after q C) x)) e),
    λ b h k n. near C b (ap (close (client_after q C) cs) (sym h) ∙ and_right (gapless cs q C) (close (client_after q C) cs (hears (client_after q C) x)) e),
  )
