-- Laws of the ports' checks, as the code makes them. Assumes nothing.
use Rattle.std.specs.Prelude.{Ok, Err}
use Prim.Native.Nat.{ℕ, ◌<◌}
use native.Mathlib.Omega.{arith}
use mathlib.Core.Bool.{not}
use mathlib.Core.List.{List, [], ◌∷◌, ◌++◌}
use mathlib.Core.Option.{Option, none, some, get_or}
use mathlib.Core.Path.{◌≡◌, refl, sym, ap, ◌∙◌}
use lib.Dec.{eqb}
use lib.ListN.{length}
use borrow.Author.Tests.{lt-ltb}
use Rattle.answers.specs.Refusals.{verdict}
use Rattle.answers.specs.declared.refusal.Refusal.TheVariants.{Framing, FrameCount}
use Rattle.answers.specs.declared.refusal.Refusal.{Refusal}
use Rattle.base.specs.Bytes.{Bytes}
use Rattle.base.specs.Checks.Check.{when}
use Rattle.base.specs.Checks.{Check, first_refusal}
use Rattle.frames.proofs.MessageLaws.{none_some}
use Rattle.frames.proofs.RunLaws.{end_whole}
use Rattle.frames.specs.Messages.{frames_in, frame_at}
use Rattle.frames.specs.Runs.{end_in}
use Rattle.framing.specs.Splits.{framing_by, framing_of, body_in, IsSplit}
use Rattle.framing.specs.declared.Split.{Split}
use Rattle.messages.specs.Fields.{Fields, fields_of}
use Rattle.ports.specs.Bodies.{framed_by, fields_at, kvset_by, icanhaz_by, snapshot_by, subscriber_by, lifetime_in, update_of}
use Rattle.ports.specs.Ports.{is_none, framed, kvset_checks, kvset_port, icanhaz_checks, icanhaz_port, snapshot_checks, snapshot_port, published_checks, subscriber_port}
use Rattle.properties.specs.Properties.{properties_of}
use Rattle.properties.specs.declared.read.Lifetime.{Lifetime}

-- ---- the framing and the count of frames
module _ (msg : Bytes) (r : Split) (h : IsSplit msg r) where
  pub framing_is : (n : ℕ) → framed_by n r.framing ≡ framed n msg
  unfolding framing_of
  framing_is n = ap (framed_by n) h.framing ∙ go (end_in msg) (frames_in msg) refl (end_whole msg)
    where
      go : (x : Option ℕ) (y : Option (List Bytes)) → end_in msg ≡ x → ((bodies : List Bytes) → y ≡ some bodies → end_in msg ≡ some (length msg))
          → framed_by n (framing_by x y) ≡ when (is_none y) Framing ∷ when (not (eqb (length (get_or y [])) n)) FrameCount ∷ []
      go none none e w = refl
      go none (some bodies) e w = none_some (length msg) (sym e ∙ w bodies refl)
      go (some m) none e w = refl
      go (some m) (some bodies) e w = refl

  pub verdict_is : (n : ℕ) → verdict (first_refusal (framed_by n r.framing)) ≡ verdict (first_refusal (framed n msg))
  verdict_is n = ap (λ (rows : List (Check Refusal)). verdict (first_refusal rows)) (framing_is n)

  -- the body of one of the first five frames is what the checks speak of
  pub body_is : (k : ℕ) → k < 5 → body_in msg r.places k ≡ frame_at k msg
  body_is k l = rw (lt-ltb k 5 l) (h.bodies k l)

  pub fields_are : fields_at msg r.places ≡ fields_of msg
  fields_are = rw (body_is 0 (omega arith), body_is 1 (omega arith), body_is 2 (omega arith), body_is 3 (omega arith), body_is 4 (omega arith))

  by_fields : (checks : Fields → List (Check Refusal)) → framed_by 5 r.framing ++ checks (fields_at msg r.places) ≡ framed 5 msg ++ checks (fields_of msg)
  by_fields checks =
      ap (λ (rows : List (Check Refusal)). rows ++ checks (fields_at msg r.places)) (framing_is 5)
      ∙ ap (λ (f : Fields). framed 5 msg ++ checks f) fields_are

  -- so what the ports refuse by a message's split is what they refuse of the message
  pub kvset_is : kvset_by msg r ≡ kvset_port msg
  kvset_is = by_fields kvset_checks

  pub icanhaz_is : icanhaz_by msg r ≡ icanhaz_port msg
  icanhaz_is =
      ap (λ (rows : List (Check Refusal)). rows ++ icanhaz_checks (body_in msg r.places 0) (body_in msg r.places 1) (body_in msg r.places 2)) (framing_is 3)
      ∙ rw (body_is 0 (omega arith), body_is 1 (omega arith), body_is 2 (omega arith))

  pub snapshot_is : (subtree : Bytes) → snapshot_by subtree msg r ≡ snapshot_port subtree msg
  snapshot_is subtree = by_fields (snapshot_checks subtree)

  pub subscriber_is : subscriber_by msg r ≡ subscriber_port msg
  subscriber_is = by_fields published_checks

-- ---- an update that is read
module _ (p : Bytes) (x : Option Refusal) where
  pub update-refused : (r : Refusal) → Err r ≡ update_of p x → x ≡ some r
  unfolding update_of
  update-refused r e = go x e
    where
      go : (x : Option Refusal) → Err r ≡ update_of p x → x ≡ some r
      go none e = absurd (let z : ◌≡◌ {A = ℕ} 0 1 = cc in omega arith)
      go (some q) e = let i : q ≡ r = cc in ap some i

  pub update-lasting : (l : Lifetime) → Ok l ≡ update_of p x → (x ≡ none) × (l ≡ lifetime_in (properties_of p))
  unfolding update_of
  update-lasting l e = go x e
    where
      go : (x : Option Refusal) → Ok l ≡ update_of p x → (x ≡ none) × (l ≡ lifetime_in (properties_of p))
      go none e = (refl, cc)
      go (some q) e = absurd (let z : ◌≡◌ {A = ℕ} 0 1 = cc in omega arith)
