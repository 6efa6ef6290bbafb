-- How long frames are that passed their tests. Assumes nothing.
use Prim.Native.Nat.{◌≤◌}
use native.Mathlib.Omega.{arith}
use mathlib.Core.Bool.{Bool, true, false, not, ◌||◌}
use mathlib.Core.Option.{none}
use mathlib.Core.Path.{◌≡◌, refl}
use lib.Dec.{eqb, leb}
use lib.ListN.{length}
use borrow.Author.Tests.{leb-true, eqb-true, not-false}
use Rattle.base.proofs.ByteLaws.{and_right}
use Rattle.base.proofs.CheckLaws.{passed}
use Rattle.base.specs.Bytes.{Bytes}
use Rattle.base.specs.Checks.{first_refusal}
use Rattle.keys.proofs.UnderLaws.{subtree-short}
use Rattle.keys.specs.Keys.{is_subtree}
use Rattle.frame_forms.specs.Lengths.{is_uuid, is_identity, is_value}
use Rattle.ports.specs.Ports.{payload_checks, icanhaz_checks}
use Rattle.properties.proofs.LifetimeLaws.{good_length}
use Rattle.properties.specs.Properties.{properties_of, is_good}

pub uuid-short : (s : Bytes) → not (is_uuid s) ≡ false → length s ≤ 16
uuid-short s h = go (eqb (length s) 0) refl (not-false (is_uuid s) h)
  where
    go : (t : Bool) → eqb (length s) 0 ≡ t → (t || eqb (length s) 16) ≡ true → length s ≤ 16
    go true e f = omega (arith, eqb-true (length s) 0 e)
    go false e f = omega (arith, eqb-true (length s) 16 f)

pub value-short : (s : Bytes) → not (is_value s) ≡ false → length s ≤ 256
value-short s h = leb-true (length s) 256 (not-false (is_value s) h)

-- UUID, properties and value of an update that is good
pub payload_short : (uuid properties value : Bytes) → first_refusal (payload_checks uuid properties value) ≡ none
    → (length uuid ≤ 16) × ((length properties ≤ 128) × (length value ≤ 256))
payload_short uuid properties value e =
    let checks = payload_checks uuid properties value in
    (uuid-short uuid (passed 0 checks e), (good_length properties (not-false (is_good (properties_of properties)) (passed 1 checks e)), value-short value (passed 2 checks e)))

-- identity and subtree of a request that is good
pub request-short : (identity word subtree : Bytes) → first_refusal (icanhaz_checks identity word subtree) ≡ none → (length identity ≤ 255) × (length subtree ≤ 96)
request-short identity word subtree e =
    let checks = icanhaz_checks identity word subtree in
    (leb-true (length identity) 255 (and_right (leb 1 (length identity)) (leb (length identity) 255) (not-false (is_identity identity) (passed 0 checks e))), subtree-short subtree (not-false (is_subtree subtree) (passed 2 checks e)))
