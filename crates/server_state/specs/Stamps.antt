-- The stamps of a row: words in a cell of their own, beside the row's key and value.
use Rattle.std.specs.Prelude.{ℕ, Bool, cond, ◌||◌, List, [], ◌∷◌, leb, eqb, get_or}
use Rattle.std.proofs.Math.Option.{Option, none, some}
use Rattle.server_state.specs.declared.stamps.Stamps.{Stamps}

-- how many there are
abbrev pub stamp_count : ℕ
stamp_count = 2

-- the number of the row's last set, and its expiry
abbrev pub stamp_number : List ℕ → ℕ
stamp_number stamps = get_or stamps 0 0

abbrev pub stamp_expiry : List ℕ → ℕ
stamp_expiry stamps = get_or stamps 1 0

-- as they are stored
abbrev pub stamps_of : Stamps → List ℕ
stamps_of row = row.number.0 ∷ row.expiry.0 ∷ []

-- ---- expiries
-- that of a row that does not expire
abbrev pub never : ℕ
never = 18446744073709551615

abbrev pub expiry_in : ℕ → Option ℕ
expiry_in e = cond (eqb e never) none (some e)

-- the latest: a lifetime of 86,400 seconds after the last tick there is
abbrev pub max_expiry : ℕ
max_expiry = 4611686018513787904

abbrev pub is_expiry : ℕ → Bool
is_expiry e = eqb e never || leb e max_expiry
