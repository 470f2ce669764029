-- The bounds of a ledger's numbers.
use Rattle.std.specs.Prelude.{ℕ, ◌+◌, ◌-◌, ◌*◌, ◌≤◌, ℤ, pos, neg_ℤ, ◌≤ℤ◌}
use Rattle.ledger.specs.Posting.{Numbers}

-- z lies between -b and b
abbrev pub Within : ℕ → ℤ → Type 0
Within b z = (neg_ℤ (pos b) ≤ℤ z) × (z ≤ℤ pos b)

-- the bound of every ledger's shares and money: 4 × 10^18
abbrev pub Bounded : Numbers → Type 0
Bounded n = Within 4000000000000000000 n.shares × Within 4000000000000000000 n.money

-- a ledger may start from these numbers: 10^9 shares and 10^17 of money, either way
abbrev pub MayStart : ℤ → ℤ → Type 0
MayStart shares money = Within 1000000000 shares × Within 100000000000000000 money

-- how many postings a totals ledger takes
abbrev pub totals_places : ℕ
totals_places = 1048576

-- where a totals ledger stands that has so many places left: each posting moved it by at most 99 shares and
-- 99 × 200,000,000 of money
abbrev pub Runs : ℤ → ℤ → ℕ → Type 0
Runs shares money left =
    (left ≤ totals_places)
    × Within (1000000000 + 99 * (totals_places - left)) shares
    × Within (100000000000000000 + 19800000000 * (totals_places - left)) money
