-- The two ledgers' numbers, and that they stay within the bound of every ledger.
use Rattle.std.proofs.Common.{arith}
use Rattle.std.proofs.lemmas.Int.{ints}
use Rattle.std.specs.Prelude.{ℤ, pos, ◌-ℤ◌}
use Rattle.ledger.specs.Bounds.{Bounded}
use Rattle.ledger.specs.Posting.{Numbers}
use Rattle.other_ledgers.specs.Sums.{FewSums}
use Rattle.other_ledgers.specs.declared.four_sums.FourSums.{FourSums}

-- a ledger that never takes a posting
abbrev pub zero : Numbers
zero = record { shares = pos 0; money = pos 0; places = 0 }

pub zero_bounded : Bounded zero
zero_bounded = ((omega (arith, ints), omega (arith, ints)), (omega (arith, ints), omega (arith, ints)))

-- the specialist stands against his customers: what they sold, less what they bought
abbrev pub shares_of : FourSums → ℤ
shares_of x = pos x.sold -ℤ pos x.bought

abbrev pub money_of : FourSums → ℤ
money_of x = pos x.bought_money -ℤ pos x.sold_money

abbrev pub numbers_of : FourSums → Numbers
numbers_of x = record { shares = shares_of x; money = money_of x; places = x.left }

pub sums_bounded : (x : FourSums) → Bounded (numbers_of x)
sums_bounded x =
    let ok : FewSums x.bought x.bought_money x.sold x.sold_money x.left = x.ok in
    ((omega (arith, ints), omega (arith, ints)), (omega (arith, ints), omega (arith, ints)))
