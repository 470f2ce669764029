-- How far four sums can have grown after so many of 1,000 postings.
use Rattle.std.specs.Prelude.{ℕ, ◌-◌, ◌*◌, ◌≤◌}

abbrev pub FewSums : ℕ → ℕ → ℕ → ℕ → ℕ → Type 0
FewSums bought bought_money sold sold_money left =
    (left ≤ 1000)
    × (bought ≤ 99 * (1000 - left))
    × (bought_money ≤ 19800000000 * (1000 - left))
    × (sold ≤ 99 * (1000 - left))
    × (sold_money ≤ 19800000000 * (1000 - left))
