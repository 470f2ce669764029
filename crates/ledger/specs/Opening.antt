-- What a ledger starts from, and that a totals ledger stays within the bound of every ledger.
use Rattle.std.specs.Prelude.{◌≡◌, ℕ, true, false, cond, ℤ, pos, Ok, Err, Result}
use Rattle.std.proofs.Common.{arith}
use Rattle.std.proofs.lemmas.Int.{ints}
use Rattle.market.specs.declared.refusal.Refusal.{Refusal}
use Rattle.market.specs.declared.refusal.Refusal.TheVariants.{BadField}
use Rattle.ledger.specs.Bounds.{MayStart, Bounded, Runs}
use Rattle.ledger.specs.Posting.{Numbers}
use Rattle.ledger.specs.declared.start.Start.{Start}
use Rattle.ledger.specs.declared.totals.Totals.{Totals}

-- a start from numbers in range is good and has them; any other is refused as a bad field, and is no good and at zero
abbrev pub Started : ℤ → ℤ → Result (Unit {0}) Refusal → Start → Type 0
Started shares money (Ok _) s = MayStart shares money × (s.shares ≡ shares) × (s.money ≡ money) × (s.good ≡ true)
Started shares money (Err e) s =
    (MayStart shares money → ⊥) × (e ≡ BadField) × (s.shares ≡ pos 0) × (s.money ≡ pos 0) × (s.good ≡ false)

-- the numbers of a ledger at a start, which has so many places where the start is good
abbrev pub starts_at : Start → ℕ → Numbers
starts_at s n = record { shares = s.shares; money = s.money; places = cond s.good n 0 }

-- what a totals ledger means
abbrev pub totals_numbers : Totals → Numbers
totals_numbers t = record { shares = t.shares; money = t.money; places = t.left }

-- a totals ledger stays within the bound. The proof is a ghost member of its ledger, so it stands here
pub totals_bounded : (t : Totals) → Bounded (totals_numbers t)
totals_bounded t =
    let ok : Runs t.shares t.money t.left = t.ok in
    ((omega (arith, ints), omega (arith, ints)), (omega (arith, ints), omega (arith, ints)))
