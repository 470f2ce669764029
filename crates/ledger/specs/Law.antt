-- What any list of postings does to any ledger.
use Rattle.std.specs.Prelude.{◌≡◌, ℕ, ◌+◌, ◌-◌, ◌*◌, ◌<◌, Bool, true, false, List, length, take, pos, ◌+ℤ◌, ◌-ℤ◌, Some, None, Ok, Err, count_by, filter, Option, Result, slice_index_or}
use Rattle.market.specs.Sums.{sum_on}
use Rattle.market.specs.declared.refusal.Refusal.{Refusal}
use Rattle.market.specs.declared.side.MarketSide.{MarketSide}
use Rattle.market.specs.declared.side.Side.TheVariants.{Buy}
use Rattle.market.specs.declared.side.MarketSide.TheVariants.{Buying, Selling}
use Rattle.ledger.specs.Posting.{Numbers, answer_of, in_field, refusal_of}
use Rattle.ledger.specs.declared.fill.Fill.{Fill}
use Rattle.ledger.specs.declared.postings.Posting.{Posting}

-- a posting once it was posted to a ledger with so many places
abbrev pub judged : ℕ → Posting → Posting
judged places x =
    record { fill = x.fill; answer = Some (answer_of (refusal_of places x.fill)) }

-- the posting's fields are in range
abbrev pub fits : Posting → Bool
fits x = in_field x.fill.shares x.fill.price

-- the posting past the end of a list
abbrev pub no_posting : Posting
no_posting = record { fill = record { side = Buy; shares = 0; price = 0 }; answer = None }

-- each posting of a list, in turn, meets as many places as the ledger had, less the postings in range before it
abbrev pub Judged : ℕ → List Posting → List Posting → Type 0
Judged places before after =
    (k : ℕ) → k < length before → slice_index_or after k no_posting ≡ judged (places - count_by fits (take k before)) (slice_index_or before k no_posting)

-- the posting was posted, and was not refused
abbrev pub is_accepted : Option (Result (Unit {0}) Refusal) → Bool
is_accepted None = false
is_accepted (Some (Ok _)) = true
is_accepted (Some (Err e)) = false

abbrev pub accepted : Posting → Bool
accepted x = is_accepted x.answer

-- the shares and the money of records that have a fill, on a side of the market
abbrev pub shares_on : {X : Type 0} → (X → Fill) → MarketSide → List X → ℕ
shares_on fill which xs = sum_on (λ x. (fill x).side) (λ x. (fill x).shares) which xs

abbrev pub money_on : {X : Type 0} → (X → Fill) → MarketSide → List X → ℕ
money_on fill which xs = sum_on (λ x. (fill x).side) (λ x. (fill x).shares * (fill x).price) which xs

-- a ledger's numbers moved by records that have a fill, each of them once: shares by sold less bought, money by bought
-- less sold, places by the count
pub record MovedBy {X : Type 0} (fill : X → Fill) (before : Numbers) (xs : List X) (after : Numbers) : Type 0 where
  pub shares_move : after.shares ≡ before.shares +ℤ (pos (shares_on fill Selling xs) -ℤ pos (shares_on fill Buying xs))
  pub money_moves : after.money ≡ before.money +ℤ (pos (money_on fill Buying xs) -ℤ pos (money_on fill Selling xs))
  pub places_fall : before.places ≡ after.places + length xs

-- the law of postings: a list of them moves a ledger by the accepted ones, and by no other
abbrev pub AddsUp : Numbers → List Posting → Numbers → Type 0
AddsUp before xs after = MovedBy (λ x. x.fill) before (filter accepted xs) after
