-- What a post does to a ledger's three numbers.
use Rattle.std.specs.Prelude.{◌≡◌, ℕ, ◌-◌, ◌*◌, Bool, cond, ◌&&◌, ℤ, pos, ◌+ℤ◌, ◌-ℤ◌, neg_ℤ, Some, None, Ok, Err, Option, Result, ◌==◌}
use Rattle.market.specs.Limits.{is_postable, is_price}
use Rattle.market.specs.Terms.{market_side}
use Rattle.market.specs.declared.side.Side.{Side}
use Rattle.market.specs.declared.side.MarketSide.{MarketSide}
use Rattle.market.specs.declared.side.MarketSide.TheVariants.{Buying, Selling}
use Rattle.ledger.specs.declared.fill.Fill.{Fill}
use Rattle.market.specs.declared.refusal.Refusal.{Refusal}
use Rattle.market.specs.declared.refusal.Refusal.TheVariants.{BadField, LedgerFull}

-- a ledger's meaning: the specialist's shares, his money in ten-thousandths of a dollar, and the postings that it will
-- still take
pub record Numbers : Type 0 where
  pub shares : ℤ
  pub money : ℤ
  pub places : ℕ

-- n shares at the price p may be posted
abbrev pub in_field : ℕ → ℕ → Bool
in_field n p = is_postable n && is_price p

-- why a ledger with so many places refuses a fill: the first reason that fits, if any
abbrev pub refusal_of : ℕ → Fill → Option Refusal
refusal_of places f = cond (in_field f.shares f.price) (cond (places == 0) (Some LedgerFull) None) (Some BadField)

-- z on the buying side of the market, and its negative on the selling side
abbrev pub signed_on : MarketSide → ℤ → ℤ
signed_on Buying z = z
signed_on Selling z = neg_ℤ z

-- z as a customer's buy counts it, and its negative for a sell, long or short
abbrev pub signed : Side → ℤ → ℤ
signed side z = signed_on (market_side side) z

-- an accepted post: a customer's buy lowers the shares and raises the money, a sell the reverse; a place is used
abbrev pub moved : Fill → Numbers → Numbers
moved f x =
    record {
      shares = x.shares -ℤ signed f.side (pos f.shares);
      money = x.money +ℤ signed f.side (pos (f.shares * f.price));
      places = x.places - 1;
    }

-- the answer of a post, by the reason to refuse it
abbrev pub answer_of : Option Refusal → Result (Unit {0}) Refusal
answer_of None = Ok tt
answer_of (Some e) = Err e

-- the numbers after a post, by the reason to refuse it: a refused one changes nothing
abbrev pub settled_by : Option Refusal → Fill → Numbers → Numbers
settled_by None f x = moved f x
settled_by (Some e) f x = x

-- the numbers after a post
abbrev pub posted : Fill → Numbers → Numbers
posted f x = settled_by (refusal_of x.places f) f x

-- the three numbers agree
pub record Agree (x y : Numbers) : Type 0 where
  pub shares : x.shares ≡ y.shares
  pub money : x.money ≡ y.money
  pub places : x.places ≡ y.places

-- what a post answers and does
pub record Posted (f : Fill) (before : Numbers) (r : Result (Unit {0}) Refusal) (after : Numbers) : Type 0 where
  pub answer : r ≡ answer_of (refusal_of before.places f)
  pub moves : Agree after (posted f before)
