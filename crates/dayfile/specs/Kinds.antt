-- The kinds of words and their numbers.
use Rattle.std.specs.Prelude.{ℕ, cond, Some, None, Option, ◌==◌}
use Rattle.dayfile.specs.declared.kind.WordKind.{WordKind}
use Rattle.dayfile.specs.declared.kind.WordKind.TheVariants.{Time, Order, Limit, Stop, Cancel, Bid, Offer, OpeningPrice, TradePrice, Volume, Close, Unit as UnitWord, PriorClose, Tag}

abbrev pub word_kind_number : WordKind → ℕ
word_kind_number Time = 1
word_kind_number Order = 2
word_kind_number Limit = 3
word_kind_number Stop = 4
word_kind_number Cancel = 5
word_kind_number Bid = 6
word_kind_number Offer = 7
word_kind_number OpeningPrice = 8
word_kind_number TradePrice = 9
word_kind_number Volume = 10
word_kind_number Close = 11
word_kind_number UnitWord = 12
word_kind_number PriorClose = 13
word_kind_number Tag = 14

-- the kind with a number, if any
abbrev pub word_kind_of : ℕ → Option WordKind
word_kind_of n =
    cond (n == 1) (Some Time)
    (cond (n == 2) (Some Order)
    (cond (n == 3) (Some Limit)
    (cond (n == 4) (Some Stop)
    (cond (n == 5) (Some Cancel)
    (cond (n == 6) (Some Bid)
    (cond (n == 7) (Some Offer)
    (cond (n == 8) (Some OpeningPrice)
    (cond (n == 9) (Some TradePrice)
    (cond (n == 10) (Some Volume)
    (cond (n == 11) (Some Close)
    (cond (n == 12) (Some UnitWord)
    (cond (n == 13) (Some PriorClose)
    (cond (n == 14) (Some Tag) None)))))))))))))
