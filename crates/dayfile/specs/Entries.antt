-- The words that each record is written as.
use Rattle.std.specs.Prelude.{ℕ, ◌+◌, ◌*◌, Bool, true, false, cond, ◌&&◌, ◌||◌, List, [], ◌∷◌, ◌++◌, ◌==◌, nat_lt}
use Rattle.std.specs.List.{flat_map}
use Rattle.market.specs.Terms.{kind_number}
use Rattle.market.specs.declared.kind.Kind.TheVariants.{Limit as LimitOrder, Stop as StopOrder, StopLimit as StopLimitOrder}
use Rattle.dayfile.specs.Words.{bytes_of, word}
use Rattle.dayfile.specs.declared.entry.Entry.{Entry}
use Rattle.dayfile.specs.declared.entry.Entry.TheVariants.{Start, Clock, Order, Cancel, Quote, Opening, Trade, Close}
use Rattle.dayfile.specs.declared.kind.WordKind.TheVariants.{Time, Order as OrderWord, Limit, Stop, Cancel as CancelWord, Bid, Offer, OpeningPrice, TradePrice, Volume, Close as CloseWord, Unit as UnitWord, PriorClose, Tag}

-- the kinds of orders, by number, that have a limit word, and those that have a stop word
abbrev pub has_limit_word : ℕ → Bool
has_limit_word kind = kind == kind_number LimitOrder || kind == kind_number StopLimitOrder

abbrev pub has_stop_word : ℕ → Bool
has_stop_word kind = kind == kind_number StopOrder || kind == kind_number StopLimitOrder

-- the value of an order's first word
abbrev pub order_value : ℕ → ℕ → ℕ → ℕ
order_value side kind shares = side * 65536 + kind * 256 + shares

-- the words of a record
abbrev pub words_of : Entry → List ℕ
words_of (Start unit prior tag) = word UnitWord unit ∷ word PriorClose prior ∷ word Tag tag ∷ []
words_of (Clock time) = word Time time ∷ []
words_of (Order side kind shares limit stop) =
    word OrderWord (order_value side kind shares)
    ∷ (cond (has_limit_word kind) (word Limit limit ∷ []) [] ++ cond (has_stop_word kind) (word Stop stop ∷ []) [])
words_of (Cancel number) = word CancelWord number ∷ []
words_of (Quote bid offer) = word Bid bid ∷ word Offer offer ∷ []
words_of (Opening price volume) = word OpeningPrice price ∷ word Volume volume ∷ []
words_of (Trade price volume) = word TradePrice price ∷ word Volume volume ∷ []
words_of Close = word CloseWord 0 ∷ []

-- the bytes of a record
abbrev pub written : Entry → List ℕ
written e = flat_map bytes_of (words_of e)

-- a value has 28 bits
abbrev pub is_value : ℕ → Bool
is_value v = nat_lt v 268435456

-- a record that can be written: every field fits its bits, and a price without a word is 0
abbrev pub is_writable : Entry → Bool
is_writable (Start unit prior tag) = is_value unit && is_value prior && is_value tag
is_writable (Clock time) = is_value time
is_writable (Order side kind shares limit stop) =
    nat_lt side 4
    && nat_lt kind 8
    && nat_lt shares 256
    && cond (has_limit_word kind) (is_value limit) (limit == 0)
    && cond (has_stop_word kind) (is_value stop) (stop == 0)
is_writable (Cancel number) = is_value number
is_writable (Quote bid offer) = is_value bid && is_value offer
is_writable (Opening price volume) = is_value price && is_value volume
is_writable (Trade price volume) = is_value price && is_value volume
is_writable Close = true

abbrev pub is_start : Entry → Bool
is_start (Start unit prior tag) = true
is_start (Clock time) = false
is_start (Order side kind shares limit stop) = false
is_start (Cancel number) = false
is_start (Quote bid offer) = false
is_start (Opening price volume) = false
is_start (Trade price volume) = false
is_start Close = false
