-- Where no record stands, and why.
use Rattle.std.specs.Prelude.{ℕ, ◌+◌, ◌/◌, ◌%◌, Bool, true, false, cond, not, ◌&&◌, List, [], ◌∷◌, ◌++◌, length, Some, None, Option, ◌==◌, nat_lt}
use Rattle.market.specs.declared.refusal.Refusal.{Refusal}
use Rattle.market.specs.declared.refusal.Refusal.TheVariants.{FileCut, BadWord}
use Rattle.dayfile.specs.Entries.{has_limit_word, has_stop_word}
use Rattle.dayfile.specs.Kinds.{word_kind_number, word_kind_of}
use Rattle.dayfile.specs.Words.{kind_at, value_at}
use Rattle.dayfile.specs.declared.kind.WordKind.{WordKind}
use Rattle.dayfile.specs.declared.kind.WordKind.TheVariants.{Time, Order, Limit, Stop, Cancel, Bid, Offer, OpeningPrice, TradePrice, Volume, Close, Unit as UnitWord, PriorClose, Tag}

-- the zero bits of an order's first value, beside its fields of 2, 3 and 8 bits
abbrev pub gaps_clear : ℕ → Bool
gaps_clear v = nat_lt (v / 65536) 4 && nat_lt (v / 256 % 256) 8

-- the words that follow an order's first word
abbrev pub after_order : ℕ → List WordKind
after_order v =
    cond (has_limit_word (v / 256 % 256)) (Limit ∷ []) [] ++ cond (has_stop_word (v / 256 % 256)) (Stop ∷ []) []

-- the words that follow a first word in its record; none where no record begins with it
abbrev pub followers_of : WordKind → ℕ → Option (List WordKind)
followers_of UnitWord v = Some (PriorClose ∷ Tag ∷ [])
followers_of Time v = Some []
followers_of Order v = cond (gaps_clear v) (Some (after_order v)) None
followers_of Cancel v = Some []
followers_of Bid v = Some (Offer ∷ [])
followers_of OpeningPrice v = Some (Volume ∷ [])
followers_of TradePrice v = Some (Volume ∷ [])
followers_of Close v = cond (v == 0) (Some []) None
followers_of Limit v = None
followers_of Stop v = None
followers_of Offer v = None
followers_of Volume v = None
followers_of PriorClose v = None
followers_of Tag v = None

-- a start comes first and nowhere else
abbrev pub may_begin : Bool → WordKind → Bool
may_begin true k = word_kind_number k == word_kind_number UnitWord
may_begin false k = not (word_kind_number k == word_kind_number UnitWord)

-- the fault in the words that have to follow, from a place on: the first of them that is cut short, or of another kind
abbrev pub fault_among : List WordKind → List ℕ → ℕ → Option Refusal
fault_among [] rest at = None
fault_among (k ∷ ks) rest at =
    cond (nat_lt (length rest) (at + 4)) (Some FileCut) (cond (kind_at rest at == word_kind_number k) (fault_among ks rest (at + 4)) (Some BadWord))

abbrev pub fault_after : Option (List WordKind) → List ℕ → Option Refusal
fault_after None rest = Some BadWord
fault_after (Some ks) rest = fault_among ks rest 4

abbrev pub fault_from : Bool → Option WordKind → List ℕ → Option Refusal
fault_from first None rest = Some BadWord
fault_from first (Some k) rest = cond (may_begin first k) (fault_after (followers_of k (value_at rest 0)) rest) (Some BadWord)

-- the fault of the record that begins the rest of a file, the first record or a later one: its first faulty word decides
abbrev pub fault_of : Bool → List ℕ → Option Refusal
fault_of first rest = cond (nat_lt (length rest) 4) (Some FileCut) (fault_from first (word_kind_of (kind_at rest 0)) rest)
