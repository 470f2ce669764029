-- Faults of words, and of the records that they stand in.
use Rattle.std.proofs.Common.{◌≡◌, ℕ, ◌+◌, ◌≤◌, true, false, List, ◌∷◌, length, Some, refl, arith}
use Rattle.std.proofs.lemmas.Bool.Decides.{nat_tests}
use Rattle.dayfile.specs.Faults.{after_order, fault_among, fault_of, gaps_clear}
use Rattle.dayfile.specs.Kinds.{word_kind_number, word_kind_of}
use Rattle.dayfile.specs.Words.{kind_at, value_at}
use Rattle.dayfile.specs.declared.kind.WordKind.{WordKind}
use Rattle.dayfile.specs.declared.kind.WordKind.TheVariants.{Time, Order, Limit, Stop, Cancel, Bid, Offer, OpeningPrice, TradePrice, Volume, Close, Unit as UnitWord, PriorClose, Tag}

-- a word kind's number reads back as that kind
pub own_kind : (k : WordKind) → word_kind_of (word_kind_number k) ≡ Some k
own_kind Time = refl
own_kind Order = refl
own_kind Limit = refl
own_kind Stop = refl
own_kind Cancel = refl
own_kind Bid = refl
own_kind Offer = refl
own_kind OpeningPrice = refl
own_kind TradePrice = refl
own_kind Volume = refl
own_kind Close = refl
own_kind UnitWord = refl
own_kind PriorClose = refl
own_kind Tag = refl

-- past a word of the kind that is wanted
pub among_next : (k : WordKind) (ks : List WordKind) (rest : List ℕ) (at : ℕ) → at + 4 ≤ length rest → kind_at rest at ≡ word_kind_number k → fault_among (k ∷ ks) rest at ≡ fault_among ks rest (at + 4)
among_next k ks rest at h same = grind (arith, nat_tests)

-- the fault of an order, past its first word
pub order_fault : (rest : List ℕ) (v : ℕ) → 4 ≤ length rest → kind_at rest 0 ≡ 2 → value_at rest 0 ≡ v → gaps_clear v ≡ true → fault_of false rest ≡ fault_among (after_order v) rest 4
order_fault rest v h kind value clear = grind (arith, nat_tests)
