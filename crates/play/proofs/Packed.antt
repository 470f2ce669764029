-- The number that stands for an ending, taken apart again.
use Rattle.std.proofs.Common.{◌≡◌, ◌+◌, ◌*◌, ◌/◌, ◌%◌, ◌<◌, Ok, Err, Result, arith}
use Rattle.market.specs.Terms.{refusal_number}
use Rattle.market.specs.declared.refusal.Refusal.{Refusal}
use Rattle.market.specs.declared.refusal.Refusal.TheVariants.{DayClosed, DayUnopened, DayOpen, BadField, TimeEarlier, QuoteCrossed, AcceptedFull, BookFull, NoSuchOrder, OrderInHand, NotForTicket, BadTicket, ReportFull, LedgerFull, FileTooLong, FileCut, BadWord, OutputShort}
use Rattle.play.specs.Endings.{end_number, packed}
use Rattle.play.specs.declared.ending.Ending.{Ending}

-- the number of a refusal is below 31, which stands for want of memory
small : (e : Refusal) → refusal_number e < 31
small DayClosed = omega arith
small DayUnopened = omega arith
small DayOpen = omega arith
small BadField = omega arith
small TimeEarlier = omega arith
small QuoteCrossed = omega arith
small AcceptedFull = omega arith
small BookFull = omega arith
small NoSuchOrder = omega arith
small OrderInHand = omega arith
small NotForTicket = omega arith
small BadTicket = omega arith
small ReportFull = omega arith
small LedgerFull = omega arith
small FileTooLong = omega arith
small FileCut = omega arith
small BadWord = omega arith
small OutputShort = omega arith

pub end_small : (end : Result (Unit {0}) Refusal) → end_number end < 31
end_small (Ok done) = omega arith
end_small (Err e) = small e

-- the bytes written are the number divided by 32, and the rest is the number of what ended the lines early
pub unpacked : (e : Ending) → (packed e / 32 ≡ e.written) × (packed e % 32 ≡ end_number e.end)
unpacked e = let s = end_small e.end in (omega arith, omega arith)
