-- The state of a day, and its making.
use Rattle.std.specs.Prelude.{◌≡◌, ℕ, Bool, true, false, ◌&&◌, List, [], None, Ok, Err, Result}
use Rattle.market.specs.Limits.{is_price, is_tag, is_unit}
use Rattle.market.specs.declared.refusal.Refusal.{Refusal}
use Rattle.market.specs.declared.refusal.Refusal.TheVariants.{BadField}
use Rattle.ledger.specs.Posting.{Numbers}
use Rattle.book.specs.Books.{orders_of}
use Rattle.book.specs.declared.row.Row.{Row}
use Rattle.rules.specs.Machine.{with_phase}
use Rattle.rules.specs.States.{State}
use Rattle.rules.specs.Steps.{Step}
use Rattle.rules.specs.declared.call.Call.{Call}
use Rattle.rules.specs.declared.call.NewDay.{NewDay}
use Rattle.rules.specs.declared.figures.Figures.{Figures}
use Rattle.rules.specs.declared.figures.Phase.TheVariants.{Unopened, Closed}
use Rattle.day.specs.declared.live.Day.{Day}
use Rattle.day.specs.declared.live.Live.{Live}

abbrev pub state_of : Live → State
state_of l = record { figures = l.figures; book = orders_of l.book }

-- a call on a day above a ledger, whose three numbers `numbers` gives, is a step of the rules' machine
abbrev pub Stepped : {L : Type 0} → (L → Numbers) → Call → Day L → List Row → Result ℕ Refusal → Day L → List Row → Type 0
Stepped numbers c before report r after reported =
    Step c (state_of before.live) report (numbers before.ledger) r (state_of after.live) reported (numbers after.ledger)

-- a new day: unopened, at time 0, without quote; its latest price is the prior close, not rising
abbrev pub fresh_figures : NewDay → Figures
fresh_figures n =
    record { phase = Unopened; unit = n.unit; tag = n.tag; time = 0; quote = record { bid = None; offer = None }; latest = n.prior_close; rising = false; accepted = 0 }

abbrev pub may_make : NewDay → Bool
may_make n = is_unit n.unit && is_price n.prior_close && is_tag n.tag

-- the figures of a day whose making was refused: closed, so that no call ever asks for the others
abbrev pub refused_figures : Figures
refused_figures = with_phase Closed (fresh_figures (record { unit = 100; prior_close = 1; tag = 1 }))

-- a making is refused only for a field out of range, and then gives a closed day without orders
abbrev pub Made : NewDay → Result (Unit {0}) Refusal → State → Type 0
Made n (Ok _) s = (may_make n ≡ true) × (s.figures ≡ fresh_figures n) × (s.book ≡ [])
Made n (Err e) s = (may_make n ≡ false) × (e ≡ BadField) × (s.figures.phase ≡ Closed) × (s.book ≡ [])

-- the closed day of a refused making, whole: its figures are the refused ones
abbrev pub MadeClosed : Result (Unit {0}) Refusal → State → Type 0
MadeClosed (Ok _) s = Unit {0}
MadeClosed (Err _) s = s.figures ≡ refused_figures
