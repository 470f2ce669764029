-- Records played one after another: the day, the ledger and the lines after them.
use Rattle.std.specs.Prelude.{ℕ, ◌+◌, ◌-◌, ◌*◌, cond, List, [], ◌∷◌, ◌++◌, map, length, pos, ◌+ℤ◌, ◌-ℤ◌, Some, None, fold, Option}
use Rattle.market.specs.Sums.{sum_on}
use Rattle.market.specs.declared.refusal.Refusal.{Refusal}
use Rattle.market.specs.declared.refusal.Refusal.TheVariants.{BadField}
use Rattle.market.specs.declared.side.MarketSide.{MarketSide}
use Rattle.market.specs.declared.side.MarketSide.TheVariants.{Buying, Selling}
use Rattle.ledger.specs.Bounds.{totals_places}
use Rattle.ledger.specs.Posting.{Numbers}
use Rattle.book.specs.declared.row.Row.{Row}
use Rattle.rules.specs.Machine.{after_call, fills_of, refusal_of, rows_of}
use Rattle.rules.specs.States.{State}
use Rattle.rules.specs.Steps.{rows_if, state_by}
use Rattle.rules.specs.declared.call.Call.{Call}
use Rattle.rules.specs.declared.call.Call.TheVariants as a
use Rattle.day.specs.Days.{fresh_figures, may_make, refused_figures}
use Rattle.dayfile.specs.declared.entry.Entry.{Entry}
use Rattle.dayfile.specs.declared.entry.Entry.TheVariants.{Start, Clock, Order, Cancel, Quote, Opening, Trade, Close}
use Rattle.rules.specs.declared.call.NewDay.{NewDay}
use Rattle.play.specs.declared.instruction.Instruction.{Instruction}
use Rattle.play.specs.declared.instruction.Instruction.TheVariants.{Make, Call as CallOf}
use Rattle.play.specs.declared.line.Line.{Line}
use Rattle.play.specs.declared.line.Line.TheVariants.{Row as RowLine, Refused}

-- what a record asks for: a start makes the day, and every other record is a call
abbrev pub instruction_of : Entry → Instruction
instruction_of (Start unit prior tag) = Make (record { unit = unit; prior_close = prior; tag = tag })
instruction_of (Clock time) = CallOf (a.Clock time)
instruction_of (Order side kind shares limit stop) =
    CallOf (a.Order (record { side = side; kind = kind; shares = shares; limit = limit; stop = stop }))
instruction_of (Cancel number) = CallOf (a.Cancel number)
instruction_of (Quote bid offer) = CallOf (a.Quote (record { bid = bid; offer = offer }))
instruction_of (Opening price volume) = CallOf (a.Opening (record { price = price; volume = volume }))
instruction_of (Trade price volume) = CallOf (a.Trade (record { price = price; volume = volume }))
instruction_of Close = CallOf a.Close

-- a play so far: the day's state, the ledger's numbers, the lines printed, and how many records there were
pub record Run : Type 0 where
  pub day : State
  pub ledger : Numbers
  pub lines : List Line
  pub count : ℕ

-- the shares, and the money, of rows on a side of the market
abbrev pub shares_in : MarketSide → List Row → ℕ
shares_in which rows = sum_on (λ r. r.side) (λ r. r.shares) which rows

abbrev pub money_in : MarketSide → List Row → ℕ
money_in which rows = sum_on (λ r. r.side) (λ r. r.shares * r.price) which rows

-- a ledger's numbers after fills, each posted once
abbrev pub posted : Numbers → List Row → Numbers
posted n rows =
    record {
      shares = n.shares +ℤ (pos (shares_in Selling rows) -ℤ pos (shares_in Buying rows));
      money = n.money +ℤ (pos (money_in Buying rows) -ℤ pos (money_in Selling rows));
      places = n.places - length rows;
    }

-- the line of a record that is refused
abbrev pub refused_line : ℕ → Option Refusal → List Line
refused_line k None = []
refused_line k (Some e) = Refused k e ∷ []

-- before the start: a closed day, and a totals ledger at zero
abbrev pub unmade : Run
unmade =
    record {
      day = record { figures = refused_figures; book = [] };
      ledger = record { shares = pos 0; money = pos 0; places = totals_places };
      lines = [];
      count = 0;
    }

-- a day is made, or its making is refused
abbrev pub making : Run → NewDay → Run
making r m =
    record {
      day = record { figures = cond (may_make m) (fresh_figures m) refused_figures; book = [] };
      ledger = r.ledger;
      lines = r.lines ++ refused_line (r.count + 1) (cond (may_make m) None (Some BadField));
      count = r.count + 1;
    }

-- a call that has this refusal, if any: by the state machine of a day
abbrev pub answered : Run → Call → Option Refusal → Run
answered r c o =
    record {
      day = state_by o (after_call r.day c) r.day;
      ledger = posted r.ledger (fills_of (rows_if o (rows_of r.day c)));
      lines = r.lines ++ (map RowLine (rows_if o (rows_of r.day c)) ++ refused_line (r.count + 1) o);
      count = r.count + 1;
    }

-- a call, with a report of 512 places
abbrev pub called : Run → Call → Run
called r c = answered r c (refusal_of r.day c 512 r.ledger.places)

abbrev pub followed : Run → Instruction → Run
followed r (Make m) = making r m
followed r (CallOf c) = called r c

-- the play of some records
abbrev pub run_of : List Entry → Run
run_of es = fold (λ r e. followed r (instruction_of e)) unmade es
