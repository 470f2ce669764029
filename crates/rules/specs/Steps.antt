-- What every call of a day promises, by one record.
use Rattle.std.specs.Prelude.{◌≡◌, ℕ, List, [], ◌++◌, length, drop, Some, None, Ok, Err, Option, Result}
use Rattle.market.specs.declared.refusal.Refusal.{Refusal}
use Rattle.ledger.specs.Law.{MovedBy}
use Rattle.ledger.specs.Posting.{Numbers}
use Rattle.book.specs.declared.row.Row.{Row}
use Rattle.rules.specs.Machine.{after_call, fill_of, fills_of, refusal_of, reply_of, rows_of}
use Rattle.rules.specs.States.{State}
use Rattle.rules.specs.declared.call.Call.{Call}

-- a ledger's numbers moved by rows, each posted once
abbrev pub PostedOnce : Numbers → List Row → Numbers → Type 0
PostedOnce before rows after = MovedBy fill_of before rows after

-- by the refusal that fits, if any: the answer, the rows and the state after
abbrev pub answer_by : Option Refusal → ℕ → Result ℕ Refusal
answer_by None n = Ok n
answer_by (Some e) n = Err e

abbrev pub rows_if : Option Refusal → List Row → List Row
rows_if None rows = rows
rows_if (Some e) rows = []

abbrev pub state_by : Option Refusal → State → State → State
state_by None after before = after
state_by (Some e) after before = before

-- a call, on a day in the state s with a report of these rows, above a ledger with these numbers: its answer, the
-- report after (the rows, then what stood behind them), the state after, and the ledger moved by the rows that are fills
pub record Step (c : Call) (s : State) (report : List Row) (n : Numbers) (r : Result ℕ Refusal) (t : State) (reported : List Row) (m : Numbers) : Type 0 where
  pub answer : r ≡ answer_by (refusal_of s c (length report) n.places) (reply_of s c)
  pub rows : reported ≡ rows_if (refusal_of s c (length report) n.places) (rows_of s c) ++ drop (length (rows_if (refusal_of s c (length report) n.places) (rows_of s c))) report
  pub state : t ≡ state_by (refusal_of s c (length report) n.places) (after_call s c) s
  pub ledger : PostedOnce n (fills_of (rows_if (refusal_of s c (length report) n.places) (rows_of s c))) m

-- the answer of a call of which only the acceptance counts
abbrev pub quiet : {X : Type 0} → Result X Refusal → Result ℕ Refusal
quiet (Ok _) = Ok 0
quiet (Err e) = Err e
