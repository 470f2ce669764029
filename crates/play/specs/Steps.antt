-- A play under way: the definition's run, and the day, the ledger and the output that the player holds.
use Rattle.std.specs.Prelude.{◌≡◌, ℕ, ◌+◌, ◌≤◌, List, [], ◌∷◌, ◌++◌, length, drop, Some, None, Ok, Err, Result, if◌then◌else◌}
use Rattle.std.specs.Borrow.{MutBor}
use Rattle.market.specs.declared.refusal.Refusal.{Refusal}
use Rattle.market.specs.declared.refusal.Refusal.TheVariants.{OutputShort}
use Rattle.ledger.specs.Opening.{totals_numbers}
use Rattle.ledger.specs.Posting.{Numbers}
use Rattle.ledger.specs.declared.totals.Totals.{Totals}
use Rattle.book.specs.declared.row.Row.{Row}
use Rattle.rules.specs.Machine.{after_call, fills_of, refusal_of, rows_of}
use Rattle.rules.specs.States.{State}
use Rattle.rules.specs.Steps.{PostedOnce}
use Rattle.rules.specs.declared.call.Call.{Call}
use Rattle.play.specs.Pages.{Printed, Wrote}
use Rattle.day.specs.Days.{state_of}
use Rattle.day.specs.declared.live.Day.{Day}
use Rattle.dayfile.specs.Files.{Begins, FileReads}
use Rattle.dayfile.specs.declared.entry.Entry.{Entry}
use Rattle.dayfile.specs.declared.fault.Fault.{Fault}
use Rattle.play.specs.Plays.{last_line}
use Rattle.play.specs.Runs.{Run, called, followed, run_of, unmade}
use Rattle.play.specs.declared.ending.Ending.{Ending}
use Rattle.play.specs.declared.instruction.Instruction.{Instruction}
use Rattle.play.specs.declared.line.Line.{Line}
use Rattle.play.specs.declared.page.Page.{Page}

-- a call is carried out, with so many rows; or refused
abbrev pub Done : Call → State → List Row → Numbers → Result ℕ Refusal → State → List Row → Numbers → Type 0
Done c s report n (Ok k) t reported m =
    (refusal_of s c (length report) n.places ≡ None)
    × ((k ≡ length (rows_of s c)) × (k ≤ length report))
    × (reported ≡ rows_of s c ++ drop (length (rows_of s c)) report)
    × (t ≡ after_call s c)
    × PostedOnce n (fills_of (rows_of s c)) m
Done c s report n (Err e) t reported m =
    (refusal_of s c (length report) n.places ≡ Some e) × (t ≡ s) × (reported ≡ report) × PostedOnce n [] m

-- a call of a day above a totals ledger
abbrev pub CallDone : Call → Day Totals → List Row → Result ℕ Refusal → Day Totals → List Row → Type 0
CallDone c d report r e reported = Done c (state_of d.live) report (totals_numbers d.ledger) r (state_of e.live) reported (totals_numbers e.ledger)

-- the player stands where the run does
pub record At (r : Run) (lent : MutBor (List ℕ)) (s : State) (n : Numbers) (p : Page) : Type 0 where
  pub day : s ≡ r.day
  pub ledger : n ≡ r.ledger
  pub page : Printed lent r.lines p

-- a call takes the player to where the run is after it
abbrev pub Advanced : Call → ℕ → State → Numbers → Page → State → Numbers → Page → Type 0
Advanced c k s n p t m q = (r : Run) (lent : MutBor (List ℕ)) → k ≡ r.count + 1 → At r lent s n p → At (called r c) lent t m q

abbrev pub CallPlayed : Call → ℕ → Day Totals → Page → Day Totals → Page → Type 0
CallPlayed c k d p e q = Advanced c k (state_of d.live) (totals_numbers d.ledger) p (state_of e.live) (totals_numbers e.ledger) q

-- the start takes the player, whose page is empty, to where the run is after it
abbrev pub Opened : Instruction → Page → State → Numbers → Page → Type 0
Opened i p s n q = (lent : MutBor (List ℕ)) → Printed lent [] p → At (followed unmade i) lent s n q

abbrev pub DayOpened : Instruction → Page → Day Totals → Page → Type 0
DayOpened i p d q = Opened i p (state_of d.live) (totals_numbers d.ledger) q

-- the player has played the first records of a file, up to a place after them
pub record Reached (file : List ℕ) (es : List Entry) (place k : ℕ) (lent : MutBor (List ℕ)) (s : State) (n : Numbers) (p : Page) : Type 0 where
  pub begins : Begins file es place
  pub at : At (run_of es) lent s n p
  pub count : k ≡ (run_of es).count

-- the player goes on from one place to another
abbrev pub GoesOn : List ℕ → ℕ → ℕ → State → Numbers → Page → ℕ → ℕ → State → Numbers → Page → Type 0
GoesOn file place k s n p place' k' t m q =
    (lent : MutBor (List ℕ)) (es : List Entry) → Reached file es place k lent s n p → (fs : List Entry) × Reached file fs place' k' lent t m q

-- a file is played, but for its last line
abbrev pub FilePlayed : List ℕ → MutBor (List ℕ) → Result Line Fault → Page → Type 0
FilePlayed file lent (Ok line) p = (es : List Entry) × FileReads file es None × (line ≡ last_line (run_of es) None) × Printed lent (run_of es).lines p
FilePlayed file lent (Err f) p = (es : List Entry) × FileReads file es (Some f) × Printed lent (run_of es).lines p

-- the same on a page that was empty
abbrev pub PlayedOn : List ℕ → Page → Result Line Fault → Page → Type 0
PlayedOn file p r q = (lent : MutBor (List ℕ)) → Printed lent [] p → FilePlayed file lent r q

-- the records after the start are played, but for the last line
abbrev pub RestPlayed : List ℕ → ℕ → State → Numbers → Page → Result Line Fault → Page → Type 0
RestPlayed file place s n p r q =
    (lent : MutBor (List ℕ)) (es : List Entry) → Reached file es place 1 lent s n p → FilePlayed file lent r q

abbrev pub DayPlayed : List ℕ → ℕ → Day Totals → Page → Result Line Fault → Page → Type 0
DayPlayed file place d p r q = RestPlayed file place (state_of d.live) (totals_numbers d.ledger) p r q

-- the last line is printed behind the others, and the play ends with 18 where a line is cut off, else as it would without that
pub record Finished (last : Line) (end : Result (Unit {0}) Refusal) (p q : Page) (ending : Ending) : Type 0 where
  pub wrote : Wrote (last ∷ []) p q
  pub written : ending.written ≡ q.used
  pub ends : ending.end ≡ (if q.full then Err OutputShort else end)
