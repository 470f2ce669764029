-- Calls of a day, as the player makes them.
use Rattle.std.proofs.Common.{◌≡◌, ℕ, ◌≤◌, Bool, true, false, cond, ltb, List, [], ◌++◌, length, drop, Some, None, Ok, Err, Option, Result, sym, refl, ap, ◌∙◌, subst, arith}
use Rattle.std.proofs.lemmas.Bool.{ltb-false}
use Rattle.market.specs.declared.refusal.Refusal.{Refusal}
use Rattle.market.specs.declared.refusal.Refusal.TheVariants.{DayClosed, LedgerFull, ReportFull}
use Rattle.ledger.specs.Posting.{Numbers}
use Rattle.book.specs.declared.row.Row.{Row}
use Rattle.rules.specs.Machine.{field_refusal, fills_of, or_else, reply_of, room_refusal, rows_of}
use Rattle.rules.specs.States.{State, is_closed}
use Rattle.rules.specs.Steps.{Step, quiet}
use Rattle.rules.specs.declared.call.Call.{Call}
use Rattle.rules.proofs.Stepping.{quiet_anywhere, step_accepted, step_refused}
use Rattle.play.specs.Steps.{Done}

-- a call that is not refused has a place for each row
not_full : (full : Bool) (o : Option Refusal) → cond full (Some ReportFull) o ≡ None → full ≡ false
not_full true o h = cc
not_full false o h = refl

pub enough : (closed : Bool) (o : Option Refusal) (rows : List Row) (room places : ℕ) → cond closed (Some DayClosed) (or_else o (room_refusal rows room places)) ≡ None → length rows ≤ room
enough true o rows room places h = cc
enough false (Some e) rows room places h = cc
enough false None rows room places h = ltb-false room (length rows) (not_full (ltb room (length rows)) (cond (ltb places (length (fills_of rows))) (Some LedgerFull) None) h)

-- a call with rows
pub row_done : (c : Call) (s : State) (report : List Row) (n : Numbers) (r : Result ℕ Refusal) (t : State) (reported : List Row) (m : Numbers) → reply_of s c ≡ length (rows_of s c) → Step c s report n r t reported m → Done c s report n r t reported m
row_done c s report n (Ok k) t reported m reply h =
    let a = step_accepted c s report n k t reported m h in
    let is = a.reply ∙ reply in
    let fits = enough (is_closed s.figures.phase) (field_refusal s c) (rows_of s c) (length report) n.places a.none in
    (a.none, (is, omega (arith, is, fits)), a.rows, a.state, a.ledger)
row_done c s report n (Err e) t reported m reply h =
    let a = step_refused c s report n e t reported m h in (a.why, a.state, a.rows, a.ledger)

-- a call without rows
pub quiet_done : (c : Call) (s : State) (report : List Row) (n : Numbers) (r : Result ℕ Refusal) (t : State) (m : Numbers) → rows_of s c ≡ [] → Step c s [] n r t [] m → Done c s report n (quiet r) t report m
quiet_done c s report n (Ok k) t m none h =
    let a = step_accepted c s [] n k t [] m h in (
      sym (quiet_anywhere c s (length report) n.places none) ∙ a.none,
      (sym (ap length none), omega arith),
      sym (ap (λ l. l ++ drop (length l) report) none),
      a.state,
      a.ledger,
    )
quiet_done c s report n (Err e) t m none h =
    let a = step_refused c s [] n e t [] m h in (sym (quiet_anywhere c s (length report) n.places none) ∙ a.why, a.state, refl, a.ledger)

-- a call that answers nothing but its acceptance
pub quiet_none : (r : Result (Unit {0}) Refusal) → quiet (quiet r) ≡ quiet r
quiet_none (Ok x) = refl
quiet_none (Err e) = refl

-- the same of a call that is known to be this one
pub row_made : (a c : Call) (s : State) (report : List Row) (n : Numbers) (r : Result ℕ Refusal) (t : State) (reported : List Row) (m : Numbers) → a ≡ c → reply_of s c ≡ length (rows_of s c) → Step c s report n r t reported m → Done a s report n r t reported m
row_made a c s report n r t reported m is reply h =
    subst (λ (x : Call). Done x s report n r t reported m) (sym is) (row_done c s report n r t reported m reply h)

pub quiet_made : (a c : Call) (s : State) (report : List Row) (n : Numbers) (r answer : Result ℕ Refusal) (t : State) (m : Numbers) → a ≡ c → answer ≡ quiet r → rows_of s c ≡ [] → Step c s [] n r t [] m → Done a s report n answer t report m
quiet_made a c s report n r answer t m is e none h =
    subst (λ (x : Call). Done x s report n answer t report m) (sym is)
    (subst (λ (x : Result ℕ Refusal). Done c s report n x t report m) (sym e) (quiet_done c s report n r t m none h))
