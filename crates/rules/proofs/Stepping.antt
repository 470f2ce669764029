-- How a call's promise is met, by its refusal or its acceptance.
use Rattle.std.proofs.Common.{◌≡◌, ℕ, Bool, true, false, cond, ltb, List, [], ◌++◌, length, drop, ℤ, pos, ◌+ℤ◌, ◌-ℤ◌, Some, None, Ok, Err, Option, sym, refl, ap, ◌∙◌, subst, arith}
use Rattle.std.proofs.lemmas.Int.{ints}
use Rattle.std.proofs.lemmas.Bool.{le-ltb}
use Rattle.market.specs.declared.refusal.Refusal.{Refusal}
use Rattle.market.specs.declared.refusal.Refusal.TheVariants.{DayClosed, LedgerFull, ReportFull}
use Rattle.ledger.specs.Posting.{Numbers}
use Rattle.book.specs.declared.row.Row.{Row}
use Rattle.rules.specs.Machine.{after_call, field_refusal, fills_of, or_else, refusal_of, reply_of, room_refusal, rows_of}
use Rattle.rules.specs.States.{State, is_closed}
use Rattle.rules.specs.Steps.{PostedOnce, Step, answer_by, rows_if, state_by}
use Rattle.rules.specs.declared.call.Call.{Call}

still : (z : ℤ) → z ≡ z +ℤ (pos 0 -ℤ pos 0)
still z = omega (arith, ints)

pub none_posted : (n : Numbers) → PostedOnce n [] n
none_posted n = record { shares_move = still n.shares; money_moves = still n.money; places_fall = omega arith }

-- a refused call
pub refused : (c : Call) (s : State) (report : List Row) (n : Numbers) (e : Refusal) → refusal_of s c (length report) n.places ≡ Some e → Step c s report n (Err e) s report n
refused c s report n e h =
    record {
      answer = sym (ap (λ o. answer_by o (reply_of s c)) h);
      rows = sym (ap (λ o. rows_if o (rows_of s c) ++ drop (length (rows_if o (rows_of s c))) report) h);
      state = sym (ap (λ o. state_by o (after_call s c) s) h);
      ledger = subst (λ (o : Option Refusal). PostedOnce n (fills_of (rows_if o (rows_of s c))) n) (sym h) (none_posted n);
    }

-- an accepted call
pub accepted : (c : Call) (s : State) (report reported : List Row) (n m : Numbers) (r : ℕ) (t : State) → refusal_of s c (length report) n.places ≡ None → r ≡ reply_of s c → t ≡ after_call s c → reported ≡ rows_of s c ++ drop (length (rows_of s c)) report → PostedOnce n (fills_of (rows_of s c)) m → Step c s report n (Ok r) t reported m
accepted c s report reported n m r t h reply after rows posted =
    record {
      answer = ap (λ k. Ok k) reply ∙ sym (ap (λ o. answer_by o (reply_of s c)) h);
      rows = rows ∙ sym (ap (λ o. rows_if o (rows_of s c) ++ drop (length (rows_if o (rows_of s c))) report) h);
      state = after ∙ sym (ap (λ o. state_by o (after_call s c) s) h);
      ledger = subst (λ (o : Option Refusal). PostedOnce n (fills_of (rows_if o (rows_of s c))) m) (sym h) posted;
    }

-- a call without rows needs no places
no_room : (places : ℕ) → room_refusal [] 0 places ≡ None
no_room places = ap (λ b. cond b (Some LedgerFull) None) (le-ltb places 0 (omega arith))

or_none : (o : Option Refusal) → or_else o None ≡ o
or_none None = refl
or_none (Some e) = refl

pub quiet_refusal : (c : Call) (s : State) (places : ℕ) → rows_of s c ≡ [] → refusal_of s c 0 places ≡ cond (is_closed s.figures.phase) (Some DayClosed) (field_refusal s c)
quiet_refusal c s places none =
    ap (λ l. cond (is_closed s.figures.phase) (Some DayClosed) (or_else (field_refusal s c) (room_refusal l 0 places))) none
    ∙ ap (λ o. cond (is_closed s.figures.phase) (Some DayClosed) (or_else (field_refusal s c) o)) (no_room places)
    ∙ ap (λ o. cond (is_closed s.figures.phase) (Some DayClosed) o) (or_none (field_refusal s c))

pub quiet_refused : (c : Call) (s : State) (n : Numbers) (e : Refusal) → rows_of s c ≡ [] → cond (is_closed s.figures.phase) (Some DayClosed) (field_refusal s c) ≡ Some e → Step c s [] n (Err e) s [] n
quiet_refused c s n e none h = refused c s [] n e (quiet_refusal c s n.places none ∙ h)

pub quiet_accepted : (c : Call) (s : State) (n : Numbers) (r : ℕ) (t : State) → rows_of s c ≡ [] → cond (is_closed s.figures.phase) (Some DayClosed) (field_refusal s c) ≡ None → r ≡ reply_of s c → t ≡ after_call s c → Step c s [] n (Ok r) t [] n
quiet_accepted c s n r t none h reply after =
    accepted c s [] [] n n r t (quiet_refusal c s n.places none ∙ h) reply after (sym (ap (λ l. l ++ drop (length l) []) none))
    (subst (λ (l : List Row). PostedOnce n (fills_of l) n) (sym none) (none_posted n))

-- a call that is not refused early is refused for want of places, or not at all
early_none : (b : Bool) (o : Option Refusal) → cond b (Some DayClosed) o ≡ None → (b ≡ false) × (o ≡ None)
early_none true o h = let z : ◌≡◌ {A = ℕ} 0 1 = cc in absurd (omega arith)
early_none false o h = (refl, h)

pub late_refusal : (c : Call) (s : State) (room places : ℕ) → cond (is_closed s.figures.phase) (Some DayClosed) (field_refusal s c) ≡ None → refusal_of s c room places ≡ room_refusal (rows_of s c) room places
late_refusal c s room places h =
    let p = early_none (is_closed s.figures.phase) (field_refusal s c) h in
    ap (λ b. cond b (Some DayClosed) (or_else (field_refusal s c) (room_refusal (rows_of s c) room places))) p.0
    ∙ ap (λ o. or_else o (room_refusal (rows_of s c) room places)) p.1

by_early : (b : Bool) (o late : Option Refusal) (e : Refusal) → cond b (Some DayClosed) o ≡ Some e → cond b (Some DayClosed) (or_else o late) ≡ Some e
by_early true o late e h = h
by_early false None late e h = let z : ◌≡◌ {A = ℕ} 0 1 = cc in absurd (omega arith)
by_early false (Some x) late e h = h

pub early_refusal_lem : (c : Call) (s : State) (room places : ℕ) (e : Refusal) → cond (is_closed s.figures.phase) (Some DayClosed) (field_refusal s c) ≡ Some e → refusal_of s c room places ≡ Some e
early_refusal_lem c s room places e h = by_early (is_closed s.figures.phase) (field_refusal s c) (room_refusal (rows_of s c) room places) e h

-- the promise of a call that was refused early, late, or carried out
pub step_early : (c : Call) (s : State) (report : List Row) (n : Numbers) (e : Refusal) → cond (is_closed s.figures.phase) (Some DayClosed) (field_refusal s c) ≡ Some e → Step c s report n (Err e) s report n
step_early c s report n e h = refused c s report n e (early_refusal_lem c s (length report) n.places e h)

pub step_late : (c : Call) (s : State) (report reported : List Row) (n m : Numbers) (e : Refusal) (t : State) → cond (is_closed s.figures.phase) (Some DayClosed) (field_refusal s c) ≡ None → room_refusal (rows_of s c) (length report) n.places ≡ Some e → t ≡ s → reported ≡ report → m ≡ n → Step c s report n (Err e) t reported m
step_late c s report reported n m e t early late same kept still_there =
    subst (λ (u : State). Step c s report n (Err e) u reported m) (sym same)
    (subst (λ (l : List Row). Step c s report n (Err e) s l m) (sym kept)
    (subst (λ (k : Numbers). Step c s report n (Err e) s report k) (sym still_there) (refused c s report n e (late_refusal c s (length report) n.places early ∙ late))))

pub step_done : (c : Call) (s : State) (report reported : List Row) (n m : Numbers) (r : ℕ) (t : State) → cond (is_closed s.figures.phase) (Some DayClosed) (field_refusal s c) ≡ None → room_refusal (rows_of s c) (length report) n.places ≡ None → r ≡ reply_of s c → t ≡ after_call s c → reported ≡ rows_of s c ++ drop (length (rows_of s c)) report → PostedOnce n (fills_of (rows_of s c)) m → Step c s report n (Ok r) t reported m
step_done c s report reported n m r t early late reply after rows posted =
    accepted c s report reported n m r t (late_refusal c s (length report) n.places early ∙ late) reply after rows posted

-- what a call's promise says of its acceptance, and of its refusal
not_refused : (o : Option Refusal) (n k : ℕ) → Ok k ≡ answer_by o n → (o ≡ None) × (k ≡ n)
not_refused None n k h = let e : k ≡ n = cc in (refl, e)
not_refused (Some x) n k h = let z : ◌≡◌ {A = ℕ} 0 1 = cc in absurd (omega arith)

by_refusal : (o : Option Refusal) (n : ℕ) (e : Refusal) → Err e ≡ answer_by o n → o ≡ Some e
by_refusal None n e h = let z : ◌≡◌ {A = ℕ} 0 1 = cc in absurd (omega arith)
by_refusal (Some x) n e h = let same : x ≡ e = cc in ap (λ y. Some y) same

pub record Accepted (c : Call) (s : State) (report : List Row) (n : Numbers) (k : ℕ) (t : State) (reported : List Row) (m : Numbers) : Type 0 where
  pub none : refusal_of s c (length report) n.places ≡ None
  pub reply : k ≡ reply_of s c
  pub rows : reported ≡ rows_of s c ++ drop (length (rows_of s c)) report
  pub state : t ≡ after_call s c
  pub ledger : PostedOnce n (fills_of (rows_of s c)) m

pub step_accepted : (c : Call) (s : State) (report : List Row) (n : Numbers) (k : ℕ) (t : State) (reported : List Row) (m : Numbers) → Step c s report n (Ok k) t reported m → Accepted c s report n k t reported m
step_accepted c s report n k t reported m h =
    let o = refusal_of s c (length report) n.places in
    let p = not_refused o (reply_of s c) k h.answer in
    record {
      none = p.0;
      reply = p.1;
      rows = h.rows ∙ ap (λ x. rows_if x (rows_of s c) ++ drop (length (rows_if x (rows_of s c))) report) p.0;
      state = h.state ∙ ap (λ x. state_by x (after_call s c) s) p.0;
      ledger = subst (λ (x : Option Refusal). PostedOnce n (fills_of (rows_if x (rows_of s c))) m) p.0 h.ledger;
    }

pub record Refused (c : Call) (s : State) (report : List Row) (n : Numbers) (e : Refusal) (t : State) (reported : List Row) (m : Numbers) : Type 0 where
  pub why : refusal_of s c (length report) n.places ≡ Some e
  pub rows : reported ≡ report
  pub state : t ≡ s
  pub ledger : PostedOnce n [] m

pub step_refused : (c : Call) (s : State) (report : List Row) (n : Numbers) (e : Refusal) (t : State) (reported : List Row) (m : Numbers) → Step c s report n (Err e) t reported m → Refused c s report n e t reported m
step_refused c s report n e t reported m h =
    let p = by_refusal (refusal_of s c (length report) n.places) (reply_of s c) e h.answer in
    record {
      why = p;
      rows = h.rows ∙ ap (λ x. rows_if x (rows_of s c) ++ drop (length (rows_if x (rows_of s c))) report) p;
      state = h.state ∙ ap (λ x. state_by x (after_call s c) s) p;
      ledger = subst (λ (x : Option Refusal). PostedOnce n (fills_of (rows_if x (rows_of s c))) m) p h.ledger;
    }

-- a call without rows is refused alike, however many places the report has
pub quiet_anywhere : (c : Call) (s : State) (room places : ℕ) → rows_of s c ≡ [] → refusal_of s c 0 places ≡ refusal_of s c room places
quiet_anywhere c s room places none =
    let free : room_refusal [] room places ≡ None = ap (λ b. cond b (Some ReportFull) (cond (ltb places 0) (Some LedgerFull) None)) (le-ltb room 0 (omega arith)) ∙ no_room places in
    let at : Option Refusal → Option Refusal = λ o. cond (is_closed s.figures.phase) (Some DayClosed) (or_else (field_refusal s c) o) in
    ap (λ l. at (room_refusal l 0 places)) none ∙ ap at (no_room places ∙ sym free) ∙ sym (ap (λ l. at (room_refusal l room places)) none)
