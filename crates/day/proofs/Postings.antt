-- Rows posted one after another.
use Rattle.std.proofs.Common.{◌≡◌, ℕ, ◌+◌, ◌-◌, ◌<◌, ◌≤◌, Bool, true, false, cond, not, ◌||◌, ltb, List, [], ◌∷◌, ◌++◌, length, get_or, take, drop, Some, None, Ok, Err, Result, sym, refl, ap, ◌∙◌, subst, arith, length-append}
use Rattle.std.proofs.lemmas.List.Elements.{filter-append}
use Rattle.std.proofs.lemmas.List.{take_at, take_more, take-append-drop}
use Rattle.std.proofs.lemmas.Bool.{cond-true, cond-false, le-ltb}
use Rattle.market.specs.declared.refusal.Refusal.{Refusal}
use Rattle.market.specs.declared.refusal.Refusal.TheVariants.{LedgerFull, ReportFull}
use Rattle.ledger.specs.Posting.{Numbers, Posted, in_field}
use Rattle.ledger.proofs.Laws.{moved_both, moved_one, posted_moves}
use Rattle.book.specs.Books.{Reported}
use Rattle.book.specs.Orders.{no_row}
use Rattle.book.specs.declared.row.Row.{Row}
use Rattle.rules.specs.Machine.{fill_of, fills_of, is_fill, is_posted_well, room_refusal}
use Rattle.rules.specs.Steps.{PostedOnce}

fills_append : (xs ys : List Row) → fills_of (xs ++ ys) ≡ fills_of xs ++ fills_of ys
fills_append xs ys = filter-append (λ r. is_fill r.mark) xs ys

-- one row more
fills_more : (rows : List Row) (i : ℕ) → i < length rows → fills_of (take (i + 1) rows) ≡ fills_of (take i rows) ++ fills_of (get_or rows i no_row ∷ [])
fills_more rows i within = ap fills_of (take_more rows i no_row within) ∙ fills_append (take i rows) (get_or rows i no_row ∷ [])

pub posted_more : (rows : List Row) (i : ℕ) (a b c : Numbers) → i < length rows → PostedOnce a (fills_of (take i rows)) b → PostedOnce b (fills_of (get_or rows i no_row ∷ [])) c → PostedOnce a (fills_of (take (i + 1) rows)) c
posted_more rows i a b c within h k =
    subst (λ (l : List Row). PostedOnce a l c) (sym (fills_more rows i within))
    (moved_both fill_of a b c (fills_of (take i rows)) (fills_of (get_or rows i no_row ∷ [])) h k)

-- the places that the rows so far have left are enough for the next
pub room_more : (rows : List Row) (i : ℕ) (a b : Numbers) → i < length rows → length (fills_of rows) ≤ a.places → PostedOnce a (fills_of (take i rows)) b → length (fills_of (get_or rows i no_row ∷ [])) ≤ b.places
room_more rows i a b within room h =
    let more = ap length (fills_more rows i within) ∙ length-append (fills_of (take i rows)) (fills_of (get_or rows i no_row ∷ [])) in
    let whole = ap (λ l. length (fills_of l)) (take-append-drop (i + 1) rows) in
    let parts = ap length (fills_append (take (i + 1) rows) (drop (i + 1) rows)) ∙ length-append (fills_of (take (i + 1) rows)) (fills_of (drop (i + 1) rows)) in
    let used = h.places_fall in
    omega (arith, more, whole, parts)

well : (b f : Bool) → b ≡ true → not b || f ≡ true → f ≡ true
well true f e h = h
well false f e h = let z : ◌≡◌ {A = ℕ} 0 1 = cc in absurd (omega arith)

-- a fill that a ledger with a place takes
pub fill_posted : (row : Row) (before after : Numbers) (r : Result (Unit {0}) Refusal) → is_fill row.mark ≡ true → is_posted_well row ≡ true → length (fills_of (row ∷ [])) ≤ before.places → Posted (fill_of row) before r after → PostedOnce before (fills_of (row ∷ [])) after
fill_posted row before after r fill good room h =
    let one = cond-true (is_fill row.mark) (row ∷ []) [] fill in
    let some : 0 < before.places = omega (arith, ap length one, room) in
    subst (λ (l : List Row). PostedOnce before l after) (sym one)
    (moved_one fill_of row before after (posted_moves (fill_of row) before after r h (well (is_fill row.mark) (in_field row.shares row.price) fill good) some) some)

-- rows that were reported stand at the front
pub reported_front : (rows report after : List Row) (n : ℕ) (r : Result ℕ Refusal) → Reported rows report r after → n ≡ length rows → n ≤ length report → (take (n - 0) after ≡ rows) × (after ≡ rows ++ drop (length rows) report)
reported_front rows report after n (Ok k) h e room =
    let same : n - 0 ≡ length rows = omega arith in
    let whole = h.2 ∙ ap (λ m. rows ++ drop m report) h.1 in
    (ap (λ m. take m after) same ∙ ap (take (length rows)) whole ∙ take_at rows (drop (length rows) report) (length rows) refl, whole)
reported_front rows report after n (Err x) h e room = let far = h.0 in absurd (omega arith)

pub room_enough : (rows : List Row) (room places : ℕ) → length rows ≤ room → length (fills_of rows) ≤ places → room_refusal rows room places ≡ None
room_enough rows room places a b =
    cond-false (ltb room (length rows)) (Some ReportFull) (cond (ltb places (length (fills_of rows))) (Some LedgerFull) None) (le-ltb room (length rows) a)
    ∙ cond-false (ltb places (length (fills_of rows))) (Some LedgerFull) None (le-ltb places (length (fills_of rows)) b)
