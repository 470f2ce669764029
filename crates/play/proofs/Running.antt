-- The player beside the run of the definition.
use Rattle.std.proofs.Common.{◌≡◌, ℕ, ◌-◌, List, [], ◌∷◌, ◌++◌, map, length, take, drop, Some, None, Ok, Err, Option, sym, refl, ap, ◌∙◌, subst, append-nil, arith}
use Rattle.std.proofs.lemmas.List.{take_at}
use Rattle.market.specs.declared.refusal.Refusal.{Refusal}
use Rattle.ledger.specs.Posting.{Numbers}
use Rattle.book.specs.declared.row.Row.{Row}
use Rattle.rules.specs.Machine.{after_call, fills_of, refusal_of, rows_of}
use Rattle.rules.specs.States.{State}
use Rattle.rules.specs.Steps.{PostedOnce}
use Rattle.rules.specs.declared.call.Call.{Call}
use Rattle.play.specs.Pages.{Printed, Wrote}
use Rattle.play.specs.Runs.{answered, posted}
use Rattle.play.specs.Steps.{Advanced, At, Done}
use Rattle.play.specs.declared.line.Line.{Line}
use Rattle.play.specs.declared.line.Line.TheVariants.{Row as RowLine, Refused}
use Rattle.play.specs.declared.page.Page.{Page}

-- a ledger moved by fills has the numbers of the definition
numbers_are : (n m : Numbers) (rows : List Row) → PostedOnce n rows m → m ≡ posted n rows
numbers_are n m rows h =
    let places : m.places ≡ n.places - length rows = omega (arith, h.places_fall) in
    ap (λ x. record { shares = x; money = m.money; places = m.places }) h.shares_move
    ∙ ap (λ x. record { shares = (posted n rows).shares; money = x; places = m.places }) h.money_moves
    ∙ ap (λ x. record { shares = (posted n rows).shares; money = (posted n rows).money; places = x }) places

-- the rows that a report holds
pub rows_front : (rows report reported : List Row) (k : ℕ) → reported ≡ rows ++ drop (length rows) report → k ≡ length rows → take k reported ≡ rows
rows_front rows report reported k e is = ap (λ n. take n reported) is ∙ ap (take (length rows)) e ∙ take_at rows (drop (length rows) report) (length rows) refl

-- an accepted call, its rows printed
pub advanced_rows : (c : Call) (k : ℕ) (s : State) (report : List Row) (n : Numbers) (i : ℕ) (t : State) (reported : List Row) (m : Numbers) (p q : Page) → length report ≡ 512 → Done c s report n (Ok i) t reported m → Wrote (map RowLine (rows_of s c)) p q → Advanced c k s n p t m q
advanced_rows c k s report n i t reported m p q long done wrote r lent count at =
    let o : refusal_of r.day c 512 r.ledger.places ≡ None =
    ap (λ x. refusal_of x c 512 r.ledger.places) (sym at.day) ∙ ap (λ x. refusal_of s c 512 x.places) (sym at.ledger) ∙ ap (λ x. refusal_of s c x n.places) (sym long) ∙ done.0 in
    let known : At (answered r c None) lent t m q =
    record {
      day = done.3 ∙ ap (λ x. after_call x c) at.day;
      ledger = numbers_are n m (fills_of (rows_of s c)) done.4 ∙ ap (λ x. posted n (fills_of (rows_of x c))) at.day ∙ ap (λ x. posted x (fills_of (rows_of r.day c))) at.ledger;
      page = subst (λ (l : List Line). Printed lent (r.lines ++ l) q) (ap (λ x. map RowLine (rows_of x c)) at.day ∙ sym (append-nil (map RowLine (rows_of r.day c)))) (wrote lent r.lines at.page);
    } in
    subst (λ (x : Option Refusal). At (answered r c x) lent t m q) (sym o) known

-- a refused call, its refusal printed
pub advanced_refused : (c : Call) (k : ℕ) (s : State) (report : List Row) (n : Numbers) (e : Refusal) (t : State) (reported : List Row) (m : Numbers) (p q : Page) → length report ≡ 512 → Done c s report n (Err e) t reported m → Wrote (Refused k e ∷ []) p q → Advanced c k s n p t m q
advanced_refused c k s report n e t reported m p q long done wrote r lent count at =
    let o : refusal_of r.day c 512 r.ledger.places ≡ Some e =
    ap (λ x. refusal_of x c 512 r.ledger.places) (sym at.day) ∙ ap (λ x. refusal_of s c 512 x.places) (sym at.ledger) ∙ ap (λ x. refusal_of s c x n.places) (sym long) ∙ done.0 in
    let known : At (answered r c (Some e)) lent t m q =
    record {
      day = done.1 ∙ at.day;
      ledger = numbers_are n m [] done.3 ∙ ap (λ x. posted x []) at.ledger;
      page = subst (λ (x : ℕ). Printed lent (r.lines ++ (Refused x e ∷ [])) q) count (wrote lent r.lines at.page);
    } in
    subst (λ (x : Option Refusal). At (answered r c x) lent t m q) (sym o) known
