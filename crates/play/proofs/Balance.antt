-- The ledger of a run is the sum of its fill lines.
use Rattle.std.proofs.Common.{◌≡◌, ℕ, ◌+◌, ◌*◌, cond, List, [], ◌∷◌, ◌++◌, map, ℤ, pos, ◌+ℤ◌, ◌-ℤ◌, Some, None, fold, Option, sym, refl, ap, ◌∙◌, subst, append-nil, arith}
use Rattle.std.proofs.lemmas.List.Elements.{filter-append}
use Rattle.std.proofs.lemmas.Int.{ints}
use Rattle.std.proofs.lemmas.List.Sums.{sum_by-append}
use Rattle.market.specs.Sums.{shares_on}
use Rattle.market.specs.declared.refusal.Refusal.{Refusal}
use Rattle.market.specs.declared.refusal.Refusal.TheVariants.{BadField}
use Rattle.market.specs.declared.side.MarketSide.{MarketSide}
use Rattle.market.specs.declared.side.MarketSide.TheVariants.{Buying, Selling}
use Rattle.ledger.specs.Posting.{Numbers}
use Rattle.book.specs.declared.row.Row.{Row}
use Rattle.rules.specs.Machine.{fills_of, is_fill, refusal_of, rows_of}
use Rattle.rules.specs.Steps.{rows_if}
use Rattle.day.specs.Days.{may_make}
use Rattle.dayfile.specs.declared.entry.Entry.{Entry}
use Rattle.play.specs.Plays.{AddsUp, fills_in, lines_of, rows_in}
use Rattle.play.specs.Runs.{Run, followed, instruction_of, money_in, posted, refused_line, run_of, shares_in, unmade}
use Rattle.play.specs.declared.instruction.Instruction.{Instruction}
use Rattle.play.specs.declared.instruction.Instruction.TheVariants.{Make, Call as CallOf}
use Rattle.play.specs.declared.line.Line.{Line}
use Rattle.play.specs.declared.line.Line.TheVariants.{Row as RowLine, Refused, Total, Fault as FaultLine}

rows_append : (xs ys : List Line) → rows_in (xs ++ ys) ≡ rows_in xs ++ rows_in ys
rows_append [] ys = refl
rows_append (RowLine r ∷ xs) ys = ap (λ l. r ∷ l) (rows_append xs ys)
rows_append (Refused k e ∷ xs) ys = rows_append xs ys
rows_append (Total shares money ∷ xs) ys = rows_append xs ys
rows_append (FaultLine f ∷ xs) ys = rows_append xs ys

rows_of_rows : (rows : List Row) → rows_in (map RowLine rows) ≡ rows
rows_of_rows [] = refl
rows_of_rows (r ∷ rs) = ap (λ l. r ∷ l) (rows_of_rows rs)

no_rows : (k : ℕ) (o : Option Refusal) → rows_in (refused_line k o) ≡ []
no_rows k None = refl
no_rows k (Some e) = refl

fills_append : (xs ys : List Line) → fills_in (xs ++ ys) ≡ fills_in xs ++ fills_in ys
fills_append xs ys = ap fills_of (rows_append xs ys) ∙ filter-append (λ r. is_fill r.mark) (rows_in xs) (rows_in ys)

-- the fills of a call's lines
fills_of_call : (rows : List Row) (k : ℕ) (o : Option Refusal) → fills_in (map RowLine rows ++ refused_line k o) ≡ fills_of rows
fills_of_call rows k o =
    ap fills_of (rows_append (map RowLine rows) (refused_line k o) ∙ ap (λ l. rows_in (map RowLine rows) ++ l) (no_rows k o) ∙ append-nil (rows_in (map RowLine rows)) ∙ rows_of_rows rows)

-- the sums of lines after lines
shares_append : (which : MarketSide) (xs ys : List Row) → shares_in which (xs ++ ys) ≡ shares_in which xs + shares_in which ys
shares_append which xs ys = sum_by-append (λ r. shares_on which r.side r.shares) xs ys

money_append : (which : MarketSide) (xs ys : List Row) → money_in which (xs ++ ys) ≡ money_in which xs + money_in which ys
money_append which xs ys = sum_by-append (λ r. shares_on which r.side (r.shares * r.price)) xs ys

pub record Balanced (n : Numbers) (lines : List Line) : Type 0 where
  pub shares : n.shares ≡ pos (shares_in Selling (fills_in lines)) -ℤ pos (shares_in Buying (fills_in lines))
  pub money : n.money ≡ pos (money_in Buying (fills_in lines)) -ℤ pos (money_in Selling (fills_in lines))

same_fills : (n : Numbers) (xs ys : List Line) → fills_in ys ≡ fills_in xs → Balanced n xs → Balanced n ys
same_fills n xs ys e b =
    record {
      shares = b.shares ∙ ap (λ l. pos (shares_in Selling l) -ℤ pos (shares_in Buying l)) (sym e);
      money = b.money ∙ ap (λ l. pos (money_in Buying l) -ℤ pos (money_in Selling l)) (sym e);
    }

added : (z : ℤ) (a b c d : ℕ) → z ≡ pos a -ℤ pos b → z +ℤ (pos c -ℤ pos d) ≡ pos (a + c) -ℤ pos (b + d)
added z a b c d h = omega (arith, ints)

more_fills : (n : Numbers) (xs ys : List Line) → Balanced n xs → Balanced (posted n (fills_in ys)) (xs ++ ys)
more_fills n xs ys b =
    let x = fills_in xs in
    let y = fills_in ys in
    record {
      shares =
          added n.shares (shares_in Selling x) (shares_in Buying x) (shares_in Selling y) (shares_in Buying y) b.shares
          ∙ ap (λ a. pos a -ℤ pos (shares_in Buying x + shares_in Buying y)) (sym (shares_append Selling x y))
          ∙ ap (λ a. pos (shares_in Selling (x ++ y)) -ℤ pos a) (sym (shares_append Buying x y))
          ∙ ap (λ l. pos (shares_in Selling l) -ℤ pos (shares_in Buying l)) (sym (fills_append xs ys));
      money =
          added n.money (money_in Buying x) (money_in Selling x) (money_in Buying y) (money_in Selling y) b.money
          ∙ ap (λ a. pos a -ℤ pos (money_in Selling x + money_in Selling y)) (sym (money_append Buying x y))
          ∙ ap (λ a. pos (money_in Buying (x ++ y)) -ℤ pos a) (sym (money_append Selling x y))
          ∙ ap (λ l. pos (money_in Buying l) -ℤ pos (money_in Selling l)) (sym (fills_append xs ys));
    }

-- an instruction keeps the balance
kept : (r : Run) (i : Instruction) → Balanced r.ledger r.lines → Balanced (followed r i).ledger (followed r i).lines
kept r (Make m) b =
    let o = cond (may_make m) None (Some BadField) in
    same_fills r.ledger r.lines (r.lines ++ refused_line (r.count + 1) o)
    (fills_append r.lines (refused_line (r.count + 1) o) ∙ ap (λ l. fills_in r.lines ++ fills_of l) (no_rows (r.count + 1) o) ∙ append-nil (fills_in r.lines)) b
kept r (CallOf c) b =
    let o = refusal_of r.day c 512 r.ledger.places in
    let rows = rows_if o (rows_of r.day c) in
    let ls = map RowLine rows ++ refused_line (r.count + 1) o in
    subst (λ (l : List Row). Balanced (posted r.ledger l) (r.lines ++ ls)) (fills_of_call rows (r.count + 1) o) (more_fills r.ledger r.lines ls b)

all_kept : (es : List Entry) (r : Run) → Balanced r.ledger r.lines → Balanced (fold (λ x e. followed x (instruction_of e)) r es).ledger (fold (λ x e. followed x (instruction_of e)) r es).lines
all_kept [] r b = b
all_kept (e ∷ es) r b = all_kept es (followed r (instruction_of e)) (kept r (instruction_of e) b)

zero : pos 0 ≡ pos 0 -ℤ pos 0
zero = refl

pub balanced : (es : List Entry) → Balanced (run_of es).ledger (run_of es).lines
balanced es = all_kept es unmade (record { shares = zero; money = zero })

-- the lines of a file without a fault add up
pub adds_up : (es : List Entry) → AddsUp (lines_of es None)
adds_up es =
    let r = run_of es in
    let last = Total r.ledger.shares r.ledger.money ∷ [] in
    let b = same_fills r.ledger r.lines (r.lines ++ last) (fills_append r.lines last ∙ append-nil (fills_in r.lines)) (balanced es) in
    record { front = r.lines; shares = r.ledger.shares; money = r.ledger.money; ends = refl; shares_add = b.shares; money_adds = b.money }
