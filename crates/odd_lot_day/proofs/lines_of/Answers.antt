use Rattle.std.proofs.Common.{◌≡◌, ℕ, false, true, List, length, take, drop, sym, ap, ◌∙◌, subst, arith, rules}
use Rattle.std.proofs.lemmas.List.{take_at}
use Rattle.play.specs.Plays.{Played}
use Rattle.odd_lot_day.specs.Wholes.{WholeText}
use Rattle.odd_lot_day.proofs.Whole.{front_by, whole_text}
use Rattle.odd_lot_day.proofs.lines_of.Goals as goal

pub returns-then-ne : goal.returns-then-ne
returns-then-ne c =
    let out = c.play.new.out in
    let e = c.in_ok-ending.ending in
    let long : length out ≡ c.in_ok-out.out.len = search rules in
    let whole = take_at out (drop (length out) c.in_ok-out.out.items) c.in_ok-out.out.len long in
    let kept = front_by _ e.written _ _ c.truncate.ensures.items (omega arith) ∙ ap (take e.written) whole in
    let p : Played c.args.file.now c.as_mut_slice.result.now out e = search rules in
    subst (λ (l : List ℕ). WholeText c.args.file.now l) (sym kept)
    (whole_text c.args.file.now c.as_mut_slice.result.now out e p (λ is. let z : true ≡ false = sym c.if-ne.true ∙ rw is at c.ne.ensures in cc))
