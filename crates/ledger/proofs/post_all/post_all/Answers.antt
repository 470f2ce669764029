use Rattle.std.proofs.Common.{◌≡◌, ℕ, ◌-◌, ◌<◌, length, get_or, take, count_by, ap, ◌∙◌, arith}
use Rattle.ledger.specs.Law.{fits, judged, no_posting}
use Rattle.ledger.proofs.Laws.{adds_more, places_more, judged_more, kept_more}
use Rattle.ledger.proofs.post_all.post_all.Goals as goal

pub loop-posting-preserved : goal.loop-posting-preserved
loop-posting-preserved g c =
    let at = g.L.Ledger.numbers in
    let l = c.loop-posting in
    let i = l.posting-index in
    let xs = c.args.postings.now in
    let n = (at c.args.ledger.now).places in
    let left : ℕ → ℕ = λ k. n - count_by fits (take k xs) in
    let within : i < length l.postings = omega arith in
    let same : get_or l.postings i no_posting ≡ get_or xs i no_posting = l.invariant.3 i (omega arith) in (
      adds_more (at c.args.ledger.now) (at l.ledger) (at c.post_one.new.ledger) l.postings i c.post_one.new.posting within l.invariant.0 c.post_one.ensures.law,
      places_more xs i (at c.post_one.new.ledger).places n (at l.ledger).places (get_or l.postings i no_posting) c.loop-posting-test.true same l.invariant.1 c.post_one.ensures.places,
      judged_more xs l.postings i c.post_one.new.posting left within l.invariant.2
          (c.post_one.ensures.answer ∙ ap (λ p. judged p (get_or l.postings i no_posting)) l.invariant.1 ∙ ap (judged (left i)) same),
      kept_more xs l.postings i c.post_one.new.posting l.invariant.3,
    )
