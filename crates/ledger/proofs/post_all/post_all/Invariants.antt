use Rattle.std.proofs.Common.{◌≡◌, ℕ, ◌-◌, ◌<◌, ◌≤◌, get_or, take, count_by}
use Rattle.ledger.specs.Law.{AddsUp, fits, judged, no_posting}
use Rattle.ledger.proofs.post_all.post_all.Given as goal

-- the postings so far add up, are judged and have used their places; the later ones are as they were
abbrev pub invariant-loop-posting : goal.invariant-loop-posting
invariant-loop-posting g l =
    let at = g.L.Ledger.numbers in
    let i = l.posting-index in
    let left : ℕ → ℕ = λ k. (at l.initial.ledger).places - count_by fits (take k l.initial.postings) in
    AddsUp (at l.initial.ledger) (take i l.postings) (at l.ledger)
    × ((at l.ledger).places ≡ left i)
    × ((k : ℕ) → k < i → get_or l.postings k no_posting ≡ judged (left k) (get_or l.initial.postings k no_posting))
    × ((k : ℕ) → i ≤ k → get_or l.postings k no_posting ≡ get_or l.initial.postings k no_posting)
