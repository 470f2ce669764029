use Rattle.std.proofs.Common.{◌≡◌, List, set, Ok, Err, Result, ap, ◌∙◌, rules, MatchResult}
use Rattle.ledger.specs.Journals.{Written}
use Rattle.ledger.specs.declared.journal.Journal.{Journal}
use Rattle.ledger.specs.declared.fill.Fill.{Fill}
use Rattle.ledger.specs.declared.row.JournalRow.{JournalRow}
use Rattle.market.specs.declared.refusal.Refusal.{Refusal}
use Rattle.base_tests.proofs.lender.post_once.Goals as goal

-- what the lender of the rows sees
seen : (r : Result (Unit {0}) Refusal) (before after : Journal) (f : Fill) (was rows : List JournalRow) → Written before f r after → before.rows.now ≡ was → before.used ≡ 0 → rows ≡ after.rows.now → MatchResult r (λ _. (row : JournalRow) × (row.fill ≡ f) × (rows ≡ set was 0 row)) (λ _. rows ≡ was)
seen (Ok _) before after f was rows w b u e = (w.0, w.1, e ∙ w.2 ∙ ap (λ l. set l before.used w.0) b ∙ ap (λ k. set was k w.0) u)
seen (Err _) before after f was rows w b u e = e ∙ w.0 ∙ b

pub returns : goal.returns
returns c =
    seen c.post.result c.new-journal.result c.post.new.self c.args.fill _ _ c.post.ensures.written c.new-journal.ensures.rows c.new-journal.ensures.used (search rules)
