use Rattle.std.proofs.Common.{[], ◌∷◌, sym, subst}
use Rattle.ledger.specs.Law.{AddsUp}
use Rattle.ledger.specs.declared.postings.Posting.{Posting}
use Rattle.ledger.proofs.Laws.{adds_one, places_fall}
use Rattle.ledger.proofs.post_all.post_one.Goals as goal

pub returns : goal.returns
returns g c =
    let at = g.L.Ledger.numbers in
    let before = at c.args.ledger.now in
    let after = at c.post-answer.new.self in
    record {
      answer = cc;
      places = places_fall c.args.posting.now before after c.post-answer.result c.post-answer.ensures;
      law = subst (λ (x : Posting). AddsUp before (x ∷ []) after) (sym c.note.ensures) (adds_one c.args.posting.now before after c.post-answer.result c.post-answer.ensures);
    }
