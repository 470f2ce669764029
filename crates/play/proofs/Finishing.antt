-- The last line, and how the play ends.
use Rattle.std.proofs.Common.{◌≡◌, ℕ, cond, List, [], ◌∷◌, ◌++◌, Err, None, Option, sym, refl, ap, ◌∙◌, subst, append-nil}
use Rattle.std.specs.Borrow.{MutBor}
use Rattle.market.specs.declared.refusal.Refusal.TheVariants.{OutputShort}
use Rattle.dayfile.specs.Files.{FileReads}
use Rattle.dayfile.specs.declared.entry.Entry.{Entry}
use Rattle.dayfile.specs.declared.fault.Fault.{Fault}
use Rattle.dayfile.proofs.Unique.{one_reading}
use Rattle.play.specs.Endings.{end_of}
use Rattle.play.specs.Pages.{Printed, is_cut}
use Rattle.play.specs.Plays.{AddsUp, Played, last_line, lines_of}
use Rattle.play.specs.Runs.{run_of}
use Rattle.play.specs.Steps.{Finished}
use Rattle.play.specs.declared.ending.Ending.{Ending}
use Rattle.play.specs.declared.line.Line.{Line}
use Rattle.play.specs.declared.page.Page.{Page}
use Rattle.play.proofs.Balance.{adds_up}

end_by_cut : (cut : List Line) (fault : Option Fault) → cond (is_cut cut) (Err OutputShort) (end_of [] fault) ≡ end_of cut fault
end_by_cut [] fault = refl
end_by_cut (l ∷ ls) fault = refl

whole_adds : (es : List Entry) (fault : Option Fault) (shown cut : List Line) → lines_of es fault ≡ shown ++ cut → cut ≡ [] → fault ≡ None → AddsUp shown
whole_adds es fault shown cut split none clean =
    subst AddsUp (sym (ap (lines_of es) clean) ∙ split ∙ ap (λ l. shown ++ l) none ∙ append-nil shown) (adds_up es)

pub played : (file : List ℕ) (lent : MutBor (List ℕ)) (p q : Page) (e : Ending) (es : List Entry) (fault : Option Fault) → FileReads file es fault → Printed lent (run_of es).lines p → Finished (last_line (run_of es) fault) (end_of [] fault) p q e → Played file lent.now q.out.now e
played file lent p q e es fault reads pg f =
    let all = f.wrote lent (run_of es).lines pg in
    record {
      entries = es;
      fault = fault;
      reads = reads;
      only = one_reading file es fault reads;
      shown = all.shown;
      cut = all.cut;
      shows = all.shows;
      written = f.written ∙ all.used;
      end = f.ends ∙ ap (λ b. cond b (Err OutputShort) (end_of [] fault)) all.full ∙ end_by_cut all.cut fault;
      adds_up = λ none clean. whole_adds es fault all.shown all.cut all.shows.split none clean;
    }
