use Rattle.std.proofs.Common.{◌≡◌, [], ◌∷◌, length, sym, ap, ◌∙◌, subst, arith}
use Rattle.std.proofs.lemmas.Result.{err_from_is_err_and}
use Rattle.dayfile.specs.Files.{too_long}
use Rattle.dayfile.specs.Records.{entry_of, part_of}
use Rattle.dayfile.proofs.Filed.{reads_first}
use Rattle.ledger.specs.Opening.{totals_numbers}
use Rattle.day.specs.Days.{state_of}
use Rattle.play.specs.Runs.{followed, instruction_of, unmade}
use Rattle.play.specs.Steps.{At}
use Rattle.play.specs.declared.instruction.Instruction.{Instruction}
use Rattle.play.specs.declared.instruction.Instruction.TheVariants.{Make}
use Rattle.play.proofs.Reaching.{reached_first}
use Rattle.play.proofs.playing.play_file.Goals as goal

pub returns-then-file-gt65536 : goal.returns-then-file-gt65536
returns-then-file-gt65536 c lent pg = ([], rw c.too_long.ensures (too_long (omega arith)), pg)

pub returns-in_err-start : goal.returns-in_err-start
returns-in_err-start c lent pg =
    let p = err_from_is_err_and c.from_residual.result c.from_residual.ensures.1 in
    let q = c.in_err-start.ensures in
    rw (p.1, p.2) ([], reads_first c.args.file.now c.in_err-start.field-0.0 (omega arith) q.0 q.1 q.2, pg)

pub returns : goal.returns
returns c lent pg =
    let x = c.in_ok-start.start.record in
    let stands = c.in_ok-start.ensures.0 in
    let size : length c.part.result.now ≡ length (part_of x) = ap length c.part.ensures in
    let is : instruction_of (entry_of x) ≡ Make c.in-Make.making = sym (c.in-Make.ensures ∙ ap instruction_of c.entry.ensures) in
    let at = subst (λ (i : Instruction). At (followed unmade i) lent (state_of c.open_day-day.result.live) (totals_numbers c.open_day-day.result.ledger) c.open_day-day.new.page) (sym is) (c.open_day-day.ensures lent pg) in
    c.play_rest.ensures lent (entry_of x ∷ []) (reached_first c.args.file.now lent _ _ _ x _ (omega arith) stands size at)
