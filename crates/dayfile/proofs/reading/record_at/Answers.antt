use Rattle.std.proofs.Common.{eqb, drop, ◌∙◌}
use Rattle.std.proofs.lemmas.List.{take_rest}
use Rattle.std.proofs.lemmas.Result.{err_from_is_err_and}
use Rattle.dayfile.proofs.Whole.{no_record}
use Rattle.dayfile.proofs.reading.record_at.Goals as goal

pub returns-in_err-record : goal.returns-in_err-record
returns-in_err-record c =
    let file = c.args.file.now in
    let at = c.args.at in
    let p = err_from_is_err_and c.from_residual.result c.from_residual.ensures.1 in
    let q = c.in_err-record.ensures in
    let fault = rw (c.in-Some.ensures.lookup.0.2 ∙ take_rest file at) at q.1 in
    rw (p.1, p.2) (no_record (eqb at 0) (drop at file) c.in_err-record.field-0.0.reason fault, fault, q.0)
