use Rattle.std.proofs.Common.{◌≡◌, ◌+◌, [], ◌∷◌, ◌++◌, length, drop, None, sym, refl, ap, ◌∙◌, arith}
use Rattle.std.proofs.lemmas.List.{length_push}
use Rattle.std.proofs.lemmas.Result.{err_from_is_err_and}
use Rattle.dayfile.specs.Files.{too_long}
use Rattle.dayfile.specs.Records.{entry_of, part_of}
use Rattle.dayfile.proofs.Filed.{begins_first, begins_more, later, part_some, reads_first, reads_later, reads_whole}
use Rattle.dayfile.proofs.Unique.{faulty_count, one_reading}
use Rattle.dayfile.proofs.counting.count_records.Goals as goal

pub returns-then-file-gt65536 : goal.returns-then-file-gt65536
returns-then-file-gt65536 c =
    faulty_count c.args.file.now [] c.too_long.result (rw c.too_long.ensures (too_long (omega arith)))

pub returns-in_err-start : goal.returns-in_err-start
returns-in_err-start c =
    let p = err_from_is_err_and c.from_residual.result c.from_residual.ensures.1 in
    let q = c.in_err-start.ensures in
    let f = c.in_err-start.field-0.0 in
    rw (p.1, p.2) (faulty_count c.args.file.now [] f (reads_first c.args.file.now f (omega arith) q.0 q.1 q.2))

pub loop-found-init : goal.loop-found-init
loop-found-init c =
    let file = c.args.file.now in
    let x = c.in_ok-start.start.record in
    let s = c.in_ok-start.ensures.0 in
    let b = begins_first file x (omega arith) s in
    let place : length (part_of x) ≡ c.into_iter-found-iterator.result.place = cc in
    record {
      file = cc;
      begun = (entry_of x ∷ [], rw place at b, refl);
      counted = omega (arith, part_some _ file x s, place);
      inside = omega (arith, b.inside, place);
    }

pub returns-in_err-found : goal.returns-in_err-found
returns-in_err-found c =
    let file = c.args.file.now in
    let i = c.loop-found.invariant.begun in
    let at = c.loop-found.found-iterator.place in
    let f = c.in_err-found.field-0.0 in
    let p = err_from_is_err_and c.from_residual-in_err-found.result c.from_residual-in_err-found.ensures.1 in
    let step = rw c.loop-found.invariant.file at (rw c.in_err-found.was at c.in-Some.ensures.steps) in
    rw (p.1, p.2) (faulty_count file i.0 f (reads_later file i.0 at f i.1 step.0 step.1.0 step.1.1 step.1.2))

pub loop-found-preserved : goal.loop-found-preserved
loop-found-preserved c =
    let file = c.args.file.now in
    let i = c.loop-found.invariant.begun in
    let at = c.loop-found.found-iterator.place in
    let x = c.in_ok-found.field-0.record in
    let step = rw c.loop-found.invariant.file at (rw c.in_ok-found.was at c.in-Some.ensures.steps) in
    let b = begins_more file i.0 at x i.1 (rw (later file i.0 at i.1) at step.1.0) in
    record {
      file = step.2;
      begun = (i.0 ++ entry_of x ∷ [], rw step.3 b, ap (λ n. n + 1) i.2 ∙ sym (length_push i.0 (entry_of x)));
      counted = omega (arith, part_some _ (drop at file) x step.1.0, step.3);
      inside = omega (arith, b.inside, step.3);
    }

pub returns : goal.returns
returns c =
    let file = c.args.file.now in
    let i = c.loop-found.invariant.begun in
    let end = rw c.loop-found.invariant.file at c.in-None.ensures.steps in
    let reads = reads_whole file i.0 c.loop-found.found-iterator.place i.1 end.0 in
    (i.0, reads, i.2, one_reading file i.0 None reads)
