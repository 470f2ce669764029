use Rattle.std.proofs.Common.{◌≡◌, ◌<◌, [], ◌∷◌, ◌++◌, drop, sym, ap, ◌∙◌, arith, w64, to_z, of_z, rules}
use Rattle.std.proofs.lemmas.Result.{err_from_is_err_and}
use Rattle.dayfile.specs.Records.{entry_of}
use Rattle.dayfile.proofs.Filed.{part_inside, part_some}
use Rattle.play.specs.Runs.{instruction_of}
use Rattle.play.specs.declared.instruction.Instruction.TheVariants.{Call}
use Rattle.play.proofs.Reaching.{later_record, reached_end, reached_fault, reached_more}
use Rattle.play.proofs.playing.play_rest.Goals as goal

pub loop-found-preserved : goal.loop-found-preserved
loop-found-preserved c =
    let file = c.args.file.now in
    let at = c.loop-found.found-iterator.place in
    let k = c.loop-found.invariant in
    let x = c.in_ok-found.found.record in
    let past : 0 < at = omega (arith, k.records, k.started) in
    let step = rw k.file at (rw c.in_ok-found.was at c.in-Some.ensures.steps) in
    let stands = later_record file at x past step.1.0 in
    let some = part_some _ (drop at file) x stands in
    let inside = part_inside _ file at x k.inside stands in
    let is : instruction_of (entry_of x) ≡ Call c.in-Call.call = sym (c.in-Call.ensures ∙ ap instruction_of c.entry.ensures) in
    record {
      goes_on = λ lent es reached.
          let r = k.goes_on lent es reached in (r.0 ++ entry_of x ∷ [], rw step.3 (reached_more file r.0 at _ lent _ _ _ x _ _ _ _ r.1 stands is c.play_call.ensures));
      report = search rules;
      records = omega (arith, some, step.3, k.records);
      inside = omega (arith, inside, step.3);
      started = omega (arith, k.started);
      file = step.2;
    }

pub returns-in_err-found : goal.returns-in_err-found
returns-in_err-found c lent es reached =
    let p = err_from_is_err_and c.from_residual.result c.from_residual.ensures.1 in
    let step = rw c.loop-found.invariant.file at (rw c.in_err-found.was at c.in-Some.ensures.steps) in
    let r = c.loop-found.invariant.goes_on lent es reached in
    rw (p.1, p.2) (reached_fault c.args.file.now r.0 _ _ lent _ _ _ c.in_err-found.field-0.0 r.1 step.0 step.1.0 step.1.1 step.1.2)

pub returns : goal.returns
returns c lent es reached =
    let shares : to_z w64 (of_z w64 c.shares.result) ≡ c.loop-found.day.ledger.shares = search rules in
    let money : to_z w64 (of_z w64 c.money.result) ≡ c.loop-found.day.ledger.money = search rules in
    let end = rw c.loop-found.invariant.file at c.in-None.ensures.steps in
    let r = c.loop-found.invariant.goes_on lent es reached in
    reached_end c.args.file.now r.0 _ _ lent _ _ _ _ _ r.1 end.0 shares money
