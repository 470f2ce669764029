use Rattle.std.proofs.Common.{◌≡◌, ◌+◌, ◌*◌, drop, sym, ap, ◌∙◌, arith, slice_index_or}
use Rattle.std.proofs.lemmas.List.{at_drop_more, drop_more}
use Rattle.dayfile.specs.Faults.{fault_among}
use Rattle.dayfile.specs.declared.kind.WordKind.TheVariants.{Time}
use Rattle.dayfile.proofs.Faulty.{among_next}
use Rattle.dayfile.proofs.word.Rest.words.Goals as goal

pub loop-i-preserved : goal.loop-i-preserved
loop-i-preserved c =
    let rest = c.args.self.bytes.now in
    let kinds = c.args.kinds.now in
    let i = c.loop-i.i in
    let next : 4 + 4 * (i + 1) ≡ 4 + 4 * i + 4 = omega arith in
    let e = c.in_ok-expect.ensures in
    record {
      inside = rw next e.0;
      stand = λ s. c.loop-i.invariant.stand (rw (drop_more kinds i Time c.loop-i-test.true) (e.2, rw next at s));
      fault =
          c.loop-i.invariant.fault
          ∙ at_drop_more (λ ks. fault_among ks rest (4 + 4 * i)) kinds i Time c.loop-i-test.true
          ∙ among_next (slice_index_or kinds i Time) (drop (i + 1) kinds) rest (4 + 4 * i) e.0 e.1
          ∙ ap (fault_among (drop (i + 1) kinds) rest) (sym next);
    }
