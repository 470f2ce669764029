use Rattle.std.proofs.Common.{◌≡◌, ◌*◌, ◌≤◌, length}
use Rattle.ledger.specs.Opening.{totals_numbers}
use Rattle.day.specs.Days.{state_of}
use Rattle.play.specs.Steps.{GoesOn}
use Rattle.play.proofs.playing.play_rest.Given as goal

abbrev pub invariant-loop-found : goal.invariant-loop-found
invariant-loop-found l = record {
  goes_on : GoesOn l.file l.fn.first 1 (state_of l.initial.day.live) (totals_numbers l.initial.day.ledger) l.initial.page l.found-iterator.place l.record (state_of l.day.live) (totals_numbers l.day.ledger) l.page;
  report : length l.report ≡ 512;
  records : 4 * l.record ≤ l.found-iterator.place;
  inside : l.found-iterator.place ≤ length l.file;
  started : 1 ≤ l.record;
  file : l.found-iterator.file.now ≡ l.file;
}
