use Rattle.std.proofs.Common.{◌≡◌, ◌≤◌, List, length}
use Rattle.dayfile.specs.Files.{Begins}
use Rattle.dayfile.specs.declared.entry.Entry.{Entry}
use Rattle.dayfile.proofs.counting.count_records.Given as goal

abbrev pub invariant-loop-found : goal.invariant-loop-found
invariant-loop-found l = record {
  file : l.found-iterator.file.now ≡ l.file;
  begun : (es : List Entry) × Begins l.file es l.found-iterator.place × (l.count ≡ length es);
  counted : l.count ≤ l.found-iterator.place;
  inside : l.found-iterator.place ≤ length l.file;
}
