use Rattle.std.proofs.Common.{◌≡◌, ◌+◌, ◌*◌, ◌≤◌, length, drop}
use Rattle.dayfile.specs.Faults.{fault_among}
use Rattle.dayfile.specs.Reading.{WordsStand}
use Rattle.dayfile.proofs.word.Rest.words.Given as goal

abbrev pub invariant-loop-i : goal.invariant-loop-i
invariant-loop-i l = record {
  inside : 4 + 4 * l.i ≤ length l.self.bytes.now;
  stand : WordsStand (drop l.i l.kinds) l.self.bytes.now (4 + 4 * l.i) → WordsStand l.kinds l.self.bytes.now 4;
  fault : fault_among l.kinds l.self.bytes.now 4 ≡ fault_among (drop l.i l.kinds) l.self.bytes.now (4 + 4 * l.i);
}
