-- The player, record by record.
use Rattle.std.proofs.Common.{◌≡◌, ℕ, ◌+◌, ◌<◌, ◌≤◌, Bool, true, false, eqb, List, [], ◌∷◌, ◌++◌, length, drop, ℤ, Some, Ok, Err, sym, refl, ap, ◌∙◌, subst, arith}
use Rattle.std.specs.Borrow.{MutBor}
use Rattle.std.proofs.lemmas.List.Sums.{fold_push}
use Rattle.std.proofs.lemmas.Bool.{ne_eqb}
use Rattle.ledger.specs.Posting.{Numbers}
use Rattle.rules.specs.States.{State}
use Rattle.rules.specs.declared.call.Call.{Call}
use Rattle.dayfile.specs.Faults.{fault_of}
use Rattle.dayfile.specs.Files.{Begins, NoRecord}
use Rattle.dayfile.specs.Records.{Stands, entry_of, part_of}
use Rattle.dayfile.specs.declared.entry.Entry.{Entry}
use Rattle.dayfile.specs.declared.fault.Fault.{Fault}
use Rattle.dayfile.specs.declared.record.Record.{Record}
use Rattle.dayfile.proofs.Filed.{begins_first, begins_more, reads_later, reads_whole}
use Rattle.play.specs.Runs.{Run, called, followed, instruction_of, run_of, unmade}
use Rattle.play.specs.Steps.{Advanced, At, FilePlayed, Reached}
use Rattle.play.specs.declared.instruction.Instruction.{Instruction}
use Rattle.play.specs.declared.instruction.Instruction.TheVariants.{Make, Call as CallOf}
use Rattle.play.specs.declared.line.Line.TheVariants.{Total}
use Rattle.play.specs.declared.page.Page.{Page}

run_more : (es : List Entry) (e : Entry) (c : Call) → instruction_of e ≡ CallOf c → run_of (es ++ e ∷ []) ≡ called (run_of es) c
run_more es e c is = fold_push (λ r x. followed r (instruction_of x)) unmade es e ∙ ap (followed (run_of es)) is

-- one record more
pub reached_more : (file : List ℕ) (es : List Entry) (place k : ℕ) (lent : MutBor (List ℕ)) (s : State) (n : Numbers) (p : Page) (x : Record) (c : Call) (t : State) (m : Numbers) (q : Page) → Reached file es place k lent s n p → Stands false (drop place file) x → instruction_of (entry_of x) ≡ CallOf c → Advanced c (k + 1) s n p t m q → Reached file (es ++ entry_of x ∷ []) (place + length (part_of x)) (k + 1) lent t m q
reached_more file es place k lent s n p x c t m q r stands is adv =
    let more = run_more es (entry_of x) c is in
    record {
      begins = begins_more file es place x r.begins stands;
      at = subst (λ (y : Run). At y lent t m q) (sym more) (adv (run_of es) lent (ap (λ i. i + 1) r.count) r.at);
      count = ap (λ i. i + 1) r.count ∙ sym (ap (λ (y : Run). y.count) more);
    }

-- the start
one_record : (i : Instruction) → 1 ≡ (followed unmade i).count
one_record (Make m) = refl
one_record (CallOf c) = refl

pub reached_first : (file : List ℕ) (lent : MutBor (List ℕ)) (s : State) (n : Numbers) (p : Page) (x : Record) (size : ℕ) → length file ≤ 65536 → Stands true file x → size ≡ length (part_of x) → At (followed unmade (instruction_of (entry_of x))) lent s n p → Reached file (entry_of x ∷ []) size 1 lent s n p
reached_first file lent s n p x size short stands sized at =
    record {
      begins = subst (λ (i : ℕ). Begins file (entry_of x ∷ []) i) (sym sized) (begins_first file x short stands);
      at = at;
      count = one_record (instruction_of (entry_of x));
    }

-- the end of the file
pub reached_end : (file : List ℕ) (es : List Entry) (place k : ℕ) (lent : MutBor (List ℕ)) (s : State) (n : Numbers) (p : Page) (shares money : ℤ) → Reached file es place k lent s n p → length file ≤ place → shares ≡ n.shares → money ≡ n.money → FilePlayed file lent (Ok (Total shares money)) p
reached_end file es place k lent s n p shares money r end a b = (
  es,
  reads_whole file es place r.begins end,
  ap (λ z. Total z money) (a ∙ ap (λ (x : Numbers). x.shares) r.at.ledger) ∙ ap (λ z. Total (run_of es).ledger.shares z) (b ∙ ap (λ (x : Numbers). x.money) r.at.ledger),
  r.at.page,
)

-- a fault
pub reached_fault : (file : List ℕ) (es : List Entry) (place k : ℕ) (lent : MutBor (List ℕ)) (s : State) (n : Numbers) (p : Page) (f : Fault) → Reached file es place k lent s n p → place < length file → NoRecord (eqb place 0) (drop place file) → fault_of (eqb place 0) (drop place file) ≡ Some f.reason → f.place ≡ place → FilePlayed file lent (Err f) p
reached_fault file es place k lent s n p f r before none fault is = (es, reads_later file es place f r.begins before none fault is, r.at.page)

-- a record past the first byte is no start
pub later_record : (file : List ℕ) (place : ℕ) (x : Record) → 0 < place → Stands (eqb place 0) (drop place file) x → Stands false (drop place file) x
later_record file place x past h = subst (λ (b : Bool). Stands b (drop place file) x) (ne_eqb place 0 (λ e. omega (arith, past))) h
