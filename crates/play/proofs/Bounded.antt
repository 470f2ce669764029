-- How many bytes a play can write: few enough for its ending to fit in one number.
use Rattle.std.proofs.Common.{◌≡◌, ℕ, zero, suc, ◌+◌, ◌*◌, ◌/◌, ◌%◌, ◌≤◌, ◌<◌, ◌^◌, Bool, true, false, cond, eqb, List, [], ◌∷◌, ◌++◌, map, length, Some, None, fold, Option, refl, ap, arith, length-append, length-take-le, decimal, pos, negsuc, ℤ}
use Rattle.std.proofs.lemmas.List.{length-map}
use Rattle.std.specs.Fmt.{digit_glyph, digits, digits_onto, signed_decimal}
use Rattle.market.specs.Terms.{mark_number, refusal_number, side_number}
use Rattle.market.specs.declared.refusal.Refusal.{Refusal}
use Rattle.market.specs.declared.refusal.Refusal.TheVariants.{BadField}
use Rattle.book.specs.declared.row.Row.{Row}
use Rattle.rules.specs.Machine.{field_refusal, refusal_of, rows_of}
use Rattle.rules.specs.States.{is_closed}
use Rattle.rules.specs.Steps.{rows_if}
use Rattle.day.specs.Days.{may_make}
use Rattle.dayfile.specs.Files.{FileReads, first_faulty, joined_words, later_faulty, too_long, whole}
use Rattle.dayfile.specs.Entries.{written}
use Rattle.dayfile.specs.declared.entry.Entry.{Entry}
use Rattle.dayfile.specs.declared.fault.Fault.{Fault}
use Rattle.dayfile.proofs.Filed.{some_word}
use Rattle.play.proofs.Doing.{enough}
use Rattle.play.specs.Lines.{text_of, texts_of}
use Rattle.play.specs.Plays.{Played, last_line}
use Rattle.play.specs.Runs.{Run, followed, instruction_of, refused_line, run_of, unmade}
use Rattle.play.specs.declared.ending.Ending.{Ending}
use Rattle.play.specs.declared.instruction.Instruction.{Instruction}
use Rattle.play.specs.declared.instruction.Instruction.TheVariants.{Make, Call as CallOf}
use Rattle.play.specs.declared.line.Line.{Line}
use Rattle.play.specs.declared.line.Line.TheVariants.{Row as RowLine, Refused, Total, Fault as FaultLine}

-- a number has at most 64 digits
digit_more : (b : Bool) (x y : List ℕ) (n : ℕ) → length x ≤ n → length y ≤ n → length (cond b x y) ≤ n
digit_more true x y n h k = h
digit_more false x y n h k = k

digits_few : (k base : ℕ) (upper : Bool) (n : ℕ) (acc : List ℕ) → length (digits_onto k base upper n acc) ≤ k + length acc
digits_few zero base upper n acc = omega arith
digits_few (suc k) base upper n acc =
    digit_more (eqb (n / base) 0) (digit_glyph upper (n % base) ∷ acc) (digits_onto k base upper (n / base) (digit_glyph upper (n % base) ∷ acc)) (suc k + length acc) (omega arith)
    (omega (arith, digits_few k base upper (n / base) (digit_glyph upper (n % base) ∷ acc)))

decimal_few : (n : ℕ) → length (decimal n) ≤ 64
unfolding digits
decimal_few n = digits_few 64 10 false n []

signed_few : (z : ℤ) → length (signed_decimal z) ≤ 65
signed_few (pos n) = omega (arith, decimal_few n)
signed_few (negsuc n) = omega (arith, decimal_few (suc n))

text_few : (l : Line) → length (text_of l) ≤ 325
text_few (RowLine r) = simp length-append (omega (arith, decimal_few r.number, decimal_few (side_number r.side), decimal_few r.shares, decimal_few r.price, decimal_few (mark_number r.mark)))
text_few (Refused k e) = simp length-append (omega (arith, decimal_few k, decimal_few (refusal_number e)))
text_few (Total shares money) = simp length-append (omega (arith, signed_few shares, signed_few money))
text_few (FaultLine f) = simp length-append (omega (arith, decimal_few f.place, decimal_few (refusal_number f.reason)))

texts_few : (ls : List Line) → length (texts_of ls) ≤ 325 * length ls
texts_few [] = omega arith
texts_few (l ∷ ls) = omega (arith, length-append (text_of l) (texts_of ls), text_few l, texts_few ls)

-- a record adds at most 512 lines
call_few : (rows : List Row) (k : ℕ) (o : Option Refusal) → (o ≡ None → length rows ≤ 512) → length (map RowLine (rows_if o rows) ++ refused_line k o) ≤ 512
call_few rows k None few = omega (arith, length-append (map RowLine rows) [], length-map rows RowLine, few refl)
call_few rows k (Some e) few = omega arith

refused_few : (k : ℕ) (o : Option Refusal) → length (refused_line k o) ≤ 512
refused_few k None = omega arith
refused_few k (Some e) = omega arith

record_few : (r : Run) (i : Instruction) → length (followed r i).lines ≤ length r.lines + 512
record_few r (Make m) = simp length-append (omega (arith, refused_few (r.count + 1) (cond (may_make m) None (Some BadField))))
record_few r (CallOf c) =
    let o = refusal_of r.day c 512 r.ledger.places in
    let few = call_few (rows_of r.day c) (r.count + 1) o (enough (is_closed r.day.figures.phase) (field_refusal r.day c) (rows_of r.day c) 512 r.ledger.places) in
    omega (arith, few, length-append r.lines (map RowLine (rows_if o (rows_of r.day c)) ++ refused_line (r.count + 1) o))

records_few : (es : List Entry) (r : Run) → length (fold (λ x e. followed x (instruction_of e)) r es).lines ≤ length r.lines + 512 * length es
records_few [] r = omega arith
records_few (e ∷ es) r = omega (arith, record_few r (instruction_of e), records_few es (followed r (instruction_of e)))

-- a file has at most 16,384 records
words_few : (es : List Entry) → 4 * length es ≤ length (joined_words es)
words_few [] = omega arith
words_few (e ∷ es) = omega (arith, length-append (written e) (joined_words es), some_word e, words_few es)

file_few : (file : List ℕ) (es : List Entry) (fault : Option Fault) → FileReads file es fault → 4 * length es ≤ 65536
file_few file _ _ (too_long long) = omega arith
file_few file _ _ (whole es short once writable words) = omega (arith, words_few es, ap length words)
file_few file _ _ (first_faulty r short none fault) = omega arith
file_few file _ _ (later_faulty es place r begins before none fault) =
    omega (arith, words_few es, ap length begins.words, length-take-le place file begins.inside, begins.inside, begins.short)

-- the bytes that a play writes are few enough for its ending to fit in one number
pub written_few : (file was out : List ℕ) (e : Ending) → Played file was out e → e.written < 2 ^ 58
written_few file was out e p =
    let last = last_line (run_of p.entries) p.fault ∷ [] in
    omega (arith, p.written, texts_few p.shown, ap length p.shows.split, length-append p.shown p.cut, length-append (run_of p.entries).lines last, records_few p.entries unmade, file_few file p.entries p.fault p.reads)
