-- A file, read record by record.
use Rattle.std.proofs.Common.{◌≡◌, ℕ, ◌+◌, ◌<◌, ◌≤◌, Bool, true, false, not, eqb, List, [], ◌∷◌, ◌++◌, length, take, drop, Some, None, sym, refl, ap, ◌∙◌, subst, arith, length-drop, length-take, take-add}
use Rattle.std.specs.List.{list_all}
use Rattle.std.proofs.lemmas.List.{append-nil, flat_map_more, take_all}
use Rattle.std.proofs.lemmas.Bool.{and_from, and_parts, ne_eqb, not_from_false}
use Rattle.market.proofs.Passing.{pass_push}
use Rattle.dayfile.specs.Entries.{is_start, is_writable, written}
use Rattle.dayfile.specs.Faults.{fault_of}
use Rattle.dayfile.specs.Files.{Begins, FileReads, NoRecord, first_faulty, later_faulty, starts_once, whole}
use Rattle.dayfile.specs.Records.{Stands, entry_of, part_of}
use Rattle.dayfile.specs.declared.entry.Entry.{Entry}
use Rattle.dayfile.specs.declared.entry.Entry.TheVariants.{Start, Clock, Order, Cancel, Quote, Opening, Trade, Close}
use Rattle.dayfile.specs.declared.fault.Fault.{Fault}
use Rattle.dayfile.specs.declared.record.Record.{Record}

-- a record has a word at least
pub some_word : (e : Entry) → 4 ≤ length (written e)
some_word (Start unit prior tag) = omega arith
some_word (Clock time) = omega arith
some_word (Order side kind shares limit stop) = omega arith
some_word (Cancel number) = omega arith
some_word (Quote bid offer) = omega arith
some_word (Opening price volume) = omega arith
some_word (Trade price volume) = omega arith
some_word Close = omega arith

pub part_some : (first : Bool) (rest : List ℕ) (x : Record) → Stands first rest x → 4 ≤ length (part_of x)
part_some first rest x h = rw h.exact (some_word (entry_of x))

pub part_inside : (first : Bool) (file : List ℕ) (at : ℕ) (x : Record) → at ≤ length file → Stands first (drop at file) x → at + length (part_of x) ≤ length file
part_inside first file at x h s =
    omega (arith, ap length s.front, length-take (length (part_of x)) (drop at file), length-drop at file)

pub begins_first : (file : List ℕ) (x : Record) → length file ≤ 65536 → Stands true file x → Begins file (entry_of x ∷ []) (length (part_of x))
begins_first file x short h =
    record {
      short = short;
      once = and_from (is_start (entry_of x)) true h.in_place refl;
      writable = and_from (is_writable (entry_of x)) true h.writable refl;
      words = sym h.front ∙ h.exact ∙ sym (append-nil (written (entry_of x)));
      inside = omega (arith, part_inside true file 0 x (omega arith) h);
      past = omega (arith, part_some true file x h);
    }

once_push : (es : List Entry) (e : Entry) → starts_once es ≡ true → is_start e ≡ false → starts_once (es ++ e ∷ []) ≡ true
once_push [] e h k = cc
once_push (x ∷ xs) e h k =
    let p = and_parts (is_start x) (list_all (λ y. not (is_start y)) xs) h in
    and_from _ _ p.0 (pass_push (λ y. not (is_start y)) xs e p.1 (not_from_false (is_start e) k))

pub begins_more : (file : List ℕ) (es : List Entry) (at : ℕ) (x : Record) → Begins file es at → Stands false (drop at file) x → Begins file (es ++ entry_of x ∷ []) (at + length (part_of x))
begins_more file es at x b h =
    record {
      short = b.short;
      once = once_push es (entry_of x) b.once h.in_place;
      writable = pass_push is_writable es (entry_of x) b.writable h.writable;
      words =
          take-add at (length (part_of x)) file
          ∙ ap (λ l. take at file ++ l) (sym h.front ∙ h.exact)
          ∙ ap (λ l. l ++ written (entry_of x)) b.words
          ∙ flat_map_more written [] es (entry_of x);
      inside = part_inside false file at x b.inside h;
      past = omega (arith, b.past);
    }

-- a place after some records is not the first
pub later : (file : List ℕ) (es : List Entry) (at : ℕ) → Begins file es at → eqb at 0 ≡ false
later file es at b = ne_eqb at 0 (λ e. omega (arith, b.past))

pub reads_whole : (file : List ℕ) (es : List Entry) (at : ℕ) → Begins file es at → length file ≤ at → FileReads file es None
reads_whole file es at b end = whole es b.short b.once b.writable (sym (take_all at file end) ∙ b.words)

pub reads_first : (file : List ℕ) (f : Fault) → length file ≤ 65536 → NoRecord true file → fault_of true file ≡ Some f.reason → f.place ≡ 0 → FileReads file [] (Some f)
reads_first file f short none fault place =
    subst (λ (p : ℕ). FileReads file [] (Some (record { reason = f.reason; place = p }))) (sym place) (first_faulty f.reason short none fault)

pub reads_later : (file : List ℕ) (es : List Entry) (at : ℕ) (f : Fault) → Begins file es at → at < length file → NoRecord (eqb at 0) (drop at file) → fault_of (eqb at 0) (drop at file) ≡ Some f.reason → f.place ≡ at → FileReads file es (Some f)
reads_later file es at f b before none fault place =
    let l = later file es at b in
    subst (λ (p : ℕ). FileReads file es (Some (record { reason = f.reason; place = p }))) (sym place)
    (later_faulty es at f.reason b before (rw l at none) (rw l at fault))
