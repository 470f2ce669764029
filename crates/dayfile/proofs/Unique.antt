-- A file is read in one way only.
use Rattle.std.proofs.Common.{◌≡◌, ℕ, ◌<◌, ◌≤◌, Bool, true, false, cond, not, eqb, ◌⊎◌, List, [], ◌∷◌, ◌++◌, length, drop, Some, None, Option, Err, sym, refl, ap, ◌∙◌, inl, inr, ⊎_elim, append_assoc, append-nil, arith, length-append, length-drop, take-append-drop}
use Rattle.std.specs.List.{flat_map, list_all}
use Rattle.std.proofs.lemmas.List.{append_cancel_left, length-take-le}
use Rattle.std.proofs.lemmas.Bool.Decides.{nat_tests}
use Rattle.std.proofs.lemmas.Bool.{and_parts, cases_lt, not-true}
use Rattle.market.specs.declared.refusal.Refusal.{Refusal}
use Rattle.market.specs.declared.refusal.Refusal.TheVariants.{FileTooLong}
use Rattle.dayfile.specs.Entries.{has_limit_word, has_stop_word, is_start, is_value, is_writable, order_value, written}
use Rattle.dayfile.specs.Faults.{fault_of}
use Rattle.dayfile.specs.Files.{Counted, FileReads, NoRecord, OnlyReading, first_faulty, joined_words, later_faulty, starts_once, too_long, whole}
use Rattle.dayfile.specs.Kinds.{word_kind_of}
use Rattle.dayfile.specs.Records.{order_of}
use Rattle.dayfile.specs.Words.{bytes_of, kind_at, value_at, word}
use Rattle.dayfile.specs.declared.entry.Entry.{Entry}
use Rattle.dayfile.specs.declared.entry.Entry.TheVariants.{Start, Clock, Order, Cancel, Quote, Opening, Trade, Close}
use Rattle.dayfile.specs.declared.fault.Fault.{Fault}
use Rattle.dayfile.specs.declared.kind.WordKind.{WordKind}
use Rattle.dayfile.specs.declared.kind.WordKind.TheVariants.{Time, Order as OrderWord, Limit, Stop, Cancel as CancelWord, Bid, OpeningPrice, TradePrice, Unit as UnitWord}
use Rattle.dayfile.proofs.Filed.{some_word}
use Rattle.dayfile.proofs.Whole.{order_parts, order_word}

-- what the front of a list says, by its first word
abbrev decode_as : Option WordKind → List ℕ → Entry
decode_as (Some UnitWord) bs = Start (value_at bs 0) (value_at bs 4) (value_at bs 8)
decode_as (Some Time) bs = Clock (value_at bs 0)
decode_as (Some OrderWord) bs = order_of (value_at bs 0) (value_at bs 4) (value_at bs 8)
decode_as (Some CancelWord) bs = Cancel (value_at bs 0)
decode_as (Some Bid) bs = Quote (value_at bs 0) (value_at bs 4)
decode_as (Some OpeningPrice) bs = Opening (value_at bs 0) (value_at bs 4)
decode_as (Some TradePrice) bs = Trade (value_at bs 0) (value_at bs 4)
decode_as _ bs = Close

abbrev decode : List ℕ → Entry
decode bs = decode_as (word_kind_of (kind_at bs 0)) bs

-- the price words of an order, read back
prices_back : (b c : Bool) (w limit stop : ℕ) (tail : List ℕ) → cond b (is_value limit) (eqb limit 0) ≡ true → cond c (is_value stop) (eqb stop 0) ≡ true → (cond b (value_at (bytes_of w ++ flat_map bytes_of (cond b (word Limit limit ∷ []) [] ++ cond c (word Stop stop ∷ []) []) ++ tail) 4) 0 ≡ limit) × (cond c (cond b (value_at (bytes_of w ++ flat_map bytes_of (cond b (word Limit limit ∷ []) [] ++ cond c (word Stop stop ∷ []) []) ++ tail) 8) (value_at (bytes_of w ++ flat_map bytes_of (cond b (word Limit limit ∷ []) [] ++ cond c (word Stop stop ∷ []) []) ++ tail) 4)) 0 ≡ stop)
prices_back true true w limit stop tail hb hc = grind (arith, nat_tests)
prices_back true false w limit stop tail hb hc = grind (arith, nat_tests)
prices_back false true w limit stop tail hb hc = grind (arith, nat_tests)
prices_back false false w limit stop tail hb hc = grind (arith, nat_tests)

order_back : (side kind shares limit stop : ℕ) (tail : List ℕ) → is_writable (Order side kind shares limit stop) ≡ true → decode (written (Order side kind shares limit stop) ++ tail) ≡ Order side kind shares limit stop
order_back side kind shares limit stop tail h =
    let p = order_parts side kind shares limit stop h in
    let f = order_word side kind shares limit stop tail h in
    let v = order_value side kind shares in
    let rest = written (Order side kind shares limit stop) ++ tail in
    let q = prices_back (has_limit_word kind) (has_stop_word kind) (word OrderWord v) limit stop tail p.3 p.4 in
    ap (λ n. decode_as (word_kind_of n) rest) f.0
    ∙ ap (λ n. order_of n (value_at rest 4) (value_at rest 8)) f.1
    ∙ rw (f.2, f.3, f.4, q.0, q.1)

-- the words of a record say what it says, whatever follows them
decoded : (e : Entry) (tail : List ℕ) → is_writable e ≡ true → decode (written e ++ tail) ≡ e
decoded (Start unit prior tag) tail h = grind (arith, nat_tests)
decoded (Clock time) tail h = grind (arith, nat_tests)
decoded (Order side kind shares limit stop) tail h =
    order_back side kind shares limit stop tail h
decoded (Cancel number) tail h = grind (arith, nat_tests)
decoded (Quote bid offer) tail h = grind (arith, nat_tests)
decoded (Opening price volume) tail h = grind (arith, nat_tests)
decoded (Trade price volume) tail h = grind (arith, nat_tests)
decoded Close tail h = grind (arith, nat_tests)

-- lists that begin with the words of two records begin with those of one
same_entry : (e f : Entry) (a b : List ℕ) → is_writable e ≡ true → is_writable f ≡ true → written e ++ a ≡ written f ++ b → (e ≡ f) × (a ≡ b)
same_entry e f a b he hf is =
    let same : e ≡ f = sym (decoded e a he) ∙ ap decode is ∙ decoded f b hf in
    (same, append_cancel_left (written e) a b (is ∙ ap (λ x. written x ++ b) (sym same)))

-- nothing more is read: the end of the file, or a place where no record stands
abbrev pub Ends : Bool → List ℕ → Type 0
Ends first rest = (rest ≡ []) ⊎ NoRecord first rest

not_ended : (first : Bool) (rest : List ℕ) (e : Entry) (tail : List ℕ) → Ends first rest → is_writable e ≡ true → is_start e ≡ first → rest ≡ written e ++ tail → ⊥
not_ended first rest e tail (inl none) h s is =
    omega (arith, sym (ap length none) ∙ ap length is ∙ length-append (written e) tail, some_word e)
not_ended first rest e tail (inr none) h s is = none e tail h s is

-- records after the start
same_later : (es fs : List Entry) (a b : List ℕ) → list_all is_writable es ≡ true → list_all is_writable fs ≡ true → list_all (λ x. not (is_start x)) es ≡ true → list_all (λ x. not (is_start x)) fs ≡ true → Ends false a → Ends false b → joined_words es ++ a ≡ joined_words fs ++ b → (es ≡ fs) × (a ≡ b)
same_later [] [] a b he hf se sf ea eb is = (refl, is)
same_later [] (f ∷ fs) a b he hf se sf ea eb is =
    let w = and_parts (is_writable f) (list_all is_writable fs) hf in
    let s = and_parts (not (is_start f)) (list_all (λ x. not (is_start x)) fs) sf in
    absurd (not_ended false a f (joined_words fs ++ b) ea w.0 (not-true (is_start f) s.0) (is ∙ append_assoc (written f) (joined_words fs) b))
same_later (e ∷ es) [] a b he hf se sf ea eb is =
    let w = and_parts (is_writable e) (list_all is_writable es) he in
    let s = and_parts (not (is_start e)) (list_all (λ x. not (is_start x)) es) se in
    absurd (not_ended false b e (joined_words es ++ a) eb w.0 (not-true (is_start e) s.0) (sym is ∙ append_assoc (written e) (joined_words es) a))
same_later (e ∷ es) (f ∷ fs) a b he hf se sf ea eb is =
    let we = and_parts (is_writable e) (list_all is_writable es) he in
    let wf = and_parts (is_writable f) (list_all is_writable fs) hf in
    let te = and_parts (not (is_start e)) (list_all (λ x. not (is_start x)) es) se in
    let tf = and_parts (not (is_start f)) (list_all (λ x. not (is_start x)) fs) sf in
    let one = same_entry e f (joined_words es ++ a) (joined_words fs ++ b) we.0 wf.0 (sym (append_assoc (written e) (joined_words es) a) ∙ is ∙ append_assoc (written f) (joined_words fs) b) in
    let rest = same_later es fs a b we.1 wf.1 te.1 tf.1 ea eb one.1 in
    (ap (λ x. x ∷ es) one.0 ∙ ap (λ x. f ∷ x) rest.0, rest.1)

-- a file that is not too long, by its records and what follows them
abbrev pub placed : ℕ → Option Refusal → Option Fault
placed place None = None
placed place (Some r) = Some (record { reason = r; place = place })

abbrev pub fault_for : List Entry → List ℕ → Option Fault
fault_for [] rest = placed 0 (fault_of true rest)
fault_for (e ∷ es) [] = None
fault_for (e ∷ es) (b ∷ rest) = placed (length (joined_words (e ∷ es))) (fault_of false (b ∷ rest))

pub record Parts (file : List ℕ) (es : List Entry) (fault : Option Fault) : Type 0 where
  pub rest : List ℕ
  pub short : length file ≤ 65536
  pub split : file ≡ joined_words es ++ rest
  pub starts : (es ≡ []) ⊎ (starts_once es ≡ true)
  pub writable : list_all is_writable es ≡ true
  pub none_first : es ≡ [] → NoRecord true rest
  pub none_later : starts_once es ≡ true → Ends false rest
  pub fault_is : fault ≡ fault_for es rest

none_of_once : starts_once [] ≡ true → ⊥
none_of_once h = cc

whole_fault : (es : List Entry) → starts_once es ≡ true → None ≡ fault_for es []
whole_fault [] h = absurd (none_of_once h)
whole_fault (e ∷ es) h = refl

later_fault : (es : List Entry) (rest : List ℕ) → starts_once es ≡ true → 0 < length rest → fault_for es rest ≡ placed (length (joined_words es)) (fault_of false rest)
later_fault [] rest h some = absurd (none_of_once h)
later_fault (e ∷ es) [] h some = absurd (omega arith)
later_fault (e ∷ es) (b ∷ rest) h some = refl

once_not_none : (es : List Entry) → starts_once es ≡ true → es ≡ [] → ⊥
once_not_none es h none = none_of_once (sym (ap starts_once none) ∙ h)

parts_of : (file : List ℕ) (es : List Entry) (fault : Option Fault) → length file ≤ 65536 → FileReads file es fault → Parts file es fault
parts_of file _ _ short (too_long long) = absurd (omega arith)
parts_of file _ _ short (whole es _ once writable is) =
    record {
      rest = [];
      short = short;
      split = is ∙ sym (append-nil (joined_words es));
      starts = inr once;
      writable = writable;
      none_first = λ none. absurd (once_not_none es once none);
      none_later = λ _. inl refl;
      fault_is = whole_fault es once;
    }
parts_of file _ _ short (first_faulty r _ none is) =
    record {
      rest = file;
      short = short;
      split = refl;
      starts = inl refl;
      writable = refl;
      none_first = λ _. none;
      none_later = λ once. absurd (none_of_once once);
      fault_is = sym (ap (placed 0) is);
    }
parts_of file _ _ short (later_faulty es place r b before none is) =
    let rest = drop place file in
    let size : length (joined_words es) ≡ place = sym (ap length b.words) ∙ length-take-le place file b.inside in
    record {
      rest = rest;
      short = short;
      split = sym (take-append-drop place file) ∙ ap (λ l. l ++ rest) b.words;
      starts = inr b.once;
      writable = b.writable;
      none_first = λ none_yet. absurd (once_not_none es b.once none_yet);
      none_later = λ _. inr none;
      fault_is = sym (later_fault es rest b.once (omega (arith, length-drop place file, before)) ∙ ap (λ n. placed n (fault_of false rest)) size ∙ ap (placed place) is);
    }

first_starts : (e : Entry) (es : List Entry) → (◌≡◌ {A = List Entry} (e ∷ es) []) ⊎ (starts_once (e ∷ es) ≡ true) → starts_once (e ∷ es) ≡ true
first_starts e es (inl none) = cc
first_starts e es (inr once) = once

-- a list of records that the file begins with, against none
no_first : (file : List ℕ) (rest : List ℕ) (f : Entry) (fs : List Entry) (fault : Option Fault) → file ≡ rest → NoRecord true rest → Parts file (f ∷ fs) fault → ⊥
no_first file rest f fs fault is none p =
    let once = first_starts f fs p.starts in
    let s = and_parts (is_start f) (list_all (λ x. not (is_start x)) fs) once in
    let w = and_parts (is_writable f) (list_all is_writable fs) p.writable in
    none f (joined_words fs ++ p.rest) w.0 s.0 (sym is ∙ p.split ∙ append_assoc (written f) (joined_words fs) p.rest)

same_parts : (file : List ℕ) (es fs : List Entry) (f g : Option Fault) → Parts file es f → Parts file fs g → (fs ≡ es) × (g ≡ f)
same_parts file [] [] f g p q =
    (refl, q.fault_is ∙ ap (fault_for []) (sym q.split ∙ p.split) ∙ sym p.fault_is)
same_parts file [] (y ∷ fs) f g p q = absurd (no_first file p.rest y fs g p.split (p.none_first refl) q)
same_parts file (x ∷ es) [] f g p q = absurd (no_first file q.rest x es f q.split (q.none_first refl) p)
same_parts file (x ∷ es) (y ∷ fs) f g p q =
    let op = first_starts x es p.starts in
    let oq = first_starts y fs q.starts in
    let sp = and_parts (is_start x) (list_all (λ z. not (is_start z)) es) op in
    let sq = and_parts (is_start y) (list_all (λ z. not (is_start z)) fs) oq in
    let wp = and_parts (is_writable x) (list_all is_writable es) p.writable in
    let wq = and_parts (is_writable y) (list_all is_writable fs) q.writable in
    let one = same_entry x y (joined_words es ++ p.rest) (joined_words fs ++ q.rest) wp.0 wq.0 (sym (append_assoc (written x) (joined_words es) p.rest) ∙ sym p.split ∙ q.split ∙ append_assoc (written y) (joined_words fs) q.rest) in
    let more = same_later es fs p.rest q.rest wp.1 wq.1 sp.1 sq.1 (p.none_later op) (q.none_later oq) one.1 in
    let all : y ∷ fs ≡ x ∷ es = sym (ap (λ z. z ∷ es) one.0 ∙ ap (λ z. y ∷ z) more.0) in
    (all, q.fault_is ∙ ap (λ l. fault_for l q.rest) all ∙ ap (fault_for (x ∷ es)) (sym more.1) ∙ sym p.fault_is)

-- a file that is too long has no records and this one fault
long_reads : (file : List ℕ) (es : List Entry) (fault : Option Fault) → 65536 < length file → FileReads file es fault → (es ≡ []) × (fault ≡ Some (record { reason = FileTooLong; place = 65536 }))
long_reads file _ _ long (too_long _) = (refl, refl)
long_reads file _ _ long (whole es short once writable is) = absurd (omega arith)
long_reads file _ _ long (first_faulty r short none is) = absurd (omega arith)
long_reads file _ _ long (later_faulty es place r b before none is) = absurd (omega (arith, b.short))

-- there is no other reading
pub one_reading : (file : List ℕ) (es : List Entry) (fault : Option Fault) → FileReads file es fault → OnlyReading file es fault
one_reading file es fault h fs other k =
    ⊎_elim
    (λ long.
    let a = long_reads file es fault long h in
    let b = long_reads file fs other long k in
    (b.0 ∙ sym a.0, b.1 ∙ sym a.1))
    (λ short. same_parts file es fs fault other (parts_of file es fault short h) (parts_of file fs other short k))
    (cases_lt 65536 (length file))

-- a file with this fault is counted by it
pub faulty_count : (file : List ℕ) (es : List Entry) (f : Fault) → FileReads file es (Some f) → Counted file (Err f)
faulty_count file es f h = (es, h, one_reading file es (Some f) h)
