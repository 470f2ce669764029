-- A record that stands at the front of a list has no fault.
use Rattle.std.proofs.Common.{◌≡◌, ℕ, ◌/◌, ◌%◌, Bool, true, false, cond, eqb, ltb, List, [], ◌∷◌, ◌++◌, Some, None, refl, ◌∙◌, arith}
use Rattle.std.specs.List.{flat_map}
use Rattle.std.proofs.lemmas.Bool.Decides.{nat_tests}
use Rattle.std.proofs.lemmas.Bool.{and_from, ltb-true}
use Rattle.market.specs.declared.refusal.Refusal.{Refusal}
use Rattle.dayfile.specs.Entries.{has_limit_word, has_stop_word, is_start, is_value, is_writable, order_value, written}
use Rattle.dayfile.specs.Faults.{fault_among, fault_of}
use Rattle.dayfile.specs.Files.{NoRecord}
use Rattle.dayfile.specs.Words.{bytes_of, kind_at, value_at, word}
use Rattle.dayfile.specs.declared.entry.Entry.{Entry}
use Rattle.dayfile.specs.declared.entry.Entry.TheVariants.{Start, Clock, Order, Cancel, Quote, Opening, Trade, Close}
use Rattle.dayfile.specs.declared.kind.WordKind.TheVariants.{Order as OrderWord, Limit, Stop}
use Rattle.dayfile.proofs.Faulty.{order_fault}

-- the price words of an order
prices : (b c : Bool) (w limit stop : ℕ) (tail : List ℕ) → cond b (is_value limit) (eqb limit 0) ≡ true → cond c (is_value stop) (eqb stop 0) ≡ true → fault_among (cond b (Limit ∷ []) [] ++ cond c (Stop ∷ []) []) (bytes_of w ++ flat_map bytes_of (cond b (word Limit limit ∷ []) [] ++ cond c (word Stop stop ∷ []) []) ++ tail) 4 ≡ None
prices true true w limit stop tail hb hc = grind (arith, nat_tests)
prices true false w limit stop tail hb hc = grind (arith, nat_tests)
prices false true w limit stop tail hb hc = grind (arith, nat_tests)
prices false false w limit stop tail hb hc = refl

-- the fields of an order that can be written
pub order_parts : (side kind shares limit stop : ℕ) → is_writable (Order side kind shares limit stop) ≡ true → (ltb side 4 ≡ true) × (ltb kind 8 ≡ true) × (ltb shares 256 ≡ true) × (cond (has_limit_word kind) (is_value limit) (eqb limit 0) ≡ true) × (cond (has_stop_word kind) (is_value stop) (eqb stop 0) ≡ true)
order_parts side kind shares limit stop h = grind (arith, nat_tests)

-- the fields of an order's first word, read back
pub order_word : (side kind shares limit stop : ℕ) (tail : List ℕ) → is_writable (Order side kind shares limit stop) ≡ true → (kind_at (written (Order side kind shares limit stop) ++ tail) 0 ≡ 2) × (value_at (written (Order side kind shares limit stop) ++ tail) 0 ≡ order_value side kind shares) × (order_value side kind shares / 65536 ≡ side) × (order_value side kind shares / 256 % 256 ≡ kind) × (order_value side kind shares % 256 ≡ shares)
order_word side kind shares limit stop tail h =
    let p = order_parts side kind shares limit stop h in
    let s = ltb-true side 4 p.0 in
    let k = ltb-true kind 8 p.1 in
    let n = ltb-true shares 256 p.2 in
    (omega arith, omega arith, omega arith, omega arith, omega arith)

order_fine : (side kind shares limit stop : ℕ) (tail : List ℕ) → is_writable (Order side kind shares limit stop) ≡ true → fault_of false (written (Order side kind shares limit stop) ++ tail) ≡ None
order_fine side kind shares limit stop tail h =
    let p = order_parts side kind shares limit stop h in
    let f = order_word side kind shares limit stop tail h in
    let v = order_value side kind shares in
    order_fault (written (Order side kind shares limit stop) ++ tail) v (omega arith) f.0 f.1 (rw (f.2, f.3) (and_from _ _ p.0 p.1))
    ∙ rw f.3 (prices (has_limit_word kind) (has_stop_word kind) (word OrderWord v) limit stop tail p.3 p.4)

fine : (e : Entry) (tail : List ℕ) → is_writable e ≡ true → fault_of (is_start e) (written e ++ tail) ≡ None
fine (Start unit prior tag) tail h = grind (arith, nat_tests)
fine (Clock time) tail h = grind (arith, nat_tests)
fine (Order side kind shares limit stop) tail h =
    order_fine side kind shares limit stop tail h
fine (Cancel number) tail h = grind (arith, nat_tests)
fine (Quote bid offer) tail h = grind (arith, nat_tests)
fine (Opening price volume) tail h = grind (arith, nat_tests)
fine (Trade price volume) tail h = grind (arith, nat_tests)
fine Close tail h = grind (arith, nat_tests)

-- a fault comes only where no record stands
pub no_record : (first : Bool) (rest : List ℕ) (r : Refusal) → fault_of first rest ≡ Some r → NoRecord first rest
no_record first rest r h e tail writable start is = grind (arith, nat_tests, fine e tail writable)
