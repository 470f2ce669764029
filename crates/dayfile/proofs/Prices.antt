-- The price words of an order.
use Rattle.std.proofs.Common.{◌≡◌, ℕ, ◌+◌, ◌*◌, ◌/◌, ◌%◌, ◌≤◌, length, Bool, true, false, cond, List, [], ◌∷◌, ◌++◌, take, ◌≢◌, Ok, refl, rules, arith, Bor}
use Rattle.std.proofs.lemmas.Bool.Decides.{nat_tests}
use Rattle.market.specs.Terms.{kind_number}
use Rattle.market.specs.declared.kind.Kind.{Kind}
use Rattle.market.specs.declared.kind.Kind.TheVariants.{Limit, Stop, StopLimit}
use Rattle.dayfile.specs.Entries.{has_limit_word, has_stop_word}
use Rattle.dayfile.specs.Faults.{after_order, gaps_clear}
use Rattle.dayfile.specs.Reading.{WordRead, WordsRead, WordsStand}
use Rattle.dayfile.specs.Records.{Stands}
use Rattle.dayfile.specs.Words.{bytes_of, value_at, word}
use Rattle.dayfile.specs.declared.kind.WordKind.{WordKind}
use Rattle.dayfile.specs.declared.kind.WordKind.TheVariants.{Order as OrderWord, Limit as LimitWord, Stop as StopWord}
use Rattle.dayfile.specs.declared.record.Record.TheVariants.{Order}
use Rattle.dayfile.specs.declared.word.Rest.{Rest}
use Rattle.dayfile.specs.declared.word.Word.{Word}

-- a number that is no kind of order has none
pub no_prices : (n : ℕ) → ((x : Kind) → kind_number x ≢ n) → (has_limit_word n ≡ false) × (has_stop_word n ≡ false)
no_prices n none = (grind (arith, nat_tests, none Limit, none StopLimit), grind (arith, nat_tests, none Stop, none StopLimit))

abbrev kinds_of : Bool → Bool → List WordKind
kinds_of limit stop = cond limit (LimitWord ∷ []) [] ++ cond stop (StopWord ∷ []) []

stands_with : (b c : Bool) (rest : List ℕ) (v : ℕ) (p : Bor (List ℕ)) → has_limit_word (v / 256 % 256) ≡ b → has_stop_word (v / 256 % 256) ≡ c → gaps_clear v ≡ true → v ≡ value_at rest 0 → take 4 rest ≡ bytes_of (word OrderWord v) → 4 + 4 * length (kinds_of b c) ≤ length rest → p.now ≡ take (4 + 4 * length (kinds_of b c)) rest → WordsStand (kinds_of b c) rest 4 → Stands false rest (Order p)
stands_with true true rest v p hb hc clear value bytes long part words = search rules
stands_with true false rest v p hb hc clear value bytes long part words = search rules
stands_with false true rest v p hb hc clear value bytes long part words = search rules
stands_with false false rest v p hb hc clear value bytes long part words = search rules

-- an order, from its words
pub stands_order : (rest : Rest) (w : Word) (p : Bor (List ℕ)) → WordRead rest 0 (Ok w) → w.kind ≡ OrderWord → gaps_clear w.value ≡ true → WordsRead rest (after_order w.value) (Ok p) → Stands false rest.bytes.now (Order p)
stands_order rest w p read kind clear words =
    stands_with (has_limit_word (w.value / 256 % 256)) (has_stop_word (w.value / 256 % 256)) rest.bytes.now w.value p refl refl clear read.2 (rw kind at read.3) words.0 words.1 words.2
