-- A play that is not cut off has printed every line.
use Rattle.std.proofs.Common.{◌≡◌, ℕ, ◌/◌, ◌%◌, List, [], ◌∷◌, ◌++◌, length, take, drop, Err, Option, Result, sym, refl, ap, ◌∙◌, subst, inl, inr, append-nil}
use Rattle.std.proofs.lemmas.List.{take_at}
use Rattle.market.specs.declared.refusal.Refusal.{Refusal}
use Rattle.market.specs.declared.refusal.Refusal.TheVariants.{OutputShort}
use Rattle.dayfile.specs.declared.fault.Fault.{Fault}
use Rattle.play.proofs.Packed.{unpacked}
use Rattle.play.specs.Endings.{end_number, end_of}
use Rattle.play.specs.Lines.{texts_of}
use Rattle.play.specs.Plays.{Played, PlayedOrNoMemory, lines_of}
use Rattle.play.specs.declared.ending.Ending.{Ending}
use Rattle.play.specs.declared.line.Line.{Line}
use Rattle.odd_lot_day.specs.Wholes.{WholeText}

-- the front of a list, by a number that is the same
pub front_by : (n m : ℕ) (kept xs : List ℕ) → kept ≡ take n xs → n ≡ m → kept ≡ take m xs
front_by n m kept xs front same = front ∙ ap (λ k. take k xs) same

-- nothing is cut off where the lines do not end with 18
none_cut : (cut : List Line) (fault : Option Fault) (end : Result (Unit {0}) Refusal) → end ≡ end_of cut fault → (end ≡ Err OutputShort → ⊥) → cut ≡ []
none_cut [] fault end is not_IsShort = refl
none_cut (l ∷ ls) fault end is not_IsShort = absurd (not_IsShort is)

pub whole_text : (file was out : List ℕ) (e : Ending) → Played file was out e → (e.end ≡ Err OutputShort → ⊥) → WholeText file (take e.written out)
whole_text file was out e p not_IsShort =
    let t = texts_of p.shown in
    let none = none_cut p.cut p.fault e.end p.end not_IsShort in
    let all : lines_of p.entries p.fault ≡ p.shown = p.shows.split ∙ ap (λ l. p.shown ++ l) none ∙ append-nil p.shown in
    record {
      entries = p.entries;
      fault = p.fault;
      reads = p.reads;
      only = p.only;
      text = ap (λ n. take n out) p.written ∙ ap (take (length t)) p.shows.bytes ∙ take_at t (drop (length t) was) (length t) refl ∙ ap texts_of (sym all);
    }

-- the same of the one number that a host in C is answered: it ends neither in 31, for want of memory, nor in 18
pub whole_answer : (file was out : List ℕ) (answer : ℕ) → PlayedOrNoMemory file was out answer → (answer % 32 ≡ 31 → ⊥) → (answer % 32 ≡ 18 → ⊥) → WholeText file (take (answer / 32) out)
whole_answer file was out answer (inl (e, p, is)) memory not_IsShort =
    let apart = unpacked e in
    subst (λ n. WholeText file (take n out)) (sym (ap (λ n. n / 32) is ∙ apart.0))
    (whole_text file was out e p (λ short. not_IsShort (ap (λ n. n % 32) is ∙ apart.1 ∙ ap end_number short)))
whole_answer file was out answer (inr none) memory not_IsShort = absurd (memory (ap (λ n. n % 32) none.1))
