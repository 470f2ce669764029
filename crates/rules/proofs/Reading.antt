-- Numbers read back as terms.
use Rattle.std.proofs.Common.{◌≡◌, ℕ, eqb, List, [], ◌∷◌, Some, None, Ok, Err, Result, sym, refl, ◌∙◌, subst}
use Rattle.std.specs.List.{find}
use Rattle.std.specs.Result.{result_ok}
use Rattle.std.proofs.lemmas.Bool.{cond-false, ne_eqb}
use Rattle.market.specs.Terms.{Reads, kind_number, side_number}
use Rattle.market.specs.declared.kind.Kind.{Kind}
use Rattle.market.specs.declared.kind.Kind.TheVariants.{Market, Limit, Stop, StopLimit}
use Rattle.market.specs.declared.side.Side.{Side}
use Rattle.market.specs.declared.side.Side.TheVariants.{Buy, SellLong, SellShort}
use Rattle.market.specs.declared.numbered.UnknownNumber.{UnknownNumber}
use Rattle.rules.specs.Machine.{kind_of, side_of}

none_read : {X : Type 0} (number : X → ℕ) (xs : List X) (n : ℕ) → ((x : X) → number x ≡ n → ⊥) → find (λ x. eqb (number x) n) xs ≡ None
none_read number [] n none = refl
none_read number (x ∷ xs) n none = cond-false _ _ _ (ne_eqb (number x) n (none x)) ∙ none_read number xs n none

-- where every term is found by its own number, reading a number is finding it
read_is : {X : Type 0} (number : X → ℕ) (xs : List X) → ((x : X) → Some x ≡ find (λ y. eqb (number y) (number x)) xs) → (n : ℕ) (r : Result X UnknownNumber) → Reads number n r → result_ok r ≡ find (λ x. eqb (number x) n) xs
read_is number xs own n (Ok x) e = subst (λ m. Some x ≡ find (λ y. eqb (number y) m) xs) e (own x)
read_is number xs own n (Err e) h = sym (none_read number xs n h.1)

own_side : (x : Side) → Some x ≡ side_of (side_number x)
own_side Buy = refl
own_side SellLong = refl
own_side SellShort = refl

own_kind : (x : Kind) → Some x ≡ kind_of (kind_number x)
own_kind Market = refl
own_kind Limit = refl
own_kind Stop = refl
own_kind StopLimit = refl

pub side_read : (n : ℕ) (r : Result Side UnknownNumber) → Reads side_number n r → result_ok r ≡ side_of n
side_read n r h = read_is side_number (Buy ∷ SellLong ∷ SellShort ∷ []) own_side n r h

pub kind_read : (n : ℕ) (r : Result Kind UnknownNumber) → Reads kind_number n r → result_ok r ≡ kind_of n
kind_read n r h = read_is kind_number (Market ∷ Limit ∷ Stop ∷ StopLimit ∷ []) own_kind n r h
