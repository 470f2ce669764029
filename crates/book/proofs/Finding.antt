-- In a book whose numbers rise, a binary search finds what a search from the front finds.
use Rattle.std.proofs.Common.{◌≡◌, ◌≢◌, ℕ, zero, suc, ◌<◌, ◌≤◌, true, ltb, List, [], ◌∷◌, length, get_or, Some, None, Ok, Err, sym, refl, ap, ◌∙◌, arith}
use Rattle.std.specs.List.{list_all}
use Rattle.std.specs.List.Sorted.{IsSearchInRange, IsBinarySearchResult, IsNonDecreasingBy}
use Rattle.std.specs.Ordering.{nat_cmp, ordering_index}
use Rattle.std.proofs.lemmas.Cmp.{ranked}
use Rattle.std.proofs.lemmas.List.Sorted.{IsNonDecreasingBy-from_default}
use Rattle.std.proofs.lemmas.Bool.{and_parts, cond-true, cond-false, eq-eqb, ltb-true, ne_eqb}
use Rattle.std.proofs.lemmas.Bool.Decides.{nat_tests}
use Rattle.book.specs.Orders.{find_in, no_order, rises}
use Rattle.book.specs.declared.order.Order.{Order}
use Rattle.book.proofs.Ahead.{pass_at}

rises_at : (xs : List Order) (i j : ℕ) (d : Order) → rises xs ≡ true → i < j → j < length xs → (get_or xs i d).number < (get_or xs j d).number
rises_at [] i j d up lt within = absurd (omega arith)
rises_at (x ∷ xs) i zero d up lt within = absurd (omega arith)
rises_at (x ∷ xs) zero (suc j) d up lt within =
    let p = and_parts (list_all (λ y. ltb x.number y.number) xs) (rises xs) up in
    ltb-true _ _ (pass_at (λ y. ltb x.number y.number) xs j d (omega arith) p.0)
rises_at (x ∷ xs) (suc i) (suc j) d up lt within =
    let p = and_parts (list_all (λ y. ltb x.number y.number) xs) (rises xs) up in
    rises_at xs i j d p.1 (omega arith) (omega arith)

present : (xs : List Order) (i n : ℕ) (d : Order) → rises xs ≡ true → i < length xs → (get_or xs i d).number ≡ n → Some (get_or xs i d) ≡ find_in n xs
present [] i n d up within e = absurd (omega arith)
present (x ∷ xs) zero n d up within e = sym (cond-true _ _ _ (eq-eqb _ _ e))
present (x ∷ xs) (suc i) n d up within e =
    let p = and_parts (list_all (λ y. ltb x.number y.number) xs) (rises xs) up in
    let inner : i < length xs = omega arith in
    let less : x.number < (get_or xs i d).number = ltb-true _ _ (pass_at (λ y. ltb x.number y.number) xs i d inner p.0) in
    let ne : x.number ≢ n = λ z. omega arith in
    present xs i n d p.1 inner e ∙ sym (cond-false _ _ _ (ne_eqb _ _ ne))

absent : (xs : List Order) (n : ℕ) → ((k : ℕ) → k < length xs → (get_or xs k no_order).number ≢ n) → None ≡ find_in n xs
absent [] n apart = refl
absent (x ∷ xs) n apart = absent xs n (λ k h. apart (suc k) (omega arith)) ∙ sym (cond-false _ _ _ (ne_eqb _ _ (apart 0 (omega arith))))

module _ (xs : List Order) (up : rises xs ≡ true) (n : ℕ) where
  -- the comparisons with n rise along the book, as a binary search asks
  comparisons_rise : IsNonDecreasingBy (λ o. ordering_index (nat_cmp o.number n)) xs
  comparisons_rise = IsNonDecreasingBy-from_default (λ o. ordering_index (nat_cmp o.number n)) xs no_order (λ i j le within.
      let numbers : i < j → (get_or xs i no_order).number < (get_or xs j no_order).number = λ lt. rises_at xs i j no_order up lt within in
      grind (arith, nat_tests, numbers, λ (same : i ≡ j). ap (λ k. (get_or xs k no_order).number) same))

  -- what a binary search answers, and where the order stands
  pub at_found : (i : ℕ) → IsSearchInRange (Ok i) (length xs) → IsBinarySearchResult (λ o. nat_cmp o.number n) xs (Ok i) → Some (get_or xs i no_order) ≡ find_in n xs
  at_found i within equal = present xs i n no_order up within (ranked _ n _ (sym (equal no_order)))

  pub at_none : (i : ℕ) → IsBinarySearchResult (λ o. nat_cmp o.number n) xs (Err i) → None ≡ find_in n xs
  at_none i parted =
      absent xs n (λ k within e.
      let below = λ (lt : k < i). ranked _ n _ (sym ((parted comparisons_rise).0 k no_order (omega arith) lt)) in
      let above = λ (le : i ≤ k). ranked _ n _ (sym ((parted comparisons_rise).1 k no_order le within)) in
      grind (arith, below, above))
