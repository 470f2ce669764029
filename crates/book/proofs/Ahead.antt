-- In a book whose numbers rise, the shares ahead of a number lie at the front of the book.
use Rattle.std.proofs.Common.{◌≡◌, ℕ, zero, suc, ◌+◌, ◌<◌, ◌≤◌, Bool, true, false, cond, ltb, List, [], ◌∷◌, length, get_or, take, sum_by, filter, sym, refl, ap, ◌∙◌, ⊎_elim, add-one, arith, take_all}
use Rattle.std.specs.List.{list_all}
use Rattle.std.proofs.lemmas.List.Sums.{sum_by-cons, sum_by_more}
use Rattle.std.proofs.lemmas.Bool.{and_parts, cases_lt, ltb-true, le-ltb, lt-ltb, cond-true, cond-false}
use Rattle.market.proofs.Fronts.{sum_kept}
use Rattle.market.specs.Sums.{shares_on}
use Rattle.market.specs.declared.side.MarketSide.{MarketSide}
use Rattle.book.specs.Orders.{no_order, rises}
use Rattle.book.specs.Sales.{ahead, eligible}
use Rattle.book.specs.declared.order.Order.{Order}
use Rattle.book.specs.declared.sale.RoundLot.{RoundLot}

-- what an order adds to the eligible shares of a side
abbrev pub weight : RoundLot → MarketSide → Order → ℕ
weight s which o = cond (eligible s o) (shares_on which o.side o.shares) 0

pub ahead_is : (s : RoundLot) (book : List Order) (which : MarketSide) (n : ℕ) → ahead s book which n ≡ sum_by (weight s which) (filter (λ x. ltb x.number n) book)
unfolding ahead
ahead_is s book which n = sum_kept (λ o. shares_on which o.side o.shares) (eligible s) (filter (λ x. ltb x.number n) book)

pub pass_at : {X : Type 0} (p : X → Bool) (xs : List X) (k : ℕ) (d : X) → k < length xs → list_all p xs ≡ true → p (get_or xs k d) ≡ true
pass_at p [] k d within h = absurd (omega arith)
pass_at p (x ∷ xs) zero d within h = (and_parts (p x) (list_all p xs) h).0
pass_at p (x ∷ xs) (suc k) d within h = pass_at p xs k d (omega arith) (and_parts (p x) (list_all p xs) h).1

-- a part of a book holds no more than the whole
pub part_le : {X : Type 0} (w : X → ℕ) (p : X → Bool) (xs : List X) → sum_by w (filter p xs) ≤ sum_by w xs
part_le w p [] = omega arith
part_le w p (x ∷ xs) =
    let rest = part_le w p xs in
    let whole = sum_by-cons w x xs in
    let with_x = sum_by-cons w x (filter p xs) in
    elim (p x) as (λ b. sum_by w (cond b (x ∷ filter p xs) (filter p xs)) ≤ sum_by w (x ∷ xs)) [ true ↦ omega arith | false ↦ omega arith ]

-- numbers above n are not below it
pub none_below : (n : ℕ) (x : Order) (xs : List Order) → n ≤ x.number → list_all (λ y. ltb x.number y.number) xs ≡ true → filter (λ y. ltb y.number n) xs ≡ []
none_below n x [] le h = refl
none_below n x (y ∷ ys) le h =
    let p = and_parts (ltb x.number y.number) (list_all (λ z. ltb x.number z.number) ys) h in
    let lt : x.number < y.number = ltb-true _ _ p.0 in
    let no : ltb y.number n ≡ false = le-ltb _ _ (omega arith) in
    cond-false _ _ _ no ∙ none_below n x ys le p.1

-- up to the number of the order at a place, the shares ahead lie before that place
pub ahead_front : (w : Order → ℕ) (book : List Order) (i n : ℕ) (d : Order) → rises book ≡ true → i < length book → n ≤ (get_or book i d).number → sum_by w (filter (λ x. ltb x.number n) book) ≤ sum_by w (take i book)
ahead_front w [] i n d up within le = absurd (omega arith)
ahead_front w (x ∷ xs) zero n d up within le =
    let p = and_parts (list_all (λ y. ltb x.number y.number) xs) (rises xs) up in
    let no : ltb x.number n ≡ false = le-ltb _ _ le in
    let none = cond-false (ltb x.number n) (x ∷ filter (λ y. ltb y.number n) xs) _ no ∙ none_below n x xs le p.0 in
    omega (arith, ap (sum_by w) none)
ahead_front w (x ∷ xs) (suc i) n d up within le =
    let p = and_parts (list_all (λ y. ltb x.number y.number) xs) (rises xs) up in
    let rest = ahead_front w xs i n d p.1 (omega arith) le in
    let whole = sum_by-cons w x (take i xs) in
    let with_x = sum_by-cons w x (filter (λ y. ltb y.number n) xs) in
    elim (ltb x.number n) as (λ b. sum_by w (cond b (x ∷ filter (λ y. ltb y.number n) xs) (filter (λ y. ltb y.number n) xs)) ≤ sum_by w (x ∷ take i xs)) [ true ↦ omega arith | false ↦ omega arith ]

-- past that number, the order at the place and all before it are ahead
pub ahead_past : (w : Order → ℕ) (book : List Order) (i n : ℕ) (d : Order) → rises book ≡ true → i < length book → (get_or book i d).number < n → sum_by w (take (suc i) book) ≤ sum_by w (filter (λ x. ltb x.number n) book)
ahead_past w [] i n d up within lt = absurd (omega arith)
ahead_past w (x ∷ xs) zero n d up within lt =
    let yes : ltb x.number n ≡ true = lt-ltb _ _ lt in
    let all = cond-true (ltb x.number n) (x ∷ filter (λ y. ltb y.number n) xs) (filter (λ y. ltb y.number n) xs) yes in
    omega (arith, ap (sum_by w) all, sum_by-cons w x (filter (λ y. ltb y.number n) xs), sum_by-cons w x [])
ahead_past w (x ∷ xs) (suc i) n d up within lt =
    let p = and_parts (list_all (λ y. ltb x.number y.number) xs) (rises xs) up in
    let inner : i < length xs = omega arith in
    let first : x.number < (get_or xs i d).number = ltb-true _ _ (pass_at (λ y. ltb x.number y.number) xs i d inner p.0) in
    let yes : ltb x.number n ≡ true = lt-ltb _ _ (omega arith) in
    let all = cond-true (ltb x.number n) (x ∷ filter (λ y. ltb y.number n) xs) (filter (λ y. ltb y.number n) xs) yes in
    let rest = ahead_past w xs i n d p.1 inner lt in
    omega (arith, ap (sum_by w) all, sum_by-cons w x (filter (λ y. ltb y.number n) xs), sum_by-cons w x (take (suc i) xs))

-- where a sum down the book reaches the limit, the order at that place is the last with fewer shares ahead
pub cut_at : (s : RoundLot) (book : List Order) (which : MarketSide) (limit sum v i : ℕ) → rises book ≡ true → i < length book → sum ≡ sum_by (weight s which) (take i book) → v ≡ weight s which (get_or book i no_order) → sum < limit → limit ≤ sum + v → (n : ℕ) → ltb (ahead s book which n) limit ≡ ltb n ((get_or book i no_order).number + 1)
cut_at s book which limit sum v i up within is vis low high n =
    let w = weight s which in
    let m = (get_or book i no_order).number in
    let at = ahead_is s book which n in
    let more = sum_by_more w book i no_order within in
    ⊎_elim
    (λ past.
    let far = rw (sym (add-one i)) at (ahead_past w book i n no_order up within past) in
    le-ltb (ahead s book which n) limit (omega (arith, at, far, more, is, vis)) ∙ sym (le-ltb n (m + 1) (omega arith)))
    (λ upto.
    let near = ahead_front w book i n no_order up within upto in
    lt-ltb (ahead s book which n) limit (omega (arith, at, near, is)) ∙ sym (lt-ltb n (m + 1) (omega arith)))
    (cases_lt m n)

-- where it never does, every number has fewer shares ahead
pub cut_none : (s : RoundLot) (book : List Order) (which : MarketSide) (limit sum i : ℕ) → length book ≤ i → sum ≡ sum_by (weight s which) (take i book) → sum < limit → (n : ℕ) → ltb (ahead s book which n) limit ≡ true
cut_none s book which limit sum i through is low n =
    let all = ap (sum_by (weight s which)) (take_all i book through) in
    let part = part_le (weight s which) (λ x. ltb x.number n) book in
    lt-ltb (ahead s book which n) limit (omega (arith, ahead_is s book which n, all, part, is))
