-- What keeps a book a book: one order more, some fewer, stops elected.
use Rattle.std.proofs.Common.{◌≡◌, ℕ, ◌≤◌, Bool, true, false, cond, ◌&&◌, ltb, List, [], ◌∷◌, ◌++◌, map, length, filter, refl, ap, ◌∙◌, arith}
use Rattle.std.specs.List.{list_all}
use Rattle.std.proofs.lemmas.List.Folds.{list_all-map}
use Rattle.std.proofs.lemmas.List.Sums.{length-filter, count_by-le-length}
use Rattle.std.proofs.lemmas.Bool.{and_parts, and_from}
use Rattle.market.proofs.Passing.{pass_push}
use Rattle.book.specs.Orders.{is_new, lawful, rises}
use Rattle.book.specs.Sales.{elect}
use Rattle.book.specs.declared.order.Order.{Order}

pub kept_le : {X : Type 0} (p : X → Bool) (xs : List X) → length (filter p xs) ≤ length xs
kept_le p xs = omega (arith, length-filter p xs, count_by-le-length p xs)

-- one more at the end
pub rises_push : (book : List Order) (x : Order) → rises book ≡ true → is_new x.number book ≡ true → rises (book ++ x ∷ []) ≡ true
rises_push [] x up new = refl
rises_push (y ∷ ys) x up new =
    let parts = and_parts (list_all (λ z. ltb y.number z.number) ys) (rises ys) up in
    let news = and_parts (ltb y.number x.number) (is_new x.number ys) new in
    and_from _ _ (pass_push (λ z. ltb y.number z.number) ys x parts.0 news.0) (rises_push ys x parts.1 news.1)

-- some fewer
pub pass_kept : {X : Type 0} (q p : X → Bool) (xs : List X) → list_all q xs ≡ true → list_all q (filter p xs) ≡ true
pass_kept q p [] h = refl
pass_kept q p (x ∷ xs) h =
    let parts = and_parts (q x) (list_all q xs) h in
    let rest = pass_kept q p xs parts.1 in
    elim (p x) as (λ b. list_all q (cond b (x ∷ filter p xs) (filter p xs)) ≡ true) [ true ↦ and_from (q x) _ parts.0 rest | false ↦ rest ]

pub rises_kept : (p : Order → Bool) (book : List Order) → rises book ≡ true → rises (filter p book) ≡ true
rises_kept p [] h = refl
rises_kept p (x ∷ xs) h =
    let parts = and_parts (list_all (λ y. ltb x.number y.number) xs) (rises xs) h in
    let rest = rises_kept p xs parts.1 in
    elim (p x) as (λ b. rises (cond b (x ∷ filter p xs) (filter p xs)) ≡ true) [ true ↦ and_from _ _ (pass_kept (λ y. ltb x.number y.number) p xs parts.0) rest | false ↦ rest ]

-- an election changes neither numbers nor what is lawful
pub lawful_elect : (unit price : ℕ) (xs : List Order) → list_all (lawful unit) (map (elect price) xs) ≡ list_all (lawful unit) xs
lawful_elect unit price xs = list_all-map (lawful unit) (elect price) xs

pub rises_elect : (price : ℕ) (xs : List Order) → rises (map (elect price) xs) ≡ rises xs
rises_elect price [] = refl
rises_elect price (x ∷ xs) =
    ap (λ b. b && rises (map (elect price) xs)) (list_all-map (λ y. ltb x.number y.number) (elect price) xs)
    ∙ ap (λ b. list_all (λ y. ltb x.number y.number) xs && b) (rises_elect price xs)
