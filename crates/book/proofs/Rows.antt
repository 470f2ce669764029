-- The rows of a pass, as loops meet them.
use Rattle.std.proofs.Common.{◌≡◌, ℕ, ◌+◌, ◌<◌, ◌≤◌, cond, not, List, [], ◌∷◌, ◌++◌, length, get_or, take, drop, set, is_some, Some, None, Option, sym, refl, ap, ◌∙◌, arith, length-append}
use Rattle.std.proofs.lemmas.List.{append_assoc, append-nil, drop_more, set_at, take_more, length_push, take-append-drop}
use Rattle.book.specs.Orders.{no_order}
use Rattle.std.proofs.lemmas.List.Elements.{filter_map-append}
use Rattle.std.specs.List.{cons_option}
use Rattle.book.specs.Passes.{rows_by, stays_by}
use Rattle.book.specs.declared.order.Order.{Order}
use Rattle.book.specs.declared.row.Row.{Row}

-- one order more
rows_more : (f : Order → Option Row) (xs : List Order) (i : ℕ) (r : Option Row) → i < length xs → r ≡ f (get_or xs i no_order) → rows_by f (take (i + 1) xs) ≡ rows_by f (take i xs) ++ cons_option r []
rows_more f xs i r within e =
    ap (rows_by f) (take_more xs i no_order within)
    ∙ filter_map-append f (take i xs) (get_or xs i no_order ∷ [])
    ∙ ap (λ o. rows_by f (take i xs) ++ cons_option o []) (sym e)

pub rows_more_no : (f : Order → Option Row) (xs : List Order) (i : ℕ) → i < length xs → None ≡ f (get_or xs i no_order) → rows_by f (take (i + 1) xs) ≡ rows_by f (take i xs)
rows_more_no f xs i within e = rows_more f xs i None within e ∙ append-nil (rows_by f (take i xs))

pub rows_more_yes : (f : Order → Option Row) (xs : List Order) (i : ℕ) (r : Row) → i < length xs → Some r ≡ f (get_or xs i no_order) → rows_by f (take (i + 1) xs) ≡ rows_by f (take i xs) ++ r ∷ []
rows_more_yes f xs i r within e = rows_more f xs i (Some r) within e

-- the rows of a front are no more than all rows
pub rows_front_le : (f : Order → Option Row) (xs : List Order) (i : ℕ) → length (rows_by f (take i xs)) ≤ length (rows_by f xs)
rows_front_le f xs i =
    let whole = ap (λ l. length (rows_by f l)) (take-append-drop i xs) in
    let parts = ap length (filter_map-append f (take i xs) (drop i xs)) ∙ length-append (rows_by f (take i xs)) (rows_by f (drop i xs)) in
    omega (arith, whole, parts)

-- one row more has its place
pub rows_room : (f : Order → Option Row) (xs : List Order) (i n m : ℕ) (r : Row) → i < length xs → Some r ≡ f (get_or xs i no_order) → n ≡ length (rows_by f (take i xs)) → length (rows_by f xs) ≤ m → n < m
rows_room f xs i n m r within e at room =
    let more = ap length (rows_more_yes f xs i r within e) ∙ length_push (rows_by f (take i xs)) r in
    omega (arith, more, rows_front_le f xs (i + 1))

-- a row is written behind those of the front
pub write_more : (f : Order → Option Row) (xs : List Order) (i n : ℕ) (r : Row) (ys zs : List Row) → i < length xs → Some r ≡ f (get_or xs i no_order) → ys ≡ rows_by f (take i xs) ++ drop n zs → n ≡ length (rows_by f (take i xs)) → n < length zs → set ys n r ≡ rows_by f (take (i + 1) xs) ++ drop (n + 1) zs
write_more f xs i n r ys zs within e is at room =
    let front = rows_by f (take i xs) in
    ap (λ l. set l n r) (is ∙ ap (λ l. front ++ l) (drop_more zs n r room))
    ∙ set_at front (get_or zs n r) (drop (n + 1) zs) r n (sym at)
    ∙ sym (ap (λ l. l ++ drop (n + 1) zs) (rows_more_yes f xs i r within e) ∙ append_assoc front (r ∷ []) (drop (n + 1) zs))

-- two passes that take out the same orders with the same rows
pub rows_same : (f g : Order → Option Row) → ((o : Order) → f o ≡ g o) → (xs : List Order) → rows_by f xs ≡ rows_by g xs
rows_same f g same [] = refl
rows_same f g same (x ∷ xs) = ap (λ r. cons_option r (rows_by f xs)) (same x) ∙ ap (cons_option (g x)) (rows_same f g same xs)

pub stays_same : (f g : Order → Option Row) → ((o : Order) → f o ≡ g o) → (xs : List Order) → stays_by f xs ≡ stays_by g xs
stays_same f g same [] = refl
stays_same f g same (x ∷ xs) =
    ap (λ r. cond (not (is_some r)) (x ∷ stays_by f xs) (stays_by f xs)) (same x)
    ∙ ap (λ l. cond (not (is_some (g x))) (x ∷ l) l) (stays_same f g same xs)
