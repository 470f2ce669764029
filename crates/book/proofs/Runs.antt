-- Orders of rising number, taken from the front until a number of shares is reached.
use Rattle.std.proofs.Common.{◌≡◌, ℕ, suc, ◌+◌, ◌-◌, ◌<◌, ◌≤◌, Bool, true, false, cond, ltb, List, [], ◌∷◌, length, take, filter, sym, refl, ap, ◌∙◌, ⊎_elim, add-zero, add_assoc, arith}
use Rattle.std.specs.List.{list_all}
use Rattle.std.proofs.lemmas.List.Sums.{sum_by-cons}
use Rattle.std.proofs.lemmas.Bool.{and_parts, cases_lt, le-ltb, lt-ltb, cond-true, cond-false}
use Rattle.book.specs.Law.{but_last, shares_in}
use Rattle.book.specs.Orders.{rises}
use Rattle.book.specs.declared.order.Order.{Order}
use Rattle.book.proofs.Ahead.{none_below}

-- two tests that agree on what passes a third
pub kept_agree : {X : Type 0} (h p q : X → Bool) (xs : List X) → list_all h xs ≡ true → ((x : X) → h x ≡ true → p x ≡ q x) → filter p xs ≡ filter q xs
kept_agree h p q [] all same = refl
kept_agree h p q (x ∷ xs) all same =
    let parts = and_parts (h x) (list_all h xs) all in
    ap (λ b. cond b (x ∷ filter p xs) (filter p xs)) (same x parts.0) ∙ ap (λ l. cond (q x) (x ∷ l) l) (kept_agree h p q xs parts.1 same)

-- the order has fewer than `limit` shares before it, where `sum` shares stand before the list
abbrev pub fewer : ℕ → ℕ → List Order → Order → Bool
fewer limit sum xs o = ltb (sum + shares_in (filter (λ y. ltb y.number o.number) xs)) limit

-- orders from the front, while fewer than `limit` shares stand before
abbrev pub run : ℕ → ℕ → List Order → List Order
run limit sum [] = []
run limit sum (x ∷ xs) = cond (ltb sum limit) (x ∷ run limit (sum + x.shares) xs) []

fewer_head : (limit sum : ℕ) (x : Order) (xs : List Order) → rises (x ∷ xs) ≡ true → fewer limit sum (x ∷ xs) x ≡ ltb sum limit
fewer_head limit sum x xs up =
    let p = and_parts (list_all (λ y. ltb x.number y.number) xs) (rises xs) up in
    let no : ltb x.number x.number ≡ false = le-ltb _ _ (omega arith) in
    let none = cond-false (ltb x.number x.number) (x ∷ filter (λ y. ltb y.number x.number) xs) (filter (λ y. ltb y.number x.number) xs) no ∙ none_below x.number x xs (omega arith) p.0 in
    ap (λ l. ltb (sum + shares_in l) limit) none ∙ ap (λ n. ltb n limit) (add-zero sum)

fewer_tail : (limit sum : ℕ) (x : Order) (xs : List Order) (o : Order) → ltb x.number o.number ≡ true → fewer limit sum (x ∷ xs) o ≡ fewer limit (sum + x.shares) xs o
fewer_tail limit sum x xs o later =
    let rest = filter (λ y. ltb y.number o.number) xs in
    ap (λ l. ltb (sum + shares_in l) limit) (cond-true (ltb x.number o.number) (x ∷ rest) rest later)
    ∙ ap (λ n. ltb (sum + n) limit) (sum_by-cons (λ o. o.shares) x rest)
    ∙ ap (λ n. ltb n limit) (sym (add_assoc sum x.shares (shares_in rest)))

none_fewer : (limit sum : ℕ) (all xs : List Order) → limit ≤ sum → filter (fewer limit sum all) xs ≡ []
none_fewer limit sum all [] far = refl
none_fewer limit sum all (x ∷ xs) far =
    let no : fewer limit sum all x ≡ false = le-ltb _ _ (omega arith) in
    cond-false _ _ _ no ∙ none_fewer limit sum all xs far

-- in a list whose numbers rise, the orders with fewer shares before them are a run from the front
pub fewer_run : (limit sum : ℕ) (xs : List Order) → rises xs ≡ true → filter (fewer limit sum xs) xs ≡ run limit sum xs
fewer_run limit sum [] up = refl
fewer_run limit sum (x ∷ xs) up =
    let p = and_parts (list_all (λ y. ltb x.number y.number) xs) (rises xs) up in
    let tail = kept_agree (λ o. ltb x.number o.number) (fewer limit sum (x ∷ xs)) (fewer limit (sum + x.shares) xs) xs p.0 (λ o h. fewer_tail limit sum x xs o h) in
    let first = ap (λ b. cond b (x ∷ filter (fewer limit sum (x ∷ xs)) xs) (filter (fewer limit sum (x ∷ xs)) xs)) (fewer_head limit sum x xs up) in
    ⊎_elim
    (λ near.
    let yes : ltb sum limit ≡ true = lt-ltb _ _ near in
    first ∙ cond-true (ltb sum limit) _ _ yes ∙ ap (λ l. x ∷ l) (tail ∙ fewer_run limit (sum + x.shares) xs p.1) ∙ sym (cond-true (ltb sum limit) (x ∷ run limit (sum + x.shares) xs) [] yes))
    (λ far.
    let no : ltb sum limit ≡ false = le-ltb _ _ far in
    first ∙ cond-false (ltb sum limit) _ _ no ∙ tail ∙ none_fewer limit (sum + x.shares) xs xs (omega arith) ∙ sym (cond-false (ltb sum limit) (x ∷ run limit (sum + x.shares) xs) [] no))
    (cases_lt sum limit)

-- a run is a front
pub run_front : (limit sum : ℕ) (xs : List Order) → run limit sum xs ≡ take (length (run limit sum xs)) xs
run_front limit sum [] = refl
run_front limit sum (x ∷ xs) =
    elim (ltb sum limit) as (λ b. cond b (x ∷ run limit (sum + x.shares) xs) [] ≡ take (length (cond b (x ∷ run limit (sum + x.shares) xs) [])) (x ∷ xs))
    [ true ↦ ap (λ l. x ∷ l) (run_front limit (sum + x.shares) xs) | false ↦ refl ]

-- a run goes over the whole list where its shares stay below the limit
pub run_whole : (limit sum : ℕ) (xs : List Order) → sum + shares_in xs < limit → run limit sum xs ≡ xs
run_whole limit sum [] low = refl
run_whole limit sum (x ∷ xs) low =
    let cons = sum_by-cons (λ o. o.shares) x xs in
    let yes : ltb sum limit ≡ true = lt-ltb _ _ (omega arith) in
    cond-true (ltb sum limit) (x ∷ run limit (sum + x.shares) xs) [] yes ∙ ap (λ l. x ∷ l) (run_whole limit (sum + x.shares) xs (omega (arith, cons)))

but_last_cons : (x y : Order) (ys : List Order) → but_last (x ∷ y ∷ ys) ≡ x ∷ but_last (y ∷ ys)
but_last_cons x y ys =
    let long : length (x ∷ y ∷ ys) - 1 ≡ suc (length ys) = omega arith in
    let short : length (y ∷ ys) - 1 ≡ length ys = omega arith in
    ap (λ n. take n (x ∷ y ∷ ys)) long ∙ ap (λ n. x ∷ take n (y ∷ ys)) (sym short)

but_last_one : (x : Order) → but_last (x ∷ []) ≡ []
but_last_one x = let none : length (x ∷ []) - 1 ≡ 0 = omega arith in ap (λ n. take n (x ∷ [])) none

reached_cons : (limit sum : ℕ) (x : Order) (r : List Order) → sum < limit → (0 < length r → sum + x.shares + shares_in (but_last r) < limit) → sum + shares_in (but_last (x ∷ r)) < limit
reached_cons limit sum x [] near h = omega (arith, ap shares_in (but_last_one x))
reached_cons limit sum x (y ∷ ys) near h =
    omega (arith, ap shares_in (but_last_cons x y ys), sum_by-cons (λ o. o.shares) x (but_last (y ∷ ys)), h (omega arith))

-- a run without its last order stays below the limit
pub run_reached : (limit sum : ℕ) (xs : List Order) → 0 < length (run limit sum xs) → sum + shares_in (but_last (run limit sum xs)) < limit
run_reached limit sum [] some = absurd (omega arith)
run_reached limit sum (x ∷ xs) some =
    ⊎_elim
    (λ near.
    let all = cond-true (ltb sum limit) (x ∷ run limit (sum + x.shares) xs) [] (lt-ltb _ _ near) in
    let rest = reached_cons limit sum x (run limit (sum + x.shares) xs) near (run_reached limit (sum + x.shares) xs) in
    omega (arith, ap (λ l. shares_in (but_last l)) all, rest))
    (λ far.
    let none = cond-false (ltb sum limit) (x ∷ run limit (sum + x.shares) xs) [] (le-ltb _ _ far) in
    absurd (omega (arith, ap length none, some)))
    (cases_lt sum limit)
