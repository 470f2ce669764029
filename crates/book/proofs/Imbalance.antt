-- What follows from the law of trades for the two sides together: the shares bought and the shares sold by a trade
-- differ by at most the volume plus the unit less 2.
use Rattle.std.proofs.Common.{◌≡◌, ℕ, ◌+◌, ◌<◌, ◌≤◌, Bool, true, false, cond, ◌&&◌, ltb, leb, ◌⊎◌, List, [], ◌∷◌, sym, refl, ap, ◌∙◌, inl, inr, ⊎_elim, arith}
use Rattle.std.specs.List.{list_all}
use Rattle.std.proofs.lemmas.List.Sums.{sum_by-cons}
use Rattle.std.proofs.lemmas.Bool.{and_parts, and_from, cases_lt, le-ltb, lt-ltb, ltb-true, cond-true, cond-false}
use Rattle.market.proofs.Fronts.{sum_kept}
use Rattle.market.specs.Limits.{is_unit}
use Rattle.market.specs.Sums.{shares_on}
use Rattle.market.specs.declared.side.MarketSide.{MarketSide}
use Rattle.market.specs.declared.side.MarketSide.TheVariants.{Buying, Selling}
use Rattle.book.specs.Law.{eligible_on, filled_on, on, shares_in}
use Rattle.market.specs.Terms.{has_limit, has_stop}
use Rattle.book.specs.Orders.{lawful, rises, suits}
use Rattle.book.specs.Sales.{eligible, eligible_shares, matched, reach}
use Rattle.book.specs.declared.order.Order.{Order}
use Rattle.book.specs.declared.sale.RoundLot.{RoundLot}
use Rattle.book.proofs.Books.{pass_kept}
use Rattle.book.proofs.Runs.{run, run_whole}
use Rattle.book.proofs.Trades.{filled_run, sum_same, weighs}

-- a run holds what its list holds, or reaches the limit
run_enough : (limit sum : ℕ) (xs : List Order) → shares_in xs + sum < limit → shares_in (run limit sum xs) ≡ shares_in xs
run_enough limit sum xs low = ap shares_in (run_whole limit sum xs (omega arith))

run_least : (limit sum : ℕ) (xs : List Order) → limit ≤ sum + shares_in xs → limit ≤ sum + shares_in (run limit sum xs)
run_least limit sum [] high = omega arith
run_least limit sum (x ∷ xs) high =
    let cons = sum_by-cons (λ o. o.shares) x xs in
    ⊎_elim
    (λ near.
    let all = cond-true (ltb sum limit) (x ∷ run limit (sum + x.shares) xs) [] (lt-ltb _ _ near) in
    let grown = sum_by-cons (λ o. o.shares) x (run limit (sum + x.shares) xs) in
    let rest = run_least limit (sum + x.shares) xs (omega (arith, cons)) in
    omega (arith, ap shares_in all, grown, rest))
    (λ far. omega arith)
    (cases_lt sum limit)

run_stops : (limit sum : ℕ) (xs : List Order) → limit ≤ sum → run limit sum xs ≡ []
run_stops limit sum [] far = refl
run_stops limit sum (x ∷ xs) far = cond-false (ltb sum limit) (x ∷ run limit (sum + x.shares) xs) [] (le-ltb _ _ far)

-- and passes the limit by no more than one order
run_most : (unit limit sum : ℕ) (xs : List Order) → 2 ≤ unit → sum < limit → list_all (λ o. ltb o.shares unit) xs ≡ true → sum + shares_in (run limit sum xs) + 2 ≤ limit + unit
run_most unit limit sum [] some near small = omega arith
run_most unit limit sum (x ∷ xs) some near small =
    let p = and_parts (ltb x.shares unit) (list_all (λ o. ltb o.shares unit) xs) small in
    let one : x.shares < unit = ltb-true _ _ p.0 in
    let all = cond-true (ltb sum limit) (x ∷ run limit (sum + x.shares) xs) [] (lt-ltb _ _ near) in
    let grown = sum_by-cons (λ o. o.shares) x (run limit (sum + x.shares) xs) in
    ⊎_elim
    (λ more. omega (arith, ap shares_in all, grown, run_most unit limit (sum + x.shares) xs some more p.1))
    (λ done. omega (arith, ap shares_in all, grown, ap shares_in (run_stops limit (sum + x.shares) xs done)))
    (cases_lt (sum + x.shares) limit)

-- a lawful order is smaller than the unit
small_lawful : (unit : ℕ) (xs : List Order) → list_all (lawful unit) xs ≡ true → list_all (λ o. ltb o.shares unit) xs ≡ true
small_lawful unit [] h = refl
small_lawful unit (x ∷ xs) h =
    let p = and_parts (lawful unit x) (list_all (lawful unit) xs) h in
    let l = and_parts (is_unit unit && leb 1 x.shares && ltb x.shares unit && suits (has_limit x.kind) x.limit) (suits (has_stop x.kind) x.stop) p.0 in
    let m = and_parts (is_unit unit && leb 1 x.shares && ltb x.shares unit) (suits (has_limit x.kind) x.limit) l.0 in
    let n = and_parts (is_unit unit && leb 1 x.shares) (ltb x.shares unit) m.0 in
    and_from (ltb x.shares unit) (list_all (λ o. ltb o.shares unit) xs) n.1 (small_lawful unit xs p.1)

-- the eligible shares of a side, as a sum over its eligible orders
eligible_shares_lem : (s : RoundLot) (which : MarketSide) (book : List Order) → eligible_shares s which book ≡ shares_in (eligible_on s book which)
eligible_shares_lem s which book =
    let here : Order → Bool = λ o. eligible s o && on which o in
    sum_kept (λ o. shares_on which o.side o.shares) (eligible s) book
    ∙ sum_same (λ o. cond (eligible s o) (shares_on which o.side o.shares) 0) (λ o. cond (here o) o.shares 0) (λ o. weighs (eligible s o) which o.side o.shares) book
    ∙ sym (sum_kept (λ o. o.shares) here book)

-- a side whose eligible shares are at least M: it is filled with at least M, and passes M + V by less than an order
side_filled : (s : RoundLot) (book : List Order) (unit : ℕ) (which : MarketSide) → rises book ≡ true → list_all (lawful unit) book ≡ true → 2 ≤ unit → s.opening ≡ false → 0 < s.volume → matched s book ≤ shares_in (eligible_on s book which) → (matched s book ≤ shares_in (filled_on s book which)) × (shares_in (filled_on s book which) + 2 ≤ reach s book + unit)
unfolding reach
side_filled s book unit which up good some trade any enough =
    let e = ap shares_in (filled_run s book which up trade) in
    let all = eligible_on s book which in
    let limit = reach s book in
    let small = small_lawful unit all (pass_kept (lawful unit) (λ o. eligible s o && on which o) book good) in
    let most = run_most unit limit 0 all some (omega arith) small in (
      ⊎_elim
          (λ low. omega (arith, e, ap shares_in (run_whole limit 0 all (omega arith))))
          (λ high. omega (arith, e, run_least limit 0 all (omega arith)))
          (cases_lt (shares_in all) limit),
      omega (arith, e, most),
    )

-- a side whose eligible shares are M is filled with M
side_whole : (s : RoundLot) (book : List Order) (which : MarketSide) → rises book ≡ true → s.opening ≡ false → 0 < s.volume → shares_in (eligible_on s book which) ≡ matched s book → shares_in (filled_on s book which) ≡ matched s book
unfolding reach
side_whole s book which up trade any e =
    ap shares_in (filled_run s book which up trade ∙ run_whole (reach s book) 0 (eligible_on s book which) (omega arith)) ∙ e

-- one of the sides has M eligible shares, the other no fewer
smaller : (s : RoundLot) (book : List Order) → ((shares_in (eligible_on s book Buying) ≡ matched s book) × (matched s book ≤ shares_in (eligible_on s book Selling))) ⊎ ((shares_in (eligible_on s book Selling) ≡ matched s book) × (matched s book ≤ shares_in (eligible_on s book Buying)))
unfolding matched
smaller s book =
    let b = eligible_shares_lem s Buying book in
    let c = eligible_shares_lem s Selling book in
    ⊎_elim
    (λ lt. inl (omega (arith, b, c), omega (arith, b, c)))
    (λ ge. inr (omega (arith, b, c), omega (arith, b, c)))
    (cases_lt (eligible_shares s Buying book) (eligible_shares s Selling book))

-- the shares bought and the shares sold by a trade differ by at most the volume plus the unit less 2
pub imbalance : (s : RoundLot) (book : List Order) (unit : ℕ) → rises book ≡ true → list_all (lawful unit) book ≡ true → 2 ≤ unit → s.opening ≡ false → 0 < s.volume → (shares_in (filled_on s book Buying) + 2 ≤ shares_in (filled_on s book Selling) + s.volume + unit) × (shares_in (filled_on s book Selling) + 2 ≤ shares_in (filled_on s book Buying) + s.volume + unit)
unfolding reach
imbalance s book unit up good some trade any =
    ⊎_elim
    (λ h.
    let small = side_whole s book Buying up trade any h.0 in
    let large = side_filled s book unit Selling up good some trade any h.1 in
    (omega (arith, small, large.0), omega (arith, small, large.1)))
    (λ h.
    let small = side_whole s book Selling up trade any h.0 in
    let large = side_filled s book unit Buying up good some trade any h.1 in
    (omega (arith, small, large.1), omega (arith, small, large.0)))
    (smaller s book)
