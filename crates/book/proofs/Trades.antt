-- The law of trades.
use Rattle.std.proofs.Common.{◌≡◌, ℕ, ◌+◌, ◌<◌, Bool, true, false, cond, ◌&&◌, ◌||◌, ltb, List, [], ◌∷◌, length, take, sum_by, filter, sym, refl, ap, ◌∙◌, zero-add, arith}
use Rattle.std.proofs.lemmas.List.Sums.{sum_by-cons}
use Rattle.market.proofs.Fronts.{sum_kept}
use Rattle.market.specs.Sums.{shares_on}
use Rattle.market.specs.Terms.{market_side}
use Rattle.market.specs.declared.side.MarketSide.{MarketSide}
use Rattle.market.specs.declared.side.MarketSide.TheVariants.{Buying, Selling}
use Rattle.market.specs.declared.side.Side.{Side}
use Rattle.market.specs.declared.side.Side.TheVariants.{Buy, SellLong, SellShort}
use Rattle.book.specs.Law.{TradeLaw, but_last, eligible_on, filled_on, on, same_side, shares_in}
use Rattle.book.specs.Orders.{rises}
use Rattle.book.specs.Sales.{ahead, eligible, filled, is_market, matched, reach}
use Rattle.book.specs.declared.order.Order.{Order}
use Rattle.book.specs.declared.sale.RoundLot.{RoundLot}
use Rattle.book.proofs.Ahead.{ahead_is, weight}
use Rattle.book.proofs.Books.{rises_kept}
use Rattle.std.proofs.Math.Bool.{and_comm}
use Rattle.std.proofs.lemmas.List.Elements.{filter_agree}
use Rattle.book.proofs.Runs.{fewer, fewer_run, run, run_front, run_reached, run_whole}

-- one test after another
kept_and : {X : Type 0} (a b : X → Bool) (xs : List X) → filter b (filter a xs) ≡ filter (λ x. a x && b x) xs
kept_and a b [] = refl
kept_and a b (x ∷ xs) =
    let rest = kept_and a b xs in
    elim (a x) as (λ t. filter b (cond t (x ∷ filter a xs) (filter a xs)) ≡ cond (t && b x) (x ∷ filter (λ y. a y && b y) xs) (filter (λ y. a y && b y) xs))
    [ true ↦ ap (λ l. cond (b x) (x ∷ l) l) rest | false ↦ rest ]

kept_swap : {X : Type 0} (a b : X → Bool) (xs : List X) → filter a (filter b xs) ≡ filter b (filter a xs)
kept_swap a b xs = kept_and b a xs ∙ filter_agree (λ x. b x && a x) (λ x. a x && b x) (λ x. and_comm (b x) (a x)) xs ∙ sym (kept_and a b xs)

pub sum_same : {X : Type 0} (f g : X → ℕ) → ((x : X) → f x ≡ g x) → (xs : List X) → sum_by f xs ≡ sum_by g xs
sum_same f g same [] = refl
sum_same f g same (x ∷ xs) = sum_by-cons f x xs ∙ ap (λ n. n + sum_by f xs) (same x) ∙ ap (λ n. g x + n) (sum_same f g same xs) ∙ sym (sum_by-cons g x xs)

-- what an order adds to the eligible shares of a side are its shares, where it is one of its eligible orders
pub weighs : (e : Bool) (which : MarketSide) (side : Side) (n : ℕ) → cond e (shares_on which side n) 0 ≡ cond (e && same_side which (market_side side)) n 0
weighs true Buying Buy n = refl
weighs true Buying SellLong n = refl
weighs true Buying SellShort n = refl
weighs true Selling Buy n = refl
weighs true Selling SellLong n = refl
weighs true Selling SellShort n = refl
weighs false which side n = refl

-- the shares ahead lie among the eligible orders of the side
ahead_shares : (s : RoundLot) (book : List Order) (which : MarketSide) (n : ℕ) → ahead s book which n ≡ shares_in (filter (λ x. ltb x.number n) (eligible_on s book which))
ahead_shares s book which n =
    let early : Order → Bool = λ x. ltb x.number n in
    let here : Order → Bool = λ o. eligible s o && on which o in
    ahead_is s book which n
    ∙ sum_same (weight s which) (λ o. cond (here o) o.shares 0) (λ o. weighs (eligible s o) which o.side o.shares) (filter early book)
    ∙ sym (sum_kept (λ o. o.shares) here (filter early book))
    ∙ ap shares_in (kept_swap here early book)

-- in a trade an order of a side is filled when it is eligible and has fewer shares ahead than M + V
parts : (e q : Bool) (which : MarketSide) (side : Side) (r : MarketSide → Bool) → q ≡ r which → (e && r (market_side side)) && same_side which (market_side side) ≡ (e && same_side which (market_side side)) && q
parts false q which side r h = refl
parts true q Buying Buy r h = and_comm (r Buying) true ∙ sym h
parts true q Buying SellLong r h = and_comm (r Selling) false
parts true q Buying SellShort r h = and_comm (r Selling) false
parts true q Selling Buy r h = and_comm (r Buying) false
parts true q Selling SellLong r h = and_comm (r Selling) true ∙ sym h
parts true q Selling SellShort r h = and_comm (r Selling) true ∙ sym h

trade_test : (s : RoundLot) (book : List Order) (o : Order) → s.opening ≡ false → filled s book o ≡ eligible s o && ltb (ahead s book (market_side o.side) o.number) (reach s book)
trade_test s book o trade =
    ap (λ b. eligible s o && ((b && is_market o.kind o.elected) || ltb (ahead s book (market_side o.side) o.number) (reach s book))) trade

filled_test : (s : RoundLot) (book : List Order) (which : MarketSide) → s.opening ≡ false → (o : Order) → filled s book o && on which o ≡ (eligible s o && on which o) && fewer (reach s book) 0 (eligible_on s book which) o
filled_test s book which trade o =
    ap (λ b. b && on which o) (trade_test s book o trade)
    ∙ parts (eligible s o) (fewer (reach s book) 0 (eligible_on s book which) o) which o.side (λ side. ltb (ahead s book side o.number) (reach s book))
    (ap (λ n. ltb n (reach s book)) (zero-add (shares_in (filter (λ x. ltb x.number o.number) (eligible_on s book which))) ∙ sym (ahead_shares s book which o.number)))

-- on each side a trade fills a run of the eligible orders
pub filled_run : (s : RoundLot) (book : List Order) (which : MarketSide) → rises book ≡ true → s.opening ≡ false → filled_on s book which ≡ run (reach s book) 0 (eligible_on s book which)
filled_run s book which up trade =
    let here : Order → Bool = λ o. eligible s o && on which o in
    filter_agree (λ o. filled s book o && on which o) (λ o. here o && fewer (reach s book) 0 (eligible_on s book which) o) (filled_test s book which trade) book
    ∙ sym (kept_and here (fewer (reach s book) 0 (eligible_on s book which)) book)
    ∙ fewer_run (reach s book) 0 (eligible_on s book which) (rises_kept here book up)

below_reach : (s : RoundLot) (book : List Order) (n : ℕ) → n ≡ matched s book → 0 < s.volume → 0 + n < reach s book
unfolding reach
below_reach s book n e some = omega arith

pub trade_law : (s : RoundLot) (book : List Order) → rises book ≡ true → TradeLaw s book
trade_law s book up trade some which =
    let e = filled_run s book which up trade in
    let all = eligible_on s book which in
    let limit = reach s book in
    record {
      first = e ∙ run_front limit 0 all ∙ ap (λ l. take (length l) all) (sym e);
      reached = λ any. omega (arith, ap (λ l. shares_in (but_last l)) e, run_reached limit 0 all (omega (arith, ap length e, any)));
      whole = λ small. e ∙ run_whole limit 0 all (below_reach s book (shares_in all) small some);
    }
