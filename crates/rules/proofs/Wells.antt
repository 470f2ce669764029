-- The rows of sales, the timer and the close can be posted, and the orders that they leave fit the day after them.
use Rattle.std.proofs.Common.{◌≡◌, ℕ, ◌+◌, ◌≤◌, Bool, true, false, cond, not, ◌&&◌, ◌||◌, ltb, leb, List, [], ◌∷◌, map, is_some, Some, None, Option, refl, ap, ◌∙◌, arith}
use Rattle.std.specs.List.{list_all}
use Rattle.std.proofs.lemmas.Bool.{and_parts, and_from, ltb-false}
use Rattle.std.proofs.lemmas.Bool.Decides.{nat_tests}
use Rattle.market.specs.Limits.{is_postable, is_price, is_tag, is_time, is_unit, is_volume}
use Rattle.market.specs.Terms.{has_stop, market_side}
use Rattle.market.specs.declared.kind.Kind.{Kind}
use Rattle.market.specs.declared.kind.Kind.TheVariants.{Market, Limit, Stop, StopLimit}
use Rattle.market.specs.declared.mark.Mark.{Mark}
use Rattle.market.specs.declared.mark.Mark.TheVariants.{Offer, Bid}
use Rattle.market.specs.declared.side.Side.{Side}
use Rattle.market.specs.declared.side.Side.TheVariants.{Buy, SellLong, SellShort}
use Rattle.market.specs.declared.refusal.Refusal.{Refusal}
use Rattle.market.specs.declared.refusal.Refusal.TheVariants.{BadField, DayClosed, DayOpen, DayUnopened, TimeEarlier}
use Rattle.ledger.specs.Posting.{in_field}
use Rattle.std.specs.List.{cons_option}
use Rattle.book.specs.Passes.{rows_by, stays_by}
use Rattle.book.specs.Orders.{lawful}
use Rattle.book.specs.Quotes.{close_row, counts_from, or_lapse, quote_row, quote_row_of, row_at, timer_row}
use Rattle.book.specs.Sales.{elect, filled, is_market, reaches_stop, row_of, sale_mark, sale_row}
use Rattle.book.specs.declared.order.Order.{Order}
use Rattle.book.specs.declared.quote.Quote.{Quote}
use Rattle.book.specs.declared.row.Row.{Row}
use Rattle.book.specs.declared.sale.RoundLot.{RoundLot}
use Rattle.rules.specs.Machine.{after_round_lot, clock_refusal, is_fill, is_posted_well, sale_refusal, with_phase, with_time}
use Rattle.rules.specs.States.{figures_fit, is_closed, is_open, is_price_or_none, is_unopened, not_short, order_fits}
use Rattle.rules.specs.declared.call.NewSale.{NewSale}
use Rattle.rules.specs.declared.figures.Figures.{Figures}
use Rattle.rules.specs.declared.figures.Phase.TheVariants.{Closed}
use Rattle.rules.proofs.Fitting.{lawful_postable, row_well}

or_true : (b f : Bool) → f ≡ true → b || f ≡ true
or_true true f h = refl
or_true false f h = h

-- a row at a price in range, of a lawful order
row_well_lem : (unit price : ℕ) (mark : Mark) (o : Order) → is_price price ≡ true → lawful unit o ≡ true → is_posted_well (row_of price mark o) ≡ true
row_well_lem unit price mark o p h = or_true (not (is_fill mark)) (in_field o.shares price) (and_from (is_postable o.shares) (is_price price) (lawful_postable unit o h) p)

cond_well : (b : Bool) (r : Option Row) → row_well r ≡ true → row_well (cond b r None) ≡ true
cond_well true r h = h
cond_well false r h = refl

pub sale_well : (unit : ℕ) (s : RoundLot) (book : List Order) → is_price s.price ≡ true → (o : Order) → lawful unit o ≡ true → row_well (sale_row s book o) ≡ true
sale_well unit s book p o h = cond_well (filled s book o) (Some (row_of s.price (sale_mark s) o)) (row_well_lem unit s.price (sale_mark s) o p h)

at_well : (unit : ℕ) (price : Option ℕ) (mark : Mark) (o : Order) → is_price_or_none price ≡ true → lawful unit o ≡ true → row_well (row_at price mark o) ≡ true
at_well unit None mark o p h = refl
at_well unit (Some x) mark o p h = row_well_lem unit x mark o p h

side_well : (unit : ℕ) (side : Side) (q : Quote) (o : Order) → is_price_or_none q.bid ≡ true → is_price_or_none q.offer ≡ true → lawful unit o ≡ true → row_well (quote_row_of side q o) ≡ true
side_well unit Buy q o b f h = at_well unit q.offer Offer o f h
side_well unit SellLong q o b f h = at_well unit q.bid Bid o b h
side_well unit SellShort q o b f h = refl

quote_well : (unit : ℕ) (q : Quote) (o : Order) → is_price_or_none q.bid ≡ true → is_price_or_none q.offer ≡ true → lawful unit o ≡ true → row_well (quote_row q o) ≡ true
quote_well unit q o b f h = cond_well (not o.in_hand && is_market o.kind o.elected) (quote_row_of o.side q o) (side_well unit o.side q o b f h)

pub timer_well : (unit time : ℕ) (q : Quote) → is_price_or_none q.bid ≡ true → is_price_or_none q.offer ≡ true → (o : Order) → lawful unit o ≡ true → row_well (timer_row time q o) ≡ true
timer_well unit time q b f o h = cond_well (ltb (counts_from o + 30000) time) (quote_row q o) (quote_well unit q o b f h)

lapse_well : (r : Option Row) (o : Order) → row_well r ≡ true → row_well (or_lapse r o) ≡ true
lapse_well None o h = refl
lapse_well (Some r) o h = h

pub close_well : (unit : ℕ) (opened : Bool) (q : Quote) → is_price_or_none q.bid ≡ true → is_price_or_none q.offer ≡ true → (o : Order) → lawful unit o ≡ true → row_well (close_row opened q o) ≡ true
close_well unit opened q b f o h = lapse_well (cond opened (quote_row q o) None) o (cond_well opened (quote_row q o) (quote_well unit q o b f h))

-- a quote of fitting figures is in range
pub quote_fits : (f : Figures) → figures_fit f ≡ true → (is_price_or_none f.quote.bid ≡ true) × (is_price_or_none f.quote.offer ≡ true)
quote_fits f h =
    let accepted = and_parts (is_unit f.unit && is_tag f.tag && is_time f.time && is_price_or_none f.quote.bid && is_price_or_none f.quote.offer && is_price f.latest) (leb f.accepted 60000) h in
    let latest = and_parts (is_unit f.unit && is_tag f.tag && is_time f.time && is_price_or_none f.quote.bid && is_price_or_none f.quote.offer) (is_price f.latest) accepted.0 in
    let offer = and_parts (is_unit f.unit && is_tag f.tag && is_time f.time && is_price_or_none f.quote.bid) (is_price_or_none f.quote.offer) latest.0 in
    let bid = and_parts (is_unit f.unit && is_tag f.tag && is_time f.time) (is_price_or_none f.quote.bid) offer.0 in
    (bid.1, offer.1)

-- figures that move on go on fitting
pub time_fits : (f : Figures) (t : ℕ) → figures_fit f ≡ true → is_time t ≡ true → figures_fit (with_time t f) ≡ true
time_fits f t h k = grind (arith, nat_tests)

pub sale_fits : (f : Figures) (s : RoundLot) → figures_fit f ≡ true → is_price s.price ≡ true → figures_fit (after_round_lot s f) ≡ true
sale_fits f s h k =
    let accepted = and_parts (is_unit f.unit && is_tag f.tag && is_time f.time && is_price_or_none f.quote.bid && is_price_or_none f.quote.offer && is_price f.latest) (leb f.accepted 60000) h in
    let latest = and_parts (is_unit f.unit && is_tag f.tag && is_time f.time && is_price_or_none f.quote.bid && is_price_or_none f.quote.offer) (is_price f.latest) accepted.0 in
    and_from _ _ (and_from _ _ latest.0 k) accepted.1

-- orders go on fitting
pub order_in_time : (f : Figures) (t : ℕ) → f.time ≤ t → (o : Order) → order_fits f o ≡ true → order_fits (with_time t f) o ≡ true
order_in_time f t later o h = grind (arith, nat_tests)

pub order_closed : (f : Figures) (o : Order) → order_fits f o ≡ true → order_fits (with_phase Closed f) o ≡ true
order_closed f o h = grind (arith, nat_tests)

-- an election keeps to stops, and an order in hand stays a market order
elect_flags : (kind : Kind) (elected hand short reached : Bool) → not elected || has_stop kind ≡ true → not hand || (is_market kind elected && short) ≡ true → (not (elected || (has_stop kind && reached)) || has_stop kind ≡ true) × (not hand || (is_market kind (elected || (has_stop kind && reached)) && short) ≡ true)
elect_flags Market true hand short reached a b = let z : ◌≡◌ {A = ℕ} 0 1 = cc in absurd (omega arith)
elect_flags Market false hand short reached a b = (refl, b)
elect_flags Limit true hand short reached a b = let z : ◌≡◌ {A = ℕ} 0 1 = cc in absurd (omega arith)
elect_flags Limit false hand short reached a b = (refl, b)
elect_flags Stop true hand short reached a b = (refl, b)
elect_flags Stop false false short reached a b = (or_true (not reached) true refl, refl)
elect_flags Stop false true short reached a b = let z : ◌≡◌ {A = ℕ} 0 1 = cc in absurd (omega arith)
elect_flags StopLimit true hand short reached a b = (refl, b)
elect_flags StopLimit false hand short reached a b = (or_true (not reached) true refl, b)

order_elected : (f : Figures) (price : ℕ) → is_unopened f.phase ≡ false → (o : Order) → order_fits f o ≡ true → order_fits f (elect price o) ≡ true
order_elected f price opened o h =
    let phase = and_parts (leb o.number f.accepted && leb o.receipt f.time && (not o.elected || has_stop o.kind) && (not o.in_hand || (is_market o.kind o.elected && not_short o.side))) (not (is_unopened f.phase) || (not o.elected && not o.in_hand)) h in
    let hand = and_parts (leb o.number f.accepted && leb o.receipt f.time && (not o.elected || has_stop o.kind)) (not o.in_hand || (is_market o.kind o.elected && not_short o.side)) phase.0 in
    let stop = and_parts (leb o.number f.accepted && leb o.receipt f.time) (not o.elected || has_stop o.kind) hand.0 in
    let flags = elect_flags o.kind o.elected o.in_hand (not_short o.side) (reaches_stop (market_side o.side) o.stop price) stop.1 hand.1 in
    and_from _ _ (and_from _ _ (and_from _ _ stop.0 flags.0) flags.1) (ap (λ b. not b || (not (elect price o).elected && not o.in_hand)) opened)

pub orders_elected : (f : Figures) (price : ℕ) → is_unopened f.phase ≡ false → (xs : List Order) → list_all (order_fits f) xs ≡ true → list_all (order_fits f) (map (elect price) xs) ≡ true
orders_elected f price opened [] h = refl
orders_elected f price opened (x ∷ xs) h =
    let parts = and_parts (order_fits f x) (list_all (order_fits f) xs) h in
    and_from (order_fits f (elect price x)) _ (order_elected f price opened x parts.0) (orders_elected f price opened xs parts.1)

-- a sale relaxes what an order must fit
pub order_opened : (f : Figures) (s : RoundLot) (o : Order) → order_fits f o ≡ true → order_fits (after_round_lot s f) o ≡ true
order_opened f s o h = grind (arith, nat_tests)

-- without a quote the timer fills nothing
no_quote : (side : Side) (o : Order) → quote_row_of side (record { bid = None; offer = None }) o ≡ None
no_quote Buy o = refl
no_quote SellLong o = refl
no_quote SellShort o = refl

cond_none : (b : Bool) (r : Option Row) → r ≡ None → cond b r None ≡ None
cond_none true r h = h
cond_none false r h = refl

timer_none : (time : ℕ) (o : Order) → timer_row time (record { bid = None; offer = None }) o ≡ None
timer_none time o = cond_none (ltb (counts_from o + 30000) time) (quote_row (record { bid = None; offer = None }) o) (cond_none (not o.in_hand && is_market o.kind o.elected) (quote_row_of o.side (record { bid = None; offer = None }) o) (no_quote o.side o))

none_rows : (f : Order → Option Row) → ((o : Order) → f o ≡ None) → (xs : List Order) → (rows_by f xs ≡ []) × (stays_by f xs ≡ xs)
none_rows f none [] = (refl, refl)
none_rows f none (x ∷ xs) =
    let rest = none_rows f none xs in (
      ap (λ r. cons_option r (rows_by f xs)) (none x) ∙ rest.0,
      ap (λ r. cond (not (is_some r)) (x ∷ stays_by f xs) (stays_by f xs)) (none x) ∙ ap (λ l. x ∷ l) rest.1,
    )

-- the timer of an open day, and of another
pub timer_rows : (b : Bool) (time : ℕ) (q : Quote) (xs : List Order) → (rows_by (timer_row time (cond b q (record { bid = None; offer = None }))) xs ≡ cond b (rows_by (timer_row time q) xs) []) × (stays_by (timer_row time (cond b q (record { bid = None; offer = None }))) xs ≡ cond b (stays_by (timer_row time q) xs) xs)
timer_rows true time q xs = (refl, refl)
timer_rows false time q xs = none_rows (timer_row time (record { bid = None; offer = None })) (timer_none time) xs

pub timer_quote_fits : (b : Bool) (q : Quote) → is_price_or_none q.bid ≡ true → is_price_or_none q.offer ≡ true → (is_price_or_none (cond b q (record { bid = None; offer = None })).bid ≡ true) × (is_price_or_none (cond b q (record { bid = None; offer = None })).offer ≡ true)
timer_quote_fits true q h k = (h, k)
timer_quote_fits false q h k = (refl, refl)

-- what is known of the fields of a clock, an opening and a trade that are not refused early
clock_parts : (b c : Bool) → cond b (cond c (Some TimeEarlier) None) (Some BadField) ≡ None → (b ≡ true) × (c ≡ false)
clock_parts true true h = let z : ◌≡◌ {A = ℕ} 0 1 = cc in absurd (omega arith)
clock_parts true false h = (refl, refl)
clock_parts false c h = let z : ◌≡◌ {A = ℕ} 0 1 = cc in absurd (omega arith)

not_closed : (b : Bool) (o : Option Refusal) → cond b (Some DayClosed) o ≡ None → o ≡ None
not_closed true o h = let z : ◌≡◌ {A = ℕ} 0 1 = cc in absurd (omega arith)
not_closed false o h = h

pub clock_known : (f : Figures) (t : ℕ) → cond (is_closed f.phase) (Some DayClosed) (clock_refusal f t) ≡ None → (is_time t ≡ true) × (f.time ≤ t)
clock_known f t h =
    let p = clock_parts (is_time t) (ltb t f.time) (not_closed (is_closed f.phase) (clock_refusal f t) h) in
    (p.0, ltb-false t f.time p.1)

cond_none_true : (b : Bool) → cond b None (Some BadField) ≡ None → b ≡ true
cond_none_true true h = refl
cond_none_true false h = let z : ◌≡◌ {A = ℕ} 0 1 = cc in absurd (omega arith)

sale_known : (f : Figures) (n : NewSale) → sale_refusal f n ≡ None → is_price n.price ≡ true
sale_known f n h = (and_parts (is_price n.price) (is_volume f.unit n.volume) (cond_none_true (is_price n.price && is_volume f.unit n.volume) h)).0

unless : (b : Bool) (e : Refusal) (o : Option Refusal) → cond b (Some e) o ≡ None → o ≡ None
unless true e o h = let z : ◌≡◌ {A = ℕ} 0 1 = cc in absurd (omega arith)
unless false e o h = h

pub opening_known : (f : Figures) (n : NewSale) → cond (is_closed f.phase) (Some DayClosed) (cond (is_open f.phase) (Some DayOpen) (sale_refusal f n)) ≡ None → is_price n.price ≡ true
opening_known f n h = sale_known f n (unless (is_open f.phase) DayOpen (sale_refusal f n) (not_closed (is_closed f.phase) (cond (is_open f.phase) (Some DayOpen) (sale_refusal f n)) h))

pub trade_known : (f : Figures) (n : NewSale) → cond (is_closed f.phase) (Some DayClosed) (cond (is_unopened f.phase) (Some DayUnopened) (sale_refusal f n)) ≡ None → is_price n.price ≡ true
trade_known f n h = sale_known f n (unless (is_unopened f.phase) DayUnopened (sale_refusal f n) (not_closed (is_closed f.phase) (cond (is_unopened f.phase) (Some DayUnopened) (sale_refusal f n)) h))
