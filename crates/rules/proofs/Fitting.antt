-- Orders that go on fitting a day whose figures move on.
use Rattle.std.proofs.Common.{◌≡◌, ℕ, ◌+◌, ◌<◌, Bool, true, false, cond, ◌&&◌, ◌||◌, eqb, ltb, leb, List, [], ◌∷◌, Some, None, Option, refl, ap, ◌∙◌, subst, ⊎_elim, arith}
use Rattle.std.specs.List.{list_all}
use Rattle.std.proofs.lemmas.Bool.{and_parts, and_from, cond-true, cond-false, le-leb, ltb-true}
use Rattle.std.proofs.lemmas.Bool.Decides.{nat_tests, eqb_tells}
use Rattle.market.specs.Limits.{has_accepted_room, is_postable, is_price, is_tag, is_time, is_unit}
use Rattle.market.specs.declared.kind.Kind.{Kind}
use Rattle.market.specs.declared.side.Side.{Side}
use Rattle.market.specs.declared.refusal.Refusal.TheVariants.{BadField, QuoteCrossed}
use Rattle.book.specs.Orders.{is_new, lawful}
use Rattle.std.specs.List.{cons_option}
use Rattle.book.specs.Passes.{rows_by}
use Rattle.book.specs.declared.row.Row.{Row}
use Rattle.book.specs.declared.order.Order.{Order}
use Rattle.rules.specs.Machine.{by_kind, by_side, is_posted_well, kind_of, new_order, order_of, price_or_none, quote_of, quote_refusal, side_of, with_accepted, with_quote}
use Rattle.rules.specs.States.{figures_fit, is_price_or_none, order_fits}
use Rattle.rules.specs.declared.call.NewOrder.{NewOrder}
use Rattle.rules.specs.declared.call.NewQuote.{NewQuote}
use Rattle.rules.specs.declared.figures.Figures.{Figures}

pub pass_weaker : {X : Type 0} (p q : X → Bool) → ((x : X) → p x ≡ true → q x ≡ true) → (xs : List X) → list_all p xs ≡ true → list_all q xs ≡ true
pass_weaker p q weaker [] h = refl
pass_weaker p q weaker (x ∷ xs) h =
    let parts = and_parts (p x) (list_all p xs) h in
    and_from (q x) (list_all q xs) (weaker x parts.0) (pass_weaker p q weaker xs parts.1)

leb_more : (a b : ℕ) → leb a b ≡ true → leb a (b + 1) ≡ true
leb_more a b h = grind (arith, nat_tests)

-- one order more was accepted
pub fits_accepted : (f : Figures) (o : Order) → order_fits f o ≡ true → order_fits (with_accepted f) o ≡ true
fits_accepted f o h = grind (arith, nat_tests)

-- a price that a quote call gives, where it is 0 or in range
given_fits : (p : ℕ) → eqb p 0 || is_price p ≡ true → is_price_or_none (price_or_none p) ≡ true
given_fits p h =
    ⊎_elim
    (λ z. ap is_price_or_none (cond-true (eqb p 0) None (Some p) z.0))
    (λ z. ap is_price_or_none (cond-false (eqb p 0) None (Some p) z.0) ∙ subst (λ b. b || is_price p ≡ true) z.0 h)
    (eqb_tells p 0)

both_given : (a b c : Bool) → cond (a && b) (cond c None (Some QuoteCrossed)) (Some BadField) ≡ None → (a ≡ true) × (b ≡ true)
both_given true true c h = (refl, refl)
both_given true false c h = let z : ◌≡◌ {A = ℕ} 0 1 = cc in absurd (omega arith)
both_given false b c h = let z : ◌≡◌ {A = ℕ} 0 1 = cc in absurd (omega arith)

-- figures with a quote that was accepted
pub fits_quote : (f : Figures) (q : NewQuote) → figures_fit f ≡ true → quote_refusal q ≡ None → figures_fit (with_quote (quote_of q) f) ≡ true
fits_quote f q h none =
    let both = both_given (eqb q.bid 0 || is_price q.bid) (eqb q.offer 0 || is_price q.offer) (eqb q.bid 0 || eqb q.offer 0 || ltb q.bid q.offer) none in
    let bid = given_fits q.bid both.0 in
    let offer = given_fits q.offer both.1 in
    let accepted = and_parts (is_unit f.unit && is_tag f.tag && is_time f.time && is_price_or_none f.quote.bid && is_price_or_none f.quote.offer && is_price f.latest) (leb f.accepted 60000) h in
    let latest = and_parts (is_unit f.unit && is_tag f.tag && is_time f.time && is_price_or_none f.quote.bid && is_price_or_none f.quote.offer) (is_price f.latest) accepted.0 in
    let old = and_parts (is_unit f.unit && is_tag f.tag && is_time f.time && is_price_or_none f.quote.bid) (is_price_or_none f.quote.offer) latest.0 in
    let older = and_parts (is_unit f.unit && is_tag f.tag && is_time f.time) (is_price_or_none f.quote.bid) old.0 in
    and_from _ _ (and_from _ _ (and_from _ _ (and_from _ _ older.0 bid) offer) latest.1) accepted.1

-- an order call's order is lawful, has the next number and fits the day that has accepted it
cond_some : {X : Type 0} (b : Bool) (x o : X) → cond b (Some x) None ≡ Some o → (b ≡ true) × (x ≡ o)
cond_some true x o h = (refl, cc)
cond_some false x o h = let z : ◌≡◌ {A = ℕ} 0 1 = cc in absurd (omega arith)

pub record Fresh (f : Figures) (o : Order) : Type 0 where
  pub lawful_for : lawful f.unit o ≡ true
  pub next : o.number ≡ f.accepted + 1
  pub fits : order_fits (with_accepted f) o ≡ true

fresh_fits : (f : Figures) (shares limit stop : ℕ) (side : Side) (kind : Kind) → order_fits (with_accepted f) (order_of f shares limit stop side kind) ≡ true
fresh_fits f shares limit stop side kind = grind (arith, nat_tests)

by_kind_fresh : (f : Figures) (n : NewOrder) (side : Side) (k : Option Kind) (o : Order) → by_kind f n side k ≡ Some o → Fresh f o
by_kind_fresh f n side None o h = let z : ◌≡◌ {A = ℕ} 0 1 = cc in absurd (omega arith)
by_kind_fresh f n side (Some kind) o h =
    let x = order_of f n.shares n.limit n.stop side kind in
    let made = cond_some (lawful f.unit x) x o h in
    subst (λ (y : Order). Fresh f y) made.1 (record { lawful_for = made.0; next = refl; fits = fresh_fits f n.shares n.limit n.stop side kind })

by_side_fresh : (f : Figures) (n : NewOrder) (s : Option Side) (o : Order) → by_side f n s ≡ Some o → Fresh f o
by_side_fresh f n None o h = let z : ◌≡◌ {A = ℕ} 0 1 = cc in absurd (omega arith)
by_side_fresh f n (Some side) o h = by_kind_fresh f n side (kind_of n.kind) o h

pub fresh : (f : Figures) (n : NewOrder) (o : Order) → new_order f n ≡ Some o → Fresh f o
fresh f n o h = by_side_fresh f n (side_of n.side) o h

number_below : (f : Figures) (x : Order) → order_fits f x ≡ true → ltb x.number (f.accepted + 1) ≡ true
number_below f x h = grind (arith, nat_tests)

-- the next number is above every number that was given out
pub next_is_new : (f : Figures) (xs : List Order) → list_all (order_fits f) xs ≡ true → is_new (f.accepted + 1) xs ≡ true
next_is_new f xs h = pass_weaker (order_fits f) (λ x. ltb x.number (f.accepted + 1)) (number_below f) xs h

-- one more accepted is still within 60,000
pub accepted_fits : (f : Figures) → figures_fit f ≡ true → has_accepted_room f.accepted ≡ true → figures_fit (with_accepted f) ≡ true
accepted_fits f h room =
    let p = and_parts (is_unit f.unit && is_tag f.tag && is_time f.time && is_price_or_none f.quote.bid && is_price_or_none f.quote.offer && is_price f.latest) (leb f.accepted 60000) h in
    and_from _ _ p.0 (le-leb _ _ (let low : f.accepted < 60000 = ltb-true _ _ room in omega arith))

-- the rows of a pass over lawful orders, where the pass gives well-posted rows to lawful orders
abbrev pub row_well : Option Row → Bool
row_well None = true
row_well (Some r) = is_posted_well r

well_before : (r : Option Row) (rows : List Row) → row_well r ≡ true → list_all is_posted_well rows ≡ true → list_all is_posted_well (cons_option r rows) ≡ true
well_before None rows h k = k
well_before (Some r) rows h k = and_from (is_posted_well r) (list_all is_posted_well rows) h k

pub rows_well : (unit : ℕ) (f : Order → Option Row) → ((o : Order) → lawful unit o ≡ true → row_well (f o) ≡ true) → (xs : List Order) → list_all (lawful unit) xs ≡ true → list_all is_posted_well (rows_by f xs) ≡ true
rows_well unit f good [] h = refl
rows_well unit f good (x ∷ xs) h =
    let parts = and_parts (lawful unit x) (list_all (lawful unit) xs) h in
    well_before (f x) (rows_by f xs) (good x parts.0) (rows_well unit f good xs parts.1)

-- a lawful order's shares may be posted
pub lawful_postable : (unit : ℕ) (o : Order) → lawful unit o ≡ true → is_postable o.shares ≡ true
lawful_postable unit o h = grind (arith, nat_tests)
