-- The law of postings: for one, and for one more.
use Rattle.std.proofs.Common.{◌≡◌, ℕ, ◌+◌, ◌-◌, ◌*◌, ◌<◌, ◌≤◌, Bool, true, false, cond, eqb, ◌≢◌, ◌⊎◌, List, [], ◌∷◌, ◌++◌, length, get_or, take, set, ℤ, pos, ◌+ℤ◌, ◌-ℤ◌, Some, None, count_by, filter, Option, Result, sym, refl, ap, ◌∙◌, subst, inl, inr, arith, length-append, take_all, get_or-set_other, get_or-set_same, below_more}
use Rattle.std.proofs.lemmas.List.Elements.{filter-append}
use Rattle.std.proofs.lemmas.List.Sums.{sum_by-append, sum_by_more}
use Rattle.std.proofs.lemmas.List.{take_more_set}
use Rattle.std.proofs.lemmas.Int.{ints}
use Rattle.std.proofs.lemmas.Bool.{cond-true, cond-false, ne_eqb}
use Rattle.std.proofs.lemmas.Bool.Decides.{nat_tests, eqb_tells}
use Rattle.market.specs.Sums.{shares_on}
use Rattle.market.specs.declared.refusal.Refusal.{Refusal}
use Rattle.market.specs.declared.refusal.Refusal.TheVariants.{BadField, LedgerFull}
use Rattle.market.specs.declared.side.Side.{Side}
use Rattle.market.specs.declared.side.Side.TheVariants.{Buy, SellLong, SellShort}
use Rattle.market.specs.declared.side.MarketSide.{MarketSide}
use Rattle.market.specs.declared.side.MarketSide.TheVariants.{Buying, Selling}
use Rattle.ledger.specs.Posting.{Numbers, Agree, Posted, answer_of, in_field, moved, refusal_of, settled_by, signed}
use Rattle.ledger.specs.Law.{AddsUp, MovedBy, fits, judged, no_posting, accepted}
use Rattle.ledger.specs.declared.fill.Fill.{Fill}
use Rattle.ledger.specs.declared.postings.Posting.{Posting}

-- a posting with its answer noted
abbrev pub noted : Posting → Result (Unit {0}) Refusal → Posting
noted x r = record { fill = x.fill; answer = Some r }

-- a signed number by the two sides of the market
split : (s : Side) (n : ℕ) → signed s (pos n) ≡ pos (0 + shares_on Buying s n) -ℤ pos (0 + shares_on Selling s n)
split Buy n = omega (arith, ints)
split SellLong n = omega (arith, ints)
split SellShort n = omega (arith, ints)

lower : (a b d : ℤ) (m n : ℕ) → a ≡ b -ℤ d → d ≡ pos m -ℤ pos n → a ≡ b +ℤ (pos n -ℤ pos m)
lower a b d m n p q = omega (arith, ints)

raise : (a b d : ℤ) (m n : ℕ) → a ≡ b +ℤ d → d ≡ pos m -ℤ pos n → a ≡ b +ℤ (pos m -ℤ pos n)
raise a b d m n p q = omega (arith, ints)

-- an accepted post finds a place
has_place : (places : ℕ) (f : Fill) → None ≡ refusal_of places f → 0 < places
has_place places f e = grind (arith, nat_tests)

same : (a b : ℤ) → a ≡ b → a ≡ b +ℤ (pos 0 -ℤ pos 0)
same a b h = omega (arith, ints)

-- an accepted post moves a ledger by its record
pub moved_one : {X : Type 0} (fill : X → Fill) (x : X) (before after : Numbers) → Agree after (moved (fill x) before) → 0 < before.places → MovedBy fill before (x ∷ []) after
moved_one fill x before after a one =
    let left = a.places in
    let s = (fill x).side in
    let n = (fill x).shares in
    let m = (fill x).shares * (fill x).price in
    record {
      shares_move = lower after.shares before.shares (signed s (pos n)) (0 + shares_on Buying s n) (0 + shares_on Selling s n) a.shares (split s n);
      money_moves = raise after.money before.money (signed s (pos m)) (0 + shares_on Buying s m) (0 + shares_on Selling s m) a.money (split s m);
      places_fall = omega arith;
    }

-- and a refused one by none
pub moved_none : {X : Type 0} (fill : X → Fill) (before after : Numbers) → Agree after before → MovedBy fill before [] after
moved_none fill before after a =
    record {
      shares_move = same after.shares before.shares a.shares;
      money_moves = same after.money before.money a.money;
      places_fall = let left = a.places in omega arith;
    }

by_reason : (o : Option Refusal) (x : Posting) (before after : Numbers) → o ≡ refusal_of before.places x.fill → Agree after (settled_by o x.fill before) → AddsUp before (noted x (answer_of o) ∷ []) after
by_reason None x before after e a =
    moved_one (λ x. x.fill) (noted x (answer_of None)) before after a (has_place before.places x.fill e)
by_reason (Some r) x before after e a = moved_none (λ x. x.fill) before after a

-- a post with its fields in range to a ledger with a place is accepted
pub posted_moves : (f : Fill) (before after : Numbers) (r : Result (Unit {0}) Refusal) → Posted f before r after → in_field f.shares f.price ≡ true → 0 < before.places → Agree after (moved f before)
posted_moves f before after r h fields room =
    let some : eqb before.places 0 ≡ false = ne_eqb before.places 0 (λ z. omega arith) in
    let none : refusal_of before.places f ≡ None = cond-true (in_field f.shares f.price) (cond (eqb before.places 0) (Some LedgerFull) None) (Some BadField) fields ∙ cond-false (eqb before.places 0) (Some LedgerFull) None some in
    subst (λ (o : Option Refusal). Agree after (settled_by o f before)) none h.moves

-- the law for one posting
pub adds_one : (x : Posting) (before after : Numbers) (r : Result (Unit {0}) Refusal) → Posted x.fill before r after → AddsUp before (noted x r ∷ []) after
adds_one x before after r h =
    subst (λ (q : Result (Unit {0}) Refusal). AddsUp before (noted x q ∷ []) after) (sym h.answer)
    (by_reason (refusal_of before.places x.fill) x before after refl h.moves)

-- a posting in range uses a place where there is one
elim_fits : (f z : Bool) (before after : Numbers) (x : Fill) → ((z ≡ true) × (before.places ≡ 0)) ⊎ ((z ≡ false) × (before.places ≡ 0 → ⊥)) → after.places ≡ (settled_by (cond f (cond z (Some LedgerFull) None) (Some BadField)) x before).places → after.places ≡ before.places - cond f 1 0
elim_fits false z before after x t e = omega arith
elim_fits true true before after x (inl t) e = omega (arith, t.1)
elim_fits true true before after x (inr t) e = let z : ◌≡◌ {A = ℕ} 0 1 = cc in omega arith
elim_fits true false before after x t e = omega arith

pub places_fall : (x : Posting) (before after : Numbers) (r : Result (Unit {0}) Refusal) → Posted x.fill before r after → after.places ≡ before.places - cond (fits x) 1 0
places_fall x before after r h =
    let e = h.moves.places in
    elim_fits (fits x) (eqb before.places 0) before after x.fill (eqb_tells before.places 0) e

over : (a b c : ℤ) (p q r s t u : ℕ) → b ≡ a +ℤ (pos p -ℤ pos q) → c ≡ b +ℤ (pos r -ℤ pos s) → t ≡ p + r → u ≡ q + s → c ≡ a +ℤ (pos t -ℤ pos u)
over a b c p q r s t u h k m n = omega (arith, ints)

-- moved by one list after another
pub moved_both : {X : Type 0} (fill : X → Fill) (a b c : Numbers) (xs ys : List X) → MovedBy fill a xs b → MovedBy fill b ys c → MovedBy fill a (xs ++ ys) c
moved_both fill a b c xs ys h k =
    let n = length-append xs ys in
    let p = h.places_fall in
    let q = k.places_fall in
    let both = λ (which : MarketSide) (f : Fill → ℕ). sum_by-append (λ x. shares_on which (fill x).side (f (fill x))) xs ys in
    record {
      shares_move = over a.shares b.shares c.shares _ _ _ _ _ _ h.shares_move k.shares_move (both Selling (λ f. f.shares)) (both Buying (λ f. f.shares));
      money_moves = over a.money b.money c.money _ _ _ _ _ _ h.money_moves k.money_moves (both Buying (λ f. f.shares * f.price)) (both Selling (λ f. f.shares * f.price));
      places_fall = omega (arith, n);
    }

-- the law for one list after another
pub adds_both : (a b c : Numbers) (xs ys : List Posting) → AddsUp a xs b → AddsUp b ys c → AddsUp a (xs ++ ys) c
adds_both a b c xs ys h k =
    subst (λ (zs : List Posting). MovedBy (λ x. x.fill) a zs c) (sym (filter-append accepted xs ys))
    (moved_both (λ x. x.fill) a b c (filter accepted xs) (filter accepted ys) h k)

-- a loop's step over a list that is written in place: the law
pub adds_more : (a b c : Numbers) (xs : List Posting) (i : ℕ) (y : Posting) → i < length xs → AddsUp a (take i xs) b → AddsUp b (y ∷ []) c → AddsUp a (take (i + 1) (set xs i y)) c
adds_more a b c xs i y l h k =
    subst (λ (ys : List Posting). AddsUp a ys c) (sym (take_more_set xs i y l)) (adds_both a b c (take i xs) (y ∷ []) h k)

-- the places that are left
pub places_more : (xs : List Posting) (i m n left : ℕ) (x : Posting) → i < length xs → x ≡ get_or xs i no_posting → left ≡ n - count_by fits (take i xs) → m ≡ left - cond (fits x) 1 0 → m ≡ n - count_by fits (take (i + 1) xs)
places_more xs i m n left x l e h k =
    let uses : Posting → ℕ = λ x. cond (fits x) 1 0 in
    let more = sum_by_more uses xs i no_posting l in
    let at = ap uses e in
    omega (arith, more, at)

-- what was judged, and what is as it was
pub judged_more : (xs ys : List Posting) (i : ℕ) (y : Posting) (left : ℕ → ℕ) → i < length ys → ((k : ℕ) → k < i → get_or ys k no_posting ≡ judged (left k) (get_or xs k no_posting)) → y ≡ judged (left i) (get_or xs i no_posting) → (k : ℕ) → k < i + 1 → get_or (set ys i y) k no_posting ≡ judged (left k) (get_or xs k no_posting)
judged_more xs ys i y left l h e =
    below_more (λ k. get_or (set ys i y) k no_posting ≡ judged (left k) (get_or xs k no_posting)) i
    (λ k q. let ne : k ≢ i = omega arith in get_or-set_other ys i k y no_posting ne ∙ h k q)
    (get_or-set_same ys i y no_posting l ∙ e)

pub kept_more : (xs ys : List Posting) (i : ℕ) (y : Posting) → ((k : ℕ) → i ≤ k → get_or ys k no_posting ≡ get_or xs k no_posting) → (k : ℕ) → i + 1 ≤ k → get_or (set ys i y) k no_posting ≡ get_or xs k no_posting
kept_more xs ys i y h k q =
    let ne : k ≢ i = omega arith in
    get_or-set_other ys i k y no_posting ne ∙ h k (omega arith)

-- the law for a loop that is through
pub adds_all : (a b : Numbers) (xs : List Posting) (i : ℕ) → length xs ≤ i → AddsUp a (take i xs) b → AddsUp a xs b
adds_all a b xs i l h = subst (λ (ys : List Posting). AddsUp a ys b) (take_all i xs l) h
