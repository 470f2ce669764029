-- Sums over the written rows of a journal.
use Rattle.std.proofs.Common.{◌≡◌, ℕ, ◌+◌, ◌-◌, ◌<◌, ◌≤◌, min, Bool, true, false, cond, List, [], ◌∷◌, length, get_or, take, set, ℤ, pos, ◌+ℤ◌, ◌-ℤ◌, fold, sym, refl, ap, ◌∙◌, ⊎_elim, arith, length-take, take_all}
use Rattle.std.proofs.lemmas.List.{take_more_set, take-take}
use Rattle.std.proofs.lemmas.Bool.{cases_lt}
use Rattle.std.proofs.lemmas.List.Sums.{fold_push, fold_more}
use Rattle.std.proofs.lemmas.Int.{ints}
use Rattle.market.proofs.Fronts.{counted_all}
use Rattle.market.specs.Sums.{counted, shares_on, sum_on}
use Rattle.market.specs.declared.side.Side.{Side}
use Rattle.market.specs.declared.side.Side.TheVariants.{Buy, SellLong, SellShort}
use Rattle.market.specs.declared.side.MarketSide.{MarketSide}
use Rattle.market.specs.declared.side.MarketSide.TheVariants.{Buying, Selling}
use Rattle.ledger.specs.Posting.{signed}
use Rattle.ledger.specs.Sums.{sum_z}
use Rattle.ledger.specs.Journals.{owed_of, paid_of}
use Rattle.ledger.specs.declared.row.JournalRow.{JournalRow}

-- a signed sum is what stands on the buying side less what stands on the selling side
step : (s : Side) (n a b : ℕ) → pos a -ℤ pos b +ℤ signed s (pos n) ≡ pos (a + shares_on Buying s n) -ℤ pos (b + shares_on Selling s n)
step Buy n a b = omega (arith, ints)
step SellLong n a b = omega (arith, ints)
step SellShort n a b = omega (arith, ints)

abbrev up_to : {X : Type 0} → (X → Side) → (X → ℕ) → MarketSide → ℕ → List X → ℕ
up_to side f which a xs = fold (λ n x. n + shares_on which (side x) (f x)) a xs

parts : {X : Type 0} (side : X → Side) (f : X → ℕ) (a b : ℕ) (xs : List X) → fold (λ z x. z +ℤ signed (side x) (pos (f x))) (pos a -ℤ pos b) xs ≡ pos (up_to side f Buying a xs) -ℤ pos (up_to side f Selling b xs)
parts side f a b [] = refl
parts side f a b (x ∷ xs) =
    ap (λ z. fold (λ z x. z +ℤ signed (side x) (pos (f x))) z xs) (step (side x) (f x) a b)
    ∙ parts side f (a + shares_on Buying (side x) (f x)) (b + shares_on Selling (side x) (f x)) xs

pub by_sides : {X : Type 0} (side : X → Side) (f : X → ℕ) (xs : List X) → sum_z (λ x. signed (side x) (pos (f x))) xs ≡ pos (sum_on side f Buying xs) -ℤ pos (sum_on side f Selling xs)
by_sides side f xs = parts side f 0 0 xs

-- fronts of a list
counted_front : {X : Type 0} (n : ℕ) (xs : List X) → n ≤ 65536 → counted (take n xs) ≡ take n xs
counted_front n xs h =
    let few : length (take n xs) ≤ 65536 = simp length-take (omega arith) in
    counted_all (take n xs) few

pub counted_twice : {X : Type 0} (xs : List X) → counted (counted xs) ≡ counted xs
unfolding counted
counted_twice xs = counted_front 65536 xs (omega arith)

pub counted_few : {X : Type 0} (xs : List X) → length (counted xs) ≤ 65536
unfolding counted
counted_few xs = simp length-take (omega arith)

alike : {X : Type 0} (a b : ℕ) (xs : List X) → min a (length xs) ≡ min b (length xs) → take a xs ≡ take b xs
alike a b xs e =
    ⊎_elim
    (λ h. let n : a ≡ b = omega arith in ap (λ k. take k xs) n)
    (λ h. take_all a xs h ∙ sym (take_all b xs (omega arith)))
    (cases_lt a (length xs))

-- the front that a question goes over is the written rows
pub front_written : {X : Type 0} (n u : ℕ) (xs : List X) → n ≡ min (min u (length xs)) 65536 → take (n - 0) xs ≡ counted (take u xs)
unfolding counted
front_written n u xs e =
    ⊎_elim
    (λ h. alike (n - 0) u xs (omega arith) ∙ sym (counted_front u xs (omega arith)))
    (λ h. alike (n - 0) 65536 xs (omega arith) ∙ sym (take-take 65536 u xs h))
    (cases_lt u 65536)

-- one row more
row_more : (f : JournalRow → ℤ) (rows : List JournalRow) (i : ℕ) (row : JournalRow) → i < min (length rows) 65536 → sum_z f (counted (take (i + 1) (set rows i row))) ≡ sum_z f (counted (take i rows)) +ℤ f row
row_more f rows i row h =
    ap (sum_z f) (counted_front (i + 1) (set rows i row) (omega arith))
    ∙ ap (sum_z f) (take_more_set rows i row (omega arith))
    ∙ fold_push (λ a x. a +ℤ f x) (pos 0) (take i rows) row
    ∙ ap (λ l. sum_z f l +ℤ f row) (sym (counted_front i rows (omega arith)))

less : (s a b d : ℤ) → a ≡ b +ℤ d → s -ℤ a ≡ s -ℤ b -ℤ d
less s a b d h = omega (arith, ints)

more : (s a b d : ℤ) → a ≡ b +ℤ d → s +ℤ a ≡ s +ℤ b +ℤ d
more s a b d h = omega (arith, ints)

pub shares_more : (s : ℤ) (rows : List JournalRow) (i : ℕ) (row : JournalRow) → i < min (length rows) 65536 → s -ℤ sum_z owed_of (counted (take (i + 1) (set rows i row))) ≡ s -ℤ sum_z owed_of (counted (take i rows)) -ℤ owed_of row
shares_more s rows i row h = less s (sum_z owed_of (counted (take (i + 1) (set rows i row)))) (sum_z owed_of (counted (take i rows))) (owed_of row) (row_more owed_of rows i row h)

pub money_more : (s : ℤ) (rows : List JournalRow) (i : ℕ) (row : JournalRow) → i < min (length rows) 65536 → s +ℤ sum_z paid_of (counted (take (i + 1) (set rows i row))) ≡ s +ℤ sum_z paid_of (counted (take i rows)) +ℤ paid_of row
money_more s rows i row h = more s (sum_z paid_of (counted (take (i + 1) (set rows i row)))) (sum_z paid_of (counted (take i rows))) (paid_of row) (row_more paid_of rows i row h)

-- a loop's step: one more term of a signed sum
pub sum_z_more : {X : Type 0} (f : X → ℤ) (xs : List X) (i : ℕ) (x : X) (s v : ℤ) → i < length xs → s ≡ sum_z f (take i xs) → x ≡ get_or xs i x → v ≡ f x → sum_z f (take (i + 1) xs) ≡ s +ℤ v
sum_z_more f xs i x s v h p q r =
    fold_more (λ a x. a +ℤ f x) (pos 0) xs i x h ∙ ap (λ y. sum_z f (take i xs) +ℤ f y) (sym q) ∙ ap (λ z. z +ℤ f x) (sym p) ∙ ap (λ z. s +ℤ z) (sym r)

apart : (s z : ℤ) (a b : ℕ) → z ≡ pos a -ℤ pos b → s -ℤ z ≡ s -ℤ pos a +ℤ pos b
apart s z a b h = omega (arith, ints)

-- a start less the signed sum, from the two sums by side
pub shares_by : (s : ℤ) (rows written : List JournalRow) (a b : ℕ) → rows ≡ counted written → a ≡ sum_on (λ r. r.fill.side) (λ r. r.fill.shares) Buying (counted rows) → b ≡ sum_on (λ r. r.fill.side) (λ r. r.fill.shares) Selling (counted rows) → s -ℤ sum_z owed_of (counted written) ≡ s -ℤ pos a +ℤ pos b
shares_by s rows written a b e p q =
    let all : counted rows ≡ counted written = ap counted e ∙ counted_twice written in
    let l = counted written in
    apart s (sum_z owed_of l) a b
    (by_sides (λ r. r.fill.side) (λ r. r.fill.shares) l
    ∙ ap (λ t. pos t -ℤ pos (sum_on (λ r. r.fill.side) (λ r. r.fill.shares) Selling l)) (sym (p ∙ ap (sum_on (λ r. r.fill.side) (λ r. r.fill.shares) Buying) all))
    ∙ ap (λ t. pos a -ℤ pos t) (sym (q ∙ ap (sum_on (λ r. r.fill.side) (λ r. r.fill.shares) Selling) all)))

-- one place less
pub place_used : (good : Bool) (m u : ℕ) → cond good (m - (u + 1)) 0 ≡ cond good (m - u) 0 - 1
place_used true m u = omega arith
place_used false m u = refl

-- a journal with no row written stands at its start
pub none_written : (f : JournalRow → ℤ) (rows : List JournalRow) → sum_z f (counted (take 0 rows)) ≡ pos 0
unfolding counted
none_written f rows = refl
