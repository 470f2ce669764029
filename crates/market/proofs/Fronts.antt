-- Sums and fronts of lists, as loops meet them.
use Rattle.std.proofs.Common.{◌≡◌, ℕ, ◌+◌, ◌-◌, ◌<◌, ◌≤◌, min, Bool, true, false, cond, List, [], ◌∷◌, ◌++◌, length, get_or, take, sum_by, filter, sym, refl, ap, ◌∙◌, ⊎_elim, arith, take_all}
use Rattle.std.proofs.lemmas.Bool.{cases_lt}
use Rattle.std.proofs.lemmas.List.Sums.{sum_by_more, sum_by-append, sum_by-cons}
use Rattle.market.specs.Sums.{counted}

-- a loop's step: one more term of a sum
pub sum_more : {X : Type 0} (f : X → ℕ) (xs : List X) (i s v : ℕ) (x : X) → i < length xs → s ≡ sum_by f (take i xs) → x ≡ get_or xs i x → v ≡ f x → s + v ≡ sum_by f (take (i + 1) xs)
sum_more f xs i s v x h p q r =
    sym (sum_by_more f xs i x h ∙ ap (λ y. sum_by f (take i xs) + f y) (sym q) ∙ ap (λ n. n + f x) (sym p) ∙ ap (λ n. s + n) (sym r))

kept_cons : {X : Type 0} (b : Bool) (x : X) (l : List X) → cond b (x ∷ l) l ≡ cond b (x ∷ []) [] ++ l
kept_cons true x l = refl
kept_cons false x l = refl

sum_cond : {X : Type 0} (f : X → ℕ) (b : Bool) (x : X) → sum_by f (cond b (x ∷ []) []) ≡ cond b (f x) 0
sum_cond f true x = omega arith
sum_cond f false x = refl

-- a sum over the records that pass is one over all, of those that pass
pub sum_kept : {X : Type 0} (f : X → ℕ) (p : X → Bool) (xs : List X) → sum_by f (filter p xs) ≡ sum_by (λ x. cond (p x) (f x) 0) xs
sum_kept f p [] = refl
sum_kept f p (x ∷ xs) =
    ap (sum_by f) (kept_cons (p x) x (filter p xs))
    ∙ sum_by-append f (cond (p x) (x ∷ []) []) (filter p xs)
    ∙ ap (λ n. n + sum_by f (filter p xs)) (sum_cond f (p x) x)
    ∙ ap (λ n. cond (p x) (f x) 0 + n) (sum_kept f p xs)
    ∙ sym (sum_by-cons (λ y. cond (p y) (f y) 0) x xs)

-- the front that a loop goes over is the records that count
front_counted : {X : Type 0} (m : ℕ) (xs : List X) → m ≡ min (length xs) 65536 → take (m - 0) xs ≡ counted xs
unfolding counted
front_counted m xs e =
    ⊎_elim
    (λ h. take_all (m - 0) xs (omega arith) ∙ sym (take_all 65536 xs (omega arith)))
    (λ h. let n : m - 0 ≡ 65536 = omega arith in ap (λ k. take k xs) n)
    (cases_lt (length xs) 65536)

-- and a loop that has gone over all of it has gone over all of those
pub all_counted : {X : Type 0} (m i : ℕ) (xs : List X) → m ≡ min (length xs) 65536 → length (take (m - 0) xs) ≤ i → take i (take (m - 0) xs) ≡ counted xs
all_counted m i xs e h = take_all i (take (m - 0) xs) h ∙ front_counted m xs e

-- every record passes the test that asks nothing
pub kept_every : {X : Type 0} (xs : List X) → filter (λ _. true) xs ≡ xs
kept_every [] = refl
kept_every (x ∷ xs) = ap (λ l. x ∷ l) (kept_every xs)

-- a short list counts whole
pub counted_all : {X : Type 0} (xs : List X) → length xs ≤ 65536 → counted xs ≡ xs
unfolding counted
counted_all xs h = take_all 65536 xs h
