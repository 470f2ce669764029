-- Signed sums.
use Rattle.std.specs.Prelude.{List, ℤ, pos, ◌+ℤ◌, fold}

-- the sum of f over xs
abbrev pub sum_z : {X : Type 0} → (X → ℤ) → List X → ℤ
sum_z f xs = fold (λ a x. a +ℤ f x) (pos 0) xs
