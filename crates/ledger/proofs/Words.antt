-- Sums and differences of 64-bit words that fit.
use Rattle.std.proofs.Common.{◌≡◌, ℕ, ◌-◌, ◌<◌, ◌≤◌, ℤ, ◌+ℤ◌, ◌-ℤ◌, ap, ◌∙◌, arith, w64, to_z, of_z}
use Rattle.std.proofs.lemmas.Int.{ints}
use Rattle.ledger.specs.Bounds.{Within, Runs}

pub sub_is : (s d e : ℤ) → Within 4000000000000000000 s → Within 4000000000000000000 d → d ≡ e → to_z w64 (of_z w64 (to_z w64 (of_z w64 s) -ℤ to_z w64 (of_z w64 d))) ≡ s -ℤ e
sub_is s d e p q h = omega (arith, ints) ∙ ap (λ x. s -ℤ x) h

pub add_is : (s d e : ℤ) → Within 4000000000000000000 s → Within 4000000000000000000 d → d ≡ e → to_z w64 (of_z w64 (to_z w64 (of_z w64 s) +ℤ to_z w64 (of_z w64 d))) ≡ s +ℤ e
add_is s d e p q h = omega (arith, ints) ∙ ap (λ x. s +ℤ x) h

-- one posting on, a totals ledger stands where it may
pub runs_on : (s m d e : ℤ) (k : ℕ) → Runs s m k → 0 < k → Within 99 d → Within 19800000000 e → Runs (to_z w64 (of_z w64 (to_z w64 (of_z w64 s) -ℤ to_z w64 (of_z w64 d)))) (to_z w64 (of_z w64 (to_z w64 (of_z w64 m) +ℤ to_z w64 (of_z w64 e)))) (k - 1)
runs_on s m d e k r h p q =
    let lim : k ≤ 1048576 = r.0 in
    (omega arith, (omega (arith, ints), omega (arith, ints)), (omega (arith, ints), omega (arith, ints)))
