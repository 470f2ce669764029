-- A journal stays within the bound of every ledger. The proof is a ghost member of its ledger, so it stands here.
use Rattle.std.specs.Prelude.{◌≡◌, ℕ, ◌+◌, ◌*◌, ◌≤◌, List, [], ◌∷◌, length, take, ℤ, pos, ◌+ℤ◌, ◌-ℤ◌, fold}
use Rattle.std.proofs.Common.{arith, mul-le-mul, mul-zero, add-zero, mul-suc, length-take}
use Rattle.std.proofs.lemmas.Int.{ints}
use Rattle.market.specs.Sums.{counted}
use Rattle.market.specs.declared.side.Side.{Side}
use Rattle.market.specs.declared.side.Side.TheVariants.{Buy, SellLong, SellShort}
use Rattle.ledger.specs.Bounds.{Within, Bounded}
use Rattle.ledger.specs.Posting.{signed}
use Rattle.ledger.specs.Sums.{sum_z}
use Rattle.ledger.specs.Journals.{owed_of, paid_of, written_of, numbers_of}
use Rattle.ledger.specs.declared.journal.Journal.{Journal}
use Rattle.ledger.specs.declared.row.JournalRow.{JournalRow}

-- a sum of terms that lie within b
folded_within : {X : Type 0} (f : X → ℤ) (b : ℕ) → ((x : X) → Within b (f x)) → (n : ℕ) (a : ℤ) → Within n a → (xs : List X) → Within (n + b * length xs) (fold (λ a x. a +ℤ f x) a xs)
folded_within f b p n a h [] = simp (mul-zero, add-zero) h
folded_within f b p n a h (x ∷ xs) =
    let px = p x in
    let next : Within (n + b) (a +ℤ f x) = (omega (arith, ints), omega (arith, ints)) in
    let all = folded_within f b p (n + b) (a +ℤ f x) next xs in
    let long : n + b * length (x ∷ xs) ≡ n + b + b * length xs = rw mul-suc (omega arith) in
    (omega (arith, ints, all.0, long), omega (arith, ints, all.1, long))

pub sum_z_within : {X : Type 0} (f : X → ℤ) (b : ℕ) → ((x : X) → Within b (f x)) → (xs : List X) → Within (b * length xs) (sum_z f xs)
sum_z_within f b p xs =
    let all = folded_within f b p 0 (pos 0) (omega (arith, ints), omega (arith, ints)) xs in
    (omega (arith, ints, all.0), omega (arith, ints, all.1))

signed_within : (s : Side) (n b : ℕ) → n ≤ b → Within b (signed s (pos n))
signed_within Buy n b h = (omega (arith, ints), omega (arith, ints))
signed_within SellLong n b h = (omega (arith, ints), omega (arith, ints))
signed_within SellShort n b h = (omega (arith, ints), omega (arith, ints))

pub owed_within : (r : JournalRow) → Within 99 (owed_of r)
owed_within r = signed_within r.fill.side r.fill.shares 99 r.few

pub paid_within : (r : JournalRow) → Within 19800000000 (paid_of r)
paid_within r = signed_within r.fill.side (r.fill.shares * r.fill.price) 19800000000 (mul-le-mul r.few r.cheap)

far : (s z : ℤ) (n : ℕ) → n ≤ 65536 → Within 1000000000 s → Within (99 * n) z → Within 4000000000000000000 (s -ℤ z)
far s z n h p q = (omega (arith, ints), omega (arith, ints))

far_money : (s z : ℤ) (n : ℕ) → n ≤ 65536 → Within 100000000000000000 s → Within (19800000000 * n) z → Within 4000000000000000000 (s +ℤ z)
far_money s z n h p q = (omega (arith, ints), omega (arith, ints))

few_counted : {X : Type 0} (xs : List X) → length (counted xs) ≤ 65536
unfolding counted
few_counted xs = simp length-take (omega arith)

-- a journal stays within the bound
pub journal_bounded : (j : Journal) → Bounded (numbers_of j)
journal_bounded j =
    let few = few_counted (take j.used j.rows.now) in (
      far j.start.now.shares (sum_z owed_of (written_of j)) (length (written_of j)) few j.start.now.ok.0 (sum_z_within owed_of 99 owed_within (written_of j)),
      far_money j.start.now.money (sum_z paid_of (written_of j)) (length (written_of j)) few j.start.now.ok.1 (sum_z_within paid_of 19800000000 paid_within (written_of j)),
    )
