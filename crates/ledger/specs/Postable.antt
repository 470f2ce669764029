-- What checking a fill gives.
use Rattle.std.specs.Prelude.{◌≡◌, false, Ok, Err, Result}
use Rattle.market.specs.declared.refusal.Refusal.{Refusal}
use Rattle.market.specs.declared.refusal.Refusal.TheVariants.{BadField}
use Rattle.ledger.specs.Posting.{in_field}
use Rattle.ledger.specs.declared.fill.Fill.{Fill}
use Rattle.ledger.specs.declared.fill.Postable.{Postable}

-- the fill itself, which then fits; or a bad field, where it does not fit
abbrev pub Checked : Fill → Result Postable Refusal → Type 0
Checked f (Ok x) = x.fill ≡ f
Checked f (Err e) = (in_field f.shares f.price ≡ false) × (e ≡ BadField)
