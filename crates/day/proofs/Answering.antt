-- What the answer of a check says of the reason to refuse a call, and what the making of an order says of the order.
use Rattle.std.proofs.Common.{◌≡◌, ℕ, true, false, length, Some, None, Ok, Err, Option, sym, ap, ◌∙◌, arith, ok_or}
use Rattle.std.proofs.lemmas.Bool.{cond-true, cond-false}
use Rattle.market.specs.declared.refusal.Refusal.{Refusal}
use Rattle.market.specs.declared.refusal.Refusal.TheVariants.{BadField}
use Rattle.market.specs.Limits.{has_accepted_room, has_live_room}
use Rattle.book.specs.declared.order.Order.{Order}
use Rattle.rules.specs.Machine.{new_order, order_refusal}
use Rattle.rules.specs.States.{State, is_closed}
use Rattle.rules.specs.declared.call.Call.TheVariants.{Order as OrderCall}
use Rattle.rules.specs.declared.call.NewOrder.{NewOrder}
use Rattle.day.specs.Calls.{Admitted, early_refusal}
use Rattle.ledger.specs.Posting.{answer_of}

pub refused_by : (o : Option Refusal) (e : Refusal) → Err e ≡ answer_of o → o ≡ Some e
refused_by None e h = let z : ◌≡◌ {A = ℕ} 0 1 = cc in absurd (omega arith)
refused_by (Some x) e h = cc

pub allowed_by : (o : Option Refusal) → Ok tt ≡ answer_of o → o ≡ None
allowed_by None h = cc
allowed_by (Some x) h = let z : ◌≡◌ {A = ℕ} 0 1 = cc in absurd (omega arith)

unmade : (o : Option Order) (e : Refusal) → Err e ≡ ok_or o BadField → (o ≡ None) × (e ≡ BadField)
unmade None e h = (cc, cc)
unmade (Some x) e h = let z : ◌≡◌ {A = ℕ} 0 1 = cc in absurd (omega arith)

made : (o : Option Order) (x : Order) → Ok x ≡ ok_or o BadField → o ≡ Some x
made None x h = let z : ◌≡◌ {A = ℕ} 0 1 = cc in absurd (omega arith)
made (Some y) x h = cc

-- an order call whose order is not made is refused
pub not_admitted : (s : State) (n : NewOrder) (e : Refusal) → is_closed s.figures.phase ≡ false → Err e ≡ ok_or (new_order s.figures n) BadField → early_refusal s (OrderCall n) ≡ Some e
not_admitted s n e on h =
    let none = unmade (new_order s.figures n) e h in
    cond-false _ _ _ on ∙ ap (order_refusal s.figures s.book) none.0 ∙ ap (λ x. Some x) (sym none.1)

-- and one whose order is made, and for which there is room, is admitted with it
pub is_admitted : (s : State) (n : NewOrder) (o : Order) → is_closed s.figures.phase ≡ false → Ok o ≡ ok_or (new_order s.figures n) BadField → has_accepted_room s.figures.accepted ≡ true → has_live_room (length s.book) ≡ true → Admitted s n (Ok o)
is_admitted s n o on h accepted live =
    let some = made (new_order s.figures n) o h in
    (cond-false _ _ _ on ∙ ap (order_refusal s.figures s.book) some ∙ cond-true _ _ _ accepted ∙ cond-true _ _ _ live, some, accepted, live)
