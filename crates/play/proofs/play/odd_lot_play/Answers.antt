use Rattle.std.proofs.Common.{inl}
use Rattle.play.proofs.Bounded.{written_few}
use Rattle.play.proofs.play.odd_lot_play.Goals as goal

pub packed-requires : goal.packed-requires
packed-requires c = written_few _ _ _ _ c.in-Ok.ensures.ok

pub returns-in-Ok : goal.returns-in-Ok
returns-in-Ok c = inl (c.in-Ok.ending, c.in-Ok.ensures.ok, c.packed.ensures)
