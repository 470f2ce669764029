use Rattle.std.proofs.Common.{◌≡◌, min, length, take, ap, arith}
use Rattle.ledger.proofs.Added.{front_written, counted_few}
use Rattle.ledger.proofs.journal.Journal.written.Goals as goal

pub returns : goal.returns
returns c =
    let j = c.args.self.now in
    let n : c.min-2.result ≡ min (min j.used (length j.rows.now)) 65536 = cc in
    let front = front_written c.min-2.result j.used j.rows.now n in
    record { value = front; few = omega (arith, counted_few (take j.used j.rows.now), ap length front) }
