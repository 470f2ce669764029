-- The ranges of the fields, ends included: each a test that computes.
use Rattle.std.specs.Prelude.{ℕ, Bool, ◌&&◌, ◌||◌, ◌==◌, nat_le, nat_lt}

-- a price, in ten-thousandths of a dollar
abbrev pub is_price : ℕ → Bool
is_price p = nat_le 1 p && nat_le p 200000000

-- a time, in milliseconds after midnight
abbrev pub is_time : ℕ → Bool
is_time t = nat_le t 86399999

-- the unit of trading, a round lot
abbrev pub is_unit : ℕ → Bool
is_unit unit = unit == 10 || unit == 100

-- an odd lot: 1 to the unit less one
abbrev pub is_odd_lot : ℕ → ℕ → Bool
is_odd_lot unit n = is_unit unit && nat_le 1 n && nat_lt n unit

-- the volume of a sale
abbrev pub is_volume : ℕ → ℕ → Bool
is_volume unit v = is_unit unit && nat_le unit v && nat_le v 100000000

-- the tag of a day
abbrev pub is_tag : ℕ → Bool
is_tag t = nat_le 1 t && nat_le t 268435455

-- one more live order may join this many
abbrev pub has_live_room : ℕ → Bool
has_live_room live = nat_lt live 512

-- one more order may be accepted after this many
abbrev pub has_accepted_room : ℕ → Bool
has_accepted_room accepted = nat_lt accepted 60000

-- the shares of one posting: an odd lot of the largest unit
abbrev pub is_postable : ℕ → Bool
is_postable n = nat_le 1 n && nat_le n 99
