-- The two measures: by length and by bore.
use Rattle.std.specs.Prelude.{◌+◌, min, nat_le}
use Rattle.measure.specs.Meaning.{Meaning}

-- by length, in centimetres: lengths add up, but never above 2 to the 40th, and the smaller is no worse
abbrev pub by_length : Meaning
by_length = record {
  still = 0;
  greatest = 1099511627776;
  duct = λ length bore. length;
  join = λ a b. min (a + b) 1099511627776;
  no_worse = λ a b. nat_le a b;
}

-- by bore, in millimetres: a way is as wide as its narrowest duct, and the larger is no worse
abbrev pub by_bore : Meaning
by_bore = record {
  still = 65535;
  greatest = 65535;
  duct = λ length bore. bore;
  join = λ a b. min a b;
  no_worse = λ a b. nat_le b a;
}
