-- `read_number` meets its contract, by what `read_field` finds.
use native.Mathlib.Nat.{pow-le-pow_right, lt_of_lt_of_le}
use native.Mathlib.Omega.{arith}
use Rattle.record_parts.proofs.Fields.{number_inside, number_is}
use Rattle.record_parts.proofs.front.read_number.Goals as goal

pub get_bytes-requires : goal.get_bytes-requires
get_bytes-requires c =
    let h = c.in_ok-field.ensures in
    (omega (arith, c.requires.2), number_inside c.args.input.now c.args.tag c.args.n c.args.at c.in_ok-field.field h.0 h.1)

-- a number of at most four bytes has 32 bits
pub overflow_cast-result : goal.overflow_cast-result
overflow_cast-result c = omega (arith, lt_of_lt_of_le c.get_bytes.ensures.1 (pow-le-pow_right (omega arith) c.requires.2))

pub returns : goal.returns
returns c =
    let h = c.in_ok-field.ensures in (
      h.0,
      record {
        part = h.1.part;
        value = number_is c.args.input.now c.args.tag c.args.n c.args.at c.in_ok-field.field h.0 h.1 _ c.get_bytes.ensures.0;
        small = c.get_bytes.ensures.1;
      },
    )
