-- `Sink::lay_both` meets its contract: as one field, or as one after the other.
use native.Mathlib.Omega.{arith}
use Rattle.bits.specs.Digits.{bits_of}
use Rattle.bits.proofs.Sinks.{laid-laid}
use Rattle.bits.proofs.Digits.Word.{two_lt, two_fits, two-bits}
use Rattle.bits.proofs.laying.Sink.lay_both.Goals as goal

pub overflow_add-x : goal.overflow_add-x
overflow_add-x c =
    let a = c.args in
    record { fits = two_fits a.p a.k c.requires.3 c.requires.5 c.if-n-le64.true }

pub lay-requires : goal.lay-requires
lay-requires c =
    let a = c.args in
    let fit = c.if-n-le64.true in
    (omega arith, fit, two_lt a.p a.k c.requires.3 c.requires.5 fit)

pub returns-then-n-le64 : goal.returns-then-n-le64
returns-then-n-le64 c =
    let a = c.args in
    let e = c.lay.ensures in
    (omega (arith, e.0), rw (two-bits a.p a.k c.requires.3 c.requires.5 c.if-n-le64.true) at e.1)

pub returns : goal.returns
returns c =
    let a = c.args in
    let e = c.lay-2.ensures in
    let f = c.lay-3.ensures in
    (omega (arith, e.0, f.0), laid-laid (bits_of a.p a.x) (bits_of a.k a.y) a.self _ _ a.out.now _ _ e.1 f.1)
