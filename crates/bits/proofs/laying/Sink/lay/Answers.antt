-- `Sink::lay` meets its contract: the bits fit the word beside those held, or they fill it.
use mathlib.Core.Path.{refl}
use native.Mathlib.Omega.{arith}
use Rattle.bits.proofs.Sinks.{beside_fits, beside_laid, word_fits, past_laid}
use Rattle.bits.proofs.Digits.Word.{two_fits}
use Rattle.bits.proofs.laying.Sink.lay.Goals as goal

pub overflow_add-result : goal.overflow_add-result
overflow_add-result c =
    let a = c.args in
    let p = c.requires in
    record { fits = two_fits a.self.width a.n a.self.fits p.2 (omega arith) }

pub invariant_of-result : goal.invariant_of-result
invariant_of-result c =
    let a = c.args in
    record { small = c.if-width-lt64.true; fits = beside_fits a.self a.n a.w c.requires.2 c.if-width-lt64.true }

pub returns-then-width-lt64 : goal.returns-then-width-lt64
returns-then-width-lt64 c =
    let a = c.args in
    (omega arith, beside_laid a.self a.n a.w c.requires.2 c.if-width-lt64.true _ record { at = refl; held = refl; width = refl } a.out.now)

pub overflow_add-held : goal.overflow_add-held
overflow_add-held c =
    let a = c.args in
    let p = c.requires in
    record { fits = word_fits a.self a.n a.w p.1 p.2 c.if-width-lt64.false }

pub returns : goal.returns
returns c =
    let a = c.args in
    let p = c.requires in (
      omega arith,
      rw c.put_word.ensures
          (past_laid a.self a.n a.w p.1 p.2 c.if-width-lt64.false _ record { at = refl; held = refl; width = refl } a.out.now),
    )
