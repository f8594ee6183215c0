-- `form_named` meets its contract: one of the two words, or another.
use mathlib.Core.Path.{◌≡◌}
use Rattle.lists.specs.Compare.{same}
use Rattle.move_record.specs.Words.{wide_word, old_word}
use Rattle.move_record.proofs.Words.{text_same, is_wide, is_old, is_other}
use Rattle.move_record.proofs.form_named.Goals as goal

pub returns-then-eq : goal.returns-then-eq
returns-then-eq c =
    let wide : c.eq.result ≡ same c.args.word.now wide_word = text_same c.args.word.now _ wide_word c.eq.ensures c.as_slice.ensures in
    is_wide c.args.word.now c.eq.result c.eq.result wide c.if-eq.true

pub returns-then-eq-2 : goal.returns-then-eq-2
returns-then-eq-2 c =
    let wide : c.eq.result ≡ same c.args.word.now wide_word = text_same c.args.word.now _ wide_word c.eq.ensures c.as_slice.ensures in
    let old : c.eq-2.result ≡ same c.args.word.now old_word = text_same c.args.word.now _ old_word c.eq-2.ensures c.as_slice-2.ensures in
    is_old c.args.word.now c.eq.result c.eq-2.result wide old c.if-eq.false c.if-eq-2.true

pub returns : goal.returns
returns c =
    let wide : c.eq.result ≡ same c.args.word.now wide_word = text_same c.args.word.now _ wide_word c.eq.ensures c.as_slice.ensures in
    let old : c.eq-2.result ≡ same c.args.word.now old_word = text_same c.args.word.now _ old_word c.eq-2.ensures c.as_slice-2.ensures in
    is_other c.args.word.now c.eq.result c.eq-2.result wide old c.if-eq.false c.if-eq-2.false
