-- What the program prints of the example's records, of equal ones, and where a file is empty.
use mathlib.Core.List.{List, [], ◌++◌, append-nil}
use mathlib.Core.Path.{◌≡◌, refl, sym, ap, ap₂, ◌∙◌}
use Prim.Native.Nat.{ℕ}
use native.Mathlib.Omega.{arith}
use lib.Dec.{lit<}
use lib.Ieee.{of_bits, of_fields}
use Rattle.bits.specs.Digits.{digits_of}
use Rattle.lists.specs.Below.{Below}
use Rattle.lists.specs.Lists.{member, first_index}
use Rattle.limits.specs.Rates.{rates, is_rate}
use Rattle.refusals.specs.Tests.{first_of}
use Rattle.record_format.specs.Claims.{Accepted}
use Rattle.record_format.specs.Examples.{listed_run, listed_bytes}
use Rattle.record_format.specs.Checking.{found}
use Rattle.record_format.specs.Runs.{Run, record_of}
use Rattle.record_format.specs.declared.CheckAnswer.{CheckAnswer}
use Rattle.record_format.specs.Writing.{accepts}
use Rattle.record_format.proofs.Examples.{listed_record, listed_accepted}
use Rattle.inputs.specs.Inputs.{check_input, run_input}
use Rattle.inputs.proofs.Inputs.{reads_record}
use Rattle.text.specs.Numbers.{trimmed, decimal, hex16}
use Rattle.differences.specs.Differences.{position_at, ratio_at, points_to, differences}
use Rattle.differences.specs.Examples.{other_run}
use Rattle.differences.specs.Comparisons.{Comparison, refused_comparison}
use Rattle.differences.proofs.Comparisons.{compared-first, compared-second}
use Rattle.compare.specs.Lines.{property_line, position_line, ratio_line, more_line, differences_text, refused_in_line}
use Rattle.compare.specs.Printed.{comparison_text, printed}
use Rattle.compare.specs.Examples.{compared_text, refused_second, refused_first, PrintsExample}
use Rattle.compare.proofs.Claims.{prints_differences}
use Rattle.compare.proofs.Printed.{text_refused}

other_accepted : Accepted other_run
unfolding Below accepts first_of is_rate rates member first_index
other_accepted = record { words = (lit< tt, (lit< tt, (lit< tt, (lit< tt, (lit< tt, tt))))); passes = refl }

-- the text of two runs' records, with nothing behind them
of_runs : (r q : Run) → Accepted r → Accepted q → printed (record_of r) (record_of q) ≡ differences_text (differences r q)
of_runs r q a b = sym (ap₂ printed (append-nil (record_of r)) (append-nil (record_of q))) ∙ prints_differences r q a b [] []

texts : (differences_text (differences listed_run other_run) ≡ compared_text) × (differences_text (differences listed_run listed_run) ≡ [])
unfolding digits_of trimmed decimal hex16 of_bits of_fields position_at ratio_at points_to differences property_line position_line ratio_line more_line differences_text
texts = (refl, refl)

-- of an empty file the head of the rate's field is not whole, whichever it is
refused-empty : (w : ℕ) → refused_comparison (check_input []) w ≡ record { number = 10; place = 0; which = w; list = [] }
unfolding found first_of
refused-empty w = refl

not_read : (check_input []).number ≡ 0 → ⊥
not_read e = let n = ap (λ (c : Comparison). c.number) (refused-empty 1) in omega (arith, n, e)

lines : (refused_in_line 10 0 1 ≡ refused_first) × (refused_in_line 10 0 2 ≡ refused_second)
unfolding digits_of trimmed decimal refused_in_line
lines = (refl, refl)

line_empty : (w : ℕ) → comparison_text (refused_comparison (check_input []) w) ≡ refused_in_line 10 0 w
line_empty w = ap comparison_text (refused-empty w) ∙ text_refused (record { number = 10; place = 0; which = w; list = [] }) (λ e. omega (arith, e))

first-empty : (t : List ℕ) → printed [] t ≡ refused_first
first-empty t = ap comparison_text (compared-first (check_input []) (run_input []) (check_input t) (run_input t) not_read) ∙ line_empty 1 ∙ lines.0

second_empty : (r : Run) → Accepted r → printed (record_of r) [] ≡ refused_second
second_empty r a =
    let s = record_of r ++ [] in
    sym (ap (λ (l : List ℕ). printed l []) (append-nil (record_of r)))
    ∙ ap comparison_text
    (compared-second (check_input s) (run_input s) (check_input []) (run_input []) (ap (λ (x : CheckAnswer). x.number) (reads_record r a []).0) not_read)
    ∙ line_empty 2
    ∙ lines.1

pub prints_example : PrintsExample
prints_example = (
  ap (λ (l : List ℕ). printed l (record_of other_run)) (sym listed_record) ∙ of_runs listed_run other_run listed_accepted other_accepted ∙ texts.0,
  ap₂ printed (sym listed_record) (sym listed_record) ∙ of_runs listed_run listed_run listed_accepted listed_accepted ∙ texts.1,
  ap (λ (l : List ℕ). printed l []) (sym listed_record) ∙ second_empty listed_run listed_accepted,
  first-empty listed_bytes,
  first-empty [],
)
