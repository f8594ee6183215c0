-- What the program prints of a run's record, and of all other input.
use mathlib.Core.List.{List, ◌++◌}
use mathlib.Core.Logic.{⊎_elim}
use mathlib.Core.Path.{◌≡◌, refl, sym, ap, ap₂, ◌∙◌}
use Prim.Native.Nat.{ℕ, ◌-◌, ◌≤◌}
use native.Mathlib.Omega.{arith}
use borrow.Author.Tests.{ne_eqb}
use lib.ListN.{length, take}
use Rattle.limits.specs.Points.{max_points}
use Rattle.ratio_format.specs.RatioForms.{coded}
use Rattle.record_format.specs.Claims.{Accepted}
use Rattle.record_format.specs.Runs.{Run, record_of}
use Rattle.record_format.specs.declared.CheckAnswer.{CheckAnswer}
use Rattle.record_format.proofs.Writing.{accepted_fits, fitting_few}
use Rattle.text.specs.Lines.{refused_line}
use Rattle.inputs.specs.Inputs.{input_limit, check_input}
use Rattle.inputs.proofs.Inputs.{record_uncut, reads_record, reads_no_other}
use Rattle.explain.specs.Indexes.{given_index}
use Rattle.explain.specs.Printed.{body_in, index_text, answer_text, printed}
use Rattle.explain.specs.Claims.{BytesThere, PrintsReason, PrintsPast, PrintsOnly}
use Rattle.explain.proofs.Printed.Offsets.{body_same, offset_bytes}
use Rattle.explain.proofs.Printed.{point_lines_lem, point_past}

pub bytes_there : BytesThere
unfolding coded
bytes_there r a i h = (offset_bytes r (accepted_fits r a.passes) i h, refl)

-- of a record, whatever follows, the text for the index
record_text : (r : Run) → Accepted r → (rest t : List ℕ) → printed (record_of r ++ rest) t ≡ index_text (body_in (record_of r)) r.ratios (given_index t)
unfolding answer_text
record_text r a rest t =
    let f = accepted_fits r a.passes in
    let s = take input_limit (record_of r ++ rest) in
    let h = reads_record r a rest in
    ap₂ (λ (x : CheckAnswer) (q : Run). answer_text s x q t) h.0 h.1
    ∙ ap (λ (n : ℕ). index_text n r.ratios (given_index t)) (ap body_in (record_uncut r a rest) ∙ body_same r f (take (input_limit - length (record_of r)) rest))

few : (r : Run) → Accepted r → length r.ratios ≤ max_points
few r a = let f = accepted_fits r a.passes in omega (arith, f.paired, fitting_few r f)

pub prints_reason : PrintsReason
prints_reason r a rest t i e h =
    record_text r a rest t ∙ ap (index_text (body_in (record_of r)) r.ratios) e ∙ sym (point_lines_lem (body_in (record_of r)) r.ratios i h)

pub prints_past : PrintsPast
prints_past r a rest t other =
    ⊎_elim {C = printed (record_of r ++ rest) t ≡ refused_line 22 0}
    (λ e. record_text r a rest t ∙ ap (index_text (body_in (record_of r)) r.ratios) e)
    (λ p. record_text r a rest t ∙ ap (index_text (body_in (record_of r)) r.ratios) p.1 ∙ sym (point_past (body_in (record_of r)) r.ratios (few r a) p.0 p.2))
    other

pub prints_only : PrintsOnly
unfolding answer_text
prints_only s t b never =
    let n = reads_no_other s b never in
    (n, rw (ne_eqb (check_input s).number 0 n))
