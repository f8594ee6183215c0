-- What the program prints, by what reading its input left.
use mathlib.Core.Path.{◌≡◌, sym, ap, ◌∙◌}
use mathlib.Core.List.{List}
use Prim.Native.Nat.{ℕ, ◌+◌, ◌*◌, ◌≤◌}
use native.Mathlib.Omega.{arith}
use borrow.Author.Tests.{eq-eqb, ne_eqb}
use lib.IntN.{ℤ, pos}
use lib.ListN.{length, take}
use lib.Seq.{length-take-le}
use Rattle.std.specs.Prelude.{Result, Ok, Err}
use Rattle.std.specs.Result.{result_unwrap_or}
use Rattle.refusals.specs.declared.Refusal.{Refusal}
use Rattle.record_format.specs.declared.CheckAnswer.{CheckAnswer}
use Rattle.record_format.specs.Runs.{Run}
use Rattle.span.specs.declared.SpanAnswer.{SpanAnswer}
use Rattle.span.specs.Spans.{spanned, span_numbers}
use Rattle.text.specs.Lines.{refused_line}
use Rattle.inputs.specs.Inputs.{run_input}
use Rattle.inputs.specs.Readings.{RunHeld, InputRead}
use Rattle.inputs.proofs.Readings.{read_own}
use Rattle.listing.specs.Lines.{listing}
use Rattle.listing.specs.Printed.{text_limit, listing_of, text_of, printed}

-- the text of a run fits
pub listing_within : {n : ℕ} {ts vs : List ℕ} → RunHeld n ts vs → 106 + 38 * length (take n ts) ≤ text_limit
listing_within {n} {ts} h = omega (arith, length-take-le n ts h.positions, h.few)

module _ {s : List ℕ} {r : CheckAnswer} {ts vs : List ℕ} (h : InputRead s r ts vs) where
  answered : text_of r (run_input s) ≡ printed s
  answered = ap (λ (a : CheckAnswer). text_of a (run_input s)) h.answered

  -- a refusal
  pub refused_text_lem : (r.number ≡ 0 → ⊥) → refused_line r.number r.place ≡ printed s
  unfolding text_of
  refused_text_lem n = sym (rw (ne_eqb r.number 0 n)) ∙ answered

  listed : r.number ≡ 0 → text_of r (run_input s) ≡ listing_of (run_input s)
  unfolding text_of
  listed ok = rw (eq-eqb r.number 0 ok)

  -- a run
  pub run_text : r.number ≡ 0 → (z : ℤ) → z ≡ (spanned r.rate (take r.count ts)).milliseconds
      → listing r.rate r.side z (take r.count ts) (take r.count vs) ≡ printed s
  run_text ok z e =
      let o = read_own h ok in
      let same : (r.rate ≡ (run_input s).rate) × (r.side ≡ (run_input s).side) =
      (ap (λ (x : CheckAnswer). x.rate) o.3 ∙ sym (ap (λ (x : Run). x.rate) o.4), ap (λ (x : CheckAnswer). x.side) o.3 ∙ sym (ap (λ (x : Run). x.side) o.4)) in
      rw (e, same.0, same.1, h.positions ok, h.ratios ok) (sym (listed ok) ∙ answered)

-- the span of a call's answer is 0 where it refuses
pub span_is : (r : Result ℤ Refusal) {a : SpanAnswer} {z : ℤ} → span_numbers r ≡ a → z ≡ result_unwrap_or r (pos 0) → z ≡ a.milliseconds
span_is (Ok x) e h = h ∙ ap (λ (a : SpanAnswer). a.milliseconds) e
span_is (Err f) e h = h ∙ ap (λ (a : SpanAnswer). a.milliseconds) e
