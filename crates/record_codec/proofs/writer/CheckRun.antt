-- Laws of a run as it is written: a side past the last, the refusal of a run, and the fields of its record.
use mathlib.Core.List.{List, [], ◌∷◌, ◌++◌, append_assoc}
use mathlib.Core.Bool.{true}
use mathlib.Core.Path.{◌≡◌, sym, subst}
use Prim.Native.Nat.{ℕ, ◌<◌}
use lib.ListN.{length}
use Rattle.std.specs.Prelude.{Result, Ok, Err}
use Rattle.std.specs.Result.{IsErrAnd}
use Rattle.limits.specs.Rates.{is_rate}
use Rattle.limits.specs.Sides.{max_side}
use Rattle.position_format.specs.declared.Form.{Form}
use Rattle.refusals.specs.declared.Refusal.{Refusal}
use Rattle.refusals.specs.Tests.{refusal, first_of}
use Rattle.record_format.specs.Runs.{Run, run, fields_of, front_fields, positions_field, ratios_field}
use Rattle.record_format.specs.Writing.{run_tests}
use Rattle.record_format.proofs.Writing.{run_side, run-refused}
use Rattle.record_parts.specs.Fields.{RefusedBy}
use Rattle.record_parts.specs.Leads.{lead_fields}
use Rattle.record_codec.specs.Answers.{Writes}

-- a listed rate with a side past the last is refused by 21
pub side_refused : (rate side : ℕ) (form : Form) (ts vs : List ℕ) → is_rate rate ≡ true → max_side < side → refusal 21 0 ≡ first_of (run_tests (run rate side form ts vs))
side_refused rate side form ts vs listed past = run_side (run rate side form ts vs) listed past

-- a run that is refused, whatever the output
pub writes_err : (w : Run) (o p : List ℕ) (r : Result ℕ Refusal) {g : Refusal} → IsErrAnd r (λ y. y ≡ g) → RefusedBy (run_tests w) g → Writes w o r p
writes_err w o p (Ok n) h k = absurd h
writes_err w o p (Err y) {g} h k =
    let a = run-refused w o g k.first k.numbered in
    subst (λ (x : Refusal). Writes w o (Err x) p) (sym h) (a.0, a.1, k.numbered)

-- the fields up to the positions', and then the ratios' field
pub lead_then : (rate side : ℕ) (form : Form) (ts vs : List ℕ) → fields_of (run rate side form ts vs) ≡ lead_fields rate side form ts ++ (ratios_field vs ∷ [])
lead_then rate side form ts vs = sym (append_assoc (front_fields rate side (length ts)) (positions_field form ts ∷ []) (ratios_field vs ∷ []))
