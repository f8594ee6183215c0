-- The bytes of a record in each form, and the refusals of a run in the wide form.
use mathlib.Core.Path.{refl, ap}
use Prim.Native.Nat.{zero, suc}
use borrow.Author.Tests.{ne_eqb}
use lib.Dec.{eqb-suc-zero}
use Rattle.limits.proofs.Points.{none_high}
use Rattle.position_format.specs.declared.Form.TheVariants.{Wide}
use Rattle.position_format.proofs.Tables.WideRows.{wide_valid}
use Rattle.record_format.specs.Runs.{Run, run, positions_tag, record_of}
use Rattle.record_format.specs.WritingClaims.{FormNumbers, RecordFields, RefusesWide, AcceptsWide, FormsApart}
use Rattle.record_format.proofs.Writing.{refuses_by_form, fitting_accepted}
use Rattle.record_format.proofs.Claims.{prefix_free}

-- ---- the forms' numbers

pub form_numbers : FormNumbers
form_numbers = (refl, λ t d. rw (ne_eqb t (positions_tag Wide) d), refl, refl)

-- ---- writing

pub record_fields : RecordFields
unfolding record_of
record_fields r zero ts vs = (refl, refl)
record_fields r (suc d) ts vs = (rw (eqb-suc-zero d), rw (eqb-suc-zero d))

pub refuses-wide : RefusesWide
refuses-wide r d ts vs = refuses_by_form Wide r d ts vs

pub accepts-wide : AcceptsWide
accepts-wide r d ts vs listed sided paired few low words = record {
  words = words;
  passes = fitting_accepted (run r d Wide ts vs)
      (record { listed = listed; sided = sided; paired = paired; few = few; valid = wide_valid ts (none_high ts low) });
}

pub forms_apart : FormsApart
forms_apart r q a b d = prefix_free r q a b (λ e. d (ap (λ (x : Run). x.form) e))
