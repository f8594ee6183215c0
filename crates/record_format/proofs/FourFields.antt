-- Records without a side in the old form are those of document 01.
use mathlib.Core.Path.{◌≡◌, refl, ap, subst, ◌∙◌}
use mathlib.Core.Bool.{Bool, true, cond}
use mathlib.Core.List.{List, ◌++◌}
use Prim.Native.Nat.{ℕ}
use borrow.Author.Tests.{not-false}
use lib.Dec.{lit<}
use Rattle.position_format.specs.declared.Form.TheVariants.{Old}
use Rattle.refusals.specs.declared.Refusal.{Refusal}
use Rattle.limits.specs.Rates.{is_rate}
use Rattle.refusals.specs.Tests.{refusal, first_of}
use Rattle.refusals.proofs.Tests.{first_of_clear}
use Rattle.record_format.specs.Runs.{run, record_of}
use Rattle.record_format.specs.Claims.{Accepted}
use Rattle.record_format.specs.CheckClaims.{ChecksBack}
use Rattle.record_format.specs.FetchClaims.{FetchesBack}
use Rattle.record_format.specs.OpenReading.{OpensBack}
use Rattle.record_format.specs.FourFields.{four_tests, SameRecord, RefusesBySide, ReadsAsZero}
use Rattle.record_format.proofs.Writing.{refuses_by_form, clear_accepts}
use Rattle.record_format.proofs.CheckClaims.{checks_record}
use Rattle.record_format.proofs.FetchClaims.{fetches_record}
use Rattle.record_format.proofs.OpenReading.{opens_record}

pub same_record : SameRecord
unfolding record_of
same_record r ts vs = refl

pub refuses_by_side : RefusesBySide
refuses_by_side r d ts vs = refuses_by_form Old r d ts vs

-- document 01's tests refuse a rate first
listed_clear : (r : ℕ) (ts vs : List ℕ) → (first_of (four_tests r ts vs)).number ≡ 0 → is_rate r ≡ true
listed_clear r ts vs clear = not-false _ (first_of_clear _ _ (lit< tt) clear).0

pub reads_as_zero : ReadsAsZero
reads_as_zero r ts vs words clear e rest ps qs =
    let own = run r 0 Old ts vs in
    let a : Accepted own = record { words = words; passes = clear_accepts own (ap (λ (f : Refusal). f.number) (refuses_by_side r 0 ts vs) ∙ ap (λ (b : Bool). (cond b (first_of (four_tests r ts vs)) (refusal 1 0)).number) (listed_clear r ts vs clear) ∙ clear) } in (
      subst (λ (l : List ℕ). ChecksBack own e (l ++ rest)) (same_record r ts vs) (checks_record own a e rest),
      subst (λ (l : List ℕ). FetchesBack own e (l ++ rest) ps qs) (same_record r ts vs) (fetches_record own a e rest ps qs),
      subst (λ (l : List ℕ). OpensBack own e (l ++ rest) ps qs) (same_record r ts vs) (opens_record own a e rest ps qs),
    )
