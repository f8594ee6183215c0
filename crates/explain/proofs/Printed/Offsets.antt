-- Laws of where a ratio's bytes stand: the body of the ratios' field in a run's record, and a ratio's bytes in it.
use mathlib.Core.List.{List, [], ◌++◌, append-nil}
use mathlib.Core.Path.{◌≡◌, sym, ap, subst, ◌∙◌}
use Prim.Native.Nat.{ℕ, ◌+◌, ◌≤◌, ◌<◌}
use native.Mathlib.Omega.{arith}
use lib.ListN.{length, get_or, take, drop, length-drop}
use lib.Seq.{take_all, drop-append_seam, drop-drop}
use Rattle.limits.specs.Points.{max_points}
use Rattle.ratio_format.specs.Bodies.{coded_from, coded_ratios}
use Rattle.ratio_format.specs.Choice.{ratio_form}
use Rattle.ratio_format.specs.RatioForms.{written}
use Rattle.ratio_format.specs.Windows.{window_size}
use Rattle.record_format.specs.Fields.{body_at}
use Rattle.record_format.specs.Runs.{Run, ratios_field, record_of}
use Rattle.record_format.proofs.Fields.{length_field}
use Rattle.record_format.proofs.Claims.Returned.{at_end_lem, ratios_stand}
use Rattle.record_format.proofs.Writing.{Fitting, fitting_few}
use Rattle.reasons.specs.Reasons.{window_at}
use Rattle.reasons.proofs.Claims.{names_ratio_form}
use Rattle.explain.specs.Printed.{body_in, offset_of}

module _ (r : Run) (fit : Fitting r) (rest : List ℕ) where
  abbrev s : List ℕ
  s = record_of r ++ rest

  -- its body ends where the record ends
  pub body_end : body_in s + length (coded_ratios r.ratios) ≡ length (record_of r)
  body_end = omega (arith, at_end_lem r fit rest, (ratios_stand r fit rest).next, length_field (ratios_field r.ratios))

  -- so what stands after the offset where it begins is the body, and what follows the record
  pub body_within : take (length (coded_ratios r.ratios)) (drop (body_in s) s) ≡ coded_ratios r.ratios
  unfolding body_at
  body_within = ap (λ (n : ℕ). take n (drop (body_in s) s)) (sym (ratios_stand r fit rest).stated) ∙ (ratios_stand r fit rest).within

-- what follows the record moves it nowhere
pub body_same : (r : Run) → Fitting r → (rest : List ℕ) → body_in (record_of r ++ rest) ≡ body_in (record_of r)
body_same r fit rest =
    let alone = subst (λ (l : List ℕ). body_in l + length (coded_ratios r.ratios) ≡ length (record_of r)) (append-nil (record_of r)) (body_end r fit []) in
    omega (arith, body_end r fit rest, alone)

-- in the record alone
record_body : (r : Run) → Fitting r → drop (body_in (record_of r)) (record_of r) ≡ coded_ratios r.ratios
record_body r fit =
    let n = length (coded_ratios r.ratios) in
    let alone : record_of r ++ [] ≡ record_of r = append-nil (record_of r) in
    let end = subst (λ (l : List ℕ). body_in l + n ≡ length (record_of r)) alone (body_end r fit []) in
    let within = subst (λ (l : List ℕ). take n (drop (body_in l) l) ≡ coded_ratios r.ratios) alone (body_within r fit []) in
    sym (take_all n (drop (body_in (record_of r)) (record_of r)) (omega (arith, end, length-drop (body_in (record_of r)) (record_of r)))) ∙ within

-- from the offset of the ratio of index i on stand its bytes and those of the ratios after it
pub offset_bytes : (r : Run) → Fitting r → (i : ℕ) → i < length r.ratios → let v = get_or r.ratios i 0 in let w = window_at r.ratios i in
    drop (offset_of (body_in (record_of r)) r.ratios i) (record_of r) ≡ written v (ratio_form v w) ++ coded_from window_size (window_at r.ratios (i + 1)) (drop (i + 1) r.ratios)
offset_bytes r fit i h =
    let vs = r.ratios in
    let few : length vs ≤ max_points = omega (arith, fit.paired, fitting_few r fit) in
    sym (drop-drop (length (coded_ratios (take i vs))) (body_in (record_of r)) (record_of r))
    ∙ ap (drop (length (coded_ratios (take i vs)))) (record_body r fit ∙ (names_ratio_form vs i few h).1)
    ∙ drop-append_seam (coded_ratios (take i vs)) _
