-- Laws of the points of a record as they are read: what each outcome leaves to be said.
use mathlib.Core.Path.{◌≡◌, refl, ap, ap₂, ◌∙◌}
use mathlib.Core.List.{List, ◌++◌}
use mathlib.Core.Option.{Option}
use Prim.Native.Nat.{ℕ, ◌≤◌}
use native.Mathlib.Omega.{arith}
use Rattle.lists.specs.Optional.{list_of}
use Rattle.outputs.specs.Outputs.{over}
use Rattle.refusals.specs.declared.Refusal.{Refusal}
use Rattle.refusals.specs.Tests.{first_of}
use Rattle.position_format.specs.declared.Form.{Form}
use Rattle.position_format.specs.Positions.{read_positions}
use Rattle.position_format.specs.Tables.{table_of}
use Rattle.record_format.specs.Fields.{tag_at, body_at, next_at}
use Rattle.record_format.specs.Runs.{form_of}
use Rattle.record_format.specs.Reading.{positions_at, ratios_at, end_at, count_in, form_in, positions_tests, ratios_tests}
use Rattle.std.specs.Prelude.{Ok}
use Rattle.record_parts.specs.Fields.{farthest, RefusedBy, CountFound, RatiosDue, CodedRead, PointsRead}
use Rattle.record_parts.proofs.Fields.{refused_as, past_clear}

-- past the count c, whose field stands at m: the positions at p, in the form o, which end at e and were read into the output ts, which is now ps
pub record PositionsPast (s ts : List ℕ) (c m p : ℕ) (o : Form) (e : ℕ) (ps : List ℕ) : Type 0 where
  pub count : CountFound s c m p
  pub form : o ≡ form_in s
  pub read : CodedRead (positions_tests s) (read_positions (table_of o) c) c s p (Ok e) ts ps

-- the form of the positions past a count
pub form_past : {s : List ℕ} {c m p : ℕ} {o : Form} → CountFound s c m p → o ≡ form_of (tag_at s p) → o ≡ form_in s
form_past {s} h e = e ∙ ap (λ (p : ℕ). form_of (tag_at s p)) h.next

module _ {s ts : List ℕ} {c m p : ℕ} {o : Form} {e : ℕ} {ps : List ℕ} (h : PositionsPast s ts c m p o e ps) where
  -- where the ratios' field stands
  ratios_at_lem : e ≡ ratios_at s
  ratios_at_lem = h.read.1.part.next ∙ ap (next_at s) h.count.next

  ratios_near : e ≤ farthest 4
  ratios_near = omega (arith, h.read.1.part.next, h.read.1.part.near, h.count.next, h.count.near)

  pub ratios_due : RatiosDue s e c
  ratios_due = record {
    here = ratios_at_lem;
    inside = omega (arith, h.read.1.part.next, h.read.1.part.inside);
    near = omega (arith, ratios_near);
    counted = h.count.counted;
    few = omega (arith, h.count.counted, h.count.few);
  }

  -- and then ratios by the reading k
  module _ (k : ℕ → List ℕ → Option (List ℕ)) (vs : List ℕ) where
    past_positions : first_of (positions_tests s ++ ratios_tests k s) ≡ first_of (ratios_tests k s)
    past_positions = past_clear (positions_tests s) (ratios_tests k s) refl h.read.0

    pub points_ratios : {g : Refusal} → RefusedBy (ratios_tests k s) g → RefusedBy (positions_tests s ++ ratios_tests k s) g
    points_ratios r = refused_as past_positions r

    pub points_found : (l : ℕ) (qs : List ℕ) → CodedRead (ratios_tests k s) (k c) c s e (Ok l) vs qs
        → PointsRead k s ts vs (Ok (record { form = o; from = e; end = l })) ps qs
    points_found l qs j =
        let b = h.count.counted in
        let at = ratios_at_lem in
        let ends : l ≡ end_at s = j.1.part.next ∙ ap (next_at s) at in (
          past_positions ∙ j.0,
          record {
            form = h.form;
            from = at;
            next = ends;
            inside = omega (arith, ends, j.1.part.next, j.1.part.inside);
            near = omega (arith, ends, j.1.part.next, j.1.part.near, ratios_near);
            positions = λ room.
                h.read.1.filled (omega (arith, b))
                ∙ ap₂ (λ (n q : ℕ). over (list_of (read_positions (table_of o) n (body_at s q))) ts) b h.count.next
                ∙ ap (λ (x : Form). over (list_of (read_positions (table_of x) (count_in s) (body_at s (positions_at s)))) ts) h.form;
            ratios = λ room. j.1.filled (omega (arith, b)) ∙ ap₂ (λ (n q : ℕ). over (list_of (k n (body_at s q))) vs) b at;
          },
        )
