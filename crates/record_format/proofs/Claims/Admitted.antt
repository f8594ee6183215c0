-- What is accepted: by any reading, bytes that begin with the fields of the rate, the side, the count and the positions that it answers; by
-- a check, bytes that begin with the record of a run that the writer accepts.
use mathlib.Core.Path.{◌≡◌, sym, ap, ◌∙◌, subst}
use mathlib.Core.Bool.{true}
use mathlib.Core.List.{List, [], ◌∷◌, ◌++◌}
use mathlib.Core.Option.{Option, some}
use Prim.Native.Nat.{ℕ, ◌≤◌, ◌^◌}
use lib.ListN.{length, drop}
use Rattle.lists.specs.Below.{Below}
use Rattle.limits.specs.Rates.{is_rate}
use Rattle.limits.specs.Sides.{max_side}
use Rattle.refusals.specs.Tests.{first_of}
use Rattle.position_format.specs.Positions.{valid_positions}
use Rattle.position_format.specs.Tables.{table_of, points_of}
use Rattle.position_format.proofs.Positions.{read_only}
use Rattle.ratio_format.specs.Bodies.{strict_ratios}
use Rattle.ratio_format.proofs.Bodies.Strict.{strict_only_body, strict_below}
use Rattle.record_format.specs.Fields.{Field, body_at, next_at, laid}
use Rattle.record_format.specs.Runs.{Run, run, side_fields, count_field, positions_field, ratios_field, front_fields, fields_of, record_of}
use Rattle.record_format.specs.Reading.{record_tests, rate_at, side_at, positions_at, ratios_at, rate_in, side_in, count_in, form_in, positions_in}
use Rattle.record_format.proofs.Fields.{Follow, past_all, past_append, follow_laid, follow_append}
use Rattle.record_format.proofs.Reading.{sound_follows, sound_below, sound_number}
use Rattle.record_format.proofs.Reading.Sides.{side_follows}
use Rattle.record_format.proofs.Reading.Sound.{FrontSound, RecordSound, record_clear}
use Rattle.record_format.proofs.Writing.{Fitting}

-- ---- the front

-- the fields of the front that is read in them follow one another, up to the positions'
front_follows : (s : List ℕ) → Below 256 s → FrontSound s
    → let front = front_fields (rate_in s) (side_in s) (count_in s) in Follow s rate_at front × (past_all s rate_at front ≡ positions_at s)
front_follows s bytes h =
    let sides = side_fields (side_in s) in
    let count = count_field (count_in s) ∷ [] in
    let d = side_follows s bytes h.side in (
      (
        sound_follows bytes h.rate _ (sound_number bytes h.rate),
        follow_append s (side_at s) sides count d.follows
            (subst (λ (p : ℕ). Follow s p count) (sym d.then_count) (sound_follows bytes h.count _ (sound_number bytes h.count), tt)),
      ),
      past_append s (side_at s) sides count ∙ ap (next_at s) d.then_count,
    )

-- so the bytes begin with it
pub front_splits : (s : List ℕ) → Below 256 s → FrontSound s → s ≡ laid (front_fields (rate_in s) (side_in s) (count_in s)) ++ drop (positions_at s) s
front_splits s bytes h =
    let f = front_follows s bytes h in
    follow_laid s rate_at (front_fields (rate_in s) (side_in s) (count_in s)) f.0
    ∙ ap (λ (p : ℕ). laid (front_fields (rate_in s) (side_in s) (count_in s)) ++ drop p s) f.1

-- and with the positions, as they are read in their form
positions_follow : (s : List ℕ) → Below 256 s → (k : ℕ → List ℕ → Option (List ℕ)) → (h : RecordSound k s) → (fs : List Field) → Follow s (ratios_at s) fs
    → Follow s rate_at (front_fields (rate_in s) (side_in s) (length h.points.0) ++ (positions_field (form_in s) h.points.0 ∷ fs))
positions_follow s bytes k h fs later =
    let p = read_only (table_of (form_in s)) (count_in s) (body_at s (positions_at s)) h.points.0 h.points.1 in
    let f = front_follows s bytes h.front in
    let points = positions_field (form_in s) h.points.0 ∷ fs in
    subst (λ (n : ℕ). Follow s rate_at (front_fields (rate_in s) (side_in s) n ++ points)) (sym p.2)
    (follow_append s rate_at (front_fields (rate_in s) (side_in s) (count_in s)) points f.0 (subst (λ (q : ℕ). Follow s q points) (sym f.1) (sound_follows bytes h.positions _ p.0, later)))

-- the front and the positions of bytes that are not refused
pub record FrontStands (s : List ℕ) : Type 0 where
  pub listed : is_rate (rate_in s) ≡ true
  pub sided : side_in s ≤ max_side
  pub points : List ℕ
  pub read : positions_in s ≡ some points
  pub many : count_in s ≡ length points
  pub few : length points ≤ points_of (form_in s)
  pub valid : valid_positions (table_of (form_in s)) points ≡ true
  pub rest : List ℕ
  pub splits : s ≡ laid (front_fields (rate_in s) (side_in s) (length points) ++ (positions_field (form_in s) points ∷ [])) ++ rest

pub front_stands : (k : ℕ → List ℕ → Option (List ℕ)) (e : ℕ) (s : List ℕ) → Below 256 s → (first_of (record_tests k e s)).number ≡ 0 → FrontStands s
front_stands k e s bytes clear =
    let h = record_clear k e s clear in
    let ps = h.points.0 in
    let p = read_only (table_of (form_in s)) (count_in s) (body_at s (positions_at s)) ps h.points.1 in
    let fields = front_fields (rate_in s) (side_in s) (length ps) ++ (positions_field (form_in s) ps ∷ []) in
    record {
      listed = h.front.listed;
      sided = (side_follows s bytes h.front.side).sided;
      points = ps;
      read = h.points.1;
      many = sym p.2;
      few = subst (λ (c : ℕ). c ≤ points_of (form_in s)) (sym p.2) h.few;
      valid = p.1;
      rest = drop (past_all s rate_at fields) s;
      splits = follow_laid s rate_at fields (positions_follow s bytes k h [] tt);
    }

-- ---- the whole record, its ratios read strictly

-- a run whose record the bytes s begin with
pub record Begins (s : List ℕ) : Type 0 where
  pub own : Run
  pub fits : Fitting own
  pub ratios : Below (2 ^ 64) own.ratios
  pub rest : List ℕ
  pub splits : s ≡ record_of own ++ rest

begins : (s : List ℕ) → Below 256 s → RecordSound strict_ratios s → Begins s
unfolding record_of
begins s bytes h =
    let ts = h.points.0 in
    let vs = h.values.0 in
    let p = read_only (table_of (form_in s)) (count_in s) (body_at s (positions_at s)) ts h.points.1 in
    let q = strict_only_body (count_in s) (body_at s (ratios_at s)) vs h.values.1 in
    let r = run (rate_in s) (side_in s) (form_in s) ts vs in
    let follow : Follow s rate_at (fields_of r) = positions_follow s bytes strict_ratios h (ratios_field vs ∷ []) (sound_follows bytes h.ratios _ q.0, tt) in
    record {
      own = r;
      fits = record {
        listed = h.front.listed;
        sided = (side_follows s bytes h.front.side).sided;
        paired = q.1 ∙ sym p.2;
        few = subst (λ (k : ℕ). k ≤ points_of (form_in s)) (sym p.2) h.few;
        valid = p.1;
      };
      ratios = strict_below (count_in s) (body_at s (ratios_at s)) vs (sound_below bytes h.ratios) h.values.1;
      rest = drop (past_all s rate_at (fields_of r)) s;
      splits = follow_laid s rate_at (fields_of r) follow;
    }

-- bytes that a check's tests do not refuse begin with a run's record
pub clear_begins : (e : ℕ) (s : List ℕ) → Below 256 s → (first_of (record_tests strict_ratios e s)).number ≡ 0 → Begins s
clear_begins e s bytes h = begins s bytes (record_clear strict_ratios e s h)
