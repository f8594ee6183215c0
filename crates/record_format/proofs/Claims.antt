-- The demands on records, proved of the definitions.
pub mod Trailing
pub mod Returned
pub mod Admitted
use mathlib.Core.Path.{◌≡◌, refl, sym, ap, ap₂, ◌∙◌}
use mathlib.Core.Bool.{Bool, true, not, false≢true}
use mathlib.Core.List.{List, [], ◌∷◌, ◌++◌, append-nil, append_assoc}
use mathlib.Core.Option.{Option}
use Prim.Native.Nat.{ℕ, zero, suc, ◌≤◌, ◌<◌}
use native.Mathlib.Omega.{arith}
use lib.Dec.{eqb, lit<}
use lib.ListN.{length, drop}
use Rattle.lists.specs.Below.{Below}
use Rattle.lists.specs.Optional.{list_of}
use Rattle.lists.proofs.Lists.{every}
use Rattle.bits.specs.Digits.{bytes_of, number_of}
use Rattle.bits.proofs.Digits.{number_digits_lt}
use Rattle.limits.proofs.Rates.{rate_high}
use Rattle.refusals.specs.Tests.{first_of}
use Rattle.position_format.specs.declared.Form.{Form}
use Rattle.position_format.specs.declared.Form.TheVariants.{Old, Wide}
use Rattle.position_format.specs.Positions.{coded_positions, read_positions}
use Rattle.position_format.specs.Tables.{table_of}
use Rattle.position_format.proofs.Positions.{read_coded}
use Rattle.position_format.proofs.Tables.{table_good}
use Rattle.ratio_format.specs.Windows.{window_size}
use Rattle.ratio_format.specs.Bodies.{coded_ratios, open_ratios, strict_ratios}
use Rattle.ratio_format.proofs.Bodies.{nine_bytes}
use Rattle.ratio_format.proofs.Open.Shortest.{shortest}
use Rattle.ratio_format.proofs.Bodies.Strict.{strict_coded}
use Rattle.record_format.specs.Fields.{Field, field_bytes, laid}
use Rattle.record_format.specs.Runs.{Run, form_of, ratios_tag, rate_size, count_size, side_fields, positions_field, ratios_field, front_fields, fields_of, record_of}
use Rattle.record_format.specs.Writing.{run_tests, accepts}
use Rattle.record_format.specs.Reading.{end_at}
use Rattle.record_format.specs.Checking.{found, check_number}
use Rattle.record_format.specs.Fetching.{read_with, as_fetched}
use Rattle.record_format.specs.Moves.{Move, move_of}
use Rattle.record_format.specs.Claims.{Accepted, AllAccepted, joined, Writes, PrefixFree, ListsApart, TrailingBytes, Shortest, NineEach, count_place, positions_place, FieldPlaces}
use Rattle.record_format.proofs.Fields.{field_in, closed, closed_append, laid_same}
use Rattle.record_format.proofs.Runs.{same-run, form_of_lem, rate_index, count_index, positions_index, ratios_index, fields_small}
use Rattle.record_format.proofs.Reading.Sides.{sides_same}
use Rattle.record_format.proofs.Claims.Returned.{at_end_lem}
use Rattle.record_format.proofs.Claims.Trailing.{followed}
use Rattle.record_format.proofs.Moves.{own_move_lem, own_form}
use Rattle.record_format.proofs.Writing.{Fitting, accepted_fits, fitting_few, accepts_clear, clear_accepts, run-refused, run_no_room, run-written}

-- ---- writing

pub writes : Writes
unfolding accepts
writes r o = (
  λ e.
      let d : ((first_of (run_tests r)).number ≡ 0 → ⊥) = λ z. false≢true (sym e ∙ clear_accepts r z) in
      let h = run-refused r o (first_of (run_tests r)) refl d in
      (sym h.0, sym h.1),
  λ e short. let h = run_no_room r o (accepts_clear r e) short in (sym h.0, sym h.1),
  λ e room. let h = run-written r o (accepts_clear r e) room in (sym h.0, sym h.1),
)

pub field_places : FieldPlaces
field_places = ((refl, refl), go)
  where
    go : (d : ℕ) → 0 < d → (count_place d ≡ 11) × (positions_place d ≡ 16)
    go zero h = absurd (omega arith)
    go (suc d) h = (refl, refl)

-- ---- demand 3

-- the ratios' field is the last of a record
is_last : ℕ → Bool
is_last tag = eqb tag ratios_tag

-- the body of one of the fields
abbrev body_of : ℕ → List Field → List ℕ
body_of k fs = (field_in fs k).body

-- the fields of two runs are the same: the runs are the same
same_fields : (r q : Run) → Accepted r → Accepted q → fields_of r ≡ fields_of q → r ≡ q
same_fields r q a b e =
    let f = accepted_fits r a.passes in
    let g = accepted_fits q b.passes in
    let rates : bytes_of rate_size r.rate ≡ bytes_of rate_size q.rate = ap (body_of rate_index) e in
    let d = sides_same r.side q.side f.sided g.sided _ _ _ _ refl refl
    (sym (append_assoc (side_fields r.side) _ _) ∙ ap (drop (suc rate_index)) e ∙ append_assoc (side_fields q.side) _ _) in
    let counts : bytes_of count_size (length r.positions) ≡ bytes_of count_size (length q.positions) = ap (body_of count_index) d.1 in
    let forms : r.form ≡ q.form = sym (form_of_lem r.form) ∙ ap (λ (fs : List Field). form_of (field_in fs positions_index).tag) d.1 ∙ form_of_lem q.form in
    let bodies : coded_positions (table_of r.form) r.positions ≡ coded_positions (table_of q.form) q.positions = ap (body_of positions_index) d.1 in
    let codes : coded_ratios r.ratios ≡ coded_ratios q.ratios = ap (body_of ratios_index) d.1 in
    let n : length r.positions ≡ length q.positions =
    sym (number_digits_lt (lit< tt) count_size (omega (arith, fitting_few r f))) ∙ ap (number_of 256) counts ∙ number_digits_lt (lit< tt) count_size (omega (arith, fitting_few q g)) in
    same-run r q
    (sym (number_digits_lt (lit< tt) rate_size (omega (arith, rate_high r.rate f.listed))) ∙ ap (number_of 256) rates
    ∙ number_digits_lt (lit< tt) rate_size (omega (arith, rate_high q.rate g.listed)))
    d.0
    forms
    (ap list_of
    (sym (read_coded (table_of r.form) (table_good r.form) r.positions f.valid)
    ∙ ap (λ (x : Form). read_positions (table_of x) (length r.positions) (coded_positions (table_of r.form) r.positions)) forms
    ∙ ap₂ (read_positions (table_of q.form)) n bodies
    ∙ read_coded (table_of q.form) (table_good q.form) q.positions g.valid))
    (ap list_of
    (sym (strict_coded r.ratios a.words) ∙ ap₂ strict_ratios (f.paired ∙ n ∙ sym g.paired) codes ∙ strict_coded q.ratios b.words))

-- a record's fields end with that of the ratios: with a side and without, in either form
front_open : (rate side count : ℕ) → every (λ f. not (is_last f.tag)) (front_fields rate side count) ≡ true
unfolding is_last
front_open rate zero count = refl
front_open rate (suc n) count = refl

points_closed : (f : Form) (ts vs : List ℕ) → closed is_last (positions_field f ts ∷ ratios_field vs ∷ []) ≡ true
unfolding is_last
points_closed Old ts vs = refl
points_closed Wide ts vs = refl

fields_closed : (r : Run) → closed is_last (fields_of r) ≡ true
fields_closed r =
    closed_append is_last (front_fields r.rate r.side (length r.positions)) _ (front_open r.rate r.side (length r.positions))
    (points_closed r.form r.positions r.ratios)

-- bytes that begin with the records of two runs: the runs are the same, and so is what follows
pub records_unique : (r q : Run) → Accepted r → Accepted q → (x y : List ℕ) → record_of r ++ x ≡ record_of q ++ y → (r ≡ q) × (x ≡ y)
unfolding record_of
records_unique r q a b x y e =
    let h = laid_same is_last (fields_of r) (fields_of q) (fields_small r (accepted_fits r a.passes)) (fields_small q (accepted_fits q b.passes)) (fields_closed r) (fields_closed q) x y e in
    (same_fields r q a b h.0, h.1)

pub prefix_free : PrefixFree
prefix_free r q a b n = (
  λ t. n (records_unique r q a b t.0 [] (sym t.1 ∙ sym (append-nil (record_of q)))).0,
  λ t. n (records_unique r q a b [] t.0 (append-nil (record_of r) ∙ t.1)).0,
)

-- a record is not empty
record_nonempty : (r : Run) (x : List ℕ) → [] ≡ record_of r ++ x → ⊥
unfolding record_of laid field_bytes
record_nonempty r x e = let z : ◌≡◌ {A = ℕ} 0 1 = cc in omega arith

joined_apart : (rs qs : List Run) → AllAccepted rs → AllAccepted qs → joined rs ≡ joined qs → rs ≡ qs
unfolding joined
joined_apart [] [] a b e = refl
joined_apart [] (q ∷ qs) a b e = absurd (record_nonempty q (joined qs) e)
joined_apart (r ∷ rs) [] a b e = absurd (record_nonempty r (joined rs) (sym e))
joined_apart (r ∷ rs) (q ∷ qs) a b e =
    let h = records_unique r q a.0 b.0 (joined rs) (joined qs) e in
    ap₂ (λ (p : Run) (l : List Run). p ∷ l) h.0 (joined_apart rs qs a.1 b.1 h.1)

pub lists_apart : ListsApart
lists_apart rs qs a b = (joined_apart rs qs a b, ap joined)

-- a move of a run's record to its own form is refused at the positions' tag, and one to the other form answers by the run
moved_own : (r : Run) → Accepted r → (f : Form) (o : List ℕ) → (m : Move) × ((rest : List ℕ) → move_of f (record_of r ++ rest) o ≡ m)
moved_own r a f o = by_form f r.form refl
  where
    fit : Fitting r
    fit = accepted_fits r a.passes

    by_form : (f g : Form) → r.form ≡ g → (m : Move) × ((rest : List ℕ) → move_of f (record_of r ++ rest) o ≡ m)
    by_form Old Old e = (_, λ rest. own_form Old r fit rest e o)
    by_form Old Wide e = (_, λ rest. own_move_lem Old r fit a.words rest e o)
    by_form Wide Old e = (_, λ rest. own_move_lem Wide r fit a.words rest e o)
    by_form Wide Wide e = (_, λ rest. own_form Wide r fit rest e o)

-- every reading of the record alone and with what follows
module _ (r : Run) (a : Accepted r) (e : ℕ) (rest ts vs : List ℕ) where
  framed : end_at (record_of r) ≤ length (record_of r)
  framed =
      let alone = append-nil (record_of r) in
      omega (arith, sym (ap end_at alone) ∙ at_end_lem r (accepted_fits r a.passes) [])

  reads_same : (k : ℕ → List ℕ → Option (List ℕ)) → (found k e (record_of r ++ rest) ≡ found k e (record_of r)) × (read_with k e (record_of r ++ rest) ts vs ≡ read_with k e (record_of r) ts vs)
  reads_same k = let h = followed k e (record_of r) rest framed in (h.0, h.2 ts vs)

pub trailing_bytes : TrailingBytes
trailing_bytes r a e rest ts vs =
    let strict = reads_same r a e rest ts vs strict_ratios in (
      strict.0,
      ap check_number strict.0,
      ap as_fetched strict.1,
      (reads_same r a e rest ts vs open_ratios).1,
      λ f o. let m = moved_own r a f o in m.1 rest ∙ sym (m.1 []) ∙ ap (λ (l : List ℕ). move_of f l o) (append-nil (record_of r)),
    )

pub shortest_of_all : Shortest
unfolding Below
shortest_of_all vs s words bytes e = shortest window_size [] (length vs) s vs bytes tt e

pub nine_each : NineEach
nine_each vs = nine_bytes window_size [] vs
