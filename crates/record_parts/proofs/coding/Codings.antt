-- Laws of fields of coded numbers as they are read: what each outcome leaves to be said.
use mathlib.Core.Path.{◌≡◌, refl, sym, ap, ap₂, ◌∙◌, subst}
use mathlib.Core.Bool.{Bool, true, false, not, cond, false≢true}
use mathlib.Core.List.{List, [], ◌∷◌, ◌++◌}
use mathlib.Core.Option.{Option, none, some}
use Prim.Native.Nat.{ℕ, ◌+◌, ◌-◌, ◌≤◌, ◌<◌}
use native.Mathlib.Omega.{arith}
use borrow.Author.Tests.{leb-true, leb-false, ltb-true, lt-ltb, not-true, not-false}
use lib.Dec.{leb, ltb, eqb}
use lib.ListN.{length, take, drop}
use Rattle.lists.specs.Compare.{both}
use Rattle.lists.proofs.Compare.{both_true}
use Rattle.lists.specs.Optional.{missing}
use Rattle.limits.specs.Points.{max_points}
use Rattle.outputs.specs.Outputs.{Filled}
use Rattle.refusals.specs.declared.Refusal.{Refusal}
use Rattle.refusals.specs.Tests.{Test, test, refusal, first_of}
use Rattle.refusals.proofs.Tests.{first_of_here, first_of_skip, first_of_end}
use Rattle.position_format.specs.declared.Form.{Form}
use Rattle.position_format.specs.Positions.{read_positions}
use Rattle.position_format.specs.Tables.{table_of, points_of}
use Rattle.ratio_format.specs.Bodies.{Taken, whole_taken}
use Rattle.record_format.specs.Fields.{head_size, tag_at, length_at, body_at, next_at, head_tests, field_tests}
use Rattle.record_format.specs.Runs.{positions_tags, ratios_tag}
use Rattle.record_format.specs.Reading.{count_at, positions_at, count_in, form_in, positions_tests, ratios_tests}
use Rattle.record_format.proofs.Reading.{positions_few, positions_many, many_tag}
use Rattle.record_parts.specs.declared.field.FieldBody.{FieldBody}
use Rattle.std.specs.Prelude.{Ok}
use Rattle.record_parts.specs.declared.coding.Reading.{Reading}
use Rattle.record_parts.specs.Fields.{RefusedBy, FieldFound, FieldRead, FoundInto, CodedRead, ratios_by, RatiosDue}
use Rattle.record_parts.proofs.Fields.{refused_first, refused_as, refused_at, past_clear}

-- ---- a list that was read into an output, or not

-- where there is room
pub filled_into : (x : Option (List ℕ)) (c : ℕ) (b : Bool) (o q : List ℕ) → Filled x b o q → FoundInto x c b o q
filled_into none c b o q f = (f, λ e. absurd (false≢true (sym e)))
filled_into (some l) c b o q f = (f.0, λ _ _. f.1)

-- and where there is none
pub short_into : (x : Option (List ℕ)) (c : ℕ) (b : Bool) (o q : List ℕ) → length o < c → b ≡ not (missing x) → FoundInto x c b o q
short_into x c b o q h e = (e, λ _ room. absurd (omega arith))

-- whether there is a list is whether it is whole
pub whole-found : (n : ℕ) (s : List ℕ) (t : Taken) (b : Bool) → b ≡ both (eqb (length t.ratios) n) (eqb t.used (length s)) → b ≡ not (missing (whole_taken n s t))
whole-found n s t b e = go (both (eqb (length t.ratios) n) (eqb t.used (length s))) e
  where
    go : (x : Bool) → b ≡ x → b ≡ not (missing (cond x (some t.ratios) none))
    go true f = f
    go false f = f

-- what was found
into-none : (x : Option (List ℕ)) (c : ℕ) (b : Bool) (o q : List ℕ) → FoundInto x c b o q → b ≡ false → missing x ≡ true
into-none x c b o q f e = not-false (missing x) (sym f.0 ∙ e)

into-some : (x : Option (List ℕ)) (c : ℕ) (b : Bool) (o q : List ℕ) → FoundInto x c b o q → b ≡ true → missing x ≡ false
into-some x c b o q f e = not-true (missing x) (sym f.0 ∙ e)

-- ---- fields

-- a field's body, as it is lent
module _ (s : List ℕ) (p : ℕ) (f : FieldBody) (h : FieldFound s p f) where
  pub body_order : f.from ≤ f.to
  unfolding next_at
  body_order = omega (arith, h.from, h.part.next)

  body_lent : take (f.to - f.from) (drop f.from s) ≡ body_at s p
  unfolding body_at next_at
  body_lent =
      let e : f.to - f.from ≡ length_at s p = omega (arith, h.from, h.part.next) in
      ap₂ (λ (n m : ℕ). take n (drop m s)) e h.from

-- the tests of the field at p, whose body the reading k takes, or else the number x
abbrev pub coded_tests : List ℕ → List ℕ → (List ℕ → Option (List ℕ)) → ℕ → ℕ → List Test
coded_tests s tags k x p = field_tests s tags none p ++ (test (missing (k (body_at s p))) x p ∷ [])

-- the field at the offset p, where the tests us give the same refusal as its own
pub record CodedField (us : List Test) (tags : List ℕ) (k : List ℕ → Option (List ℕ)) (x : ℕ) (s : List ℕ) (p : ℕ) : Type 0 where
  pub numbered : x ≡ 0 → ⊥
  pub same : first_of us ≡ first_of (coded_tests s tags k x p)

-- by its tests and its body
module _ {us : List Test} {tags : List ℕ} {k : List ℕ → Option (List ℕ)} {x : ℕ} {s : List ℕ} {p : ℕ} (h : CodedField us tags k x s p) where
  abbrev fs : List Test
  fs = field_tests s tags none p

  abbrev ts : List Test
  ts = test (missing (k (body_at s p))) x p ∷ []

  pub coded-refused : {g : Refusal} → RefusedBy fs g → RefusedBy us g
  coded-refused r = refused_as h.same (refused_first ts r)

  module _ (f : FieldBody) (i : FieldRead fs s p (Ok f)) where
    past_field : first_of us ≡ first_of ts
    past_field = h.same ∙ past_clear fs ts refl i.0

    module _ (c : ℕ) (b : Bool) (o q : List ℕ) (got : FoundInto (k (take (f.to - f.from) (drop f.from s))) c b o q) where
      got_body : FoundInto (k (body_at s p)) c b o q
      got_body = subst (λ (l : List ℕ). FoundInto (k l) c b o q) (body_lent s p f i.1) got

      pub coded_none : b ≡ false → {g : Refusal} → g ≡ refusal x p → RefusedBy us g
      coded_none e q' = refused_at x p q' h.numbered (sym (past_field ∙ first_of_here _ _ (into-none (k (body_at s p)) c b o q got_body e)))

      pub coded-found : b ≡ true → CodedRead us k c s p (Ok f.to) o q
      coded-found e =
          let g = into-some (k (body_at s p)) c b o q got_body e in
          (past_field ∙ first_of_skip _ _ g ∙ first_of_end, record { part = i.1.part; filled = got_body.1 g })

-- a cut head decides, whatever tests follow
head_cut : (s tags : List ℕ) (p : ℕ) (xs ys : List Test) → ltb (length s) (p + head_size) ≡ true → first_of (head_tests s tags p ++ xs) ≡ first_of (head_tests s tags p ++ ys)
head_cut s tags p xs ys cut = first_of_here _ _ cut ∙ sym (first_of_here _ _ cut)

-- ---- the positions' field, by whether its head is whole and its form has fewer points than the count

module _ (s : List ℕ) (form : Form) (count at : ℕ) (is : form ≡ form_in s) (here : at ≡ positions_at s) (counted : count ≡ count_in s) (t : Bool)
    (et : t ≡ both (leb (at + head_size) (length s)) (ltb (points_of form) count)) where
  -- the same of what reading looks at
  tested : both (leb (positions_at s + head_size) (length s)) (ltb (points_of (form_in s)) (count_in s)) ≡ t
  tested =
      ap₂ (λ (p c : ℕ). both (leb (p + head_size) (length s)) (ltb (points_of (form_in s)) c)) (sym here) (sym counted)
      ∙ ap (λ (f : Form). both (leb (at + head_size) (length s)) (ltb (points_of f) count)) (sym is) ∙ sym et

  -- then it is refused
  pub many_refused : t ≡ true → count ≤ max_points → (place : ℕ) → place ≡ count_at s → refusal 15 place ≡ first_of (positions_tests s)
  many_refused e few place there =
      let p = both_true (leb (positions_at s + head_size) (length s)) _ (tested ∙ e) in
      ap (refusal 15) there
      ∙ positions_many s [] (leb-true _ _ p.0) (many_tag (tag_at s (positions_at s)) (count_in s) (omega arith) (ltb-true _ _ p.1)) p.1

  -- and else its tests are those of any field of coded numbers
  many_passed : t ≡ false → first_of (positions_tests s) ≡ first_of (coded_tests s positions_tags (read_positions (table_of form) count) 17 at)
  many_passed e =
      go (leb (positions_at s + head_size) (length s)) refl
      ∙ ap₂ (λ (p c : ℕ). first_of (coded_tests s positions_tags (read_positions (table_of (form_in s)) c) 17 p)) (sym here) (sym counted)
      ∙ ap (λ (f : Form). first_of (coded_tests s positions_tags (read_positions (table_of f) count) 17 at)) (sym is)
    where
      go : (b : Bool) → leb (positions_at s + head_size) (length s) ≡ b
          → first_of (positions_tests s) ≡ first_of (coded_tests s positions_tags (read_positions (table_of (form_in s)) (count_in s)) 17 (positions_at s))
      go true q = positions_few s [] (ap (λ (b : Bool). both b (ltb (points_of (form_in s)) (count_in s))) (sym q) ∙ tested ∙ e)
      go false q =
          let cut : ltb (length s) (positions_at s + head_size) ≡ true = lt-ltb (length s) (positions_at s + head_size) (leb-false (positions_at s + head_size) (length s) q) in
          head_cut s positions_tags (positions_at s) _ _ cut

  pub positions_coded : t ≡ false → CodedField (positions_tests s) positions_tags (read_positions (table_of form) count) 17 s at
  positions_coded e = record { numbered = λ z. omega arith; same = many_passed e }

-- ---- the ratios' field

pub ratios_coded : (r : Reading) (s : List ℕ) (p c : ℕ) → RatiosDue s p c → CodedField (ratios_tests (ratios_by r) s) (ratios_tag ∷ []) (ratios_by r c) 18 s p
ratios_coded r s p c h = record {
  numbered = λ z. omega arith;
  same = ap₂ (λ (m q : ℕ). first_of (coded_tests s (ratios_tag ∷ []) (ratios_by r m) 18 q)) (sym h.counted) (sym h.here);
}
