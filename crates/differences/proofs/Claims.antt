-- The list of two runs' differences has all of them and nothing else, and is empty exactly when the records are the same.
pub mod Calls
pub mod Order
use mathlib.Core.Bool.{Bool, true, false, cond}
use mathlib.Core.List.{List, [], ◌∷◌, ◌++◌, append-nil}
use mathlib.Core.Logic.{◌⊎◌, inl, inr, ⊎_elim}
use mathlib.Core.Path.{◌≡◌, refl, sym, ap, ap₂, subst, ◌∙◌}
use Prim.Native.Nat.{ℕ, zero, suc, ◌+◌, ◌-◌, ◌≤◌, ◌<◌, min}
use native.Mathlib.Omega.{arith}
use borrow.Author.Tests.{eqb-true, eqb-false, ltb-true, ltb-false}
use lib.Dec.{eqb, ltb}
use Rattle.std.proofs.lemmas.Option.{some_pair_parts}
use Rattle.std.proofs.Common.{Option, Some, None, option_map}
use lib.ListN.{length, get_or}
use lib.Seq.{ext_get_or}
use Rattle.kind.specs.Kinds.{kind_of}
use Rattle.position_format.specs.declared.Form.{Form}
use Rattle.record_format.specs.Claims.{Accepted}
use Rattle.record_format.specs.Runs.{Run, run, positions_tag, form_of, record_of}
use Rattle.record_format.proofs.Claims.{records_unique}
use Rattle.record_format.proofs.Runs.{form_of_lem}
use Rattle.record_format.proofs.Writing.{accepted_fits}
use Rattle.differences.specs.declared.Property.{Property}
use Rattle.differences.specs.declared.Property.TheVariants as property
use Rattle.differences.specs.declared.Difference.{Difference}
use Rattle.differences.specs.declared.Difference.TheVariants.{InProperty, Position, Ratio, More}
use Rattle.differences.specs.Differences.{property_difference, more_difference, values_at, position_by, ratio_by, position_at, ratio_at, listed, points_to, differences}
use Rattle.lists.specs.Among.{Among}
use Rattle.lists.proofs.Among.{among_left, among_right, among_either, among_none}
use Rattle.differences.specs.Claims.{value_of, Differs, ListsExactly, EmptyWhenSame}
use Rattle.differences.proofs.Differences.{property_other, more_other, values_beyond, values_other}

-- ---- the values at an index

-- two values that are not the same, at an index that both lists have
pub record Unlike (xs ys : List ℕ) (i x y : ℕ) : Type 0 where
  pub first : i < length xs
  pub second : i < length ys
  pub one : x ≡ get_or xs i 0
  pub other : y ≡ get_or ys i 0
  pub apart : x ≡ y → ⊥

values_unlike : (xs ys : List ℕ) (i x y : ℕ) → values_at xs ys i ≡ Some (x, y) → Unlike xs ys i x y
values_unlike xs ys i x y e = go (ltb i (length xs)) refl (ltb i (length ys)) refl
  where
    same_or_not : (t : Bool) → eqb (get_or xs i 0) (get_or ys i 0) ≡ t → cond {A = Option (ℕ × ℕ)} t None (Some (get_or xs i 0, get_or ys i 0)) ≡ Some (x, y) → i < length xs → i < length ys → Unlike xs ys i x y
    same_or_not true w h a b = absurd (let z : ◌≡◌ {A = ℕ} 0 1 = cc in omega arith)
    same_or_not false w h a b =
        let parts = some_pair_parts (get_or xs i 0) x (get_or ys i 0) y h in
        let one : x ≡ get_or xs i 0 = sym parts.0 in
        let other : y ≡ get_or ys i 0 = sym parts.1 in
        record { first = a; second = b; one = one; other = other; apart = λ s. eqb-false _ _ w (sym one ∙ s ∙ other) }

    go : (t : Bool) → ltb i (length xs) ≡ t → (u : Bool) → ltb i (length ys) ≡ u → Unlike xs ys i x y
    go false w u v = absurd (let s = values_beyond xs ys i (inl (ltb-false i (length xs) w)) ∙ e in let z : ◌≡◌ {A = ℕ} 0 1 = cc in omega arith)
    go true w false v = absurd (let s = values_beyond xs ys i (inr (ltb-false i (length ys) v)) ∙ e in let z : ◌≡◌ {A = ℕ} 0 1 = cc in omega arith)
    go true w true v = same_or_not (eqb (get_or xs i 0) (get_or ys i 0)) refl (let h = rw (w, v) at e in h) (ltb-true i (length xs) w) (ltb-true i (length ys) v)

-- ---- a difference that is listed is one

module _ (r q : Run) (d : Difference) where
  from_property : (p : Property) → Among d (listed (property_difference p (value_of p r) (value_of p q))) → Differs r q d
  unfolding Among
  from_property p h = go (eqb (value_of p r) (value_of p q)) refl h
    where
      go : (t : Bool) → eqb (value_of p r) (value_of p q) ≡ t → Among d (listed (cond t None (Some (InProperty p (value_of p r) (value_of p q))))) → Differs r q d
      go true w k = absurd k
      go false w (inl e) = subst (Differs r q) (sym e) (refl, refl, eqb-false _ _ w)
      go false w (inr k) = absurd k

  abbrev m : ℕ
  m = length r.positions

  abbrev n : ℕ
  n = length q.positions

  -- which of the two has more points
  longer : (m ≡ n → ⊥) → (t : Bool) → ltb m n ≡ t → (m ≡ n + ((m - n) + (n - m))) ⊎ (n ≡ m + ((m - n) + (n - m)))
  longer u true w = let l = ltb-true m n w in inr (omega arith)
  longer u false w = let l = ltb-false m n w in inl (omega arith)

  from_more : Among d (listed (more_difference m n)) → Differs r q d
  unfolding Among
  from_more h = go (eqb m n) refl h
    where
      go : (t : Bool) → eqb m n ≡ t → Among d (listed (cond t None (Some (More ((m - n) + (n - m)))))) → Differs r q d
      go true w k = absurd k
      go false w (inl e) = subst (Differs r q) (sym e) (λ z. eqb-false m n w (omega arith), longer (eqb-false m n w) (ltb m n) refl)
      go false w (inr k) = absurd k

  -- at an index that both have
  module _ (a : Accepted r) (b : Accepted q) where
    from_position : (i : ℕ) → i < min m n → Among d (listed (position_at r.positions q.positions i)) → Differs r q d
    unfolding Among position_at
    from_position i h k = go (values_at r.positions q.positions i) refl k
      where
        go : (z : Option (ℕ × ℕ)) → values_at r.positions q.positions i ≡ z → Among d (listed (option_map (position_by i) z)) → Differs r q d
        go None w k = absurd k
        go (Some (x, y)) w (inl e) =
            let u = values_unlike r.positions q.positions i x y w in
            subst (Differs r q) (sym e) ((u.first, u.second), u.one, u.other, u.apart)
        go (Some (x, y)) w (inr k) = absurd k

    from_ratio : (i : ℕ) → i < min m n → Among d (listed (ratio_at r.ratios q.ratios i)) → Differs r q d
    unfolding Among ratio_at
    from_ratio i h k = go (values_at r.ratios q.ratios i) refl k
      where
        go : (z : Option (ℕ × ℕ)) → values_at r.ratios q.ratios i ≡ z → Among d (listed (option_map (ratio_by i) z)) → Differs r q d
        go None w k = absurd k
        go (Some (x, y)) w (inl e) =
            let u = values_unlike r.ratios q.ratios i x y w in
            subst (Differs r q) (sym e) ((omega arith, omega arith), u.one, u.other, u.apart, refl, refl)
        go (Some (x, y)) w (inr k) = absurd k

    from_points : (k : ℕ) → k ≤ min m n → Among d (points_to r q k) → Differs r q d
    unfolding Among points_to
    from_points zero h l = absurd l
    from_points (suc k) h l =
        ⊎_elim (from_points k (omega arith))
        (λ here. ⊎_elim (from_position k (omega arith)) (from_ratio k (omega arith))
        (among_either d (listed (position_at r.positions q.positions k)) (listed (ratio_at r.ratios q.ratios k)) here))
        (among_either d (points_to r q k) _ l)

    from_list : Among d (differences r q) → Differs r q d
    unfolding differences
    from_list l =
        ⊎_elim (from_property property.Rate)
        (λ l. ⊎_elim (from_property property.Side)
        (λ l. ⊎_elim (from_property property.Count)
        (λ l. ⊎_elim (from_property property.Form)
        (λ l. ⊎_elim (from_points (min m n) (omega arith)) from_more (among_either d (points_to r q (min m n)) _ l))
        (among_either d (listed (property_difference property.Form (positions_tag r.form) (positions_tag q.form))) _ l))
        (among_either d (listed (property_difference property.Count m n)) _ l))
        (among_either d (listed (property_difference property.Side r.side q.side)) _ l))
        (among_either d (listed (property_difference property.Rate r.rate q.rate)) _ l)

-- ---- and every difference is listed

-- a difference that is one is listed by itself
listed_own : (d : Difference) (e : Option Difference) → Some d ≡ e → Among d (listed e)
unfolding Among
listed_own d e h = subst (λ (x : Option Difference). Among d (listed x)) h (inl refl)

module _ (r q : Run) where
  -- one of a property stands in its place
  in_property : (d : Difference) (p : Property) → Among d (listed (property_difference p (value_of p r) (value_of p q))) → Among d (differences r q)
  unfolding differences
  in_property d property.Rate h = among_left d (listed (property_difference property.Rate r.rate q.rate)) _ h
  in_property d property.Side h =
      among_right d (listed (property_difference property.Rate r.rate q.rate)) _
      (among_left d (listed (property_difference property.Side r.side q.side)) _ h)
  in_property d property.Count h =
      among_right d (listed (property_difference property.Rate r.rate q.rate)) _
      (among_right d (listed (property_difference property.Side r.side q.side)) _
      (among_left d (listed (property_difference property.Count (length r.positions) (length q.positions))) _ h))
  in_property d property.Form h =
      among_right d (listed (property_difference property.Rate r.rate q.rate)) _
      (among_right d (listed (property_difference property.Side r.side q.side)) _
      (among_right d (listed (property_difference property.Count (length r.positions) (length q.positions))) _
      (among_left d (listed (property_difference property.Form (positions_tag r.form) (positions_tag q.form))) _ h)))

  -- the points and the rest stand behind them
  in_points : (d : Difference)
      → Among d (points_to r q (min (length r.positions) (length q.positions)) ++ listed (more_difference (length r.positions) (length q.positions)))
      → Among d (differences r q)
  unfolding differences
  in_points d h =
      among_right d (listed (property_difference property.Rate r.rate q.rate)) _
      (among_right d (listed (property_difference property.Side r.side q.side)) _
      (among_right d (listed (property_difference property.Count (length r.positions) (length q.positions))) _
      (among_right d (listed (property_difference property.Form (positions_tag r.form) (positions_tag q.form))) _ h)))

  -- those at the index i, among those at the indices below k
  at_point : (d : Difference) (i k : ℕ) → i < k → Among d (listed (position_at r.positions q.positions i) ++ listed (ratio_at r.ratios q.ratios i)) → Among d (points_to r q k)
  unfolding points_to
  at_point d i zero h l = absurd (omega arith)
  at_point d i (suc k) h l = go (eqb i k) refl (λ below. at_point d i k below l)
    where
      go : (t : Bool) → eqb i k ≡ t → (i < k → Among d (points_to r q k))
          → Among d (points_to r q k ++ (listed (position_at r.positions q.positions k) ++ listed (ratio_at r.ratios q.ratios k)))
      go true w rest =
          among_right d (points_to r q k) _
          (subst (λ (j : ℕ). Among d (listed (position_at r.positions q.positions j) ++ listed (ratio_at r.ratios q.ratios j))) (eqb-true i k w) l)
      go false w rest = among_left d (points_to r q k) _ (rest (omega (arith, eqb-false i k w)))

  in_index : (d : Difference) (i : ℕ) → i < length r.positions → i < length q.positions
      → Among d (listed (position_at r.positions q.positions i) ++ listed (ratio_at r.ratios q.ratios i)) → Among d (differences r q)
  in_index d i h k l =
      in_points d (among_left d (points_to r q (min (length r.positions) (length q.positions))) _
      (at_point d i (min (length r.positions) (length q.positions)) (omega arith) l))

  module _ (a : Accepted r) (b : Accepted q) where
    into_list : (d : Difference) → Differs r q d → Among d (differences r q)
    unfolding Among position_at ratio_at
    into_list (InProperty p x y) h =
        in_property (InProperty p x y) p
        (listed_own (InProperty p x y) _
        (ap₂ (λ (u v : ℕ). Some (InProperty p u v)) h.0 h.1 ∙ property_other p (value_of p r) (value_of p q) (λ e. h.2 (h.0 ∙ e ∙ sym h.1))))
    into_list (Position i x y) h =
        in_index (Position i x y) i h.0.0 h.0.1
        (among_left (Position i x y) (listed (position_at r.positions q.positions i)) _
        (listed_own (Position i x y) _
        (ap₂ (λ (u v : ℕ). Some (Position i u v)) h.1 h.2
        ∙ ap (option_map (position_by i)) (values_other r.positions q.positions i h.0.0 h.0.1 (λ e. h.3 (h.1 ∙ e ∙ sym h.2))))))
    into_list (Ratio i x k y l) h =
        let f = accepted_fits r a.passes in
        let g = accepted_fits q b.passes in
        let made : Some (Ratio i x k y l) ≡ Some (ratio_by i (get_or r.ratios i 0, get_or q.ratios i 0)) =
        rw (h.4, h.5) (ap₂ (λ (u v : ℕ). Some (Ratio i u (kind_of u) v (kind_of v))) h.1 h.2) in
        in_index (Ratio i x k y l) i h.0.0 h.0.1
        (among_right (Ratio i x k y l) (listed (position_at r.positions q.positions i)) _
        (listed_own (Ratio i x k y l) _
        (made
        ∙ ap (option_map (ratio_by i)) (values_other r.ratios q.ratios i (omega (arith, f.paired, h.0.0)) (omega (arith, g.paired, h.0.1)) (λ e. h.3 (h.1 ∙ e ∙ sym h.2))))))
    into_list (More n) h =
        let m = length r.positions in
        let k = length q.positions in
        let number : n ≡ (m - k) + (k - m) = ⊎_elim {C = n ≡ (m - k) + (k - m)} (λ e. omega arith) (λ e. omega arith) h.1 in
        in_points (More n)
        (among_right (More n) (points_to r q (min m k)) _ (listed_own (More n) _ (more_other m k (λ e. h.0 (omega arith)) n number)))

pub lists_exactly : ListsExactly
lists_exactly r q a b d = (from_list r q d a b, into_list r q a b d)

-- ---- no difference

none-listed : (l : List Difference) → ((d : Difference) → Among d l → ⊥) → l ≡ []
unfolding Among
none-listed [] h = refl
none-listed (d ∷ l) h = absurd (h d (inl refl))

-- a run does not differ from itself
not_itself : (r : Run) (d : Difference) → Differs r r d → ⊥
not_itself r (InProperty p x y) h = h.2 (h.0 ∙ sym h.1)
not_itself r (Position i x y) h = h.3 (h.1 ∙ sym h.2)
not_itself r (Ratio i x k y l) h = h.3 (h.1 ∙ sym h.2)
not_itself r (More n) h = h.0 (⊎_elim {C = n ≡ 0} (λ e. omega arith) (λ e. omega arith) h.1)

pub none_own : (r : Run) → Accepted r → differences r r ≡ []
none_own r a = none-listed (differences r r) (λ d l. not_itself r d (from_list r r d a a l))

-- numbers that are not told apart are the same
told_same : (x y : ℕ) → ((x ≡ y → ⊥) → ⊥) → x ≡ y
told_same x y h = go (eqb x y) refl
  where
    go : (t : Bool) → eqb x y ≡ t → x ≡ y
    go true w = eqb-true x y w
    go false w = absurd (h (eqb-false x y w))

module _ (r q : Run) (a : Accepted r) (b : Accepted q) (none : differences r q ≡ []) where
  not_listed : (d : Difference) → Differs r q d → ⊥
  not_listed d h = among_none d (differences r q) none (into_list r q a b d h)

  same_value : (p : Property) → value_of p r ≡ value_of p q
  same_value p = told_same (value_of p r) (value_of p q) (λ n. not_listed (InProperty p (value_of p r) (value_of p q)) (refl, refl, n))

  same_positions : r.positions ≡ q.positions
  same_positions =
      ext_get_or 0 r.positions q.positions (same_value property.Count)
      (λ i h. told_same _ _ (λ n. not_listed (Position i (get_or r.positions i 0) (get_or q.positions i 0)) ((h, omega (arith, same_value property.Count)), refl, refl, n)))

  same-ratios : r.ratios ≡ q.ratios
  same-ratios =
      let f = accepted_fits r a.passes in
      let g = accepted_fits q b.passes in
      let l : length r.ratios ≡ length q.ratios = f.paired ∙ same_value property.Count ∙ sym g.paired in
      ext_get_or 0 r.ratios q.ratios l
      (λ i h. told_same _ _
      (λ n. not_listed (Ratio i (get_or r.ratios i 0) (kind_of (get_or r.ratios i 0)) (get_or q.ratios i 0) (kind_of (get_or q.ratios i 0)))
      ((omega (arith, f.paired), omega (arith, f.paired, same_value property.Count)), refl, refl, n, refl, refl)))

  pub same-run : r ≡ q
  same-run =
      let forms : r.form ≡ q.form = sym (form_of_lem r.form) ∙ ap form_of (same_value property.Form) ∙ form_of_lem q.form in
      ap (λ (x : ℕ). run x r.side r.form r.positions r.ratios) (same_value property.Rate)
      ∙ ap (λ (x : ℕ). run q.rate x r.form r.positions r.ratios) (same_value property.Side)
      ∙ ap (λ (x : Form). run q.rate q.side x r.positions r.ratios) forms
      ∙ ap₂ (λ (x y : List ℕ). run q.rate q.side q.form x y) same_positions same-ratios

pub empty_when_same : EmptyWhenSame
empty_when_same r q a b = (
  λ e. ap record_of (same-run r q a b e),
  λ e.
      let same = (records_unique r q a b [] [] (append-nil (record_of r) ∙ e ∙ sym (append-nil (record_of q)))).0 in
      subst (λ (x : Run). differences r x ≡ []) same (none_own r a),
)
