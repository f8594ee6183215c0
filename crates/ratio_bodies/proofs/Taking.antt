-- Reading ratio by ratio into an output, by any rule for one ratio: the output after the first i ratios, after one more, and where reading ends.
use Rattle.std.specs.Prelude.{None}
use mathlib.Core.Path.{◌≡◌, refl, sym, ap, ap₂, ◌∙◌, subst}
use mathlib.Core.Bool.{Bool, true, false, cond}
use mathlib.Core.List.{List, [], ◌∷◌, ◌++◌, append-nil, append_assoc}
use mathlib.Core.Option.{none, some}
use Prim.Native.Nat.{ℕ, suc, ◌+◌, ◌-◌, ◌≤◌, ◌<◌}
use native.Mathlib.Numerals.{add-one}
use native.Mathlib.Omega.{arith}
use lib.Dec.{eqb}
use lib.ListN.{length, get_or, take, drop, set, length-append, length-set, length-drop, take-append-drop, get_or-append}
use lib.Seq.{length-take-le, get_or-take, take-suc-set, drop-set-lt, drop-drop, append_snoc}
use Rattle.lists.specs.Compare.{both}
use Rattle.bits.specs.Digits.{byte_of}
use Rattle.outputs.specs.Outputs.{over, Filled}
use Rattle.ratio_format.specs.Windows.{window_size, push, window_of}
use Rattle.ratio_format.specs.Bodies.{Taken, none_taken, after_taken, taken_from, whole_taken}
use Rattle.ratio_format.proofs.Windows.{window_snoc}
use Rattle.ratio_format.proofs.Bodies.ReadFrom.{Rule}
use Rattle.ratio_format.proofs.Bodies.Taken.{RuleWithin, taken_stop, taken_next}
use Rattle.ratio_search.specs.BytePlanes.{Kept}
use Rattle.ratio_bodies.specs.declared.Took.{Took}
use Rattle.ratio_bodies.specs.Taking.{TakenInto, TakenOnto, Taking}
use Rattle.ratio_format.specs.Open.{Read, Ratio}

module _ (rule : Rule) (to : ℕ) (body o : List ℕ) (from begun : ℕ) where
  -- all that is taken from the offset `begun` on, after the first `from` ratios of o, and what is taken after the first i ratios, which stand in
  -- out and end at the offset `at`
  abbrev all : Taken
  all = taken_from rule window_size (window_of window_size (take from o)) (to - from) (drop begun body)

  abbrev rest : List ℕ → ℕ → ℕ → Taken
  rest out at i = taken_from rule window_size (window_of window_size (take i out)) (to - i) (drop at body)

  pub taking_start : from ≤ to → begun ≤ length body → Taking rule to body o from begun o begun from
  taking_start h g =
      let u : all.used ≡ 0 + all.used = omega arith in
      record {
        vs = [];
        k = 0;
        few = h;
        inside = g;
        many = omega arith;
        place = omega arith;
        sized = refl;
        front = sym (append-nil (take from o));
        back = refl;
        is = ap (λ (k : ℕ). record { ratios = all.ratios; used = k }) u;
      }

  module _ (out : List ℕ) (at i : ℕ) (t : Taking rule to body o from begun out at i) where
    -- no more is taken
    taking_end : rest out at i ≡ none_taken → TakenOnto all from begun i at o out
    taking_end e =
        let k : t.k + 0 ≡ t.k = omega arith in
        let q : all ≡ record { ratios = t.vs; used = t.k } =
        t.is ∙ ap (after_taken t.vs t.k) e ∙ ap₂ (λ (vs : List ℕ) (u : ℕ). record { ratios = vs; used = u }) (append-nil t.vs) k in
        let whole : out ≡ take from o ++ (t.vs ++ drop (from + length t.vs) o) =
        sym (take-append-drop i out) ∙ ap₂ (λ (x y : List ℕ). x ++ y) t.front (t.back ∙ ap (λ (m : ℕ). drop m o) t.many) ∙ append_assoc (take from o) t.vs _ in
        subst (λ (x : Taken). TakenOnto x from begun i at o out) (sym q) (t.many, t.place, whole)

    -- as many are taken as were asked for
    pub taking_all : to ≤ i → TakenOnto all from begun i at o out
    unfolding taken_from
    taking_all h =
        let z : to - i ≡ 0 = omega arith in
        taking_end (ap (λ (n : ℕ). taken_from rule window_size (window_of window_size (take i out)) n (drop at body)) z)

    -- r is what the rule finds in the rest of the body
    module _ (h : i < to) (r : Read) (found : r ≡ rule (window_of window_size (take i out)) (drop at body)) where
      abbrev w : List ℕ
      w = window_of window_size (take i out)

      left : to - i ≡ suc (to - (i + 1))
      left = omega arith

      -- nothing
      pub taking_stop : r ≡ None → TakenOnto all from begun i at o out
      taking_stop e =
          taking_end (ap (λ (n : ℕ). taken_from rule window_size w n (drop at body)) left ∙ taken_stop rule window_size w (to - (i + 1)) (drop at body) (sym found ∙ e))

      -- one ratio more
      module _ (within : RuleWithin rule) (v k : ℕ) (e : r ≡ Ratio v k) where
        pub taking_within : at + k ≤ length body
        taking_within = omega (arith, within w (drop at body) v k (sym found ∙ e), length-drop at body, t.inside)

        pub taking_more : to ≤ length o → Taking rule to body o from begun (set out i v) (at + k) (i + 1)
        taking_more room =
            let l : i < length out = omega (arith, t.sized) in
            let t₁ : take (i + 1) (set out i v) ≡ take i out ++ (v ∷ []) = ap (λ (n : ℕ). take n (set out i v)) (add-one i) ∙ take-suc-set out i v l in
            let next : Taken = taken_from rule window_size (push window_size v w) (to - (i + 1)) (drop k (drop at body)) in
            let is : next ≡ rest (set out i v) (at + k) (i + 1) =
            ap₂ (λ (x s : List ℕ). taken_from rule window_size x (to - (i + 1)) s) (sym (ap (window_of window_size) t₁ ∙ window_snoc window_size (take i out) v)) (drop-drop k at body) in
            let step : rest out at i ≡ after_taken (v ∷ []) k next =
            ap (λ (n : ℕ). taken_from rule window_size w n (drop at body)) left ∙ taken_next rule window_size w (to - (i + 1)) (drop at body) v k (sym found ∙ e) in
            let u : t.k + (k + next.used) ≡ t.k + k + next.used = omega arith in
            record {
              vs = t.vs ++ (v ∷ []);
              k = t.k + k;
              few = omega arith;
              inside = taking_within;
              many = omega (arith, t.many, length-append t.vs (v ∷ []));
              place = omega (arith, t.place);
              sized = length-set out i v ∙ t.sized;
              front = t₁ ∙ ap (λ (x : List ℕ). x ++ (v ∷ [])) t.front ∙ append_assoc (take from o) t.vs (v ∷ []);
              back = drop-set-lt (i + 1) out i v (omega arith) ∙ sym (drop-drop 1 i out) ∙ ap (drop 1) t.back ∙ drop-drop 1 i o;
              is = t.is ∙ ap (after_taken t.vs t.k) step
                  ∙ ap₂ (λ (vs : List ℕ) (n : ℕ). record { ratios = vs; used = n }) (sym (append_snoc t.vs v next.ratios)) u
                  ∙ ap (after_taken (t.vs ++ (v ∷ [])) (t.k + k)) is;
            }

    -- more ratios, which were read from there on
    module _ (new : List ℕ) (end j : ℕ) (u : Taking rule to body out i at new end j) where
      pub taking_join : Taking rule to body o from begun new end j
      taking_join =
          let n = length u.vs in
          let r = taken_from rule window_size (window_of window_size (take j new)) (to - j) (drop end body) in
          let x : t.k + (u.k + r.used) ≡ t.k + u.k + r.used = omega arith in
          record {
            vs = t.vs ++ u.vs;
            k = t.k + u.k;
            few = u.few;
            inside = u.inside;
            many = omega (arith, t.many, u.many, length-append t.vs u.vs);
            place = omega (arith, t.place, u.place);
            sized = u.sized ∙ t.sized;
            front = u.front ∙ ap (λ (l : List ℕ). l ++ u.vs) t.front ∙ append_assoc (take from o) t.vs u.vs;
            back = u.back ∙ ap (λ (m : ℕ). drop m out) u.many ∙ sym (drop-drop n i out) ∙ ap (drop n) t.back ∙ drop-drop n i o ∙ ap (λ (m : ℕ). drop m o) (sym u.many);
            is = t.is ∙ ap (after_taken t.vs t.k) u.is ∙ ap₂ (λ (vs : List ℕ) (m : ℕ). record { ratios = vs; used = m }) (sym (append_assoc t.vs u.vs r.ratios)) x;
          }

    -- the numbers that stood there before still do
    taking_old : from ≤ length o → (m : ℕ) → m < from → get_or out m 0 ≡ get_or o m 0
    taking_old h m g =
        sym (get_or-take i out m 0 (omega (arith, t.many))) ∙ ap (λ (l : List ℕ). get_or l m 0) t.front
        ∙ get_or-append (take from o) t.vs 0 m (omega (arith, length-take-le from o h)) ∙ get_or-take from o m 0 g

    -- and so do their planes
    pub taking_kept : from ≤ length o → (ps : List ℕ) (m : ℕ) → m ≤ from → Kept ps o m → Kept ps out m
    taking_kept h ps m g p = (p.0, λ j k x y z. p.1 j k x y z ∙ ap (λ (v : ℕ). byte_of v j) (sym (taking_old h k (omega arith))))

-- from the front of an output and of a body
pub onto_into : (rule : Rule) (n : ℕ) (s o p : List ℕ) (r : Took) → TakenOnto (all rule n s o 0 0) 0 0 r.count r.used o p → TakenInto (taken_from rule window_size [] n s) r o p
onto_into rule n s o p r f =
    let z : n - 0 ≡ n = omega arith in
    let q : all rule n s o 0 0 ≡ taken_from rule window_size [] n s = ap (λ (m : ℕ). taken_from rule window_size [] m s) z in
    let g : TakenOnto (taken_from rule window_size [] n s) 0 0 r.count r.used o p = subst (λ (t : Taken). TakenOnto t 0 0 r.count r.used o p) q f in
    let t = taken_from rule window_size [] n s in
    let c : r.count ≡ length t.ratios = omega (arith, g.0) in
    let u : r.used ≡ t.used = omega (arith, g.1) in
    let d : 0 + length t.ratios ≡ length t.ratios = omega arith in
    (ap₂ (λ (m k : ℕ). record { count = m; used = k }) c u, g.2 ∙ ap (λ (m : ℕ). t.ratios ++ drop m o) d)

-- a stretch that began at the front, by equal parts: what its output holds
pub onto_front : (rule : Rule) (n to : ℕ) (s o l p : List ℕ) (from begun count at : ℕ) → to ≡ n → l ≡ o → from ≡ 0 → begun ≡ 0
    → TakenOnto (all rule to s l from begun) from begun count at l p → p ≡ over (taken_from rule window_size [] n s).ratios o
onto_front rule n to s o l p from begun count at a b c d f =
    let g = subst (λ (x : ℕ). TakenOnto (all rule to s l x begun) x begun count at l p) c f in
    let h = subst (λ (x : ℕ). TakenOnto (all rule to s l 0 x) 0 x count at l p) d g in
    let i = subst (λ (x : List ℕ). TakenOnto (all rule to s x 0 0) 0 0 count at x p) b h in
    let j = subst (λ (x : ℕ). TakenOnto (all rule x s o 0 0) 0 0 count at o p) a i in
    (onto_into rule n s o p (record { count = count; used = at }) j).1

-- what a caller reads of a whole body: whether it is one, and the ratios
pub filled_whole : (n : ℕ) (s : List ℕ) (t : Taken) (r : Took) (b : Bool) (o p : List ℕ) → TakenInto t r o p → b ≡ both (eqb r.count n) (eqb r.used (length s))
    → Filled (whole_taken n s t) b o p
filled_whole n s t r b o p i e = go (both (eqb (length t.ratios) n) (eqb t.used (length s))) refl
  where
    as_taken : b ≡ both (eqb (length t.ratios) n) (eqb t.used (length s))
    as_taken = e ∙ ap (λ (x : Took). both (eqb x.count n) (eqb x.used (length s))) i.0

    go : (x : Bool) → both (eqb (length t.ratios) n) (eqb t.used (length s)) ≡ x → Filled (cond x (some t.ratios) none) b o p
    go true f = (as_taken ∙ f, i.1)
    go false f = as_taken ∙ f
