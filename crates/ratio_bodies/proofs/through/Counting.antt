-- What strict reading takes, counted stretch by stretch.
use mathlib.Core.Path.{◌≡◌, refl, sym, ap, ap₂, ◌∙◌, subst}
use mathlib.Core.Bool.{Bool, true, false}
use mathlib.Core.List.{List, [], ◌++◌}
use Prim.Native.Nat.{ℕ, ◌+◌, ◌-◌, ◌≤◌}
use native.Mathlib.Omega.{arith}
use borrow.Author.Tests.{ltb-true, ltb-false}
use lib.Dec.{ltb}
use lib.ListN.{length, drop, length-append}
use lib.Seq.{drop-drop}
use Rattle.ratio_format.specs.Windows.{window_size, window_of}
use Rattle.ratio_format.specs.Open.{strict_one}
use Rattle.ratio_format.specs.Bodies.{Taken, after_taken, taken_from, strict_taken}
use Rattle.ratio_format.proofs.Bodies.Taken.{taken_count, taken_part, taken_short}
use Rattle.ratio_bodies.specs.Taking.{took_of}

module _ (count : ℕ) (body : List ℕ) where
  abbrev rest : List ℕ → ℕ → ℕ → Taken
  rest us total at = taken_from strict_one window_size (window_of window_size us) (count - total) (drop at body)

  -- `total` ratios were taken from the first `at` bytes, and us are the last of them
  pub record Counted (us : List ℕ) (total at : ℕ) : Type 0 where
    pub few : total ≤ count
    pub inside : at ≤ length body
    pub many : length (strict_taken count body).ratios ≡ total + length (rest us total at).ratios
    pub used : (strict_taken count body).used ≡ at + (rest us total at).used

  pub counted_start : Counted [] 0 0
  counted_start =
      let z : count - 0 ≡ count = omega arith in
      record {
        few = omega arith;
        inside = omega arith;
        many = rw z (omega arith);
        used = rw z (omega arith);
      }

  -- by equal parts
  pub counted_is : (us vs : List ℕ) (total sum at end : ℕ) → us ≡ vs → total ≡ sum → at ≡ end → Counted us total at → Counted vs sum end
  counted_is us vs total sum at end e f g c = subst (λ (l : List ℕ). Counted l sum end) e (subst (λ (n : ℕ). Counted us n end) f (subst (Counted us total) g c))

  -- by the window alone
  pub counted_same : (us vs : List ℕ) (total at : ℕ) → window_of window_size us ≡ window_of window_size vs → Counted us total at → Counted vs total at
  counted_same us vs total at e c = record {
    few = c.few;
    inside = c.inside;
    many = c.many ∙ ap (λ (w : List ℕ). total + length (taken_from strict_one window_size w (count - total) (drop at body)).ratios) e;
    used = c.used ∙ ap (λ (w : List ℕ). at + (taken_from strict_one window_size w (count - total) (drop at body)).used) e;
  }

  module _ (us : List ℕ) (total at m : ℕ) (c : Counted us total at) (h : total + m ≤ count) where
    abbrev t : Taken
    t = taken_from strict_one window_size (window_of window_size us) m (drop at body)

    left : count - total ≡ m + (count - (total + m))
    left = omega arith

    -- m more
    pub counted_more : length t.ratios ≡ m → at + t.used ≤ length body → Counted (us ++ t.ratios) (total + m) (at + t.used)
    counted_more e g =
        let p = taken_part strict_one window_size us m (count - (total + m)) (drop at body) (count - total) left e in
        let d : rest (us ++ t.ratios) (total + m) (at + t.used) ≡ taken_from strict_one window_size (window_of window_size (us ++ t.ratios)) (count - (total + m)) (drop t.used (drop at body)) =
        ap (λ (l : List ℕ). taken_from strict_one window_size (window_of window_size (us ++ t.ratios)) (count - (total + m)) l) (sym (drop-drop t.used at body)) in
        let x : rest us total at ≡ after_taken t.ratios t.used (rest (us ++ t.ratios) (total + m) (at + t.used)) = p ∙ ap (after_taken t.ratios t.used) (sym d) in
        record {
          few = h;
          inside = g;
          many = omega (arith, c.many, e, ap (λ (y : Taken). length y.ratios) x, length-append t.ratios (rest (us ++ t.ratios) (total + m) (at + t.used)).ratios);
          used = omega (arith, c.used, ap (λ (y : Taken). y.used) x);
        }

    -- the end: fewer, or as many as were wanted
    pub counted_end : (length t.ratios ≡ m → count ≤ total + m) → took_of (strict_taken count body) ≡ record { count = total + length t.ratios; used = at + t.used }
    counted_end f =
        let x : rest us total at ≡ t = whole (ltb (length t.ratios) m) refl in
        let a : length (strict_taken count body).ratios ≡ total + length t.ratios = c.many ∙ ap (λ (y : Taken). total + length y.ratios) x in
        let b : (strict_taken count body).used ≡ at + t.used = c.used ∙ ap (λ (y : Taken). at + y.used) x in
        ap₂ (λ (i j : ℕ). record { count = i; used = j }) a b
      where
        whole : (b : Bool) → ltb (length t.ratios) m ≡ b → rest us total at ≡ t
        whole true e = taken_short strict_one window_size us m (count - (total + m)) (drop at body) (count - total) left (ltb-true (length t.ratios) m e)
        whole false e =
            let q = f (omega (arith, ltb-false (length t.ratios) m e, taken_count strict_one window_size (window_of window_size us) m (drop at body))) in
            let i : count - total ≡ m = omega arith in
            ap (λ (n : ℕ). taken_from strict_one window_size (window_of window_size us) n (drop at body)) i
