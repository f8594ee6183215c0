-- The claims of specs/SteppingClaims on making a reader and on one step; those on successive steps are proved in proofs/Stepping.
use Rattle.std.specs.Prelude.{None}
use mathlib.Core.Bool.{Bool, true, false, cond}
use mathlib.Core.List.{List, ◌++◌}
use mathlib.Core.Path.{◌≡◌, refl, ap, ◌∙◌}
use Prim.Native.Nat.{ℕ, ◌^◌, ◌≤◌, ◌<◌}
use native.Mathlib.Omega.{arith}
use borrow.Author.Tests.{lt-ltb}
use lib.Dec.{ltb}
use lib.ListN.{length, drop, take}
use Rattle.lists.specs.Below.{Below}
use Rattle.lists.proofs.Below.{below_take, below_drop}
use Rattle.limits.specs.Points.{max_points}
use Rattle.ratio_format.specs.declared.Cursor.{Cursor}
use Rattle.ratio_format.specs.Windows.{window_size, held}
use Rattle.ratio_format.specs.RatioForms.{coded}
use Rattle.ratio_format.specs.Open.{Read, Ratio, strict_one}
use Rattle.ratio_format.specs.Lives.{bad_window}
use Rattle.ratio_format.specs.Stepping.{bad_cursor, next_read, step_answer, step_cursor}
use Rattle.ratio_format.specs.SteppingClaims.{Makes, GoodReader, StepsSo, Steps}
use Rattle.ratio_format.proofs.Windows.{reverse_below, held-length}
use Rattle.ratio_format.proofs.Open.{strict_takes, strict_only, strict_open, open_value}
use Rattle.ratio_format.proofs.Lives.{fill_good}
use Rattle.ratio_format.proofs.Stepping.{cursor_good, left_bad, left_end, left_over, left_no, left_ratio, made_good, made-refused}
use Rattle.ratio_format.proofs.WindowClaims.{takes_ratio}
use Rattle.ratio_format.proofs.LiveClaims.{fill_bad}

pub makes : Makes
makes n b = (λ h. made_good n b h, λ h. made-refused n b h)

module _ (b : List ℕ) (c : Cursor) where
  -- ---- a bad state

  -- by its four tests
  abbrev tests : Bool → Bool → Bool → Bool → Bool
  tests w s n p = cond w true (cond s true (cond n true p))

  window_bad : bad_window c.window c.seen ≡ true → bad_cursor b c ≡ true
  window_bad e = rw e refl

  seen_bad : c.count < c.seen → bad_cursor b c ≡ true
  seen_bad h = go (bad_window c.window c.seen)
    where
      go : (w : Bool) → tests w (ltb c.count c.seen) (ltb max_points c.count) (ltb (length b) c.place) ≡ true
      go true = refl
      go false = rw (lt-ltb c.count c.seen h) refl

  count_bad : max_points < c.count → bad_cursor b c ≡ true
  count_bad h = go (bad_window c.window c.seen) (ltb c.count c.seen)
    where
      go : (w s : Bool) → tests w s (ltb max_points c.count) (ltb (length b) c.place) ≡ true
      go true s = refl
      go false true = refl
      go false false = rw (lt-ltb max_points c.count h) refl

  place_bad : length b < c.place → bad_cursor b c ≡ true
  place_bad h = go (bad_window c.window c.seen) (ltb c.count c.seen) (ltb max_points c.count)
    where
      go : (w s n : Bool) → tests w s n (ltb (length b) c.place) ≡ true
      go true s n = refl
      go false true n = refl
      go false false true = refl
      go false false false = lt-ltb (length b) c.place h

  good : GoodReader b c → bad_cursor b c ≡ false
  good g = cursor_good b c (record { window = fill_good c.window c.seen g.filled; seen = g.seen; count = g.counted; place = g.within })

  -- ---- one step

  module _ (bytes : Below 256 b) (size : length c.window.ratios ≡ 127) (cells : Below (2 ^ 64) c.window.ratios) where
    w : List ℕ
    w = held c.window

    below : Below (2 ^ 64) w
    unfolding w
    below = reverse_below (2 ^ 64) (take c.window.fill c.window.ratios) (below_take (2 ^ 64) c.window.fill c.window.ratios cells)

    few : GoodReader b c → length w ≤ window_size
    unfolding w
    few g = omega (arith, g.filled, held-length c.window (omega (arith, g.filled)))

    none : GoodReader b c → ((v : ℕ) (rest : List ℕ) → v < 2 ^ 64 → drop c.place b ≡ coded v w ++ rest → ⊥) → next_read b c ≡ None
    unfolding w
    none g never = go (next_read b c) refl
      where
        go : (r : Read) → next_read b c ≡ r → next_read b c ≡ None
        go None e = e
        go (Ratio v k) e =
            let s = drop c.place b in
            let h = (open_value w s v k (below_drop 256 c.place b bytes) below (strict_open v k w s e).0).0 in
            let o = strict_only v k w s h below (few g) e in
            absurd (never v o.0 h o.1)

    pub steps_so : StepsSo b c (step_answer b c) (step_cursor b c)
    unfolding w
    steps_so = record {
      other_fill = λ e. left_bad b c (window_bad (fill_bad c.window c.seen e));
      above_count = λ h. left_bad b c (seen_bad h);
      above_limit = λ h. left_bad b c (count_bad h);
      past_body = λ h. left_bad b c (place_bad h);
      used_up = λ g s p. left_end b c (good g) s p;
      bytes_left = λ g s p. left_over b c (good g) s (λ e. omega arith);
      no_form = λ g s n. left_no b c (good g) (λ e. omega arith) (none g n);
      given = λ g s v rest h e.
          let r : next_read b c ≡ Ratio v (length (coded v w)) = ap (strict_one w) e ∙ strict_takes v w rest h below (few g) in
          let l = left_ratio b c v (length (coded v w)) (good g) (λ q. omega arith) r in (
            l.0,
            ap (λ (d : Cursor). d.place) l.1,
            ap (λ (d : Cursor). d.count) l.1,
            ap (λ (d : Cursor). d.seen) l.1,
            rw l.1 (takes_ratio c.window v),
          );
    }

pub steps : Steps
steps b c bytes size cells = steps_so b c bytes size cells
