-- The claims of specs/WindowClaims on the kept window.
use mathlib.Core.Bool.{Bool, cond}
use mathlib.Core.List.{◌∷◌, [], ◌++◌}
use mathlib.Core.Path.{refl, ap}
use Prim.Native.Nat.{◌+◌}
use lib.ListN.{drop, set}
use borrow.Author.Tests.{lt-ltb, le-ltb}
use Rattle.ratio_format.specs.declared.Window.{Window}
use Rattle.ratio_format.specs.Windows.{window_size}
use Rattle.ratio_format.specs.WindowClaims.{TakesRatio, NewestFirst, FreshHoldsNone}
use Rattle.ratio_format.proofs.Windows.{reverse-back_at, held-length, held-pushed}

pub takes_ratio : TakesRatio
takes_ratio w v =
    let by : Bool → Window = λ t. cond t (record { ratios = set w.ratios w.fill v; fill = w.fill + 1 }) (record { ratios = drop 1 w.ratios ++ (v ∷ []); fill = w.fill }) in
    record {
      with_room = λ h. ap by (lt-ltb w.fill window_size h);
      full = λ h. ap by (le-ltb w.fill window_size h);
      newest = λ size h. held-pushed w v size h;
    }

pub newest_first : NewestFirst
newest_first w h = (held-length w h, λ p g. reverse-back_at w.ratios w.fill p g h)

pub fresh_holds-none : FreshHoldsNone
fresh_holds-none = (refl, refl)
