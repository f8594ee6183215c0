-- The numbers of a kind tell it: from them it comes back.
use mathlib.Core.Bool.{true, false, cond}
use mathlib.Core.Path.{◌≡◌, refl, sym, ap, ◌∙◌}
use lib.Dec.{eqb}
use Rattle.kind.specs.declared.Kind.{Kind}
use Rattle.kind.specs.declared.Kind.TheVariants.{Number, Infinity, Nan}
use Rattle.kind.specs.declared.KindAnswer.{KindAnswer}
use Rattle.kind.specs.Numbers.{kind_numbers}
use Rattle.kind.specs.Claims.{KindsApart}

-- the kind that has these numbers
abbrev pub kind_in : KindAnswer → Kind
kind_in k = cond (eqb k.kind 0) (Number k.value) (cond (eqb k.kind 1) (Infinity (eqb k.negative 1)) (Nan k.bits))

pub kind_back : (k : Kind) → kind_in (kind_numbers k) ≡ k
kind_back (Number v) = refl
kind_back (Infinity true) = refl
kind_back (Infinity false) = refl
kind_back (Nan n) = refl

pub kinds_apart : KindsApart
kinds_apart k l e = sym (kind_back k) ∙ ap kind_in e ∙ kind_back l
