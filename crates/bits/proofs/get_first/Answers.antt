-- `bits::get_first` meets its contract: the eight bytes' number, shifted down by those after the first n.
use mathlib.Core.Path.{◌≡◌, ap, ◌∙◌}
use Prim.Native.Nat.{ℕ, ◌+◌, ◌*◌, ◌-◌, ◌/◌, ◌^◌}
use native.Mathlib.Omega.{arith}
use lib.ListN.{drop, length-drop}
use Rattle.std.proofs.lemmas.Nat.{shr-shr}
use Rattle.lists.proofs.Below.{below_of, below_drop}
use Rattle.bits.proofs.Digits.Read.{first_bytes}
use Rattle.bits.proofs.get_first.Goals as goal

pub returns : goal.returns
returns c =
    let a = c.args in
    let l = drop a.at a.s.now in
    let y = c.get_bytes.result in
    let half = 4 * (8 - a.n) in
    let twice : half + half ≡ 8 * (8 - a.n) = omega arith in
    let moved : y / 2 ^ half / 2 ^ half ≡ y / 2 ^ (8 * (8 - a.n)) = shr-shr y half half ∙ ap (λ (k : ℕ). y / 2 ^ k) twice in
    let first = first_bytes l a.n y c.requires.0 (omega (arith, c.requires.1, length-drop a.at a.s.now))
    (below_drop 256 a.at a.s.now (below_of 256 a.s.now (λ i. (c.type_inv.s i).fits))) c.get_bytes.ensures.0 in
    (moved ∙ first.0, rw moved first.1)
