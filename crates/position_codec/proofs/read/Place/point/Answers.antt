-- `Place::point` meets its contract: by 64 bits, or by the step that stands there and the position that it leads to.
use borrow.Author.Rules.{rules}
use mathlib.Core.Path.{sym, subst}
use Prim.Native.Nat.{ℕ}
use lib.ListN.{drop}
use mir.Syntax.{w64}
use mir.ValLaws.{to_z-of_z}
use Rattle.bits.specs.Packing.{bits}
use Rattle.position_format.specs.Tables.{table_of}
use Rattle.position_format.proofs.Tables.{table_good}
use Rattle.position_format.proofs.Points.Stands.{step_high}
use Rattle.position_codec.specs.Found.{PointFound}
use Rattle.position_codec.proofs.read.Place.point.Goals as goal

pub returns-then-i-lt2 : goal.returns-then-i-lt2
returns-then-i-lt2 c =
    let a = c.args in
    let rs = table_of a.form in
    subst (λ (n : ℕ). PointFound rs a.i a.two.before a.two.last (drop n (bits a.self.body.now)) c.get_raw.result) (sym (c.requires.0 c.if-i-lt2.true)) (c.get_raw.ensures rs a.two.before a.two.last)

pub returns-in_err-t : goal.returns-in_err-t
returns-in_err-t c =
    let a = c.args in
    let found = c.in_ok-z.ensures in
    rw c.from_residual-in_err-t.ensures
    (step_high (table_of a.form) (table_good a.form) a.i a.two.before a.two.last c.if-i-lt2.false (drop a.self.at (bits a.self.body.now)) c.in_ok-z.z found.0 found.1
    (rw (to_z-of_z w64 c.in_ok-z.z (search rules)) at c.in_err-t.ensures))
