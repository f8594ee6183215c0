-- `put_point` meets its contract: the bits laid are those of the point.
use mathlib.Core.Bool.{true}
use mathlib.Core.List.{◌++◌}
use mathlib.Core.Path.{◌≡◌, sym, ap, ◌∙◌}
use Prim.Native.Nat.{◌+◌, ◌^◌, ◌≤◌}
use native.Mathlib.Omega.{arith}
use lib.IntN.{pos}
use lib.ListN.{take}
use mir.Syntax.{w64}
use mir.Val.{to_z, of_z}
use mir.ValLaws.{to_z-of_z}
use Rattle.bits.specs.Digits.{bits_of}
use Rattle.position_format.specs.Rows.{code}
use Rattle.position_format.specs.Steps.{step_here}
use Rattle.position_format.specs.Positions.{position_bits, valid_positions}
use Rattle.position_format.specs.Tables.{table_of}
use Rattle.position_format.proofs.Tables.{most_bits, form_sound, zero_row}
use Rattle.position_format.proofs.Positions.Sizes.{bits_few}
use Rattle.position_format.proofs.Points.{point_step, point_place}
use Rattle.position_codec.proofs.Codes.{codable_valid, codable_range, codable_here}
use Rattle.position_codec.proofs.write.put_point.Goals as goal

pub step_at-z-requires : goal.step_at-z-requires
step_at-z-requires c = (c.requires.0, c.requires.1.here, codable_range c.args.form c.args.positions.now c.requires.1.codable)

pub lay-requires : goal.lay-requires
lay-requires c =
    let valid : valid_positions (table_of c.args.form) c.args.positions.now ≡ true = codable_valid c.args.form c.args.positions.now c.requires.1.codable in
    let small : c.args.s.at + 8 ≤ 2 ^ 32 = omega (arith, c.requires.2.size, c.requires.1.many, point_place (table_of c.args.form) c.args.positions.now c.args.i (omega (arith, c.requires.1.here)), bits_few c.args.form c.args.positions.now valid c.requires.1.many) in
    (omega (arith, small), omega arith, omega arith)

pub returns-then-z-eq0 : goal.returns-then-z-eq0
returns-then-z-eq0 c =
    let step_is : to_z w64 (of_z w64 c.step_at-z.result) ≡ step_here c.args.positions.now c.args.i = to_z-of_z w64 c.step_at-z.result (record { sfits = c.step_at-z.type_inv }) ∙ c.step_at-z.ensures in
    let after_it : position_bits (table_of c.args.form) (take (c.args.i + 1) c.args.positions.now) ≡ (position_bits (table_of c.args.form) (take c.args.i c.args.positions.now)) ++ code (table_of c.args.form) (step_here c.args.positions.now c.args.i) = point_step (table_of c.args.form) c.args.positions.now c.args.i c.requires.0 c.requires.1.here in
    let zero : pos 0 ≡ step_here c.args.positions.now c.args.i = sym (ap (to_z w64) c.if-z-eq0.true) ∙ step_is in
    let bits : bits_of 1 0 ≡ code (table_of c.args.form) (step_here c.args.positions.now c.args.i) = (zero_row (most_bits c.args.form) (table_of c.args.form) (form_sound c.args.form)).code ∙ ap (code (table_of c.args.form)) zero in
    let f = rw (bits, ← after_it) at (c.lay.ensures.1 (position_bits (table_of c.args.form) (take c.args.i c.args.positions.now)) c.requires.2) in
    (f.0, f.1)

pub code_of-c-requires : goal.code_of-c-requires
code_of-c-requires c =
    let step_is : to_z w64 (of_z w64 c.step_at-z.result) ≡ step_here c.args.positions.now c.args.i = to_z-of_z w64 c.step_at-z.result (record { sfits = c.step_at-z.type_inv }) ∙ c.step_at-z.ensures in
    rw step_is (codable_here c.args.form c.args.positions.now c.args.i c.requires.0 c.requires.1.here c.requires.1.codable)

pub lay_both-requires : goal.lay_both-requires
lay_both-requires c =
    let valid : valid_positions (table_of c.args.form) c.args.positions.now ≡ true = codable_valid c.args.form c.args.positions.now c.requires.1.codable in
    let small : c.args.s.at + 8 ≤ 2 ^ 32 = omega (arith, c.requires.2.size, c.requires.1.many, point_place (table_of c.args.form) c.args.positions.now c.args.i (omega (arith, c.requires.1.here)), bits_few c.args.form c.args.positions.now valid c.requires.1.many) in
    (small, c.code_of-c.ensures.prefixed, c.code_of-c.ensures.short, c.code_of-c.ensures.prefix, c.code_of-c.ensures.narrow, c.code_of-c.ensures.rest)

pub returns : goal.returns
returns c =
    let step_is : to_z w64 (of_z w64 c.step_at-z.result) ≡ step_here c.args.positions.now c.args.i = to_z-of_z w64 c.step_at-z.result (record { sfits = c.step_at-z.type_inv }) ∙ c.step_at-z.ensures in
    let after_it : position_bits (table_of c.args.form) (take (c.args.i + 1) c.args.positions.now) ≡ (position_bits (table_of c.args.form) (take c.args.i c.args.positions.now)) ++ code (table_of c.args.form) (step_here c.args.positions.now c.args.i) = point_step (table_of c.args.form) c.args.positions.now c.args.i c.requires.0 c.requires.1.here in
    let f = rw (c.code_of-c.ensures.bits, step_is, ← after_it) at (c.lay_both.ensures.1 (position_bits (table_of c.args.form) (take c.args.i c.args.positions.now)) c.requires.2) in
    (f.0, f.1)
