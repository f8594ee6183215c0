-- `Place::step_ahead` meets its contract: the one bit of the step 0, or by the row that five bits lead to.
use borrow.Author.Rules.{rules}
use Prim.Native.Nat.{◌-◌, ◌/◌, ◌^◌, ◌<◌}
use native.Mathlib.Nat.{mod-lt}
use native.Mathlib.Omega.{arith}
use lib.Dec.{lit≤}
use lib.ListN.{drop}
use lib.Pow.{pow_pos}
use mir.Syntax.{w64}
use mir.ValLaws.{to_z-of_z}
use Rattle.bits.specs.Packing.{bits}
use Rattle.bits.proofs.Packing.{length_left, below_left}
use Rattle.position_format.specs.Tables.{table_of}
use Rattle.position_format.proofs.Tables.{most_bits, form_sound, zero_row}
use Rattle.position_codec.proofs.table.Numbers.{row_fits, lead_zero}
use Rattle.position_codec.proofs.Found.StepFound.{lead-ahead, found-zero}
use Rattle.position_codec.proofs.read.Leading.{some_bits, width_within, few_bits, room, field_near, field_far, no_step, that_step}
use Rattle.position_codec.proofs.read.Place.step_ahead.Goals as goal

pub returns-then-w-lt9223372036854775808 : goal.returns-then-w-lt9223372036854775808
returns-then-w-lt9223372036854775808 c =
    let a = c.args in
    let rs = table_of a.form in
    let ds = drop a.self.at (bits a.self.body.now) in
    let sound = form_sound a.form in
    let zero = zero_row (most_bits a.form) rs sound in
    found-zero rs sound.good 5 sound.short ds (below_left a.self.body.now a.self.at) 0 1
    (lead-ahead rs ds a.w c.requires.0 5 (lit≤ tt) 0 1 (lead_zero a.form (a.w / 2 ^ 59) (omega (arith, c.ranges.w.fits)) (omega (arith, c.if-w-lt9223372036854775808.true))))
    zero.width zero.reads zero.first (omega (arith, c.requires.1, length_left a.self.body.now a.self.at))

pub returns-then-self-len : goal.returns-then-self-len
returns-then-self-len c = few_bits c.args.form c.args.self.body.now c.args.self.at c.args.w c.requires.0 c.lead_of-len.result c.lead_of-len.ensures.0 c.if-self-len.true

pub field_ahead-requires : goal.field_ahead-requires
field_ahead-requires c = (some_bits c.args.form c.args.self.body.now c.args.self.at c.args.w c.requires.0 c.lead_of-len.result c.lead_of-len.ensures.0, c.if-len-le57.true, omega (arith, c.width-width.ensures, width_within c.args.form c.args.self.body.now c.args.self.at c.args.w c.requires.0 c.lead_of-len.result c.lead_of-len.ensures.0))

pub short_step-requires : goal.short_step-requires
short_step-requires c =
    let small : c.field_ahead.result < 2 ^ c.width-width.result = omega (arith, c.field_ahead.ensures, mod-lt (c.args.w / 2 ^ (64 - c.lead_of-len.result.len)) (pow_pos c.width-width.result)) in
    (c.lead_of-len.ensures.1, rw c.width-width.ensures at small, omega (arith, width_within c.args.form c.args.self.body.now c.args.self.at c.args.w c.requires.0 c.lead_of-len.result c.lead_of-len.ensures.0, c.if-len-le57.true))

pub returns-in_err-z : goal.returns-in_err-z
returns-in_err-z c =
    rw c.from_residual.ensures
    (no_step c.args.form c.args.self.body.now c.args.self.at c.args.w c.requires.0 c.lead_of-len.result c.lead_of-len.ensures.0 c.if-self-len.false c.field_ahead.result
    (field_near c.args.form c.args.self.body.now c.args.self.at c.args.w c.requires.0 c.lead_of-len.result c.lead_of-len.ensures.0 c.if-self-len.false c.width-width.result c.field_ahead.result c.if-len-le57.true c.width-width.ensures c.field_ahead.ensures) c.in_err-z.ensures)

pub returns-then-len-le57 : goal.returns-then-len-le57
returns-then-len-le57 c =
    that_step c.args.form c.args.self.body.now c.args.self.at c.args.w c.requires.0 c.lead_of-len.result c.lead_of-len.ensures.0 c.if-self-len.false c.field_ahead.result
    (field_near c.args.form c.args.self.body.now c.args.self.at c.args.w c.requires.0 c.lead_of-len.result c.lead_of-len.ensures.0 c.if-self-len.false c.width-width.result c.field_ahead.result c.if-len-le57.true c.width-width.ensures c.field_ahead.ensures)
    c.in_ok-z.z _ (to_z-of_z w64 c.in_ok-z.z (search rules)) c.in_ok-z.ensures

pub field-requires : goal.field-requires
field-requires c = (
  some_bits c.args.form c.args.self.body.now c.args.self.at c.args.w c.requires.0 c.lead_of-len.result c.lead_of-len.ensures.0,
  room c.args.form c.args.self.body.now c.args.self.at c.args.w c.requires.0 c.lead_of-len.result c.lead_of-len.ensures.0 c.if-self-len.false,
  omega (arith, c.width-width.ensures, width_within c.args.form c.args.self.body.now c.args.self.at c.args.w c.requires.0 c.lead_of-len.result c.lead_of-len.ensures.0),
  omega (arith, c.width-width.ensures, (row_fits c.lead_of-len.result.row.index c.lead_of-len.result.row.known).narrow),
)

pub step-requires : goal.step-requires
step-requires c = (c.lead_of-len.ensures.1, rw c.width-width.ensures at c.field.ensures.1)

pub returns-in_err-z-2 : goal.returns-in_err-z-2
returns-in_err-z-2 c =
    rw c.from_residual-in_err-z-2.ensures
    (no_step c.args.form c.args.self.body.now c.args.self.at c.args.w c.requires.0 c.lead_of-len.result c.lead_of-len.ensures.0 c.if-self-len.false c.field.result
    (field_far c.args.form c.args.self.body.now c.args.self.at c.args.w c.requires.0 c.lead_of-len.result c.lead_of-len.ensures.0 c.if-self-len.false c.width-width.result c.field.result c.width-width.ensures c.field.ensures.0) c.in_err-z-2.ensures)

pub returns : goal.returns
returns c =
    that_step c.args.form c.args.self.body.now c.args.self.at c.args.w c.requires.0 c.lead_of-len.result c.lead_of-len.ensures.0 c.if-self-len.false c.field.result
    (field_far c.args.form c.args.self.body.now c.args.self.at c.args.w c.requires.0 c.lead_of-len.result c.lead_of-len.ensures.0 c.if-self-len.false c.width-width.result c.field.result c.width-width.ensures c.field.ensures.0)
    c.in_ok-z-2.z _ (to_z-of_z w64 c.in_ok-z-2.z (search rules)) c.in_ok-z-2.ensures
