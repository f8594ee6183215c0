-- `open_ahead` meets its contract: a law for each outcome.
use mathlib.Core.Path.{◌≡◌, refl, sym, ap, ◌∙◌}
use Prim.Native.Nat.{◌+◌, ◌-◌, ◌%◌, ◌≤◌, ◌<◌}
use native.Mathlib.Omega.{arith}
use lib.ListN.{length, get_or, take, drop}
use lib.Seq.{drop-drop}
use Rattle.ratio_format.specs.RatioForms.{xor_byte, exception_byte}
use Rattle.ratio_format.specs.Open.{open_xor}
use Rattle.ratio_format.specs.Windows.{window_size, window_of}
use Rattle.ratio_bodies.proofs.ahead.FirstByte.{rest_first, ahead-some, ahead-exception, place_out, place_reference, place_xor}
use Rattle.ratio_bodies.proofs.ahead.open_ahead.Goals as goal

pub returns-then-b-eq-EXCEPTION : goal.returns-then-b-eq-EXCEPTION
returns-then-b-eq-EXCEPTION c =
    let ten : c.args.at + 10 ≤ length c.args.body.now = c.requires.1 in
    ahead-exception (window_of window_size (take c.args.i c.args.ratios.now)) c.args.at c.args.body.now ten c.get_first.result c.if-b-eq-EXCEPTION.true c.get_first.ensures.0

pub returns-then-i-window_start : goal.returns-then-i-window_start
returns-then-i-window_start c =
    let b = get_or c.args.body.now c.args.at 0 in
    let few : c.args.i ≤ length c.args.ratios.now = c.requires.0 in
    let ten : c.args.at + 10 ≤ length c.args.body.now = c.requires.1 in
    let byte : b < 256 = (c.type_inv.body c.args.at).fits in
    place_out c.args.ratios.now c.args.i few (drop c.args.at c.args.body.now) b (rest_first c.args.at c.args.body.now) (ahead-some c.args.at c.args.body.now ten) byte c.if-b-eq-EXCEPTION.false
    (rw (← c.window_start.ensures) c.if-i-window_start.true)

pub returns-then-b-lt-XOR : goal.returns-then-b-lt-XOR
returns-then-b-lt-XOR c =
    let b = get_or c.args.body.now c.args.at 0 in
    let few : c.args.i ≤ length c.args.ratios.now = c.requires.0 in
    let ten : c.args.at + 10 ≤ length c.args.body.now = c.requires.1 in
    let byte : b < 256 = (c.type_inv.body c.args.at).fits in
    let u = get_or c.args.ratios.now (c.args.i - 1 - b % xor_byte) 0 in
    place_reference c.args.ratios.now c.args.i few (drop c.args.at c.args.body.now) b (rest_first c.args.at c.args.body.now) (ahead-some c.args.at c.args.body.now ten) byte c.if-b-eq-EXCEPTION.false
    u (rw (← c.window_start.ensures) c.if-i-window_start.false) refl c.if-b-lt-XOR.true

pub returns : goal.returns
returns c =
    let b = get_or c.args.body.now c.args.at 0 in
    let few : c.args.i ≤ length c.args.ratios.now = c.requires.0 in
    let ten : c.args.at + 10 ≤ length c.args.body.now = c.requires.1 in
    let byte : b < 256 = (c.type_inv.body c.args.at).fits in
    let u = get_or c.args.ratios.now (c.args.i - 1 - b % xor_byte) 0 in
    place_xor c.args.ratios.now c.args.i few (drop c.args.at c.args.body.now) b (rest_first c.args.at c.args.body.now) (ahead-some c.args.at c.args.body.now ten) byte c.if-b-eq-EXCEPTION.false
    u (rw (← c.window_start.ensures) c.if-i-window_start.false) refl c.if-b-lt-XOR.false c.xor_ahead.result (c.xor_ahead.ensures ∙ ap (open_xor u) (sym (drop-drop 1 c.args.at c.args.body.now)))
