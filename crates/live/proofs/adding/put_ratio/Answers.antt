-- `live::adding::put_ratio` meets its contract: a test of the state refuses, there is no room, or the bytes stand in the output.
use Rattle.std.proofs.Common.{◌≡◌, ◌+◌, ◌<◌, Some, None, length, sym, ap, ◌∙◌, arith}
use Rattle.std.proofs.lemmas.Result.{err_from_is_err_and}
use Rattle.refusals.specs.Tests.{refusal}
use Rattle.ratio_format.specs.declared.Window.{Window}
use Rattle.ratio_format.specs.RatioForms.{coded}
use Rattle.ratio_format.specs.Lives.{add_bytes}
use Rattle.live.proofs.adding.Additions.{addition_tested, addition_short, addition_written}
use Rattle.live.proofs.adding.put_ratio.Goals as goal

pub returns-in_err-test_state : goal.returns-in_err-test_state
returns-in_err-test_state c =
    let refuses = addition_tested coded c.args.state.now c.args.ratio c.args.out.now _ c.in_err-test_state.ensures.0 c.in_err-test_state.ensures.1 in
    let given = err_from_is_err_and c.from_residual.result c.from_residual.ensures.1 in
    record {
      answer = rw (given.1, given.2) (sym refuses.0);
      state = sym refuses.1;
      written = rw given.1 tt;
      refused = rw (given.1, given.2) (c.in_err-test_state.ensures.1, refuses.2);
    }

pub returns-in_err-length : goal.returns-in_err-length
returns-in_err-length c =
    let none : c.encode.result ≡ None = c.in_err-length.ensures.ok_part in
    let short : length c.args.out.now < length (add_bytes c.args.state.now c.args.ratio) = rw none at c.encode.ensures in
    let refuses = addition_short coded c.args.state.now c.args.ratio c.args.out.now c.in_ok-test_state.ensures short in
    let given = err_from_is_err_and c.from_residual-in_err-length.result c.from_residual-in_err-length.ensures.1 in
    let value = rw none at c.in_err-length.ensures.value in
    let six : c.in_err-length.field-0.0 ≡ refusal 6 0 = cc (value, c.at.ensures) in
    record {
      answer = rw (given.1, given.2, six) (sym refuses.0);
      state = sym refuses.1;
      written = rw given.1 tt;
      refused = rw (given.1, given.2, six) ((λ e. omega arith), refuses.2);
    }

pub returns : goal.returns
returns c =
    let some : c.encode.result ≡ Some c.in_ok-length.length = c.in_ok-length.ensures.ok_part in
    let wrote = addition_written coded c.args.state.now c.args.ratio c.args.out.now c.in_ok-test_state.ensures c.in_ok-length.length c.encode.new.out (rw some at c.encode.ensures) in
    record {
      answer = sym wrote.0;
      state = ap (λ (w : Window). record { window = w; seen = c.args.state.now.seen + 1 }) c.push.ensures ∙ sym wrote.1;
      written = sym wrote.2;
      refused = tt;
    }
