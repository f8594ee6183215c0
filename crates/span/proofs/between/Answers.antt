-- `between` meets its contract: the way forward is the quotient itself, the way back its negation, less one where the division leaves a remainder.
use mathlib.Core.Path.{◌≡◌, sym, ap, ◌∙◌}
use Prim.Native.Nat.{ℕ, ◌-◌, ◌*◌, ◌/◌}
use native.Mathlib.Omega.{arith}
use lib.IntN.{ℤ, pos, negsuc, neg_ℤ, ◌-ℤ◌, ◌*ℤ◌}
use Rattle.span.specs.Spans.{rounded_down}
use Rattle.span.proofs.Spans.Parts.{remainder_is}
use Rattle.span.proofs.Spans.Rounding.{down_exact, down_inexact}
use Rattle.integers.proofs.Negation.{neg-back, less_back}
use Rattle.span.proofs.Spans.{dividend-backward}
use Rattle.span.proofs.between.Goals as goal

pub returns-then-d-rate-eq0 : goal.returns-then-d-rate-eq0
returns-then-d-rate-eq0 c =
    let divided : rounded_down (neg_ℤ (pos ((c.args.first - c.args.last) * 1000))) c.args.rate ≡ rounded_down ((pos c.args.last -ℤ pos c.args.first) *ℤ pos 1000) c.args.rate = sym (ap (λ (z : ℤ). rounded_down z c.args.rate) (dividend-backward c.args.first c.args.last c.if-first-last.false)) in
    let quotient : c.scaled-m-2.result ≡ (c.args.first - c.args.last) * 1000 / c.args.rate = c.scaled-m-2.ensures.0 in
    let d = c.args.first - c.args.last in
    neg-back c.scaled-m-2.result (omega arith)
    ∙ ap (λ (x : ℕ). neg_ℤ (pos x)) quotient
    ∙ sym (down_exact c.args.rate (omega arith) (d * 1000) (sym (remainder_is d c.args.rate c.requires.2) ∙ c.if-d-rate-eq0.true))
    ∙ divided

pub returns : goal.returns
returns c =
    let divided : rounded_down (neg_ℤ (pos ((c.args.first - c.args.last) * 1000))) c.args.rate ≡ rounded_down ((pos c.args.last -ℤ pos c.args.first) *ℤ pos 1000) c.args.rate = sym (ap (λ (z : ℤ). rounded_down z c.args.rate) (dividend-backward c.args.first c.args.last c.if-first-last.false)) in
    let quotient : c.scaled-m-2.result ≡ (c.args.first - c.args.last) * 1000 / c.args.rate = c.scaled-m-2.ensures.0 in
    let d = c.args.first - c.args.last in
    less_back c.scaled-m-2.result (omega arith)
    ∙ ap negsuc quotient
    ∙ sym (down_inexact c.args.rate (omega arith) (d * 1000) (λ e. c.if-d-rate-eq0.false (remainder_is d c.args.rate c.requires.2 ∙ e)))
    ∙ divided
