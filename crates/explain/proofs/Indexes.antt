-- Laws of the text of an index: when it is none, and its number digit by digit.
use mathlib.Core.List.{List, [], ◌∷◌, ◌++◌, map}
use mathlib.Core.Path.{◌≡◌, refl, sym, ap, ◌∙◌}
use Prim.Native.Nat.{ℕ, ◌+◌, ◌*◌, ◌≤◌, ◌<◌, min}
use native.Mathlib.Numerals.{add-one}
use native.Mathlib.Omega.{arith}
use borrow.Author.Tests.{eq-eqb, ne_eqb}
use lib.ListN.{length, get_or, take}
use lib.Seq.{take-suc, take_all}
use Rattle.std.specs.Prelude.{None, Some}
use Rattle.lists.specs.Lists.{first_index}
use Rattle.bits.specs.Digits.{number_of}
use Rattle.bits.proofs.Digits.{number_snoc}
use Rattle.limits.specs.Points.{max_points}
use Rattle.explain.specs.Indexes.{not_digit, digit_of, given_index, capped}

-- ---- the number of the first digits

-- the number that the first i digits of t make
abbrev pub value_of : List ℕ → ℕ → ℕ
value_of t i = number_of 10 (map digit_of (take i t))

map_snoc : (l : List ℕ) (x : ℕ) → map digit_of (l ++ (x ∷ [])) ≡ map digit_of l ++ (digit_of x ∷ [])
map_snoc [] x = refl
map_snoc (y ∷ l) x = ap (λ (m : List ℕ). digit_of y ∷ m) (map_snoc l x)

value_more : (t : List ℕ) (i : ℕ) → i < length t → value_of t (i + 1) ≡ value_of t i * 10 + digit_of (get_or t i 0)
value_more t i h =
    ap (λ (l : List ℕ). number_of 10 (map digit_of l)) (ap (λ (n : ℕ). take n t) (add-one i) ∙ take-suc t i 0 h)
    ∙ ap (number_of 10) (map_snoc (take i t) (get_or t i 0))
    ∙ number_snoc 10 (map digit_of (take i t)) (digit_of (get_or t i 0))

pub value_none : (t : List ℕ) → 0 ≡ min max_points (value_of t 0)
unfolding number_of
value_none t = refl

-- a number that is cut at m is cut there with a digit more, too
cut_more : (m a d : ℕ) → min m (min m a * 10 + d) ≡ min m (a * 10 + d)
cut_more m a d = omega arith

pub capped_more : (t : List ℕ) (i : ℕ) → i < length t → (n : ℕ) → n ≡ min max_points (value_of t i)
    → min max_points (n * 10 + digit_of (get_or t i 0)) ≡ min max_points (value_of t (i + 1))
capped_more t i h n e =
    ap (λ (k : ℕ). min max_points (k * 10 + digit_of (get_or t i 0))) e
    ∙ cut_more max_points (value_of t i) (digit_of (get_or t i 0))
    ∙ ap (min max_points) (sym (value_more t i h))

-- ---- the whole text

-- no text
pub index_none : (t : List ℕ) → length t ≡ 0 → None ≡ capped (given_index t)
index_none t e = rw (eq-eqb (length t) 0 e)

-- a text with another byte than a digit
pub index_other : (t : List ℕ) → first_index not_digit t < length t → None ≡ capped (given_index t)
index_other t h =
    let some-text : length t ≡ 0 → ⊥ = λ e. omega arith in
    let other : first_index not_digit t ≡ length t → ⊥ = λ e. omega arith in
    rw (ne_eqb (length t) 0 some-text, ne_eqb (first_index not_digit t) (length t) other)

-- digits alone
pub index_digits : (t : List ℕ) → (length t ≡ 0 → ⊥) → first_index not_digit t ≡ length t → (i : ℕ) → length t ≤ i → (m : ℕ) → m ≡ min max_points (value_of t i) → Some m ≡ capped (given_index t)
index_digits t n e i h m is =
    ap (λ (k : ℕ). Some k) is
    ∙ ap (λ (l : List ℕ). Some (min max_points (number_of 10 (map digit_of l)))) (take_all i t h)
    ∙ rw (ne_eqb (length t) 0 n, eq-eqb (first_index not_digit t) (length t) e)
