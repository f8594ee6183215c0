-- The open rule as document 01 words it (specs/OpenRule): what `open_one` and `open_ratios` answer is what the rule says.
use Rattle.std.specs.Prelude.{None}
use mathlib.Core.Path.{◌≡◌, refl, sym, ap, ap₂, ◌∙◌, subst}
use mathlib.Core.Bool.{Bool, true, false}
use mathlib.Core.List.{List, [], ◌∷◌, ◌++◌, append-nil, append_assoc}
use mathlib.Core.Option.{some}
use Prim.Native.Nat.{ℕ, zero, suc, ◌+◌, ◌-◌, ◌*◌, ◌/◌, ◌%◌, ◌^◌, ◌≤◌, ◌<◌}
use native.Mathlib.Omega.{arith}
use lib.Bits.{bit_xor}
use lib.Dec.{leb, ltb}
use lib.ListN.{length, get_or, take, drop, replicate, length-append, length-replicate, take-append-drop}
use lib.Seq.{take_at, drop_at, length-take-le}
use borrow.Author.Tests.{ltb-true, ltb-false, leb-true, leb-false}
use Rattle.std.proofs.lemmas.Option.{some_pair_parts}
use Rattle.lists.specs.Below.{Below}
use Rattle.lists.proofs.Below.{below_drop}
use Rattle.bits.specs.Digits.{number_of}
use Rattle.bits.proofs.Digits.{number_append}
use Rattle.ratio_format.specs.Windows.{window_size, push}
use Rattle.ratio_format.specs.Open.{Read, Ratio, open_one, open_xor}
use Rattle.ratio_format.specs.Bodies.{open_from, before}
use Rattle.ratio_format.specs.OpenRule.{OpenReads, empty, place_held, place_not_held, xor_place_not_held, counts_missing, counts_above_eight, middle_cut, xored, exception, exception_cut, OpenForms, ReadAs, OpenBodies}
use Rattle.ratio_format.proofs.Open.{xor-empty, xor_high, xor_short, xor_good, open_empty, open_reference, open_far, open_xor_lem, open_away, open_exception, open_cut}
use Rattle.ratio_format.proofs.Bodies.ReadFrom.{open_is, read_from, read_first, read_none, read_length}

-- ---- bytes at a height

number_zeros : (b k : ℕ) → number_of b (replicate k 0) ≡ 0
unfolding number_of
number_zeros b zero = refl
number_zeros b (suc k) = let e = number_zeros b k in omega arith

-- zero bytes behind a number raise it
raised : (m : List ℕ) (t : ℕ) → number_of 256 (m ++ replicate t 0) ≡ number_of 256 m * 256 ^ t
raised m t =
    let z : List ℕ = replicate t 0 in
    let l : length z ≡ t = length-replicate {A = ℕ} t 0 in
    number_append 256 m z ∙ ap₂ (λ (k n : ℕ). number_of 256 m * 256 ^ k + n) l (number_zeros 256 t) ∙ omega arith

-- ---- what the rule says is answered

some_byte : (b : ℕ) (s : List ℕ) → length (b ∷ s) ≡ 0 → ⊥
some_byte b s e = omega arith

module _ (w : List ℕ) where
  -- past the byte of a place that holds a ratio
  past : (p : ℕ) (rest : List ℕ) (r : Read) → p < 127 → p < length w → r ≡ open_xor (get_or w p 0) rest → open_one w ((p + 128) ∷ rest) ≡ r
  past p rest r h g e =
      let b : p + 128 - 128 ≡ p = omega arith in
      sym (open_xor_lem w ((p + 128) ∷ rest) (get_or w p 0) r (some_byte (p + 128) rest) (omega arith) (omega arith) (omega arith) (ap (λ (x : ℕ). get_or w x 0) (sym b)) e)

  -- a string that begins with a byte of counts, past that byte
  counted : (t n : ℕ) → n < 16 → ((t * 16 + n) / 16 ≡ t) × ((t * 16 + n) % 16 ≡ n)
  counted t n h = (omega arith, omega arith)

  answered : (s : List ℕ) (r : Read) → OpenReads w s r → open_one w s ≡ r
  answered s r (empty e q) = ap (open_one w) e ∙ sym (open_empty w [] refl) ∙ sym q
  answered s r (place_held p rest e h g q) = ap (open_one w) e ∙ sym (open_reference w (p ∷ rest) (get_or w p 0) (some_byte p rest) h g refl) ∙ sym q
  answered s r (place_not_held p rest e h g q) = ap (open_one w) e ∙ sym (open_far w (p ∷ rest) (some_byte p rest) h g) ∙ sym q
  answered s r (xor_place_not_held p rest e h g q) =
      ap (open_one w) e ∙ sym (open_away w ((p + 128) ∷ rest) (some_byte (p + 128) rest) (omega arith) (omega arith) (omega arith)) ∙ sym q
  answered s r (counts_missing p e h g q) = ap (open_one w) e ∙ past p [] r h g (q ∙ xor-empty (get_or w p 0) [] refl)
  answered s r (counts_above_eight p t n rest e h g m k q) =
      let c = counted t n m in
      ap (open_one w) e
      ∙ past p ((t * 16 + n) ∷ rest) r h g (q ∙ xor_high (get_or w p 0) ((t * 16 + n) ∷ rest) (some_byte (t * 16 + n) rest) (omega (arith, c)))
  answered s r (middle_cut p t n rest e h g m k q) =
      let c = counted t n (omega arith) in
      ap (open_one w) e
      ∙ past p ((t * 16 + n) ∷ rest) r h g (q ∙ xor_short (get_or w p 0) ((t * 16 + n) ∷ rest) (some_byte (t * 16 + n) rest) (omega (arith, c)) (omega (arith, c)))
  answered s r (xored p t middle rest e h g m q) =
      let n = length middle in
      let b = t * 16 + n in
      let l = middle ++ rest in
      let c = counted t n (omega arith) in
      let front : number_of 256 middle ≡ number_of 256 (take (b % 16) l) = ap (number_of 256) (sym (take_at middle rest (b % 16) (sym c.1))) in
      let high : number_of 256 (middle ++ replicate t 0) ≡ number_of 256 middle * 256 ^ (b / 16) = raised middle t ∙ ap (λ (x : ℕ). number_of 256 middle * 256 ^ x) (sym c.0) in
      let size : b % 16 + 2 ≡ 2 + n = omega (arith, c.1) in
      ap (open_one w) e
      ∙ past p (b ∷ l) r h g
      (q
      ∙ ap (Ratio (bit_xor (number_of 256 (middle ++ replicate t 0)) (get_or w p 0))) (sym size)
      ∙ xor_good (get_or w p 0) (b ∷ l) (number_of 256 middle) (number_of 256 (middle ++ replicate t 0)) (some_byte b l) (omega (arith, c)) (omega (arith, c, length-append middle rest)) front high)
  answered s r (exception eight rest e h q) =
      ap (open_one w) e
      ∙ sym (open_exception w (255 ∷ (eight ++ rest)) (number_of 256 eight) (omega arith) (omega (arith, length-append eight rest)) (ap (number_of 256) (sym (take_at eight rest 8 h))))
      ∙ sym q
  answered s r (exception_cut rest e h q) = ap (open_one w) e ∙ sym (open_cut w (255 ∷ rest) (some_byte 255 rest) (omega arith) (omega arith)) ∙ sym q

  -- ---- the rule says something of every string

  -- past the byte of a place that holds a ratio
  said_past : (p : ℕ) (s : List ℕ) → p < 127 → p < length w → (r : Read) × OpenReads w ((p + 128) ∷ s) r
  said_past p [] h g = (None, counts_missing p refl h g refl)
  said_past p (c ∷ s) h g = go (leb (c / 16 + c % 16) 8) refl (leb (c % 16) (length s)) refl
    where
      split : c ≡ c / 16 * 16 + c % 16
      split = omega arith

      go : (a : Bool) → leb (c / 16 + c % 16) 8 ≡ a → (b : Bool) → leb (c % 16) (length s) ≡ b → (r : Read) × OpenReads w ((p + 128) ∷ c ∷ s) r
      go false a b eb =
          (None, counts_above_eight p (c / 16) (c % 16) s (ap (λ (x : ℕ). (p + 128) ∷ x ∷ s) split) h g (omega arith) (leb-false (c / 16 + c % 16) 8 a) refl)
      go true a false b =
          (None, middle_cut p (c / 16) (c % 16) s (ap (λ (x : ℕ). (p + 128) ∷ x ∷ s) split) h g (leb-true (c / 16 + c % 16) 8 a) (leb-false (c % 16) (length s) b) refl)
      go true a true b =
          let m = take (c % 16) s in
          let n : length m ≡ c % 16 = length-take-le (c % 16) s (leb-true (c % 16) (length s) b) in
          let e : c ≡ c / 16 * 16 + length m = omega (arith, n) in (
            Ratio (bit_xor (number_of 256 (m ++ replicate (c / 16) 0)) (get_or w p 0)) (2 + length m),
            xored p (c / 16) m (drop (c % 16) s) (ap₂ (λ (x : ℕ) (l : List ℕ). (p + 128) ∷ x ∷ l) e (sym (take-append-drop (c % 16) s))) h g (omega (arith, n, leb-true (c / 16 + c % 16) 8 a)) refl,
          )

  said : (s : List ℕ) → Below 256 s → (r : Read) × OpenReads w s r
  unfolding Below
  said [] h = (None, empty refl refl)
  said (b ∷ s) h = go (ltb b 128) refl (ltb b (length w)) refl (ltb b 255) refl (ltb (b - 128) (length w)) refl (ltb (length s) 8) refl
    where
      high : b < 256 → 255 ≤ b → b ≡ 255
      high f g = omega arith

      go : (x : Bool) → ltb b 128 ≡ x → (y : Bool) → ltb b (length w) ≡ y → (z : Bool) → ltb b 255 ≡ z → (g : Bool) → ltb (b - 128) (length w) ≡ g
          → (n : Bool) → ltb (length s) 8 ≡ n → (r : Read) × OpenReads w (b ∷ s) r
      go true x true y z ez g eg n en = (Ratio (get_or w b 0) 1, place_held b s refl (ltb-true b 128 x) (ltb-true b (length w) y) refl)
      go true x false y z ez g eg n en = (None, place_not_held b s refl (ltb-true b 128 x) (ltb-false b (length w) y) refl)
      go false x y ey true z true g n en =
          let l = ltb-false b 128 x in
          let e : b - 128 + 128 ≡ b = omega arith in
          subst (λ (c : ℕ). (r : Read) × OpenReads w (c ∷ s) r) e (said_past (b - 128) s (omega (arith, ltb-true b 255 z)) (ltb-true (b - 128) (length w) g))
      go false x y ey true z false g n en =
          let l = ltb-false b 128 x in
          let e : b ≡ b - 128 + 128 = omega arith in
          (None, xor_place_not_held (b - 128) s (ap (λ (c : ℕ). c ∷ s) e) (omega (arith, ltb-true b 255 z)) (ltb-false (b - 128) (length w) g) refl)
      go false x y ey false z g eg true n =
          (None, exception_cut s (ap (λ (c : ℕ). c ∷ s) (high h.0 (ltb-false b 255 z))) (ltb-true (length s) 8 n) refl)
      go false x y ey false z g eg false n =
          let e = take 8 s in
          let l : length e ≡ 8 = length-take-le 8 s (ltb-false (length s) 8 n) in (
            Ratio (number_of 256 e) 9,
            exception e (drop 8 s) (ap₂ (λ (c : ℕ) (l : List ℕ). c ∷ l) (high h.0 (ltb-false b 255 z)) (sym (take-append-drop 8 s))) l refl,
          )

pub open_forms : OpenForms
open_forms w s r h = (
  λ e. let x = said w s h in subst (OpenReads w s) (sym (answered w s x.0 x.1) ∙ e) x.1,
  λ x. answered w s r x,
)

-- ---- a body

-- a ratio that is read is read from its own bytes alone, and with any bytes behind these
module _ (w : List ℕ) (v k : ℕ) where
  never : {A : Type 0} → Ratio v k ≡ None → A
  never e = let z : ◌≡◌ {A = ℕ} 0 1 = cc in absurd (omega arith)

  size : {x n : ℕ} → Ratio v k ≡ Ratio x n → k ≡ n
  size {x} {n} q = (some_pair_parts v x k n q).1

  front : (s f rest : List ℕ) → s ≡ f ++ rest → k ≡ length f → OpenReads w f (Ratio v k) → OpenReads w (take k s) (Ratio v (length (take k s)))
  front s f rest e q o =
      let i : take k s ≡ f = ap₂ take q e ∙ take_at f rest (length f) refl in
      subst (λ (l : List ℕ). OpenReads w l (Ratio v (length l))) (sym i) (subst (λ (n : ℕ). OpenReads w f (Ratio v n)) q o)

  alone : (s : List ℕ) → OpenReads w s (Ratio v k) → OpenReads w (take k s) (Ratio v (length (take k s)))
  alone s (empty e q) = never q
  alone s (place_held p rest e h g q) = front s (p ∷ []) rest e (size q) (place_held p [] refl h g q)
  alone s (place_not_held p rest e h g q) = never q
  alone s (xor_place_not_held p rest e h g q) = never q
  alone s (counts_missing p e h g q) = never q
  alone s (counts_above_eight p t n rest e h g m l q) = never q
  alone s (middle_cut p t n rest e h g m l q) = never q
  alone s (xored p t middle rest e h g m q) =
      let c = t * 16 + length middle in
      let n : k ≡ 2 + length middle = size q in
      front s ((p + 128) ∷ c ∷ middle) rest e (omega (arith, n)) (xored p t middle [] (ap (λ (l : List ℕ). (p + 128) ∷ c ∷ l) (sym (append-nil middle))) h g m q)
  alone s (exception eight rest e h q) =
      let n : k ≡ 9 = size q in
      front s (255 ∷ eight) rest e (omega (arith, n)) (exception eight [] (ap (λ (l : List ℕ). 255 ∷ l) (sym (append-nil eight))) h q)
  alone s (exception_cut rest e h q) = never q

  followed : (s rest : List ℕ) → OpenReads w s (Ratio v k) → OpenReads w (s ++ rest) (Ratio v k)
  followed s rest (empty e q) = never q
  followed s rest (place_held p x e h g q) = place_held p (x ++ rest) (ap (λ (l : List ℕ). l ++ rest) e) h g q
  followed s rest (place_not_held p x e h g q) = never q
  followed s rest (xor_place_not_held p x e h g q) = never q
  followed s rest (counts_missing p e h g q) = never q
  followed s rest (counts_above_eight p t n x e h g m l q) = never q
  followed s rest (middle_cut p t n x e h g m l q) = never q
  followed s rest (xored p t middle x e h g m q) =
      xored p t middle (x ++ rest)
      (ap (λ (l : List ℕ). l ++ rest) e ∙ ap (λ (l : List ℕ). (p + 128) ∷ (t * 16 + length middle) ∷ l) (append_assoc middle x rest)) h g m q
  followed s rest (exception eight x e h q) =
      exception eight (x ++ rest) (ap (λ (l : List ℕ). l ++ rest) e ∙ ap (λ (l : List ℕ). 255 ∷ l) (append_assoc eight x rest)) h q
  followed s rest (exception_cut x e h q) = never q

-- what is read is the ratios, each in its bytes
read_as : (n : ℕ) (w s vs : List ℕ) → Below 256 s → read_from open_one window_size w n s ≡ some vs → ReadAs w vs s
unfolding ReadAs
read_as zero w s vs h e = let z = read_none open_one window_size w s vs e in subst (λ (l : List ℕ). ReadAs w l s) (sym z.1) z.0
read_as (suc n) w s vs h e =
    let f = read_first open_one window_size w n s vs e in
    let v = f.ratio in
    let k = f.used in
    subst (λ (l : List ℕ). ReadAs w l s) (sym f.splits) (
      take k s,
      drop k s,
      sym (take-append-drop k s),
      alone w v k s ((open_forms w s (Ratio v k) h).0 f.reads),
      read_as n (push window_size v w) (drop k s) f.others (below_drop 256 k s h) f.goes,
    )

-- and such bytes are read as these ratios
as_read_lem : (vs w s : List ℕ) → ReadAs w vs s → open_from window_size w (length vs) s ≡ some vs
unfolding ReadAs open_from
as_read_lem [] w s e = ap (open_from window_size w 0) e
as_read_lem (v ∷ vs) w s (f, rest, e, o, r) =
    let k = length f in
    let x : open_one w s ≡ Ratio v k = ap (open_one w) e ∙ answered w (f ++ rest) (Ratio v k) (followed w v k f rest o) in
    let d : drop k s ≡ rest = ap (drop k) e ∙ drop_at f rest k refl in
    rw (x, d) (ap (before v) (as_read_lem vs (push window_size v w) rest r))

pub open_bodies : OpenBodies
open_bodies n s vs h = (
  λ e. let r = sym (open_is window_size [] n s) ∙ e in (read_length open_one window_size [] n s vs r, read_as n [] s vs h r),
  λ x. ap (λ (m : ℕ). open_from window_size [] m s) (sym x.0) ∙ as_read_lem vs [] s x.1,
)
