-- Laws of bits on their way into an output: what more bits, a word that is written, and the end make of those that are held and those that are written.
use mathlib.Core.Bool.{Bool, true, false, cond}
use mathlib.Core.List.{List, [], ◌++◌, append_assoc}
use mathlib.Core.Path.{◌≡◌, refl, sym, ap, ap₂, ◌∙◌}
use Prim.Native.Nat.{ℕ, ◌+◌, ◌-◌, ◌*◌, ◌/◌, ◌%◌, ◌^◌, ◌≤◌, ◌<◌}
use native.Mathlib.Nat.{mul_assoc}
use native.Mathlib.Omega.{arith}
use borrow.Author.Tests.{leb-true, leb-false}
use lib.Dec.{leb}
use lib.ListN.{length, take, drop, replicate, length-append, length-replicate, take-append-drop}
use lib.Pow.{pow_pos, pow-add, shl_lt, shl_exact, shr_lt}
use lib.Seq.{drop_at, take_at, drop-drop, length-take-le, take-append-le, drop-append-le}
use Rattle.lists.specs.Below.{Below}
use Rattle.lists.proofs.Below.{below_append, below_drop}
use Rattle.outputs.specs.Outputs.{over, over_at}
use Rattle.outputs.proofs.Outputs.{length-over_at}
use Rattle.bits.specs.Digits.{digits_of, bits_of, bytes_of}
use Rattle.bits.specs.Packing.{bits, fill_of, pack}
use Rattle.bits.specs.Sinks.{Held, over_word, PlacedBits, Laid}
use Rattle.bits.specs.declared.laying.Sink.{Sink}
use Rattle.bits.proofs.Digits.{two⁺, length_digits, digits_zero, digits_append, digits_join, digits_of_mod}
use Rattle.bits.proofs.Packing.{bits-append, bits_bytes, bits-take, bits-drop, bits-same, length-pack, below_pack, bits-pack}
use Rattle.bits.proofs.Digits.Word.{mask_pow, above_lt, shl_is, two_lt, two-bits}

-- a sink with these parts
pub record Parts (r : Sink) (a h w : ℕ) : Type 0 where
  pub at : r.at ≡ a
  pub held : r.held ≡ h
  pub width : r.width ≡ w

-- ---- bytes and bits written into a list

-- a number's n bytes written at `at`
bits-over_at : (o : List ℕ) (at n x : ℕ) → at + n ≤ length o → bits (over_at o at n (bytes_of n x)) ≡ over_at (bits o) (8 * at) (8 * n) (bits_of (8 * n) x)
bits-over_at o at n x room =
    let e : 8 * (at + n) ≡ 8 * at + 8 * n = omega arith in
    bits-append (take at o) (bytes_of n x ++ drop (at + n) o)
    ∙ ap₂ (λ (u v : List ℕ). u ++ v) (bits-take o at (omega arith))
    (bits-append (bytes_of n x) (drop (at + n) o)
    ∙ ap₂ (λ (u v : List ℕ). u ++ v) (bits_bytes n x) (bits-drop o (at + n) room ∙ ap (λ (m : ℕ). drop m (bits o)) e))

-- ds at the front of x, and then es after them
over-over_at : (x y z ds es : List ℕ) → y ≡ over ds x → z ≡ over_at y (length ds) (length es) es → z ≡ over (ds ++ es) x
over-over_at x y z ds es ey ez =
    let first : take (length ds) y ≡ ds = ap (take (length ds)) ey ∙ take_at ds (drop (length ds) x) (length ds) refl in
    let rest : drop (length ds + length es) y ≡ drop (length (ds ++ es)) x =
    sym (drop-drop (length es) (length ds) y)
    ∙ ap (drop (length es)) (ap (drop (length ds)) ey ∙ drop_at ds (drop (length ds) x) (length ds) refl)
    ∙ drop-drop (length es) (length ds) x ∙ ap (λ (n : ℕ). drop n x) (sym (length-append ds es)) in
    ez ∙ ap₂ (λ (u v : List ℕ). u ++ (es ++ v)) first rest ∙ sym (append_assoc ds es (drop (length (ds ++ es)) x))

-- bits and their fill at the front of a list of bytes are the packed bits there
over-pack : (o p ds : List ℕ) → Below 256 o → Below 256 p → Below 2 ds → length (pack ds) ≤ length o
    → bits p ≡ over (ds ++ replicate (fill_of (length ds)) 0) (bits o) → p ≡ over (pack ds) o
over-pack o p ds o< p< ds< room e =
    let n : length (ds ++ replicate (fill_of (length ds)) 0) ≡ 8 * length (pack ds) =
    omega (arith, length-append ds (replicate (fill_of (length ds)) 0), length-replicate {A = ℕ} (fill_of (length ds)) 0, length-pack ds) in
    bits-same p (over (pack ds) o) p< (below_append 256 (pack ds) (drop (length (pack ds)) o) (below_pack ds ds<) (below_drop 256 (length (pack ds)) o o<))
    (e ∙ ap₂ (λ (u v : List ℕ). u ++ v) (sym (bits-pack ds ds<)) (ap (λ (m : ℕ). drop m (bits o)) n ∙ sym (bits-drop o (length (pack ds)) room))
    ∙ sym (bits-append (pack ds) (drop (length (pack ds)) o)))

-- ---- at the start

-- nothing is laid, and nothing is held
pub start_held : (r : Sink) → Parts r 0 0 0 → Held [] r
unfolding digits_of
start_held r e = record { size = omega (arith, e.at, e.width); tail = rw (e.at, e.held, e.width) refl }

pub start_placed : (o : List ℕ) → PlacedBits [] 0 o o
start_placed o = record { same = refl; front = λ r. refl }

-- ---- a word written after the bits ds before byte `at`

word_placed : (o p ds es : List ℕ) (at x : ℕ) → 8 * at ≤ length ds → take (8 * (at + 8)) es ≡ take (8 * at) ds ++ bits_of 64 x → PlacedBits ds at o p → PlacedBits es (at + 8) o (over_word p at x)
word_placed o p ds es at x inside e s = go (leb (at + 8) (length p)) refl
  where
    go : (t : Bool) → leb (at + 8) (length p) ≡ t → PlacedBits es (at + 8) o (cond t (over_at p at 8 (bytes_of 8 x)) p)
    go true l =
        let room : at + 8 ≤ length p = leb-true (at + 8) (length p) l in
        let n : 8 * at ≡ length (take (8 * at) ds) = sym (length-take-le (8 * at) ds inside) in
        record {
          same = length-over_at p at 8 (bytes_of 8 x) (length_digits 256 8 x) room ∙ s.same;
          front = λ r.
              over-over_at (bits o) (bits p) (bits (over_at p at 8 (bytes_of 8 x))) (take (8 * at) ds) (bits_of 64 x) (s.front (omega arith))
              (bits-over_at p at 8 x room ∙ ap₂ (λ (a m : ℕ). over_at (bits p) a m (bits_of 64 x)) n (sym (length_digits 2 64 x)))
              ∙ ap (λ (d : List ℕ). over d (bits o)) (sym e);
        }
    go false l = record { same = s.same; front = λ r. absurd (omega (arith, leb-false (at + 8) (length p) l, s.same)) }

-- ---- those written, and those held

module _ (ds : List ℕ) (s : Sink) (h : Held ds s) where
  inside : 8 * s.at ≤ length ds
  inside = omega (arith, h.size)

  length_front : length (take (8 * s.at) ds) ≡ 8 * s.at
  length_front = length-take-le (8 * s.at) ds inside

  held_parts : ds ≡ take (8 * s.at) ds ++ bits_of s.width s.held
  held_parts = sym (take-append-drop (8 * s.at) ds) ∙ ap (λ (d : List ℕ). take (8 * s.at) ds ++ d) (sym h.tail)

-- ---- a field that fits beside the bits held

module _ (s : Sink) (n w : ℕ) (w< : w < 2 ^ n) (few : s.width + n < 64) where
  -- all that are held then
  abbrev both : ℕ
  both = s.held * 2 ^ n % 2 ^ 64 + w

  fit : s.width + n ≤ 64
  fit = omega arith

  pub beside_fits : both < 2 ^ (s.width + n)
  beside_fits = two_lt s.width n s.fits w< fit

  pub beside_laid : (r : Sink) → Parts r s.at both (s.width + n) → (p : List ℕ) → Laid (bits_of n w) s r p p
  beside_laid r e p ds h = (
    record {
      size = length-append ds (bits_of n w) ∙ omega (arith, h.size, length_digits 2 n w, e.at, e.width);
      tail = rw (e.at, e.held, e.width)
          (two-bits s.width n s.fits w< fit ∙ ap (λ (d : List ℕ). d ++ bits_of n w) h.tail ∙ sym (drop-append-le (8 * s.at) ds (bits_of n w) (inside ds s h)));
    },
    λ o t. record {
      same = t.same;
      front = λ m. rw e.at
          (t.front (rw e.at at m) ∙ ap (λ (d : List ℕ). over d (bits o)) (sym (take-append-le (8 * s.at) ds (bits_of n w) (inside ds s h))));
    },
  )

-- ---- a field that fills the word

module _ (s : Sink) (n w : ℕ) (n≤ : n ≤ 64) (w< : w < 2 ^ n) (many : 64 ≤ s.width + n) where
  -- how many bits are left over, and how many fill the word
  abbrev more : ℕ
  more = s.width + n - 64

  abbrev fill : ℕ
  fill = 64 - s.width

  -- the bits held moved to the top, in two shifts, and as many of the field as there is room for
  abbrev word : ℕ
  word = s.held * 2 ^ (63 - s.width) % 2 ^ 64 * 2 % 2 ^ 64 + w / 2 ^ more

  -- what is left of it
  abbrev left : ℕ
  left = w % (1 * 2 ^ more % 2 ^ 64)

  full : s.width + fill ≡ 64
  full = omega (arith, s.small)

  all_of : fill + more ≡ n
  all_of = omega (arith, s.small)

  more< : more < 64
  more< = omega (arith, s.small)

  moved : s.held * 2 ^ (63 - s.width) % 2 ^ 64 * 2 % 2 ^ 64 ≡ s.held * 2 ^ fill
  moved =
      let j : s.width + (63 - s.width) ≡ 63 = omega (arith, s.small) in
      let k : (63 - s.width) + 1 ≡ fill = omega (arith, s.small) in
      let lt : s.held * 2 ^ (63 - s.width) < 2 ^ 63 = rw j at (shl_lt s.width (63 - s.width) s.fits) in
      ap (λ (x : ℕ). x * 2 % 2 ^ 64) (shl_exact s.width (63 - s.width) 64 s.fits (omega arith))
      ∙ shl_exact 63 1 64 lt (omega arith)
      ∙ mul_assoc s.held (2 ^ (63 - s.width)) 2
      ∙ ap (λ (x : ℕ). s.held * x) (sym (pow-add 2 (63 - s.width) 1) ∙ ap (λ (m : ℕ). 2 ^ m) k)

  first< : w / 2 ^ more < 2 ^ fill
  first< = shr_lt fill more (rw all_of w<)

  pub word_fits : word < 2 ^ 64
  word_fits = rw moved (rw full at (above_lt s.width fill s.fits first< (omega (arith, full))))

  word_bits : bits_of 64 word ≡ bits_of s.width s.held ++ bits_of fill (w / 2 ^ more)
  word_bits =
      ap (λ (m : ℕ). bits_of m word) (sym full) ∙ ap (λ (x : ℕ). bits_of (s.width + fill) (x + w / 2 ^ more)) moved
      ∙ digits_join two⁺ s.width fill s.held first<

  module _ (ds : List ℕ) (h : Held ds s) where
    all : ds ++ bits_of n w ≡ (take (8 * s.at) ds ++ bits_of 64 word) ++ bits_of more w
    all =
        ap₂ (λ (x y : List ℕ). x ++ y) (held_parts ds s h) (ap (λ (m : ℕ). bits_of m w) (sym all_of) ∙ digits_append 2 fill more w)
        ∙ regroup (take (8 * s.at) ds) (bits_of s.width s.held) (bits_of fill (w / 2 ^ more)) (bits_of more w)
        ∙ ap (λ (d : List ℕ). (take (8 * s.at) ds ++ d) ++ bits_of more w) (sym word_bits)
      where
        regroup : (a b c d : List ℕ) → (a ++ b) ++ (c ++ d) ≡ (a ++ (b ++ c)) ++ d
        regroup a b c d = simp append_assoc

    length_full : length (take (8 * s.at) ds ++ bits_of 64 word) ≡ 8 * (s.at + 8)
    length_full = length-append (take (8 * s.at) ds) (bits_of 64 word) ∙ omega (arith, length_front ds s h, length_digits 2 64 word)

  pub past_laid : (r : Sink) → Parts r (s.at + 8) left more → (p : List ℕ) → Laid (bits_of n w) s r p (over_word p s.at word)
  past_laid r e p ds h = (
    record {
      size = length-append ds (bits_of n w) ∙ omega (arith, h.size, length_digits 2 n w, e.at, e.width);
      tail = rw (e.at, e.held, e.width)
          (ap (λ (m : ℕ). bits_of more (w % m)) (mask_pow more more<) ∙ digits_of_mod two⁺ more w
          ∙ sym (ap (drop (8 * (s.at + 8))) (all ds h) ∙ drop_at (take (8 * s.at) ds ++ bits_of 64 word) (bits_of more w) (8 * (s.at + 8)) (length_full ds h)));
    },
    λ o t.
        rw e.at (word_placed o p ds (ds ++ bits_of n w) s.at word (inside ds s h)
        (ap (take (8 * (s.at + 8))) (all ds h) ∙ take_at (take (8 * s.at) ds ++ bits_of 64 word) (bits_of more w) (8 * (s.at + 8)) (length_full ds h)) t),
  )

-- ---- a field, and then another

pub laid-laid : (es fs : List ℕ) (s t r : Sink) (p q u : List ℕ) → Laid es s t p q → Laid fs t r q u → Laid (es ++ fs) s r p u
laid-laid es fs s t r p q u f g ds h =
    let a = f ds h in
    let b = g (ds ++ es) a.0 in
    let e = append_assoc ds es fs in
    (rw e at b.0, λ o x. rw e at (b.1 o (a.1 o x)))

-- ---- the end

module _ (o p ds : List ℕ) (s : Sink) (h : Held ds s) (t : PlacedBits ds s.at o p) where
  -- how many bytes the bits that are held take, and how many bits fill the last
  abbrev bytes : ℕ
  bytes = (s.width + 7) / 8

  abbrev pad : ℕ
  pad = 8 * bytes - s.width

  abbrev last : ℕ
  last = s.held * 2 ^ pad % 2 ^ 64

  pub last_size : s.at + bytes ≡ length (pack ds)
  last_size = omega (arith, length-pack ds, h.size)

  pub last_none : length p < s.at + bytes → length o < length (pack ds)
  last_none l = omega (arith, last_size, t.same)

  module _ (o< : Below 256 o) (ds< : Below 2 ds) (room : s.at + bytes ≤ length p) where
    last_bits : bits_of (8 * bytes) last ≡ bits_of s.width s.held ++ replicate pad 0
    last_bits =
        let all : s.width + pad ≡ 8 * bytes = omega arith in
        let none : s.held * 2 ^ pad ≡ s.held * 2 ^ pad + 0 = omega arith in
        ap (λ (m : ℕ). bits_of m last) (sym all)
        ∙ ap (bits_of (s.width + pad)) (shl_is s.width pad {l = 0} s.fits (pow_pos pad) (omega (arith, s.small)) ∙ none)
        ∙ digits_join two⁺ s.width pad s.held (pow_pos pad) ∙ ap (λ (d : List ℕ). bits_of s.width s.held ++ d) (digits_zero 2 pad)

    pub last_placed : (q : List ℕ) → Below 256 q → q ≡ over_at p s.at bytes (bytes_of bytes last) → (length (pack ds) ≤ length o) × (q ≡ over (pack ds) o)
    last_placed q q< eq =
        let fits : length (pack ds) ≤ length o = omega (arith, last_size, t.same) in
        let F : List ℕ = take (8 * s.at) ds in
        let E : List ℕ = bits_of s.width s.held ++ replicate pad 0 in
        let fill : pad ≡ fill_of (length ds) = omega (arith, h.size) in
        let n : 8 * bytes ≡ length E = sym (length_digits 2 (8 * bytes) last) ∙ ap length last_bits in
        let laid : bits q ≡ over_at (bits p) (length F) (length E) E =
        ap bits eq ∙ bits-over_at p s.at bytes last room
        ∙ ap (λ (d : List ℕ). over_at (bits p) (8 * s.at) (8 * bytes) d) last_bits
        ∙ ap₂ (λ (a m : ℕ). over_at (bits p) a m E) (sym (length_front ds s h)) n in
        let whole : F ++ E ≡ ds ++ replicate (fill_of (length ds)) 0 =
        sym (append_assoc F (bits_of s.width s.held) (replicate pad 0))
        ∙ ap₂ (λ (d : List ℕ) (m : ℕ). d ++ replicate m 0) (sym (held_parts ds s h)) fill in (
          fits,
          over-pack o q ds o< q< ds< fits
              (over-over_at (bits o) (bits p) (bits q) F E (t.front (omega (arith, t.same))) laid ∙ ap (λ (d : List ℕ). over d (bits o)) whole),
        )
