-- Laws of fields: where each stands when they are laid end to end, what is read there, what whole fields are, that bytes are laid of one list
-- of fields only, and that bytes after whole fields change nothing in them.
use mathlib.Core.Path.{◌≡◌, refl, sym, ap, ap₂, ◌∙◌, subst}
use mathlib.Core.Bool.{Bool, true, false, not, false≢true}
use mathlib.Core.List.{List, [], ◌∷◌, ◌++◌, append_assoc, append-nil}
use Prim.Native.Nat.{ℕ, zero, suc, ◌+◌, ◌-◌, ◌^◌, ◌≤◌, ◌<◌}
use native.Mathlib.Numerals.{add-one}
use native.Mathlib.Omega.{arith}
use borrow.Author.Tests.{not-true}
use lib.Dec.{lit<}
use lib.ListN.{length, take, drop, get_or, length-append, length-drop, take-append-drop, get_or-append}
use lib.Seq.{take_at, drop_at, get_or-append_seam, drop-append_seam, drop-cons, drop-drop, length-take-le, take-append-le, drop-append-le}
use Rattle.lists.specs.Below.{Below}
use Rattle.lists.specs.Compare.{both}
use Rattle.lists.proofs.Below.{below_take, below_drop}
use Rattle.lists.proofs.Compare.{both_true}
use Rattle.lists.proofs.Lists.{every, every_cons}
use Rattle.bits.specs.Digits.{digits_of, bytes_of, number_of}
use Rattle.bits.proofs.Digits.{length_digits, number_digits_lt, digits_number, number_lt}
use Rattle.record_format.specs.Fields.{Field, field_of, tag_size, length_size, head_size, max_body, field_bytes, laid, tag_at, length_at, body_at, next_at}

-- ---- length

pub length_field : (f : Field) → length (field_bytes f) ≡ head_size + length f.body
unfolding field_bytes
length_field f = ap suc (length-append (bytes_of length_size (length f.body)) f.body ∙ ap (λ (n : ℕ). n + length f.body) (length_digits 256 length_size (length f.body))) ∙ omega arith

-- how many bytes fields take
abbrev pub size_all : List Field → ℕ
size_all [] = 0
size_all (f ∷ fs) = head_size + length f.body + size_all fs

pub length-laid : (fs : List Field) → length (laid fs) ≡ size_all fs
unfolding laid
length-laid [] = refl
length-laid (f ∷ fs) = length-append (field_bytes f) (laid fs) ∙ ap₂ (λ (a b : ℕ). a + b) (length_field f) (length-laid fs)

-- some fields, and then others
pub laid-append : (fs gs : List Field) → laid (fs ++ gs) ≡ laid fs ++ laid gs
unfolding laid
laid-append [] gs = refl
laid-append (f ∷ fs) gs = ap (λ (l : List ℕ). field_bytes f ++ l) (laid-append fs gs) ∙ sym (append_assoc (field_bytes f) (laid fs) (laid gs))

pub laid_one : (f : Field) → laid (f ∷ []) ≡ field_bytes f
unfolding laid
laid_one f = append-nil (field_bytes f)

-- ---- a field that stands in bytes

-- the field f stands at the offset p of the bytes s
pub record FieldStands (s : List ℕ) (p : ℕ) (f : Field) : Type 0 where
  pub head_whole : p + head_size ≤ length s
  pub tagged : tag_at s p ≡ f.tag
  pub stated : length_at s p ≡ length f.body
  pub whole : next_at s p ≤ length s
  pub within : body_at s p ≡ f.body
  pub next : next_at s p ≡ p + length (field_bytes f)

-- after other bytes and before any others
module _ (before : List ℕ) (f : Field) (rest : List ℕ) (small : length f.body ≤ max_body) where
  abbrev here : List ℕ
  here = before ++ (field_bytes f ++ rest)

  abbrev p : ℕ
  p = length before

  from_tag : drop p here ≡ field_bytes f ++ rest
  from_tag = drop-append_seam before (field_bytes f ++ rest)

  tag_at_lem : tag_at here p ≡ f.tag
  unfolding tag_at field_bytes
  tag_at_lem = get_or-append_seam before f.tag ((bytes_of length_size (length f.body) ++ f.body) ++ rest) 0

  -- the bytes after the tag
  from_length : drop (p + tag_size) here ≡ bytes_of length_size (length f.body) ++ (f.body ++ rest)
  unfolding field_bytes
  from_length =
      sym (drop-drop tag_size p here) ∙ ap (drop tag_size) from_tag ∙ append_assoc (bytes_of length_size (length f.body)) f.body rest

  length_at_lem : length_at here p ≡ length f.body
  unfolding length_at
  length_at_lem =
      ap (λ (l : List ℕ). number_of 256 (take length_size l)) from_length
      ∙ ap (number_of 256) (take_at (bytes_of length_size (length f.body)) (f.body ++ rest) length_size (length_digits 256 length_size (length f.body)))
      ∙ number_digits_lt (lit< tt) length_size (omega arith)

  from_body : drop (p + head_size) here ≡ f.body ++ rest
  from_body =
      let e : p + head_size ≡ p + tag_size + length_size = omega arith in
      ap (λ (n : ℕ). drop n here) e ∙ sym (drop-drop length_size (p + tag_size) here) ∙ ap (drop length_size) from_length
      ∙ drop_at (bytes_of length_size (length f.body)) (f.body ++ rest) length_size (length_digits 256 length_size (length f.body))

  body_at_lem : body_at here p ≡ f.body
  unfolding body_at
  body_at_lem = ap₂ take length_at_lem from_body ∙ take_at f.body rest (length f.body) refl

  next_at_lem : next_at here p ≡ p + length (field_bytes f)
  unfolding next_at
  next_at_lem = ap (λ (n : ℕ). p + head_size + n) length_at_lem ∙ omega (arith, length_field f)

  length_here : length here ≡ p + length (field_bytes f) + length rest
  length_here = length-append before (field_bytes f ++ rest) ∙ omega (arith, length-append (field_bytes f) rest)

  pub field_stands : FieldStands here p f
  field_stands = record {
    head_whole = omega (arith, length_here, length_field f);
    tagged = tag_at_lem;
    stated = length_at_lem;
    whole = omega (arith, length_here, next_at_lem);
    within = body_at_lem;
    next = next_at_lem;
  }

-- a head that stands in bytes, with or without a whole body behind it
pub head_stands : (before : List ℕ) (tag l : ℕ) (rest : List ℕ) → l < 256 ^ length_size
    → let s = before ++ ((tag ∷ bytes_of length_size l) ++ rest) in (tag_at s (length before) ≡ tag) × (length_at s (length before) ≡ l)
unfolding tag_at length_at
head_stands before tag l rest small =
    let s = before ++ ((tag ∷ bytes_of length_size l) ++ rest) in (
      get_or-append_seam before tag (bytes_of length_size l ++ rest) 0,
      ap (λ (x : List ℕ). number_of 256 (take length_size x)) (sym (drop-drop tag_size (length before) s) ∙ ap (drop tag_size) (drop-append_seam before ((tag ∷ bytes_of length_size l) ++ rest)))
          ∙ ap (number_of 256) (take_at (bytes_of length_size l) rest length_size (length_digits 256 length_size l)) ∙ number_digits_lt (lit< tt) length_size small,
    )

-- ---- fields laid end to end

-- bodies whose length two bytes can state
abbrev pub Small : List Field → Type 0
Small [] = Unit {0}
Small (f ∷ fs) = (length f.body ≤ max_body) × Small fs

-- the fields fs stand one after the other, from the offset p on
abbrev pub StandAll : List ℕ → ℕ → List Field → Type 0
StandAll s p [] = Unit {0}
StandAll s p (f ∷ fs) = FieldStands s p f × StandAll s (next_at s p) fs

-- the field of index k of a list that has one
abbrev pub field_in : List Field → ℕ → Field
field_in fs k = get_or fs k (field_of 0 [])

-- the offset of the field of index k, of fields that follow one another from the offset p on
abbrev pub field_at : List ℕ → ℕ → ℕ → ℕ
field_at s p zero = p
field_at s p (suc k) = field_at s (next_at s p) k

-- where each stands, whatever is before and after
pub laid_stand : (before : List ℕ) (fs : List Field) (rest : List ℕ) → Small fs → StandAll (before ++ (laid fs ++ rest)) (length before) fs
unfolding laid
laid_stand before [] rest small = tt
laid_stand before (f ∷ fs) rest small = go (laid_stand (before ++ field_bytes f) fs rest small.1)
  where
    first : before ++ (laid (f ∷ fs) ++ rest) ≡ before ++ (field_bytes f ++ (laid fs ++ rest))
    first = simp append_assoc

    later : (before ++ field_bytes f) ++ (laid fs ++ rest) ≡ before ++ (field_bytes f ++ (laid fs ++ rest))
    later = append_assoc before (field_bytes f) (laid fs ++ rest)

    go : StandAll ((before ++ field_bytes f) ++ (laid fs ++ rest)) (length (before ++ field_bytes f)) fs
        → StandAll (before ++ (laid (f ∷ fs) ++ rest)) (length before) (f ∷ fs)
    go h =
        let here = field_stands before f (laid fs ++ rest) small.0 in
        let e : next_at (before ++ (field_bytes f ++ (laid fs ++ rest))) (length before) ≡ length (before ++ field_bytes f) =
        here.next ∙ sym (length-append before (field_bytes f)) in
        subst (λ (l : List ℕ). StandAll l (length before) (f ∷ fs)) (sym first)
        (here, rw e (subst (λ (l : List ℕ). StandAll l (length (before ++ field_bytes f)) fs) later h))

-- the offset past the fields fs, which stand from p on
abbrev pub past_all : List ℕ → ℕ → List Field → ℕ
past_all s p [] = p
past_all s p (f ∷ fs) = past_all s (next_at s p) fs

pub stand_past : (s : List ℕ) (p : ℕ) (fs : List Field) → StandAll s p fs → past_all s p fs ≡ p + length (laid fs)
unfolding laid
stand_past s p [] h = omega arith
stand_past s p (f ∷ fs) h =
    stand_past s (next_at s p) fs h.1 ∙ omega (arith, h.0.next, length-append (field_bytes f) (laid fs))

-- some fields, and then others

pub small_append : (fs gs : List Field) → Small fs → Small gs → Small (fs ++ gs)
small_append [] gs a b = b
small_append (f ∷ fs) gs a b = (a.0, small_append fs gs a.1 b)

pub stand_append : (s : List ℕ) (p : ℕ) (fs gs : List Field) → StandAll s p (fs ++ gs) → StandAll s p fs × StandAll s (past_all s p fs) gs
stand_append s p [] gs h = (tt, h)
stand_append s p (f ∷ fs) gs h = let r = stand_append s (next_at s p) fs gs h.1 in ((h.0, r.0), r.1)

pub past_append : (s : List ℕ) (p : ℕ) (fs gs : List Field) → past_all s p (fs ++ gs) ≡ past_all s (past_all s p fs) gs
past_append s p [] gs = refl
past_append s p (f ∷ fs) gs = past_append s (next_at s p) fs gs

-- ---- bytes are laid of one list of fields only

-- what stands after equal beginnings
cancel : (a x y : List ℕ) → a ++ x ≡ a ++ y → x ≡ y
cancel a x y e = sym (drop-append_seam a x) ∙ ap (drop (length a)) e ∙ drop-append_seam a y

pub field_same : (f g : Field) → length f.body ≤ max_body → length g.body ≤ max_body → (x y : List ℕ) → field_bytes f ++ x ≡ field_bytes g ++ y → (f ≡ g) × (x ≡ y)
field_same f g m n x y e =
    let a = field_stands [] f x m in
    let b = field_stands [] g y n in
    let t : f.tag ≡ g.tag = sym a.tagged ∙ ap (λ (l : List ℕ). tag_at l 0) e ∙ b.tagged in
    let c : f.body ≡ g.body = sym a.within ∙ ap (λ (l : List ℕ). body_at l 0) e ∙ b.within in
    let h : f ≡ g = ap₂ field_of t c in
    (h, cancel (field_bytes f) x y (e ∙ ap (λ (k : Field). field_bytes k ++ y) (sym h)))

-- the fields end with the first whose tag is a last one
abbrev pub closed : (ℕ → Bool) → List Field → Bool
closed last [] = false
closed last (f ∷ []) = last f.tag
closed last (f ∷ g ∷ fs) = both (not (last f.tag)) (closed last (g ∷ fs))

-- so do some fields of which none is a last one, and then such fields
pub closed_append : (last : ℕ → Bool) (fs gs : List Field) → every (λ f. not (last f.tag)) fs ≡ true → closed last gs ≡ true → closed last (fs ++ gs) ≡ true
closed_append last [] gs a b = b
closed_append last (f ∷ []) [] a b = absurd (false≢true b)
closed_append last (f ∷ []) (g ∷ gs) a b = ap₂ both (every_cons (λ (f : Field). not (last f.tag)) f [] a).0 b
closed_append last (f ∷ h ∷ fs) gs a b =
    let e = every_cons (λ (f : Field). not (last f.tag)) f (h ∷ fs) a in
    ap₂ both e.0 (closed_append last (h ∷ fs) gs e.1 b)

-- so of two such lists, laid end to end, neither is a beginning of the other
module _ (last : ℕ → Bool) where
  apart : (f g : Field) → f ≡ g → last f.tag ≡ true → not (last g.tag) ≡ true → ⊥
  apart f g e a b = let z : ◌≡◌ {A = ℕ} 0 1 = cc (ap (λ (k : Field). last k.tag) e, not-true (last g.tag) b) in omega arith

  pub laid_same : (fs gs : List Field) → Small fs → Small gs → closed last fs ≡ true → closed last gs ≡ true
      → (x y : List ℕ) → laid fs ++ x ≡ laid gs ++ y → (fs ≡ gs) × (x ≡ y)
  unfolding laid
  laid_same [] gs m n c d x y e = absurd (false≢true c)
  laid_same (f ∷ fs) [] m n c d x y e = absurd (false≢true d)
  laid_same (f ∷ []) (g ∷ []) m n c d x y e =
      let h = field_same f g m.0 n.0 x y (sym (append_assoc (field_bytes f) [] x) ∙ e ∙ append_assoc (field_bytes g) [] y) in
      (ap (λ (k : Field). k ∷ []) h.0, h.1)
  laid_same (f ∷ []) (g ∷ k ∷ gs) m n c d x y e =
      let h = field_same f g m.0 n.0 x (laid (k ∷ gs) ++ y) (rw append-nil at (e ∙ append_assoc (field_bytes g) (laid (k ∷ gs)) y)) in
      absurd (apart f g h.0 c (both_true (not (last g.tag)) (closed last (k ∷ gs)) d).0)
  laid_same (f ∷ k ∷ fs) (g ∷ []) m n c d x y e =
      let h = field_same g f n.0 m.0 y (laid (k ∷ fs) ++ x) (rw append-nil at (sym e ∙ append_assoc (field_bytes f) (laid (k ∷ fs)) x)) in
      absurd (apart g f h.0 d (both_true (not (last f.tag)) (closed last (k ∷ fs)) c).0)
  laid_same (f ∷ k ∷ fs) (g ∷ l ∷ gs) m n c d x y e =
      let p = both_true (not (last f.tag)) (closed last (k ∷ fs)) c in
      let q = both_true (not (last g.tag)) (closed last (l ∷ gs)) d in
      let h = field_same f g m.0 n.0 (laid (k ∷ fs) ++ x) (laid (l ∷ gs) ++ y)
      (sym (append_assoc (field_bytes f) (laid (k ∷ fs)) x) ∙ e ∙ append_assoc (field_bytes g) (laid (l ∷ gs)) y) in
      let r = laid_same (k ∷ fs) (l ∷ gs) m.1 n.1 p.1 q.1 x y h.1 in
      (ap₂ (λ (a : Field) (l : List Field). a ∷ l) h.0 r.0, r.1)

-- ---- whole fields in any bytes

-- the bytes s from the offset p on, where a whole field stands there
module _ (s : List ℕ) (p : ℕ) (bytes : Below 256 s) (head : p + head_size ≤ length s) where
  length_bytes : length (take length_size (drop (p + tag_size) s)) ≡ length_size
  length_bytes = length-take-le length_size (drop (p + tag_size) s) (subst (λ (n : ℕ). length_size ≤ n) (sym (length-drop (p + tag_size) s)) (omega arith))

  below_length : Below 256 (take length_size (drop (p + tag_size) s))
  below_length = below_take 256 length_size (drop (p + tag_size) s) (below_drop 256 (p + tag_size) s bytes)

  -- two bytes state no more than they hold
  pub length_most : length_at s p ≤ max_body
  unfolding length_at
  length_most = omega (arith, subst (λ (n : ℕ). number_of 256 (take length_size (drop (p + tag_size) s)) < 256 ^ n) length_bytes (number_lt 256 (take length_size (drop (p + tag_size) s)) below_length))

  pub next_most : next_at s p ≤ p + head_size + max_body
  unfolding next_at
  next_most = omega (arith, length_most)

  module _ (whole : next_at s p ≤ length s) where
    fits : length_at s p ≤ length s - (p + head_size)
    unfolding next_at
    fits = omega (arith, whole)

    pub length-body : length (body_at s p) ≡ length_at s p
    unfolding body_at
    length-body = length-take-le (length_at s p) (drop (p + head_size) s) (subst (λ (n : ℕ). length_at s p ≤ n) (sym (length-drop (p + head_size) s)) fits)

    stated : bytes_of length_size (length_at s p) ≡ take length_size (drop (p + tag_size) s)
    unfolding length_at
    stated =
        ap (λ (n : ℕ). digits_of 256 n (number_of 256 (take length_size (drop (p + tag_size) s)))) (sym length_bytes) ∙ digits_number 256 (take length_size (drop (p + tag_size) s)) below_length

    after_tag : drop (p + tag_size) s ≡ take length_size (drop (p + tag_size) s) ++ (body_at s p ++ drop (next_at s p) s)
    unfolding body_at next_at
    after_tag =
        let parted : p + tag_size + length_size ≡ p + head_size = omega arith in
        sym (take-append-drop length_size (drop (p + tag_size) s))
        ∙ ap (λ (l : List ℕ). take length_size (drop (p + tag_size) s) ++ l)
        (drop-drop length_size (p + tag_size) s ∙ ap (λ (n : ℕ). drop n s) parted
        ∙ sym (take-append-drop (length_at s p) (drop (p + head_size) s))
        ∙ ap (λ (l : List ℕ). take (length_at s p) (drop (p + head_size) s) ++ l) (drop-drop (length_at s p) (p + head_size) s))

    -- it is that field, and then what follows
    pub field_here : drop p s ≡ field_bytes (field_of (tag_at s p) (body_at s p)) ++ drop (next_at s p) s
    unfolding field_bytes tag_at
    field_here =
        drop-cons s p 0 (omega arith)
        ∙ ap (λ (n : ℕ). get_or s p 0 ∷ drop n s) (sym (add-one p))
        ∙ ap (λ (l : List ℕ). get_or s p 0 ∷ l)
        (after_tag
        ∙ sym (append_assoc (take length_size (drop (p + tag_size) s)) (body_at s p) (drop (next_at s p) s))
        ∙ ap (λ (l : List ℕ). (l ++ body_at s p) ++ drop (next_at s p) s) (sym stated ∙ ap (bytes_of length_size) (sym length-body)))

    pub below_body : Below 256 (body_at s p)
    unfolding body_at
    below_body = below_take 256 (length_at s p) (drop (p + head_size) s) (below_drop 256 (p + head_size) s bytes)

-- the fields fs follow one another from the offset p on
abbrev pub Follow : List ℕ → ℕ → List Field → Type 0
Follow s p [] = Unit {0}
Follow s p (f ∷ fs) = (drop p s ≡ field_bytes f ++ drop (next_at s p) s) × Follow s (next_at s p) fs

-- then the bytes from p on are they, laid end to end, and what follows them
pub follow_laid : (s : List ℕ) (p : ℕ) (fs : List Field) → Follow s p fs → drop p s ≡ laid fs ++ drop (past_all s p fs) s
unfolding laid
follow_laid s p [] h = refl
follow_laid s p (f ∷ fs) h =
    h.0 ∙ ap (λ (l : List ℕ). field_bytes f ++ l) (follow_laid s (next_at s p) fs h.1)
    ∙ sym (append_assoc (field_bytes f) (laid fs) (drop (past_all s (next_at s p) fs) s))

pub follow_append : (s : List ℕ) (p : ℕ) (fs gs : List Field) → Follow s p fs → Follow s (past_all s p fs) gs → Follow s p (fs ++ gs)
follow_append s p [] gs a b = b
follow_append s p (f ∷ fs) gs a b = (a.0, follow_append s (next_at s p) fs gs a.1 b)

-- ---- bytes after a field change nothing in it

pub next_later : (s : List ℕ) (p : ℕ) → p ≤ next_at s p
unfolding next_at
next_later s p = omega arith

module _ (s rest : List ℕ) (p : ℕ) where
  module _ (head : p + head_size ≤ length s) where
    pub tag_same : tag_at (s ++ rest) p ≡ tag_at s p
    unfolding tag_at
    tag_same = get_or-append s rest 0 p (omega arith)

    pub length-same : length_at (s ++ rest) p ≡ length_at s p
    unfolding length_at
    length-same =
        ap (λ (l : List ℕ). number_of 256 (take length_size l)) (drop-append-le (p + tag_size) s rest (omega arith))
        ∙ ap (number_of 256) (take-append-le length_size (drop (p + tag_size) s) rest (subst (λ (n : ℕ). length_size ≤ n) (sym (length-drop (p + tag_size) s)) (omega arith)))

    pub next_same : next_at (s ++ rest) p ≡ next_at s p
    unfolding next_at
    next_same = ap (λ (n : ℕ). p + head_size + n) length-same

  pub head_within : next_at s p ≤ length s → p + head_size ≤ length s
  unfolding next_at
  head_within whole = omega (arith, whole)

  pub body_same : next_at s p ≤ length s → body_at (s ++ rest) p ≡ body_at s p
  unfolding body_at next_at
  body_same whole =
      ap₂ take (length-same (head_within whole)) (drop-append-le (p + head_size) s rest (head_within whole))
      ∙ take-append-le (length_at s p) (drop (p + head_size) s) rest (subst (λ (n : ℕ). length_at s p ≤ n) (sym (length-drop (p + head_size) s)) (omega (arith, whole)))

-- ---- fields that follow one another: n of them, from the offset p on, are whole in s

field_later : (s : List ℕ) (p n : ℕ) → p ≤ field_at s p n
field_later s p zero = omega arith
field_later s p (suc n) = omega (arith, next_later s p, field_later s (next_at s p) n)

-- then the first is whole
pub first-whole : (s : List ℕ) (p n : ℕ) → 0 < n → field_at s p n ≤ length s → next_at s p ≤ length s
first-whole s p zero some whole = absurd (omega arith)
first-whole s p (suc n) some whole = omega (arith, field_later s (next_at s p) n)
