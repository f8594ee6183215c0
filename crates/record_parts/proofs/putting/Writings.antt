-- Laws of a record as it is written: a head, a field, and fields after others, put at the front of an output.
use mathlib.Core.Path.{◌≡◌, refl, sym, ap, ap₂, ◌∙◌, subst}
use mathlib.Core.List.{List, [], ◌∷◌, ◌++◌, append_assoc}
use Prim.Native.Nat.{ℕ, zero, suc, ◌+◌, ◌-◌, ◌≤◌, ◌<◌}
use native.Mathlib.Omega.{arith}
use lib.ListN.{length, take, drop, length-append, length-drop}
use lib.Seq.{take_at, drop_at, drop-drop, length-take-le}
use borrow.Rule.Slice.PartMut.{put_mid}
use Rattle.bits.specs.Digits.{bytes_of}
use Rattle.outputs.specs.Outputs.{over, over_at, Placed, both_wrote}
use Rattle.bits.proofs.Digits.{length_digits}
use Rattle.outputs.proofs.Outputs.Parts.{rest_is, put_rest}
use Rattle.outputs.proofs.Outputs.Writers.{placed_then}
use Rattle.std.specs.Prelude.{Option, Some, None}
use Rattle.record_format.specs.Fields.{Field, field_of, length_size, head_size, field_bytes, laid}
use Rattle.record_format.specs.Runs.{side_fields}
use Rattle.record_format.proofs.Fields.{length_field, length-laid, laid-append, laid_one}

-- ---- a head, and a field of a number

-- a tag, and the length of a body of n bytes
abbrev head_of : ℕ → ℕ → List ℕ
head_of tag n = tag ∷ bytes_of length_size n

length-head : (tag n : ℕ) → length (head_of tag n) ≡ head_size
length-head tag n = ap suc (length_digits 256 length_size n)

over-head : (tag n : ℕ) (o : List ℕ) → over (head_of tag n) o ≡ head_of tag n ++ drop head_size o
over-head tag n o = ap (λ (k : ℕ). head_of tag n ++ drop k o) (length-head tag n)

module _ (o p q : List ℕ) (tag n x : ℕ) (h : p ≡ over (tag ∷ bytes_of length_size n) o) (g : q ≡ over_at p head_size n (bytes_of n x)) where
  headed : p ≡ head_of tag n ++ drop head_size o
  headed = h ∙ over-head tag n o

  -- the body after the head
  pub number_on : q ≡ over (field_bytes (field_of tag (bytes_of n x))) o
  unfolding field_bytes
  number_on =
      let l : length (bytes_of n x) ≡ n = length_digits 256 n x in
      let f : length (field_bytes (field_of tag (bytes_of n x))) ≡ head_size + n = length_field (field_of tag (bytes_of n x)) ∙ ap (λ (k : ℕ). head_size + k) l in
      g
      ∙ ap₂ (λ (a b : List ℕ). a ++ (bytes_of n x ++ b))
      (ap (take head_size) headed ∙ take_at (head_of tag n) (drop head_size o) head_size (length-head tag n))
      (ap (drop (head_size + n)) headed ∙ sym (drop-drop n head_size (head_of tag n ++ drop head_size o)) ∙ ap (drop n) (drop_at (head_of tag n) (drop head_size o) head_size (length-head tag n)) ∙ drop-drop n head_size o)
      ∙ ap₂ (λ (k m : ℕ). tag ∷ (bytes_of length_size k ++ (bytes_of n x ++ drop m o))) (sym l) (sym f)
      ∙ sym (append_assoc (tag ∷ bytes_of length_size (length (bytes_of n x))) (bytes_of n x) (drop (length (field_bytes (field_of tag (bytes_of n x)))) o))

-- one field, laid
one-laid : (f : Field) (o p : List ℕ) (w : Option ℕ) → Placed (field_bytes f) w o p → Placed (laid (f ∷ [])) w o p
one-laid f o p w put = subst (λ (l : List ℕ). Placed l w o p) (sym (laid_one f)) put

-- how much room a field of a number takes
pub number_none : (o : List ℕ) (tag n x : ℕ) → length o < n + head_size → length o < length (laid (field_of tag (bytes_of n x) ∷ []))
number_none o tag n x h = omega (arith, length-laid (field_of tag (bytes_of n x) ∷ []), length_digits 256 n x)

pub number_done : (o q : List ℕ) (tag n x : ℕ) → n + head_size ≤ length o → q ≡ over (field_bytes (field_of tag (bytes_of n x))) o → Placed (laid (field_of tag (bytes_of n x) ∷ [])) (Some (n + head_size)) o q
number_done o q tag n x h e =
    one-laid (field_of tag (bytes_of n x)) o q (Some (n + head_size))
    (omega (arith, length_field (field_of tag (bytes_of n x)), length_digits 256 n x), omega (arith, length_field (field_of tag (bytes_of n x)), length_digits 256 n x), e)

-- ---- one part after another

-- a body put past the head, by what its writer answers, and then the head
module _ (tag : ℕ) (body o q : List ℕ) (w : Option ℕ) (h : head_size ≤ length o) (put : Placed body w (take (length o - head_size) (drop head_size o)) q) where
  past_head : Placed body w (drop head_size o) q
  past_head = subst (λ (l : List ℕ). Placed body w l q) (rest_is head_size o) put

  pub field_none : w ≡ None → length o < length (laid (field_of tag body ∷ []))
  field_none e =
      let g : Placed body None (drop head_size o) q = subst (λ (x : Option ℕ). Placed body x (drop head_size o) q) e past_head in
      omega (arith, length-drop head_size o, length-laid (field_of tag body ∷ []))

  module _ (n : ℕ) (e : w ≡ Some n) where
    body_done : Placed body (Some n) (drop head_size o) q
    body_done = subst (λ (x : Option ℕ). Placed body x (drop head_size o) q) e past_head

    pub field_fits : n + head_size ≤ length o
    field_fits = omega (arith, body_done.0, body_done.1, length-drop head_size o)

    pub field_done : (r : List ℕ) (t : ℕ) → t ≡ tag → r ≡ over (t ∷ bytes_of length_size n) (put_mid head_size (length o - head_size) o q) → Placed (laid (field_of tag body ∷ [])) (Some (n + head_size)) o r
    unfolding field_bytes
    field_done r t tagged g =
        let f : head_size + length body ≡ length (field_bytes (field_of tag body)) = sym (length_field (field_of tag body)) in
        one-laid (field_of tag body) o r (Some (n + head_size)) (
          omega (arith, body_done.0, f),
          omega (arith, field_fits, body_done.0, f),
          g
              ∙ over-head t n (put_mid head_size (length o - head_size) o q)
              ∙ ap (λ (x : ℕ). x ∷ (bytes_of length_size n ++ drop head_size (put_mid head_size (length o - head_size) o q))) tagged
              ∙ ap (λ (l : List ℕ). tag ∷ (bytes_of length_size n ++ l))
              (ap (drop head_size) (put_rest head_size o q) ∙ drop_at (take head_size o) q head_size (length-take-le head_size o h) ∙ body_done.2 ∙ ap (λ (l : List ℕ). body ++ l) (drop-drop (length body) head_size o))
              ∙ ap₂ (λ (k m : ℕ). tag ∷ (bytes_of length_size k ++ (body ++ drop m o))) body_done.0 f
              ∙ sym (append_assoc (tag ∷ bytes_of length_size (length body)) body (drop (length (field_bytes (field_of tag body))) o)),
        )

-- ---- fields, and then more fields in the rest

-- no room for the first
pub first_short : (fs gs : List Field) {all : List Field} → all ≡ fs ++ gs → (o : List ℕ) → length o < length (laid fs) → length o < length (laid all)
first_short fs gs both o short = omega (arith, short, ap (λ (l : List Field). length (laid l)) both, ap length (laid-append fs gs), length-append (laid fs) (laid gs))

-- a writer put the fields fs into o, which is now p, and they took n bytes; gs are to come in the rest, and then all are there
pub record FirstLaid (fs gs all : List Field) (n : ℕ) (o p : List ℕ) : Type 0 where
  pub both : all ≡ fs ++ gs
  pub put : Placed (laid fs) (Some n) o p

-- another said v of the others, in the rest, which is now q
module _ {fs gs all : List Field} {n : ℕ} {o p : List ℕ} (h : FirstLaid fs gs all n o p) (q : List ℕ) where
  pub first-laid_then : (v : Option ℕ) → Placed (laid gs) v (take (length p - n) (drop n p)) q → Placed (laid all) (both_wrote n v) o (put_mid n (length p - n) p q)
  first-laid_then v next =
      subst (λ (l : List ℕ). Placed l (both_wrote n v) o (put_mid n (length p - n) p q)) (sym (ap laid h.both ∙ laid-append fs gs))
      (placed_then (laid fs) (laid gs) o p n h.put q v next)

-- ---- the side's field, if there is one

-- no side takes no byte
pub side_none : (n : ℕ) → n ≡ 0 → (o : List ℕ) → Placed (laid (side_fields n)) (Some 0) o o
unfolding laid
side_none zero e o = (refl, omega arith, refl)
side_none (suc n) e o = absurd (omega arith)
