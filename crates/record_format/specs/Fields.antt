-- Document 01, "The record": fields. The standard term is tag, length, value.
--   Field                   a tag and a body
--   field_of t b            such a field
--   tag_size, length_size   how many bytes a field's tag and the length of its body take
--   head_size               how many bytes stand before a field's body: its head, in the standard term a header
--   max_body                the longest body that a head can state
--   field_bytes f           the bytes of the field f: the tag, the length of the body in two bytes, and the body
--   laid fs                 the fields fs, laid end to end
--   tag_at s p              the tag of the field at the offset p of the bytes s, and 0, which is no field's, past their end
--   length_at s p           its stated length
--   body_at s p             its body
--   next_at s p             the offset past it
--   head_tests s tags p     the tests of the head of a field at p: whole, and a tag of the list
--   length_tests s n p      the test of the stated length, where one is asked for
--   body_tests s p          the test of its whole body
--   field_tests s tags n p  the tests of a field at p before those of its contents: head, stated length where one is asked for, body
use Rattle.std.specs.Prelude.{not, List, [], ◌∷◌, ◌++◌, ℕ, ◌+◌, ◌-◌, ◌^◌, ltb, eqb, length, get_or, take, drop}
use Rattle.std.proofs.Math.Option.{Option, none, some}
use Rattle.lists.specs.Lists.{member}
use Rattle.bits.specs.Digits.{bytes_of, number_of}
use Rattle.refusals.specs.Tests.{Test, test}

-- ---- laid

-- what a record is made of
pub record Field : Type 0 where
  pub tag : ℕ
  pub body : List ℕ

-- a field by its parts
abbrev pub field_of : ℕ → List ℕ → Field
field_of tag body = record { tag = tag; body = body }

-- a tag is a byte
abbrev pub tag_size : ℕ
tag_size = 1

-- a length is two
abbrev pub length_size : ℕ
length_size = 2

-- the tag and the length
abbrev pub head_size : ℕ
head_size = tag_size + length_size

-- the largest number that the bytes of a length hold
abbrev pub max_body : ℕ
max_body = 256 ^ length_size - 1

-- a tag byte, a two-byte length, then the body
unfoldable pub field_bytes : Field → List ℕ
field_bytes f = f.tag ∷ (bytes_of length_size (length f.body) ++ f.body)

-- one after the other
unfoldable pub laid : List Field → List ℕ
laid [] = []
laid (f ∷ fs) = field_bytes f ++ laid fs

-- ---- read

-- the tag of the field at the offset p
unfoldable pub tag_at : List ℕ → ℕ → ℕ
tag_at s p = get_or s p 0

-- the length that it states
unfoldable pub length_at : List ℕ → ℕ → ℕ
length_at s p = number_of 256 (take length_size (drop (p + tag_size) s))

-- its body
unfoldable pub body_at : List ℕ → ℕ → List ℕ
body_at s p = take (length_at s p) (drop (p + head_size) s)

-- the offset past it
unfoldable pub next_at : List ℕ → ℕ → ℕ
next_at s p = p + head_size + length_at s p

-- whole head, tag
abbrev pub head_tests : List ℕ → List ℕ → ℕ → List Test
head_tests s tags p = test (ltb (length s) (p + head_size)) 10 p ∷ test (not (member (tag_at s p) tags)) 11 p ∷ []

-- the stated length, where a field must have one: 12
abbrev pub length_tests : List ℕ → Option ℕ → ℕ → List Test
length_tests s none p = []
length_tests s (some n) p = test (not (eqb (length_at s p) n)) 12 p ∷ []

-- whole body
abbrev pub body_tests : List ℕ → ℕ → List Test
body_tests s p = test (ltb (length s) (next_at s p)) 10 p ∷ []

-- whole head, tag, length, whole body
abbrev pub field_tests : List ℕ → List ℕ → Option ℕ → ℕ → List Test
field_tests s tags n p = head_tests s tags p ++ (length_tests s n p ++ body_tests s p)
