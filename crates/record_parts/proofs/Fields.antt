-- Laws of fields as they are read: what each outcome of a test leaves to be said, for a field at an offset.
use mathlib.Core.Path.{◌≡◌, refl, sym, ap, ap₂, ◌∙◌, subst}
use mathlib.Core.Bool.{Bool, true, false, cond}
use mathlib.Core.List.{List, [], ◌∷◌, ◌++◌, append-nil}
use mathlib.Core.Option.{Option, none, some}
use Prim.Native.Nat.{ℕ, ◌+◌, ◌-◌, ◌≤◌, ◌<◌}
use native.Mathlib.Omega.{arith}
use borrow.Author.Tests.{eqb-true, eqb-false, eq-eqb, ne_eqb}
use lib.ListN.{length, get_or, take, drop}
use Rattle.lists.specs.Below.{Below}
use Rattle.lists.specs.Lists.{member}
use Rattle.bits.specs.Digits.{number_of}
use Rattle.refusals.specs.declared.Refusal.{Refusal}
use Rattle.refusals.specs.Tests.{Test, refusal, first_of, no_refusal}
use Rattle.refusals.proofs.Tests.{numbered, first_of_end, first_of-append-none, first_of-append-some}
use Rattle.std.specs.List.{list_any}
use lib.Dec.{eqb}
use Rattle.record_format.specs.Fields.{tag_size, length_size, head_size, tag_at, length_at, body_at, next_at, field_tests}
use Rattle.record_format.proofs.Fields.{next_most}
use Rattle.record_format.proofs.Reading.{Stated, field_clear, head_short, tag_other, length_other, body_short, field_good}
use Rattle.record_parts.specs.declared.field.FieldBody.{FieldBody}
use Rattle.std.specs.Prelude.{Result, Ok, Err}
use Rattle.std.specs.Result.{IsErrAnd}
use Rattle.record_parts.specs.Fields.{length_good, RefusedBy, Judged, FieldFound}

-- ---- refusals

-- by the first tests
pub refused_first : {fs : List Test} {g : Refusal} (ts : List Test) → RefusedBy fs g → RefusedBy (fs ++ ts) g
refused_first {fs} {g} ts h = record {
  first = h.first ∙ sym (first_of-append-some fs ts (λ z. h.numbered (ap (λ (x : Refusal). x.number) h.first ∙ z)));
  numbered = h.numbered;
}

-- by tests that give the same
pub refused_as : {us ts : List Test} {g : Refusal} → first_of us ≡ first_of ts → RefusedBy ts g → RefusedBy us g
refused_as same h = record { first = h.first ∙ sym same; numbered = h.numbered }

-- with a number that is known
pub refused_at : {ts : List Test} {g : Refusal} (x p : ℕ) → g ≡ refusal x p → (x ≡ 0 → ⊥) → refusal x p ≡ first_of ts → RefusedBy ts g
refused_at x p e d h = record { first = e ∙ h; numbered = λ z. d (sym (ap (λ (x : Refusal). x.number) e) ∙ z) }

-- passed on by a `?`
pub passed_on : {T : Type 0} {ts : List Test} (P : T → Type 0) (r : Result T Refusal) {g : Refusal} → IsErrAnd r (λ y. y ≡ g) → RefusedBy ts g → Judged ts P r
passed_on P (Ok x) h k = absurd h
passed_on {ts = ts} P (Err y) h k = subst (RefusedBy ts) (sym h) k

-- tests of which none applies, and then others
pub past_clear : (fs ts : List Test) → numbered fs ≡ true → first_of fs ≡ no_refusal → first_of (fs ++ ts) ≡ first_of ts
past_clear fs ts n e = first_of-append-none fs ts n (ap (λ (x : Refusal). x.number) e)

-- what is judged by tests that give the same
pub judged_as : {T : Type 0} (us ts : List Test) (P : T → Type 0) (r : Result T Refusal) → first_of us ≡ first_of ts → Judged ts P r → Judged us P r
judged_as us ts P (Ok x) same h = (same ∙ h.0, h.1)
judged_as us ts P (Err g) same h = refused_as same h

-- the length that is asked for
stated_as : (m : Option ℕ) (l : ℕ) → length_good m l ≡ true → Stated m l
stated_as none l e = tt
stated_as (some k) l e = eqb-true l k e

stated_other : (m : Option ℕ) (l : ℕ) → length_good m l ≡ false → (k : ℕ) × (m ≡ some k) × (l ≡ k → ⊥)
stated_other none l e = absurd (let z : ◌≡◌ {A = ℕ} 0 1 = cc in omega arith)
stated_other (some k) l e = (k, refl, eqb-false l k e)

-- a field at the offset p, by its tests in turn
module _ (s tags : List ℕ) (n : Option ℕ) (p : ℕ) where
  abbrev tests : List Test
  tests = field_tests s tags n p

  alone : first_of (tests ++ []) ≡ first_of tests
  alone = ap first_of (append-nil tests)

  -- the refusal with the number x
  refused : (g : Refusal) (x : ℕ) → g ≡ refusal x p → (x ≡ 0 → ⊥) → refusal x p ≡ first_of (tests ++ []) → RefusedBy tests g
  refused g x e d h = refused_at x p e d (h ∙ alone)

  pub field_head : (g : Refusal) → g ≡ refusal 10 p → p ≤ length s → length s - p < head_size → RefusedBy tests g
  field_head g e a h = refused g 10 e (λ z. omega arith) (head_short s tags n p [] (omega arith))

  module _ (inside : p ≤ length s) (head : head_size ≤ length s - p) where
    whole-head : p + head_size ≤ length s
    whole-head = omega arith

    pub field_tag : (g : Refusal) → g ≡ refusal 11 p → member (get_or s p 0) tags ≡ false → RefusedBy tests g
    unfolding tag_at
    field_tag g e h = refused g 11 e (λ z. omega arith) (tag_other s tags n p [] whole-head h)

    module _ (tagged : member (get_or s p 0) tags ≡ true) (l : ℕ) (stated : l ≡ number_of 256 (take length_size (drop (p + tag_size) s))) where
      length_is : length_at s p ≡ l
      unfolding length_at
      length_is = sym stated

      tag_good : member (tag_at s p) tags ≡ true
      unfolding tag_at
      tag_good = tagged

      next_is : next_at s p ≡ p + head_size + l
      unfolding next_at
      next_is = ap (λ (k : ℕ). p + head_size + k) length_is

      pub field_length : (g : Refusal) → g ≡ refusal 12 p → length_good n l ≡ false → RefusedBy tests g
      field_length g e h =
          let o = stated_other n l h in
          refused g 12 e (λ z. omega arith) (length_other s tags n p [] whole-head tag_good o.0 o.1 (λ z. o.2 (sym length_is ∙ z)))

      module _ (good : length_good n l ≡ true) where
        length_good_lem : Stated n (length_at s p)
        length_good_lem = subst (Stated n) (sym length_is) (stated_as n l good)

        pub field_cut : (g : Refusal) → g ≡ refusal 10 p → length s - (p + head_size) < l → RefusedBy tests g
        field_cut g e h = refused g 10 e (λ z. omega arith) (body_short s tags n p [] whole-head tag_good length_good_lem (omega (arith, next_is)))

        pub field_found : Below 256 s → l ≤ length s - (p + head_size)
            → (first_of tests ≡ no_refusal) × FieldFound s p (record { from = p + head_size; to = p + head_size + l })
        field_found bytes h =
            let whole : next_at s p ≤ length s = omega (arith, next_is) in (
              sym alone ∙ field_good s tags n p [] whole-head tag_good length_good_lem whole ∙ first_of_end,
              record {
                part = record {
                  next = sym next_is;
                  inside = whole;
                  near = omega (arith, next_most s p bytes whole-head);
                };
                from = refl;
              },
            )

-- a field of n bytes that is not refused: its number
module _ (s : List ℕ) (tag n p : ℕ) (f : FieldBody) (clear : first_of (field_tests s (tag ∷ []) (some n) p) ≡ no_refusal) (h : FieldFound s p f) where
  sized : length_at s p ≡ n
  sized =
      (field_clear s (tag ∷ []) (some n) p [] (ap (λ (l : List Test). (first_of l).number) (append-nil (field_tests s (tag ∷ []) (some n) p)) ∙ ap (λ (g : Refusal). g.number) clear)).0.stated

  pub number_inside : f.from + n ≤ length s
  unfolding next_at
  number_inside = omega (arith, h.from, sized, h.part.inside)

  pub number_is : (x : ℕ) → x ≡ number_of 256 (take n (drop f.from s)) → x ≡ number_of 256 (body_at s p)
  unfolding body_at
  number_is x e = e ∙ ap₂ (λ (k q : ℕ). number_of 256 (take k (drop q s))) (sym sized) h.from

-- ---- a tag among others

-- as a search for it answers
pub member_any : (x : ℕ) (l : List ℕ) → list_any (λ y. eqb y x) l ≡ member x l
unfolding member
member_any x [] = refl
member_any x (y ∷ l) = go (eqb y x) refl (member_any x l)
  where
    go : (b : Bool) → eqb y x ≡ b → list_any (λ z. eqb z x) l ≡ member x l → list_any (λ z. eqb z x) (y ∷ l) ≡ cond (eqb x y) true (member x l)
    go true e f = rw (e, eq-eqb x y (sym (eqb-true y x e))) refl
    go false e f = rw (e, ne_eqb x y (λ z. eqb-false y x e (sym z))) f
