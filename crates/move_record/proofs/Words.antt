-- Laws of two texts that are compared, of the words that name a form, and of the calls that ask for one.
use mathlib.Core.Path.{◌≡◌, refl, sym, ap, ◌∙◌}
use mathlib.Core.Bool.{Bool, true, false, cond}
use mathlib.Core.List.{List, [], ◌∷◌}
use mathlib.Core.Logic.{◌⊎◌, inl, inr}
use Prim.Native.Nat.{ℕ, ◌≤◌, ◌<◌}
use native.Mathlib.Omega.{arith}
use borrow.Author.Tests.{lt-ltb, le-ltb}
use lib.Dec.{eqb, ltb}
use lib.ListN.{get_or}
use Rattle.std.specs.Prelude.{Option, None, Some, nat_eq}
use lib.Pointwise.{pointwise}
use Rattle.lists.specs.Compare.{both, same}
use Rattle.lists.proofs.Compare.{same_own, same_not}
use Rattle.position_format.specs.declared.Form.{Form}
use Rattle.position_format.specs.declared.Form.TheVariants.{Old, Wide}
use Rattle.move_record.specs.Words.{wide_word, old_word, word_of, form_named, argument_count, form_asked, is_form}
use Rattle.move_record.specs.Claims.{NamesForms, ReadsFile}

-- ---- the test of std

pointwise_same : (a b : List ℕ) → pointwise nat_eq a b ≡ same a b
unfolding same
pointwise_same [] [] = refl
pointwise_same [] (c ∷ b) = refl
pointwise_same (c ∷ a) [] = refl
pointwise_same (c ∷ a) (d ∷ b) = go (eqb c d) refl (pointwise_same a b)
  where
    go : (t : Bool) → eqb c d ≡ t → pointwise nat_eq a b ≡ same a b → pointwise nat_eq (c ∷ a) (d ∷ b) ≡ both (eqb c d) (same a b)
    go true e h = rw e h
    go false e h = rw e refl

-- what it says of a literal
pub text_same : (w x y : List ℕ) {t : Bool} → t ≡ pointwise nat_eq w x → x ≡ y → t ≡ same w y
text_same w x y is e = is ∙ ap (pointwise nat_eq w) e ∙ pointwise_same w y

-- ---- the words

-- by what the comparisons say
module _ (w : List ℕ) (s t : Bool) (es : s ≡ same w wide_word) where
  pub is_wide : s ≡ true → Some Wide ≡ form_named w
  is_wide e = sym (rw (sym es ∙ e))

  module _ (et : t ≡ same w old_word) (no : s ≡ false) where
    pub is_old : t ≡ true → Some Old ≡ form_named w
    is_old e = sym (rw (sym es ∙ no, sym et ∙ e))

    pub is_other : t ≡ false → None ≡ form_named w
    is_other e = sym (rw (sym es ∙ no, sym et ∙ e))

pub names_forms : NamesForms
names_forms = (
  rw (same_own wide_word),
  rw (same_not old_word wide_word (λ e. let z : ◌≡◌ {A = ℕ} 111 119 = ap (λ (l : List ℕ). get_or l 0 0) e in omega arith), same_own old_word),
  λ w n m. rw (same_not w wide_word n, same_not w old_word m),
)

-- ---- the calls

-- by the number of arguments
module _ (n : ℕ) (w : List ℕ) where
  pub too_few : n < argument_count → None ≡ form_asked n w
  too_few few = sym (rw (lt-ltb n argument_count few))

  pub enough : argument_count ≤ n → form_named w ≡ form_asked n w
  enough many = sym (rw (le-ltb n argument_count many))

-- a form by its word
named : (f : Form) → form_named (word_of f) ≡ Some f
named Wide = names_forms.0
named Old = names_forms.1

pub asks_for : (n : ℕ) → argument_count ≤ n → (f : Form) → form_asked n (word_of f) ≡ Some f
asks_for n many f = sym (enough n (word_of f) many) ∙ named f

-- none by any other, whatever the number is
either : (b : Bool) → cond {A = Option Form} b None None ≡ None
either true = refl
either false = refl

pub asks_for_none : (n : ℕ) (w : List ℕ) → (n < argument_count) ⊎ ((f : Form) → w ≡ word_of f → ⊥) → form_asked n w ≡ None
asks_for_none n w (inl few) = sym (too_few n w few)
asks_for_none n w (inr other) = ap (λ (a : Option Form). cond (ltb n argument_count) None a) (names_forms.2 w (other Wide) (other Old)) ∙ either (ltb n argument_count)

pub reads_file : ReadsFile
reads_file n many f = ap is_form (asks_for n many f)
