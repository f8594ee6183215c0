-- Document 02, No. 5: the words that name a form to the program, as ASCII codes, and the calls of the program that ask for one. `wide` and `old`, whole
-- and in small letters.
--   wide_word, old_word  the two
--   word_of f            that of the form f
--   form_named w         the form that the word w names, or none
--   argument_count       how many arguments the program takes, with its own name before them: 4
--   form_asked n w       the form that a call asks for, or none: n counts its arguments, the program's own name too, and w is the first after that name
--   is_form a            whether a is a form, and not none
--   is_call n w          whether a call asks for a form: the program reads a file only then
use Rattle.std.specs.Prelude.{Option, None, Some, Bool, true, false, cond, List, [], ◌∷◌, ℕ, ltb}
use Rattle.lists.specs.Compare.{same}
use Rattle.position_format.specs.declared.Form.{Form}
use Rattle.position_format.specs.declared.Form.TheVariants.{Old, Wide}

-- "wide"
abbrev pub wide_word : List ℕ
wide_word = 119 ∷ 105 ∷ 100 ∷ 101 ∷ []

-- "old"
abbrev pub old_word : List ℕ
old_word = 111 ∷ 108 ∷ 100 ∷ []

-- one for each form
abbrev pub word_of : Form → List ℕ
word_of Wide = wide_word
word_of Old = old_word

-- one of the two, and nothing else
abbrev pub form_named : List ℕ → Option Form
form_named w = cond (same w wide_word) (Some Wide) (cond (same w old_word) (Some Old) None)

-- its own name, the word, the file to be read and the new one
abbrev pub argument_count : ℕ
argument_count = 4

-- none where there are too few arguments, whatever the word is; more than enough change nothing
abbrev pub form_asked : ℕ → List ℕ → Option Form
form_asked n w = cond (ltb n argument_count) None (form_named w)

-- by its case
abbrev pub is_form : Option Form → Bool
is_form (Some f) = true
is_form None = false

-- by the form that is asked for
abbrev pub is_call : ℕ → List ℕ → Bool
is_call n w = is_form (form_asked n w)
