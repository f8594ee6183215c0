-- Laws of recoding: what a sound body is the coding of, that toward the wide form no step is outside.
use Rattle.std.specs.Prelude.{Option, Some, None, Result}
use Rattle.std.specs.Option.{ok_or}
use mathlib.Core.Bool.{Bool, true, false}
use mathlib.Core.List.{List}
use mathlib.Core.Option as maybe
use mathlib.Core.Option.{none, some}
use mathlib.Core.Path.{◌≡◌, refl, sym, ap, ◌∙◌}
use Prim.Native.Nat.{ℕ, ◌≤◌}
use native.Mathlib.Omega.{arith}
use borrow.Author.Tests.{ltb-true, ltb-false}
use lib.Dec.{ltb}
use lib.ListN.{length}
use Rattle.lists.specs.Optional.{missing, list_of}
use Rattle.limits.specs.Points.{max_points, first_high}
use Rattle.position_format.specs.declared.Form.{Form}
use Rattle.position_format.specs.Positions.{coded_positions, read_positions}
use Rattle.position_format.specs.Tables.{table_of}
use Rattle.position_format.proofs.Positions.{Coding, read_only}
use Rattle.outputs.specs.Outputs.{Placed}
use Rattle.position_codec.specs.declared.recode.RecodeError.{RecodeError}
use Rattle.position_codec.specs.declared.recode.RecodeError.TheVariants.{NoRoom}
use Rattle.position_codec.specs.Codes.{CodablePositions}
use Rattle.position_codec.specs.Recoding.{RecodedInto}
use Rattle.position_codec.proofs.Codes.{valid_codable, codable_range}
use Rattle.position_codec.proofs.read.State.{body_long}

-- ---- what recoding answers, by what the last bytes' writer did

pub recoded_into : (f : Form) (ts : List ℕ) (w : Option ℕ) (o p : List ℕ) → CodablePositions f ts → Placed (coded_positions (table_of f) ts) w o p
    → (r : Result ℕ RecodeError) → r ≡ ok_or w NoRoom → RecodedInto f ts r o p
recoded_into f ts (Some n) o p codable placed r e = rw e (codable, placed)
recoded_into f ts None o p codable placed r e = rw e (codable, placed)

-- ---- a sound body

there : (x : maybe.Option (List ℕ)) → missing x ≡ false → x ≡ some (list_of x)
there none e = cc
there (some l) e = refl

module _ (f : Form) (n : ℕ) (body : List ℕ) (sound : missing (read_positions (table_of f) n body) ≡ false) where
  -- it is the coding of the positions that are read from it
  pub sound_coding : Coding (table_of f) n body (list_of (read_positions (table_of f) n body))
  sound_coding =
      let r = read_only (table_of f) n body (list_of (read_positions (table_of f) n body)) (there (read_positions (table_of f) n body) sound) in
      record { many = r.2; valid = r.1; coded = sym r.0 }

  -- and these can be coded in the body's form and are in range
  pub sound-codable : CodablePositions f (list_of (read_positions (table_of f) n body))
  sound-codable = valid_codable f (list_of (read_positions (table_of f) n body)) sound_coding.valid

  pub sound-range : length (list_of (read_positions (table_of f) n body)) ≤ first_high (list_of (read_positions (table_of f) n body))
  sound-range = codable_range f (list_of (read_positions (table_of f) n body)) sound-codable

  -- reading does not refuse it
  pub sound_read : read_positions (table_of f) n body ≡ none → ⊥
  sound_read e = let t : true ≡ false = sym (ap missing e) ∙ sound in let z : ◌≡◌ {A = ℕ} 0 1 = cc in omega arith

  -- so it is not too long
  pub sound_short : n ≤ max_points → length body ≤ 35327
  sound_short h = go (ltb 35327 (length body)) refl
    where
      go : (t : Bool) → ltb 35327 (length body) ≡ t → length body ≤ 35327
      go true e = absurd (sound_read (body_long f n body h (ltb-true 35327 (length body) e)))
      go false e = ltb-false 35327 (length body) e
