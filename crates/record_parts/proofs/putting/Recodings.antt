-- Laws of positions that are recoded as a part of some bytes: what stands there, or a step outside the table, which is told whatever the room.
use mathlib.Core.Path.{◌≡◌, refl, sym, ap, subst}
use mathlib.Core.Bool.{false}
use mathlib.Core.List.{List, [], ◌∷◌, ◌++◌}
use mathlib.Core.Option.{Option, none, some}
use Prim.Native.Nat.{ℕ, ◌+◌, ◌-◌, ◌≤◌, ◌<◌}
use native.Mathlib.Omega.{arith}
use lib.ListN.{length, take, drop}
use borrow.Rule.Slice.PartMut.{put_mid}
use Rattle.lists.specs.Optional.{missing, list_of}
use Rattle.bits.specs.Digits.{bytes_of}
use Rattle.outputs.specs.Outputs.{over}
use Rattle.std.specs.Prelude.{Some, None, Result, Ok, Err}
use Rattle.std.specs.Result.{IsErrAnd}
use Rattle.position_format.specs.declared.Form.{Form}
use Rattle.position_format.specs.Tables.{table_of}
use Rattle.position_format.specs.Positions.{coded_positions, read_positions}
use Rattle.position_format.proofs.Positions.{read_only}
use Rattle.position_codec.specs.declared.coded.CodedPositions.{CodedPositions}
use Rattle.position_codec.specs.Coded.{positions_of}
use Rattle.position_codec.specs.Recoding.{RecodedInto}
use Rattle.position_codec.specs.declared.recode.RecodeError.{RecodeError}
use Rattle.position_codec.specs.declared.recode.RecodeError.TheVariants.{Outside, NoRoom}
use Rattle.record_format.specs.Fields.{length_size, head_size, laid}
use Rattle.record_format.specs.Runs.{positions_tag, positions_field, front_fields}
use Rattle.record_parts.specs.Leads.{lead_fields, RecodedAs}
use Rattle.record_parts.proofs.putting.Writings.{field_none, field_done}

-- as many are read as are asked for
length-read : (coded : CodedPositions) → coded.count ≡ length (positions_of coded)
length-read coded = go (read_positions (table_of coded.form) coded.count coded.body.now) refl coded.sound
  where
    go : (x : Option (List ℕ)) → read_positions (table_of coded.form) coded.count coded.body.now ≡ x → missing x ≡ false → coded.count ≡ length (list_of x)
    go none e h = absurd (let z : ◌≡◌ {A = ℕ} 0 1 = cc in omega arith)
    go (some ts) e h = sym (read_only (table_of coded.form) coded.count coded.body.now ts e).2

-- the front has their count
pub recoded_lead : (rate side : ℕ) (coded : CodedPositions) (to : Form)
    → lead_fields rate side to (positions_of coded) ≡ front_fields rate side coded.count ++ (positions_field to (positions_of coded) ∷ [])
recoded_lead rate side coded to = ap (λ (m : ℕ). front_fields rate side m ++ (positions_field to (positions_of coded) ∷ [])) (sym (length-read coded))

module _ (f : Form) (ts : List ℕ) where
  -- an error, where no room for some bytes is no room for others
  pub recoded-else : (e : RecodeError) (bs cs o p q l : List ℕ) → (length o < length bs → length q < length cs) → RecodedAs f ts bs (Err e) o p → RecodedAs f ts cs (Err e) q l
  recoded-else NoRoom bs cs o p q l more h = (h.0, more h.1)
  recoded-else (Outside i) bs cs o p q l more h = h

  -- that is passed on
  pub recoded_err : (bs o p : List ℕ) (r : Result ℕ RecodeError) (e : RecodeError) → IsErrAnd r (λ y. y ≡ e) → RecodedAs f ts bs (Err e) o p → RecodedAs f ts bs r o p
  recoded_err bs o p (Ok n) e is h = absurd is
  recoded_err bs o p (Err y) e is h = subst (λ (x : RecodeError). RecodedAs f ts bs (Err x) o p) (sym is) h

  -- as a body
  abbrev body : List ℕ
  body = coded_positions (table_of f) ts

  pub recoded_body : (r : Result ℕ RecodeError) (o p : List ℕ) → RecodedInto f ts r o p → RecodedAs f ts body r o p
  recoded_body (Ok n) o p h = h
  recoded_body (Err NoRoom) o p h = h
  recoded_body (Err (Outside i)) o p h = h

  -- past a head, and then the head
  module _ (o q : List ℕ) (h : head_size ≤ length o) where
    pub recoded_short : (e : RecodeError) (l : List ℕ) → RecodedInto f ts (Err e) (take (length o - head_size) (drop head_size o)) q
        → RecodedAs f ts (laid (positions_field f ts ∷ [])) (Err e) o l
    recoded_short e l put =
        recoded-else e body _ _ q o l (λ short. field_none (positions_tag f) body o q None h short refl) (recoded_body (Err e) _ q put)

    pub recoded_done : (n : ℕ) → RecodedInto f ts (Ok n) (take (length o - head_size) (drop head_size o)) q → (l : List ℕ) (t : ℕ) → t ≡ positions_tag f
        → l ≡ over (t ∷ bytes_of length_size n) (put_mid head_size (length o - head_size) o q)
        → RecodedAs f ts (laid (positions_field f ts ∷ [])) (Ok (n + head_size)) o l
    recoded_done n put l t tagged g = (put.0, field_done (positions_tag f) body o q (Some n) h put.1 n refl l t tagged g)
