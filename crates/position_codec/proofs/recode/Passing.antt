-- What a turn of recoding needs and keeps: at a point that is not the last, its code stands in the body; it is copied, or it is outside the other form's
-- table; or three codes are copied as they are.
use mathlib.Core.Bool.{Bool, true, false, not}
use mathlib.Core.List.{List, ◌++◌}
use mathlib.Core.Path.{◌≡◌, sym, ap, ap₂, ◌∙◌}
use Prim.Native.Nat.{ℕ, ◌+◌, ◌-◌, ◌*◌, ◌^◌, ◌≤◌, ◌<◌}
use native.Mathlib.Omega.{arith}
use borrow.Author.Tests.{ltb-true}
use lib.Dec.{ltb}
use lib.IntN.{ℤ}
use lib.ListN.{length, get_or, take, drop}
use lib.Seq.{take_all}
use Rattle.bits.specs.Digits.{bits_of}
use Rattle.bits.specs.Packing.{bits}
use Rattle.bits.specs.Sinks.{Held, PlacedBits, Laid}
use Rattle.bits.specs.declared.laying.Sink.{Sink}
use Rattle.position_format.specs.declared.Form.{Form}
use Rattle.position_format.specs.Rows.{Row, in_table, code, no_row}
use Rattle.position_format.specs.Steps.{step_here, first_outside}
use Rattle.position_format.specs.Tables.{table_of}
use Rattle.position_format.specs.Positions.{position_bits}
use Rattle.position_format.proofs.Rows.Codes.{code_within}
use Rattle.position_format.proofs.Tables.{most_bits, form_sound, table_good}
use Rattle.position_format.proofs.Points.{point_step, outside_here, outside_later}
use Rattle.position_format.proofs.Positions.{Coding}
use Rattle.position_codec.specs.declared.coded.CodedPositions.{CodedPositions}
use Rattle.position_codec.specs.declared.table.Lead.{Lead}
use Rattle.position_codec.specs.Coded.{positions_of}
use Rattle.position_codec.specs.Codes.{row_at, CodablePositions}
use Rattle.position_codec.specs.Found.{Ahead}
use Rattle.position_codec.specs.Recoding.{CodeStands, Led, Fore, Shared, ThreeShared}
use Rattle.position_codec.proofs.Codes.{inside_codable}
use Rattle.position_codec.proofs.Recoding.{sound_coding, sound-range, sound_short}
use Rattle.position_codec.proofs.recode.Copying.{fore_front, row-test, recoded_at}
use Rattle.position_codec.proofs.recode.State.{Recoding, raw_length, raw_front, raw_inside, place_inside, code_rest, code_stands, code_ends}
use Rattle.position_codec.proofs.recode.State.{three_bits, three_inside, three_length, three_stand, three_ends, three_front}

-- the body is the coding of n positions in the form `from`
module _ (coded : CodedPositions) (to : Form) where
  abbrev from : Form
  from = coded.form

  abbrev n : ℕ
  n = coded.count

  abbrev body : List ℕ
  body = coded.body.now

  abbrev source : List Row
  source = table_of from

  abbrev target : List Row
  target = table_of to

  abbrev ts : List ℕ
  ts = positions_of coded

  coding : Coding source n body ts
  coding = sound_coding from n body coded.sound

  pub short : length body ≤ 35327
  short = sound_short from n body coded.sound coded.few

  -- the first k points, which have 64 bits each
  module _ (k : ℕ) (two : k ≤ 2) (few : k ≤ n) where
    pub first_inside : 8 * k ≤ length body
    first_inside = raw_inside source (table_good from) n body ts coding k two few

    pub first_passed : (o p : List ℕ) (s : Sink) → (k < n → k ≡ 2) → s.at ≤ 16 → Held (take (64 * k) (bits body)) s → PlacedBits (take (64 * k) (bits body)) s.at o p
        → Recoding from to n ts o p k (64 * k) s
    first_passed o p s more small held placed =
        let same = raw_front source (table_good from) n body ts coding target k two few in
        record {
          few = few;
          two = λ h. omega (arith, more h);
          place = sym (raw_length source ts k two (omega (arith, coding.many)));
          inside = omega arith;
          small = omega arith;
          held = rw same at held;
          placed = rw same at placed;
        }

  -- some points are passed
  module _ (o out : List ℕ) (i at : ℕ) (s : Sink) (r : Recoding from to n ts o out i at s) where
    pub place_small : s.at + 8 ≤ 2 ^ 32
    place_small = omega (arith, r.small, r.few, coded.few)

    -- all of them
    module _ (end : n ≤ i) where
      all : take i ts ≡ ts
      all = take_all i ts (omega (arith, coding.many))

      pub all_codable : CodablePositions to ts
      all_codable = inside_codable to ts (sound-range from n body coded.sound) (omega (arith, coding.many, r.inside))

      pub all_held : Held (position_bits target ts) s
      all_held = rw all at r.held

      pub all_placed : PlacedBits (position_bits target ts) s.at o out
      all_placed = rw all at r.placed

    -- not all
    module _ (more : i < n) where
      two : 2 ≤ i
      two = r.two more

      here : i < length ts
      here = omega (arith, coding.many)

      abbrev step : ℤ
      step = step_here ts i

      stands : CodeStands source (drop at (bits body)) step
      stands = code_stands source (table_good from) n body ts coding i two more at r.place

      ends : at + length (code source step) ≡ length (position_bits source (take (i + 1) ts))
      ends = code_ends source (table_good from) n body ts coding i two more at r.place

      room : at + length (code source step) ≤ 8 * length body
      room = omega (arith, ends, place_inside source (table_good from) n body ts coding (i + 1) (omega arith))

      some_bits : 0 < length (code source step)
      some_bits = omega (arith, (code_within 1 (most_bits from) source (form_sound from).lengths step stands.held).0)

      pub body_long : 8 ≤ length body
      body_long = omega (arith, raw_inside source (table_good from) n body ts coding 2 (omega arith) (omega arith))

      pub code_left : at < 8 * length body
      code_left = omega (arith, room, some_bits)

      module _ (w : ℕ) (alike : Ahead body at w) where
        -- three codes of k bits that every form has
        module _ (k : ℕ) (k≤ : k ≤ 48) (left : 3 ≤ n - i) (three : ThreeShared from body at k) where
          three_left : i + 3 ≤ n
          three_left = omega arith

          abbrev next : ℤ
          next = step_here ts (i + 1)

          abbrev last : ℤ
          last = step_here ts (i + 1 + 1)

          abbrev codes : List Row → List ℕ
          codes rs = code rs step ++ (code rs next ++ code rs last)

          shared : (k ≡ length (codes source)) × Shared from to step × Shared from to next × Shared from to last
          shared =
              let t = three to step next last (three_stand source (table_good from) n body ts coding i two three_left at r.place) in
              (t.0 ∙ sym (three_length source (table_good from) n body ts coding i two three_left source), t.1, t.2, t.3)

          run_ends : at + k ≡ length (position_bits source (take (i + 3) ts))
          run_ends = ap (λ (m : ℕ). at + m) shared.0 ∙ three_ends source (table_good from) n body ts coding i two three_left at r.place

          pub run_room : at + k ≤ 8 * length body
          run_room = omega (arith, run_ends, place_inside source (table_good from) n body ts coding (i + 3) three_left)

          run-front : take k (bits_of 64 w) ≡ codes target
          run-front =
              fore_front body at w k alike (omega arith) run_room
              ∙ ap (λ (m : ℕ). take m (drop at (bits body))) shared.0
              ∙ three_front source (table_good from) n body ts coding i two three_left at r.place
              ∙ sym (ap₂ (λ (d e : List ℕ). d ++ e) shared.1.alike (ap₂ (λ (d e : List ℕ). d ++ e) shared.2.alike shared.3.alike))

          pub three_passed : (t : Sink) (p : List ℕ) → t.at ≤ s.at + 8 → Laid (take k (bits_of 64 w)) s t out p → Recoding from to n ts o p (i + 3) (at + k) t
          three_passed t p small laid =
              let more_bits = three_bits source (table_good from) n body ts coding i two three_left target in
              let f = rw (run-front, ← more_bits) at (laid (position_bits target (take i ts)) r.held) in
              record {
                few = three_left;
                two = λ h. omega (arith, two);
                place = run_ends;
                inside = three_inside source (table_good from) n body ts coding i two three_left target r.inside shared.1.held shared.2.held shared.3.held;
                small = omega (arith, r.small);
                held = f.0;
                placed = f.1 o r.placed;
              }

        -- one code, by its row, and whether the table of `to` has the row
        module _ (l : Lead) (tells : (k : ℕ) → 5 ≤ k → k ≤ 64 → Fore k body at w → Led source (drop at (bits body)) l)
            (has : Bool) (told : has ≡ ltb l.row.index (length target)) where
          lead : Led source (drop at (bits body)) l
          lead = tells 57 (omega arith) (omega arith) alike

          tested : has ≡ in_table target step
          tested = told ∙ ap (λ (j : ℕ). ltb j (length target)) (lead step stands).0 ∙ row-test from to step stands.held

          pub one_outside : has ≡ false → (i ≡ first_outside target ts) × (i < length ts)
          one_outside off = (outside_here target ts i two here r.inside has tested (ap not off), here)

          pub one_room : at + l.len ≤ 8 * length body
          one_room = omega (arith, (lead step stands).1, room)

          pub one_bits : 0 < l.len
          one_bits = omega (arith, (lead step stands).1, some_bits)

          module _ (on : has ≡ true) where
            pub row_there : l.row.index < length target
            row_there = ltb-true l.row.index (length target) (sym told ∙ on)

            copy : ((row_at l.row).width ≤ l.len)
                × ((get_or target l.row.index no_row).prefix ++ take (row_at l.row).width (drop (at + (l.len - (row_at l.row).width)) (bits body)) ≡ code target step)
            copy =
                let rest = code_rest source (table_good from) n body ts coding i two more at r.place in
                recoded_at from to step stands.held (sym tested ∙ on) body rest.0 at l.row.index l.len rest.1 (lead step stands).0 (lead step stands).1

            pub row_narrow : (row_at l.row).width ≤ l.len
            row_narrow = copy.0

            pub one_passed : (t : Sink) (p : List ℕ) → t.at ≤ s.at + 16
                → Laid ((get_or target l.row.index no_row).prefix ++ take (row_at l.row).width (drop (at + (l.len - (row_at l.row).width)) (bits body))) s t out p
                → Recoding from to n ts o p (i + 1) (at + l.len) t
            one_passed t p small laid =
                let f = rw (copy.1, ← point_step target ts i two here) at (laid (position_bits target (take i ts)) r.held) in
                record {
                  few = omega arith;
                  two = λ h. omega (arith, two);
                  place = ap (λ (m : ℕ). at + m) (lead step stands).1 ∙ ends;
                  inside = omega (arith, outside_later target ts i two here r.inside has tested (ap not on));
                  small = omega (arith, r.small);
                  held = f.0;
                  placed = f.1 o r.placed;
                }
