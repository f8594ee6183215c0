-- What the program does with the record of a run, with all else, and where it is called otherwise, proved of the definitions.
use mathlib.Core.Bool.{Bool, true}
use mathlib.Core.Path.{◌≡◌, refl, sym, ap, ap₂, ◌∙◌}
use mathlib.Core.List.{List, [], ◌++◌}
use Prim.Native.Nat.{ℕ, ◌-◌, ◌≤◌}
use native.Mathlib.Omega.{arith}
use borrow.Author.Tests.{ne_eqb}
use lib.ListN.{length, take, drop, length-replicate}
use lib.Seq.{take_at}
use Rattle.std.specs.Prelude.{Option}
use Rattle.lists.proofs.Below.{below_take}
use Rattle.refusals.specs.declared.Refusal.{Refusal}
use Rattle.refusals.proofs.Tests.{first_of_end}
use Rattle.position_format.specs.declared.Form.{Form}
use Rattle.record_format.specs.Claims.{Accepted}
use Rattle.record_format.specs.Moves.{other_form, in_form, move_of}
use Rattle.record_format.specs.MoveClaims.{moved_to}
use Rattle.record_format.specs.Runs.{Run, record_of}
use Rattle.record_format.specs.Sizes.{max_record}
use Rattle.record_format.proofs.MoveClaims.{moves_only, moves-whole, by_room, short_only}
use Rattle.record_format.proofs.Moves.{fits_target}
use Rattle.record_format.proofs.Sizes.{within}
use Rattle.record_format.proofs.Writing.{accepted_fits}
use Rattle.inputs.specs.Inputs.{input_limit}
use Rattle.inputs.proofs.Inputs.{record_uncut, begins-whole}
use Rattle.move_record.specs.Words.{word_of, argument_count, is_form}
use Rattle.move_record.specs.Printed.{blank_record, move_input, standard_output, Response, move_response, response_to, response}
use Rattle.move_record.specs.Claims.{MovesFile, RefusesFile, SaysUsage}
use Rattle.move_record.proofs.Words.{asks_for, asks_for_none}
use Rattle.move_record.proofs.Printed.{line_refused, line-moved}

-- every record has room
record_has_room : (r : Run) → Accepted r → length (record_of r) ≤ length blank_record
unfolding blank_record
record_has_room r a = omega (arith, (within r a).1, length-replicate {A = ℕ} max_record 0)

-- the move of a record that both forms take
moved : (f : Form) (r : Run) → Accepted r → r.form ≡ other_form f → Accepted (in_form f r) → (rest : List ℕ) → move_input f (record_of r ++ rest) ≡ moved_to r (in_form f r) blank_record
moved f r a e b rest =
    let more = take (input_limit - length (record_of r)) rest in
    let clear = ap (λ (g : Refusal). g.number) (fits_target f r (accepted_fits (in_form f r) b.passes) ∙ first_of_end) in
    ap (λ (l : List ℕ). move_of f l blank_record) (record_uncut r a rest)
    ∙ (by_room f r a e more blank_record clear).1 (record_has_room (in_form f r) b)

-- a line on standard output
abbrev answered : Bool → List ℕ → List ℕ → Response
answered made file line = record { stream = standard_output; moved = made; file = file; line = line }

-- a call that asks for the form f
asked : (n : ℕ) → argument_count ≤ n → (f : Form) (s : List ℕ) → response n (word_of f) s ≡ move_response (move_input f s)
asked n many f s = ap (λ (a : Option Form). response_to a s) (asks_for n many f)

pub moves_file : MovesFile
moves_file n many f r a e b rest =
    let q = record_of (in_form f r) in
    asked n many f (record_of r ++ rest)
    ∙ ap move_response (moved f r a e b rest)
    ∙ ap₂ (λ (file line : List ℕ). answered true file line) (take_at q (drop (length q) blank_record) (length q) refl) (sym (line-moved _ refl))

pub refuses_file : RefusesFile
refuses_file n many f s bytes never =
    let l = take input_limit s in
    let a = (move_of f l blank_record).answer in
    let low = below_take 256 input_limit s bytes in
    let no : (a.number ≡ 0 → ⊥) = λ e. (let m = moves_only f l blank_record low e in never m.0 m.1 m.2 m.4 (begins-whole (record_of m.0) s m.3)) in (
      no,
      λ e. (let m = short_only f l blank_record low e in let room = record_has_room (in_form f m.0) m.4 in let short = m.5 in omega arith),
      asked n many f s
          ∙ ap move_response (moves-whole f l blank_record no)
          ∙ ap₂ (λ (made : Bool) (line : List ℕ). answered made [] line) (ne_eqb a.number 0 no) (sym (line_refused _ no)),
    )

-- ---- calls that ask for no form

pub says_usage : SaysUsage
says_usage n w wrong s =
    let none = asks_for_none n w wrong in
    (ap is_form none, ap (λ (a : Option Form). response_to a s) none)
