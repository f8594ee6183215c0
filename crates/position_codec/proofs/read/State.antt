-- What the loops of reading keep: the positions read, and that the body can be the coding of no others; with an output, where they stand.
use mathlib.Core.Bool.{Bool, true, false, not, cond}
use mathlib.Core.List.{List, [], ◌∷◌, ◌++◌}
use mathlib.Core.Option.{Option, none, some}
use mathlib.Core.Path.{◌≡◌, refl, sym, ap, ◌∙◌}
use Prim.Native.Nat.{ℕ, zero, suc, ◌+◌, ◌*◌, ◌^◌, ◌≤◌, ◌<◌}
use native.Mathlib.Numerals.{add-one}
use native.Mathlib.Omega.{arith}
use borrow.Author.Tests.{ltb-true, ltb-false}
use lib.Dec.{ltb}
use lib.ListN.{length, get_or, take, drop, set, replicate, length-append, length-take, length-drop}
use lib.Seq.{take_all, take-append-le, drop-cons, set_at, append_snoc}
use Rattle.lists.specs.Below.{Below}
use Rattle.lists.specs.Compare.{same}
use Rattle.lists.specs.Optional.{missing}
use Rattle.bits.specs.Packing.{bits, fill_of}
use Rattle.limits.specs.Points.{max_points}
use Rattle.outputs.specs.Outputs.{over, Filled}
use Rattle.position_format.specs.Rows.{Row}
use Rattle.position_format.specs.Positions.{read_positions}
use Rattle.position_format.specs.Points.{next_bits, Stands}
use Rattle.position_format.specs.declared.Form.{Form}
use Rattle.position_format.specs.Tables.{table_of}
use Rattle.position_format.proofs.Rows.{good_table}
use Rattle.position_format.proofs.Tables.{table_good}
use Rattle.position_format.proofs.Positions.Sizes.{length-coded, bits_few}
use Rattle.position_format.proofs.Points.Reading.{Read, Last, read_long, last_snoc, read_start, read_inside, read_raw, read_far, read_stop, read_more, read_end, read_bad}
use Rattle.position_codec.specs.Found.{kept, FilledPart}

-- a body that is too long for any form
pub body_long : (f : Form) (n : ℕ) (body : List ℕ) → n ≤ max_points → 35327 < length body → read_positions (table_of f) n body ≡ none
body_long f n body h g =
    read_long (table_of f) (table_good f) n body
    (λ ts v l. omega (arith, length-coded (table_of f) ts, bits_few f ts v (omega arith)))

-- the positions ts, i of them, are read, and a and b are the last two
pub record State (rs : List Row) (n : ℕ) (body ts : List ℕ) (at a b i : ℕ) : Type 0 where
  pub few : i ≤ n
  pub many : length ts ≡ i
  pub a_small : a < 2 ^ 62
  pub b_small : b < 2 ^ 62
  pub read : Read rs n body ts at
  pub last : Last ts a b

-- the positions ts are read, and stand in the output
pub record Walked (rs : List Row) (n : ℕ) (body o out : List ℕ) (at a b i : ℕ) : Type 0 where
  pub ts : List ℕ
  pub state : State rs n body ts at a b i
  pub output : out ≡ over (take (length o) ts) o

module _ (rs : List Row) (good : good_table rs ≡ true) (n : ℕ) (body : List ℕ) where
  pub state_start : State rs n body [] 0 0 0 0
  state_start = record {
    few = omega arith;
    many = refl;
    a_small = omega arith;
    b_small = omega arith;
    read = read_start rs good n body;
    last = record { first = λ h. absurd (omega arith); second = λ h. absurd (omega arith) };
  }

  module _ (ts : List ℕ) (at a b i : ℕ) (s : State rs n body ts at a b i) where
    pub state_inside : at ≤ 8 * length body
    state_inside = read_inside rs good n body ts at s.read

    -- the first two points stand at whole bytes
    pub state_raw : i < 2 → at ≡ 64 * i
    state_raw h = read_raw rs good n body ts at s.read (omega (arith, s.many)) ∙ ap (λ (m : ℕ). 64 * m) s.many

    -- and take 128 bits
    pub state_far : 2 ≤ i → 128 ≤ at
    state_far h = read_far rs good n body ts at s.read (omega (arith, s.many))

    -- the next point
    pub state-none : i < n → ((t : ℕ) → Stands rs i a b (drop at (bits body)) t → ⊥) → read_positions rs n body ≡ none
    state-none h f = read_stop rs good n body ts at s.read (omega (arith, s.many)) a b s.last (rw s.many f)

    pub state_more : i < n → (t m : ℕ) → Stands rs i a b (drop at (bits body)) t → m ≡ length (next_bits rs i a b t) → State rs n body (ts ++ (t ∷ [])) (at + m) b t (i + 1)
    state_more h t m x e =
        let r : Read rs n body (ts ++ (t ∷ [])) (at + m) = rw e (rw s.many at (read_more rs good n body ts at s.read (omega (arith, s.many)) a b s.last t (rw s.many x))) in
        record {
          few = omega arith;
          many = length-append ts (t ∷ []) ∙ ap (λ (k : ℕ). k + 1) s.many;
          a_small = s.b_small;
          b_small = omega (arith, x.low);
          read = r;
          last = last_snoc ts t a b s.last;
        }

    -- all are read, and t is whether the bits left are the fill
    pub state_end : n ≤ i → Below 256 body → (t : Bool) → t ≡ same (drop at (bits body)) (replicate (fill_of at) 0) → (o out : List ℕ) → out ≡ over (take (length o) ts) o
        → FilledPart (read_positions rs n body) t o out
    state_end h g true e o out f = rw (read_end rs good n body ts at s.read (omega (arith, s.many, s.few)) g (sym e)) (refl, f)
    state_end h g false e o out f = rw (read_bad rs good n body ts at s.read (omega (arith, s.many, s.few)) (sym e)) refl

-- ---- the output

-- before the first position
pub part_none : (n : ℕ) (o : List ℕ) → o ≡ over (take n []) o
part_none zero o = refl
part_none (suc n) o = refl

-- it keeps its length
pub part_length : (o ts : List ℕ) → length (over (take (length o) ts) o) ≡ length o
part_length o ts = length-append (take (length o) ts) _ ∙ omega (arith, length-take (length o) ts, length-drop (length (take (length o) ts)) o)

-- one position more
pub kept-over : (o ts : List ℕ) (i t : ℕ) → length ts ≡ i → kept (over (take (length o) ts) o) i t ≡ over (take (length o) (ts ++ (t ∷ []))) o
kept-over o ts i t e = go (ltb i (length o)) refl
  where
    n : length (over (take (length o) ts) o) ≡ length o
    n = part_length o ts

    go : (b : Bool) → ltb i (length o) ≡ b → kept (over (take (length o) ts) o) i t ≡ over (take (length o) (ts ++ (t ∷ []))) o
    go true h =
        let l = ltb-true i (length o) h in
        let a : take (length o) ts ≡ ts = take_all (length o) ts (omega arith) in
        let m : length (ts ++ (t ∷ [])) ≡ i + 1 = length-append ts (t ∷ []) ∙ ap (λ (k : ℕ). k + 1) e in
        let b : take (length o) (ts ++ (t ∷ [])) ≡ ts ++ (t ∷ []) = take_all (length o) (ts ++ (t ∷ [])) (omega arith) in
        let c : drop i o ≡ get_or o i 0 ∷ drop (i + 1) o = drop-cons o i 0 l ∙ ap (λ (k : ℕ). get_or o i 0 ∷ drop k o) (sym (add-one i)) in
        ap (λ (k : ℕ). cond (ltb i k) (set (over (take (length o) ts) o) i t) (over (take (length o) ts) o)) n
        ∙ ap (λ (x : Bool). cond x (set (over (take (length o) ts) o) i t) (over (take (length o) ts) o)) h
        ∙ ap (λ (x : List ℕ). set (x ++ drop (length x) o) i t) a
        ∙ ap (λ (k : ℕ). set (ts ++ drop k o) i t) e
        ∙ ap (λ (x : List ℕ). set (ts ++ x) i t) c
        ∙ set_at ts (get_or o i 0) (drop (i + 1) o) t i e
        ∙ sym (append_snoc ts t (drop (i + 1) o))
        ∙ ap (λ (k : ℕ). (ts ++ (t ∷ [])) ++ drop k o) (sym m)
        ∙ ap (λ (x : List ℕ). x ++ drop (length x) o) (sym b)
    go false h =
        let l = ltb-false i (length o) h in
        ap (λ (k : ℕ). cond (ltb i k) (set (over (take (length o) ts) o) i t) (over (take (length o) ts) o)) n
        ∙ ap (λ (x : Bool). cond x (set (over (take (length o) ts) o) i t) (over (take (length o) ts) o)) h
        ∙ ap (λ (x : List ℕ). x ++ drop (length x) o) (sym (take-append-le (length o) ts (t ∷ []) (omega arith)))

-- one position more, and its bits
pub walked_more : (f : Form) (n : ℕ) (body o out : List ℕ) (at a b i : ℕ) → Walked (table_of f) n body o out at a b i → i < n → (t m : ℕ)
    → Stands (table_of f) i a b (drop at (bits body)) t → m ≡ length (next_bits (table_of f) i a b t) → (p : List ℕ) → p ≡ kept out i t
    → Walked (table_of f) n body o p (at + m) b t (i + 1)
walked_more f n body o out at a b i w h t m x e p ep = record {
  ts = w.ts ++ (t ∷ []);
  state = state_more (table_of f) (table_good f) n body w.ts at a b i w.state h t m x e;
  output = ep ∙ ap (λ (q : List ℕ). kept q i t) w.output ∙ kept-over o w.ts i t w.state.many;
}

pub walked_inside : (f : Form) (n : ℕ) (body o out : List ℕ) (at a b i : ℕ) → Walked (table_of f) n body o out at a b i → at ≤ 8 * length body
walked_inside f n body o out at a b i w = state_inside (table_of f) (table_good f) n body w.ts at a b i w.state

-- with room for all
pub part_filled : (x : Option (List ℕ)) (b : Bool) (o p : List ℕ) → ((l : List ℕ) → x ≡ some l → length l ≤ length o) → FilledPart x b o p → Filled x b o p
part_filled none b o p h f = f
part_filled (some l) b o p h f = (f.0, f.1 ∙ ap (λ (k : List ℕ). over k o) (take_all (length o) l (h l refl)))

-- and with none
pub part_told : (x : Option (List ℕ)) (b : Bool) (o p : List ℕ) → FilledPart x b o p → b ≡ not (missing x)
part_told none b o p f = f
part_told (some l) b o p f = f.0
