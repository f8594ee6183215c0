-- Reading a body one point after the other: where it starts, what one more point adds, where it ends, and why a body is refused.
use mathlib.Core.Bool.{true, false}
use mathlib.Core.List.{List, [], ◌∷◌, ◌++◌, append_assoc, append-nil}
use mathlib.Core.Option.{none, some}
use mathlib.Core.Path.{◌≡◌, refl, sym, ap, ap₂, ◌∙◌}
use Prim.Native.Nat.{ℕ, suc, ◌+◌, ◌-◌, ◌*◌, ◌≤◌, ◌<◌}
use native.Mathlib.Numerals.{add-one}
use native.Mathlib.Omega.{arith}
use lib.ListN.{length, get_or, take, drop, replicate, length-append, length-take, take-append-drop, get_or-append}
use lib.Seq.{drop_at, take_all, take-add, take-suc, get_or-take, get_or_at}
use Rattle.lists.specs.Below.{Below}
use Rattle.lists.specs.Compare.{same}
use Rattle.bits.specs.Digits.{bits_of}
use Rattle.bits.specs.Packing.{bits, fill_of}
use Rattle.lists.proofs.Compare.{begins_own, same_own, same_is, begins-take}
use Rattle.bits.proofs.Digits.{length_digits}
use Rattle.bits.proofs.Packing.{length-bits, pack_is}
use Rattle.limits.specs.Points.{max_position}
use Rattle.position_format.specs.Rows.{Row, in_table, code}
use Rattle.position_format.specs.Steps.{step_of, steps_from}
use Rattle.position_format.specs.Positions.{step_bits, position_bits, coded_positions, valid_positions, read_positions}
use Rattle.position_format.specs.Points.{next_bits, point_bits, Stands}
use Rattle.position_format.proofs.Rows.{good_table}
use Rattle.position_format.proofs.Positions.Valid.{valid_low, valid_none, valid_one, valid_two}
use Rattle.position_format.proofs.Positions.{read_some, Coding, coding_none, coding_bits}
use Rattle.position_format.proofs.Positions.Sizes.{length_raw}
use Rattle.position_format.proofs.Points.{bits_snoc, valid_snoc, valid_here, next_raw, next_step, next_same, point_more, point_rest}
use Rattle.position_format.proofs.Points.Stands.{stands_one}

-- ---- what has been read

-- the first positions us are read, from the first `at` bits, and the body can be the coding of no others
pub record Read (rs : List Row) (n : ℕ) (body us : List ℕ) (at : ℕ) : Type 0 where
  pub few : length us ≤ n
  pub valid : valid_positions rs us ≡ true
  pub place : at ≡ length (position_bits rs us)
  pub front : take at (bits body) ≡ position_bits rs us
  pub only : (ts : List ℕ) → Coding rs n body ts → take (length us) ts ≡ us

-- a and b are the last two of the positions us, if there are so many
pub record Last (us : List ℕ) (a b : ℕ) : Type 0 where
  pub first : 2 ≤ length us → a ≡ get_or us (length us - 2) 0
  pub second : 1 ≤ length us → b ≡ get_or us (length us - 1) 0

-- ---- one position more at the end

-- its bits
snoc_bits : (rs : List Row) (us : List ℕ) (t a b : ℕ) → Last us a b → position_bits rs (us ++ (t ∷ [])) ≡ position_bits rs us ++ next_bits rs (length us) a b t
unfolding position_bits step_bits steps_from
snoc_bits rs [] t a b l = sym (next_raw rs 0 a b t (omega arith))
snoc_bits rs (x ∷ []) t a b l = ap (λ (d : List ℕ). bits_of 64 x ++ d) (append-nil (bits_of 64 t) ∙ sym (next_raw rs 1 a b t (omega arith)))
snoc_bits rs (x ∷ y ∷ us) t a b l =
    let two : 2 ≤ length (x ∷ y ∷ us) = omega arith in
    bits_snoc rs (x ∷ y ∷ us) t two
    ∙ ap (λ (d : List ℕ). position_bits rs (x ∷ y ∷ us) ++ d)
    (ap₂ (λ (u v : ℕ). code rs (step_of u v t)) (sym (l.first two)) (sym (l.second (omega arith))) ∙ sym (next_step rs (length (x ∷ y ∷ us)) a b t two))

-- it is valid
snoc_valid : (rs : List Row) (us : List ℕ) (t a b : ℕ) → Last us a b → valid_positions rs us ≡ true → t ≤ max_position
    → (2 ≤ length us → in_table rs (step_of a b t) ≡ true) → valid_positions rs (us ++ (t ∷ [])) ≡ true
snoc_valid rs [] t a b l v h e = valid_one rs t h
snoc_valid rs (x ∷ []) t a b l v h e = valid_two rs x t (valid_low rs (x ∷ []) v 0 (omega arith)) h
snoc_valid rs (x ∷ y ∷ us) t a b l v h e =
    let two : 2 ≤ length (x ∷ y ∷ us) = omega arith in
    valid_snoc rs (x ∷ y ∷ us) t two v h (ap₂ (λ (u v : ℕ). in_table rs (step_of u v t)) (sym (l.first two)) (sym (l.second (omega arith))) ∙ e two)

-- and it is the last but one after the next
pub last_snoc : (us : List ℕ) (t a b : ℕ) → Last us a b → Last (us ++ (t ∷ [])) b t
last_snoc us t a b l =
    let n : length (us ++ (t ∷ [])) ≡ suc (length us) = length-append us (t ∷ []) ∙ add-one (length us) in
    let i : suc (length us) - 2 ≡ length us - 1 = omega arith in
    let j : suc (length us) - 1 ≡ length us = omega arith in
    record {
      first = λ h. l.second (omega arith) ∙ sym (ap (λ (m : ℕ). get_or (us ++ (t ∷ [])) (m - 2) 0) n ∙ ap (λ (m : ℕ). get_or (us ++ (t ∷ [])) m 0) i ∙ get_or-append us (t ∷ []) 0 (length us - 1) (omega arith));
      second = λ h. sym (ap (λ (m : ℕ). get_or (us ++ (t ∷ [])) (m - 1) 0) n ∙ ap (λ (m : ℕ). get_or (us ++ (t ∷ [])) m 0) j ∙ get_or_at us t [] 0 (length us) refl);
    }

module _ (rs : List Row) (good : good_table rs ≡ true) (n : ℕ) (body : List ℕ) where
  -- ---- where it starts

  pub read_start : Read rs n body [] 0
  unfolding position_bits
  read_start = record { few = omega arith; valid = valid_none rs; place = refl; front = refl; only = λ ts c. refl }

  -- a body that is longer than any coding of n positions
  pub read_long : ((ts : List ℕ) → valid_positions rs ts ≡ true → length ts ≡ n → length (coded_positions rs ts) < length body) → read_positions rs n body ≡ none
  read_long f = coding_none rs n body (λ ts c. omega (arith, f ts c.valid c.many, ap length c.coded))

  module _ (us : List ℕ) (at : ℕ) (r : Read rs n body us at) where
    pub read_inside : at ≤ 8 * length body
    read_inside = omega (arith, r.place, ap length r.front, length-take at (bits body), length-bits body)

    pub read_raw : length us < 2 → at ≡ 64 * length us
    unfolding position_bits
    read_raw h = r.place ∙ go us h
      where
        go : (vs : List ℕ) → length vs < 2 → length (position_bits rs vs) ≡ 64 * length vs
        go [] g = refl
        go (x ∷ []) g = length_digits 2 64 x
        go (x ∷ y ∷ vs) g = absurd (omega arith)

    pub read_far : 2 ≤ length us → 128 ≤ at
    unfolding position_bits
    read_far h = rw r.place (go us h)
      where
        go : (vs : List ℕ) → 2 ≤ length vs → 128 ≤ length (position_bits rs vs)
        go [] g = absurd (omega arith)
        go (x ∷ []) g = absurd (omega arith)
        go (x ∷ y ∷ vs) g = omega (arith, length_raw x y (step_bits rs (steps_from x y vs)))

    -- ---- the next point

    module _ (more : length us < n) (a b : ℕ) (l : Last us a b) where
      -- of a coding
      next : (ts : List ℕ) → Coding rs n body ts → Stands rs (length us) a b (drop at (bits body)) (get_or ts (length us) 0)
      next ts c =
          let i = length us in
          let t = get_or ts i 0 in
          let F : List ℕ = replicate (fill_of (length (position_bits rs ts))) 0 in
          let here : i < length ts = omega (arith, c.many) in
          let u : take i ts ≡ us = r.only ts c in
          let R = point_rest rs ts (i + 1) (omega arith) in
          let ea : 2 ≤ i → get_or ts (i - 2) 0 ≡ a = λ h. sym (get_or-take i ts (i - 2) 0 (omega arith)) ∙ ap (λ (d : List ℕ). get_or d (i - 2) 0) u ∙ sym (l.first h) in
          let eb : 2 ≤ i → get_or ts (i - 1) 0 ≡ b = λ h. sym (get_or-take i ts (i - 1) 0 (omega arith)) ∙ ap (λ (d : List ℕ). get_or d (i - 1) 0) u ∙ sym (l.second (omega arith)) in
          let is : point_bits rs ts i ≡ next_bits rs i a b t = next_same rs i (get_or ts (i - 2) 0) (get_or ts (i - 1) 0) a b t ea eb in
          let all : bits body ≡ position_bits rs us ++ (next_bits rs i a b t ++ (R.0 ++ F)) =
          coding_bits rs n body good ts c
          ∙ ap (λ (d : List ℕ). d ++ F) (R.1 ∙ ap (λ (d : List ℕ). d ++ R.0) (point_more rs ts i here ∙ ap₂ (λ (v : List ℕ) (w : List ℕ). position_bits rs v ++ w) u is))
          ∙ regroup (position_bits rs us) (next_bits rs i a b t) R.0 F in
          let left : drop at (bits body) ≡ next_bits rs i a b t ++ (R.0 ++ F) = ap (drop at) all ∙ drop_at (position_bits rs us) (next_bits rs i a b t ++ (R.0 ++ F)) at (sym r.place) in
          record {
            low = valid_low rs ts c.valid i here;
            held = λ h. ap₂ (λ (v w : ℕ). in_table rs (step_of v w t)) (sym (ea h)) (sym (eb h)) ∙ valid_here ts i h here rs c.valid;
            front = rw left (begins_own (next_bits rs i a b t) (R.0 ++ F));
          }
        where
          regroup : (w x y z : List ℕ) → ((w ++ x) ++ y) ++ z ≡ w ++ (x ++ (y ++ z))
          regroup w x y z = simp append_assoc

      -- where none stands there, the body is refused
      pub read_stop : ((t : ℕ) → Stands rs (length us) a b (drop at (bits body)) t → ⊥) → read_positions rs n body ≡ none
      read_stop f = coding_none rs n body (λ ts c. f (get_or ts (length us) 0) (next ts c))

      -- and one that does is read
      pub read_more : (t : ℕ) → Stands rs (length us) a b (drop at (bits body)) t → Read rs n body (us ++ (t ∷ [])) (at + length (next_bits rs (length us) a b t))
      read_more t s =
          let w = next_bits rs (length us) a b t in
          let is : position_bits rs (us ++ (t ∷ [])) ≡ position_bits rs us ++ w = snoc_bits rs us t a b l in
          let len : length (us ++ (t ∷ [])) ≡ suc (length us) = length-append us (t ∷ []) ∙ add-one (length us) in
          record {
            few = omega arith;
            valid = snoc_valid rs us t a b l r.valid s.low s.held;
            place = sym (ap length is ∙ length-append (position_bits rs us) w ∙ ap (λ (m : ℕ). m + length w) (sym r.place));
            front = take-add at (length w) (bits body) ∙ ap₂ (λ (x y : List ℕ). x ++ y) r.front (begins-take w (drop at (bits body)) s.front) ∙ sym is;
            only = λ ts c.
                ap (λ (m : ℕ). take m ts) len ∙ take-suc ts (length us) 0 (omega (arith, c.many))
                ∙ ap₂ (λ (x : List ℕ) (y : ℕ). x ++ (y ∷ [])) (r.only ts c) (stands_one rs good (length us) a b (get_or ts (length us) 0) t (drop at (bits body)) (next ts c) s);
          }

    -- ---- where it ends

    module _ (all : length us ≡ n) where
      pub read_end : Below 256 body → same (drop at (bits body)) (replicate (fill_of at) 0) ≡ true → read_positions rs n body ≡ some us
      unfolding coded_positions
      read_end h e =
          let f : drop at (bits body) ≡ replicate (fill_of at) 0 = same_is (drop at (bits body)) (replicate (fill_of at) 0) e in
          read_some rs good n body us all r.valid
          (pack_is (position_bits rs us) body h
          (sym (take-append-drop at (bits body)) ∙ ap₂ (λ (x y : List ℕ). x ++ y) r.front (f ∙ ap (λ (m : ℕ). replicate (fill_of m) 0) r.place)))

      pub read_bad : same (drop at (bits body)) (replicate (fill_of at) 0) ≡ false → read_positions rs n body ≡ none
      read_bad e = coding_none rs n body go
        where
          go : (ts : List ℕ) → Coding rs n body ts → ⊥
          go ts c =
              let us-is : ts ≡ us = sym (take_all (length us) ts (omega (arith, c.many))) ∙ r.only ts c in
              let left : drop at (bits body) ≡ replicate (fill_of at) 0 =
              ap (drop at) (coding_bits rs n body good ts c ∙ ap (λ (d : List ℕ). position_bits rs d ++ replicate (fill_of (length (position_bits rs d))) 0) us-is)
              ∙ drop_at (position_bits rs us) _ at (sym r.place) ∙ ap (λ (m : ℕ). replicate (fill_of m) 0) (sym r.place) in
              let t : true ≡ false = sym (same_own (replicate (fill_of at) 0)) ∙ ap (λ (d : List ℕ). same d (replicate (fill_of at) 0)) (sym left) ∙ e in
              let z : ◌≡◌ {A = ℕ} 0 1 = cc in
              omega arith
