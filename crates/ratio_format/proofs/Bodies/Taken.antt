-- What reading takes from the front of bytes, ratio by ratio and stretch by stretch. A reading of a whole body is that all was taken; strictly the
-- bytes begin with the coding of what was taken, and of no more ratios.
use Rattle.std.specs.Prelude.{None}
use mathlib.Core.Path.{◌≡◌, refl, sym, ap, ap₂, ◌∙◌, subst}
use mathlib.Core.Bool.{Bool, true, false, cond}
use mathlib.Core.List.{List, [], ◌∷◌, ◌++◌, append-nil, append_assoc}
use mathlib.Core.Option.{Option, none, some}
use Prim.Native.Nat.{ℕ, zero, suc, ◌+◌, ◌^◌, ◌≤◌, ◌<◌}
use native.Mathlib.Omega.{arith}
use borrow.Author.Tests.{eqb-true, eqb-false, eq-eqb}
use lib.Dec.{eqb}
use lib.ListN.{length, drop, length-append, length-drop, drop_of_length-le}
use lib.Seq.{drop_at, drop-drop, append_snoc}
use Rattle.lists.specs.Below.{Below}
use Rattle.lists.specs.Compare.{both}
use Rattle.lists.proofs.Below.{below_drop}
use Rattle.ratio_format.specs.Windows.{window_size, push, window_of}
use Rattle.ratio_format.specs.RatioForms.{coded}
use Rattle.ratio_format.specs.Open.{Read, Ratio, open_one, strict_one}
use Rattle.ratio_format.specs.Bodies.{coded_from, coded_ratios, before, open_ratios, strict_ratios, Taken, none_taken, and_taken, after_taken, on_taken, taken_from, open_taken, strict_taken, whole_taken}
use Rattle.ratio_format.proofs.Windows.{push-length, push_below, window_snoc}
use Rattle.ratio_format.proofs.Open.{strict_takes, strict_open, strict_only, open_used, open_value}
use Rattle.ratio_format.proofs.Bodies.ReadFrom.{Rule, Gives64, read_from, open_is}
use Rattle.ratio_format.proofs.Bodies.Strict.{strict_coded, strict_only_body, strict_below}

-- one ratio, by any rule

module _ (rule : Rule) (size : ℕ) (w : List ℕ) (n : ℕ) (s : List ℕ) where
  rest : ℕ → ℕ → Taken
  rest v k = and_taken v k (taken_from rule size (push size v w) n (drop k s))

  pub taken_stop : rule w s ≡ None → taken_from rule size w (suc n) s ≡ none_taken
  unfolding taken_from rest
  taken_stop e = ap (λ (r : Read). on_taken r rest) e

  pub taken_next : (v k : ℕ) → rule w s ≡ Ratio v k → taken_from rule size w (suc n) s ≡ and_taken v k (taken_from rule size (push size v w) n (drop k s))
  unfolding taken_from rest
  taken_next v k e = ap (λ (r : Read). on_taken r rest) e

-- no more are taken than were asked for
pub taken_count : (rule : Rule) (size : ℕ) (w : List ℕ) (n : ℕ) (s : List ℕ) → length (taken_from rule size w n s).ratios ≤ n
unfolding taken_from
taken_count rule size w zero s = omega arith
taken_count rule size w (suc n) s = go (λ v k. taken_count rule size (push size v w) n (drop k s)) (rule w s)
  where
    go : ((v k : ℕ) → length (taken_from rule size (push size v w) n (drop k s)).ratios ≤ n) → (r : Read)
        → length (on_taken r (λ v k. and_taken v k (taken_from rule size (push size v w) n (drop k s)))).ratios ≤ suc n
    go ih None = omega arith
    go ih (Ratio v k) = omega (arith, ih v k)

-- stretch by stretch

module _ (rule : Rule) (size : ℕ) where
  -- from the window that the ratios us leave
  abbrev from : List ℕ → ℕ → List ℕ → Taken
  from us n s = taken_from rule size (window_of size us) n s

  -- one ratio, and then the rest
  from_next : (us : List ℕ) (n : ℕ) (s : List ℕ) (v k : ℕ) → rule (window_of size us) s ≡ Ratio v k → from us (suc n) s ≡ and_taken v k (from (us ++ (v ∷ [])) n (drop k s))
  from_next us n s v k e =
      taken_next rule size (window_of size us) n s v k e ∙ ap (λ (w : List ℕ). and_taken v k (taken_from rule size w n (drop k s))) (sym (window_snoc size us v))

  -- where the first m are taken, the rest is taken after them
  pub taken_part : (us : List ℕ) (m n : ℕ) (s : List ℕ) (k : ℕ) → k ≡ m + n → length (from us m s).ratios ≡ m
      → from us k s ≡ after_taken (from us m s).ratios (from us m s).used (from (us ++ (from us m s).ratios) n (drop (from us m s).used s))
  unfolding taken_from
  taken_part us zero n s k e h =
      let x = from us n s in
      let i : k ≡ n = omega arith in
      let u : x.used ≡ 0 + x.used = omega arith in
      ap (λ (j : ℕ). from us j s) i ∙ ap (λ (j : ℕ). record { ratios = x.ratios; used = j }) u
      ∙ ap (λ (l : List ℕ). after_taken [] 0 (from l n s)) (sym (append-nil us))
  taken_part us (suc m) n s k e h = go (λ v j. taken_part (us ++ (v ∷ [])) m n (drop j s) (m + n) refl) (rule (window_of size us) s) refl
    where
      Part : Taken → Type 0
      Part t = from us k s ≡ after_taken t.ratios t.used (from (us ++ t.ratios) n (drop t.used s))

      all : from us k s ≡ from us (suc (m + n)) s
      all = let i : k ≡ suc (m + n) = omega arith in ap (λ (j : ℕ). from us j s) i

      go : ((v j : ℕ) → length (from (us ++ (v ∷ [])) m (drop j s)).ratios ≡ m
          → from (us ++ (v ∷ [])) (m + n) (drop j s)
          ≡ after_taken (from (us ++ (v ∷ [])) m (drop j s)).ratios (from (us ++ (v ∷ [])) m (drop j s)).used
          (from ((us ++ (v ∷ [])) ++ (from (us ++ (v ∷ [])) m (drop j s)).ratios) n (drop (from (us ++ (v ∷ [])) m (drop j s)).used (drop j s))))
          → (r : Read) → rule (window_of size us) s ≡ r → Part (from us (suc m) s)
      go ih None f = absurd (omega (arith, ap (λ (t : Taken). length t.ratios) (taken_stop rule size (window_of size us) m s f), h))
      go ih (Ratio v j) f =
          let t = from (us ++ (v ∷ [])) m (drop j s) in
          let q : from us (suc m) s ≡ and_taken v j t = from_next us m s v j f in
          let many : length t.ratios ≡ m = omega (arith, ap (λ (x : Taken). length x.ratios) q, h) in
          let z = from (us ++ (v ∷ t.ratios)) n (drop (j + t.used) s) in
          let u : j + (t.used + z.used) ≡ j + t.used + z.used = omega arith in
          subst Part (sym q)
          (all ∙ from_next us (m + n) s v j f ∙ ap (and_taken v j) (ih v j many)
          ∙ ap₂ (λ (l r : List ℕ). and_taken v j (after_taken t.ratios t.used (from l n r))) (append_snoc us v t.ratios) (drop-drop t.used j s)
          ∙ ap (λ (i : ℕ). record { ratios = v ∷ (t.ratios ++ z.ratios); used = i }) u)

  -- where fewer are taken, no more are
  pub taken_short : (us : List ℕ) (m n : ℕ) (s : List ℕ) (k : ℕ) → k ≡ m + n → length (from us m s).ratios < m → from us k s ≡ from us m s
  unfolding taken_from
  taken_short us zero n s k e h = absurd (omega arith)
  taken_short us (suc m) n s k e h = go (λ v j. taken_short (us ++ (v ∷ [])) m n (drop j s) (m + n) refl) (rule (window_of size us) s) refl
    where
      all : from us k s ≡ from us (suc (m + n)) s
      all = let i : k ≡ suc (m + n) = omega arith in ap (λ (j : ℕ). from us j s) i

      go : ((v j : ℕ) → length (from (us ++ (v ∷ [])) m (drop j s)).ratios < m → from (us ++ (v ∷ [])) (m + n) (drop j s) ≡ from (us ++ (v ∷ [])) m (drop j s))
          → (r : Read) → rule (window_of size us) s ≡ r → from us k s ≡ from us (suc m) s
      go ih None f = all ∙ taken_stop rule size (window_of size us) (m + n) s f ∙ sym (taken_stop rule size (window_of size us) m s f)
      go ih (Ratio v j) f =
          let q = from_next us m s v j f in
          all ∙ from_next us (m + n) s v j f ∙ ap (and_taken v j) (ih v j (omega (arith, ap (λ (x : Taken). length x.ratios) q, h))) ∙ sym q

-- a whole body

whole-some : (n : ℕ) (s : List ℕ) (t : Taken) → length t.ratios ≡ n → t.used ≡ length s → whole_taken n s t ≡ some t.ratios
whole-some n s t e f = rw (eq-eqb (length t.ratios) n e, eq-eqb t.used (length s) f)

whole-none : (n : ℕ) (s : List ℕ) (t : Taken) → (length t.ratios ≡ n → t.used ≡ length s → ⊥) → whole_taken n s t ≡ none
whole-none n s t never = go (eqb (length t.ratios) n) refl (eqb t.used (length s)) refl
  where
    go : (x : Bool) → eqb (length t.ratios) n ≡ x → (y : Bool) → eqb t.used (length s) ≡ y → cond (both x y) (some t.ratios) none ≡ none
    go true e true f = absurd (never (eqb-true (length t.ratios) n e) (eqb-true t.used (length s) f))
    go true e false f = refl
    go false e y f = refl

-- the rule uses bytes that are there
abbrev pub RuleWithin : Rule → Type 0
RuleWithin rule = (w s : List ℕ) (v k : ℕ) → rule w s ≡ Ratio v k → k ≤ length s

pub open_within : RuleWithin open_one
open_within = open_used

pub strict_within : RuleWithin strict_one
strict_within w s v k e = open_used w s v k (strict_open v k w s e).0

read_taken : (rule : Rule) → RuleWithin rule → (size : ℕ) (w : List ℕ) (n : ℕ) (s : List ℕ) → read_from rule size w n s ≡ whole_taken n s (taken_from rule size w n s)
unfolding read_from taken_from
read_taken rule within size w zero [] = refl
read_taken rule within size w zero (b ∷ s) = sym (whole-none 0 (b ∷ s) none_taken (λ e f. omega arith))
read_taken rule within size w (suc n) s = go (λ v k. read_taken rule within size (push size v w) n (drop k s)) (rule w s) refl
  where
    at : (v k : ℕ) (t : Taken) → k ≤ length s → before v (whole_taken n (drop k s) t) ≡ whole_taken (suc n) s (and_taken v k t)
    at v k t h = both_of (eqb (length t.ratios) n) refl (eqb t.used (length (drop k s))) refl
      where
        both_of : (x : Bool) → eqb (length t.ratios) n ≡ x → (y : Bool) → eqb t.used (length (drop k s)) ≡ y
            → before v (cond (both x y) (some t.ratios) none) ≡ whole_taken (suc n) s (and_taken v k t)
        both_of true e true f =
            let a = eqb-true (length t.ratios) n e in
            let b = eqb-true t.used (length (drop k s)) f in
            sym (whole-some (suc n) s (and_taken v k t) (omega arith) (omega (arith, length-drop k s)))
        both_of true e false f =
            let b = eqb-false t.used (length (drop k s)) f in
            sym (whole-none (suc n) s (and_taken v k t) (λ p q. omega (arith, length-drop k s)))
        both_of false e y f =
            let a = eqb-false (length t.ratios) n e in
            sym (whole-none (suc n) s (and_taken v k t) (λ p q. a (omega arith)))

    go : ((v k : ℕ) → read_from rule size (push size v w) n (drop k s) ≡ whole_taken n (drop k s) (taken_from rule size (push size v w) n (drop k s))) → (r : Read)
        → rule w s ≡ r → read_from rule size w (suc n) s ≡ whole_taken (suc n) s (taken_from rule size w (suc n) s)
    go ih None e = rw e (sym (whole-none (suc n) s none_taken (λ p q. omega arith)))
    go ih (Ratio v k) e = rw e (ap (before v) (ih v k) ∙ at v k (taken_from rule size (push size v w) n (drop k s)) (within w s v k e))

-- openly
pub open_taken_lem : (n : ℕ) (s : List ℕ) → open_ratios n s ≡ whole_taken n s (open_taken n s)
open_taken_lem n s = open_is window_size [] n s ∙ read_taken open_one open_within window_size [] n s

-- strictly

-- the ratio that is read has 64 bits
strict_gives : Gives64 strict_one
strict_gives w s v k hs ha e = (open_value w s v k hs ha (strict_open v k w s e).0).0

module _ (size : ℕ) (hz : size ≤ window_size) where
  -- the bytes begin with the coding of what was taken
  abbrev CodedFront : List ℕ → List ℕ → Taken → Type 0
  CodedFront w s t = (s ≡ coded_from size w t.ratios ++ drop t.used s) × (t.used ≡ length (coded_from size w t.ratios)) × Below (2 ^ 64) t.ratios

  coded-front-none : (w s : List ℕ) → CodedFront w s none_taken
  unfolding coded_from Below
  coded-front-none w s = (refl, refl, tt)

  coded-front_next : (w s : List ℕ) (v k : ℕ) (t : Taken) (r : List ℕ) → s ≡ coded v w ++ r → k ≡ length (coded v w) → v < 2 ^ 64 → CodedFront (push size v w) (drop k s) t
      → CodedFront w s (and_taken v k t)
  unfolding coded_from Below
  coded-front_next w s v k t r e l hv f =
      let c = coded v w in
      let d : drop k s ≡ r = ap (drop k) e ∙ drop_at c r k (sym l) in
      let us = coded_from size (push size v w) t.ratios in (
        e ∙ ap (λ (x : List ℕ). c ++ x) (sym d ∙ f.0 ∙ ap (λ (x : List ℕ). us ++ x) (drop-drop t.used k s)) ∙ sym (append_assoc c us (drop (k + t.used) s)),
        omega (arith, l, f.1, length-append c us),
        (hv, f.2),
      )

  taken_coded : (w : List ℕ) (n : ℕ) (s : List ℕ) → length w ≤ window_size → Below (2 ^ 64) w → Below 256 s → CodedFront w s (taken_from strict_one size w n s)
  unfolding taken_from
  taken_coded w zero s hw ha hs = coded-front-none w s
  taken_coded w (suc n) s hw ha hs =
      go (λ v k hv. taken_coded (push size v w) n (drop k s) (omega (arith, push-length size v w)) (push_below (2 ^ 64) size v w hv ha) (below_drop 256 k s hs)) (strict_one w s) refl
    where
      go : ((v k : ℕ) → v < 2 ^ 64 → CodedFront (push size v w) (drop k s) (taken_from strict_one size (push size v w) n (drop k s))) → (r : Read) → strict_one w s ≡ r
          → CodedFront w s (taken_from strict_one size w (suc n) s)
      go ih None e = rw (taken_stop strict_one size w n s e) (coded-front-none w s)
      go ih (Ratio v k) e =
          let hv = strict_gives w s v k hs ha e in
          let o = strict_only v k w s hv ha hw e in
          rw (taken_next strict_one size w n s v k e) (coded-front_next w s v k (taken_from strict_one size (push size v w) n (drop k s)) o.0 o.1 o.2 hv (ih v k hv))

  -- every other list with whose coding they begin is a beginning of it
  taken_most : (w : List ℕ) (n : ℕ) (s vs r : List ℕ) → length w ≤ window_size → Below (2 ^ 64) w → Below (2 ^ 64) vs → length vs ≤ n
      → s ≡ coded_from size w vs ++ r → (us : List ℕ) × ((taken_from strict_one size w n s).ratios ≡ vs ++ us)
  unfolding coded_from Below
  taken_most w n s [] r hw ha hs h e = ((taken_from strict_one size w n s).ratios, refl)
  taken_most w zero s (v ∷ vs) r hw ha hs h e = absurd (omega arith)
  taken_most w (suc n) s (v ∷ vs) r hw ha hs h e =
      let c = coded v w in
      let p = push size v w in
      let k = length c in
      let x : s ≡ c ++ (coded_from size p vs ++ r) = e ∙ append_assoc c (coded_from size p vs) r in
      let d : drop k s ≡ coded_from size p vs ++ r = ap (drop k) x ∙ drop_at c (coded_from size p vs ++ r) k refl in
      let one = ap (strict_one w) x ∙ strict_takes v w (coded_from size p vs ++ r) hs.0 ha hw in
      let o = taken_most p n (drop k s) vs r (omega (arith, push-length size v w)) (push_below (2 ^ 64) size v w hs.0 ha) hs.1 (omega arith) d in
      (o.0, ap (λ (t : Taken). t.ratios) (taken_next strict_one size w n s v k one) ∙ ap (λ (l : List ℕ). v ∷ l) o.1)

module _ (n : ℕ) (s : List ℕ) where
  abbrev t : Taken
  t = strict_taken n s

  -- the ratios taken are those with whose coding the bytes begin, and `used` is its length
  pub strict_taken_coded : Below 256 s → (s ≡ coded_ratios t.ratios ++ drop t.used s) × (t.used ≡ length (coded_ratios t.ratios))
  unfolding Below
  strict_taken_coded hs = let f = taken_coded window_size (omega arith) [] n s (omega arith) tt hs in (f.0, f.1)

  -- of lists of at most n ratios none that is longer has that: each is a beginning of them
  pub strict_taken_most : (vs r : List ℕ) → Below (2 ^ 64) vs → length vs ≤ n → s ≡ coded_ratios vs ++ r → (us : List ℕ) × (t.ratios ≡ vs ++ us)
  unfolding Below
  strict_taken_most vs r hs h e = taken_most window_size (omega arith) [] n s vs r (omega arith) tt hs h e

  -- a whole body is read strictly exactly where n ratios are taken and every byte is used
  pub strict_taken_lem : Below 256 s → strict_ratios n s ≡ whole_taken n s t
  unfolding Below
  strict_taken_lem hs = go (eqb (length t.ratios) n) refl (eqb t.used (length s)) refl
    where
      front : (s ≡ coded_ratios t.ratios ++ drop t.used s) × (t.used ≡ length (coded_ratios t.ratios))
      front = strict_taken_coded hs

      all : length t.ratios ≡ n → t.used ≡ length s → strict_ratios n s ≡ some t.ratios
      all e f =
          let q : s ≡ coded_ratios t.ratios =
          front.0 ∙ ap (λ (l : List ℕ). coded_ratios t.ratios ++ l) (drop_of_length-le s {i = t.used} (omega arith)) ∙ append-nil (coded_ratios t.ratios) in
          ap₂ strict_ratios (sym e) q ∙ strict_coded t.ratios (taken_coded window_size (omega arith) [] n s (omega arith) tt hs).2

      same : (vs : List ℕ) → length vs ≡ n → Below (2 ^ 64) vs → coded_ratios vs ≡ s → t.ratios ≡ vs
      same vs e hv q =
          let o = strict_taken_most vs [] hv (omega arith) (sym q ∙ sym (append-nil (coded_ratios vs))) in
          let z : length o.0 ≡ 0 = omega (arith, ap length o.1, length-append vs o.0, taken_count strict_one window_size [] n s) in
          o.1 ∙ ap (λ (l : List ℕ). vs ++ l) (empty o.0 z) ∙ append-nil vs
        where
          empty : (l : List ℕ) → length l ≡ 0 → l ≡ []
          empty [] z = refl
          empty (x ∷ l) z = absurd (omega arith)

      -- bytes that are the coding of n ratios are taken whole
      other : (length t.ratios ≡ n → t.used ≡ length s → ⊥) → strict_ratios n s ≡ none
      other never = read (strict_ratios n s) refl
        where
          read : (r : Option (List ℕ)) → strict_ratios n s ≡ r → strict_ratios n s ≡ none
          read none e = e
          read (some vs) e =
              let o = strict_only_body n s vs e in
              let i = same vs o.1 (strict_below n s vs hs e) (sym o.0) in
              absurd (never (ap length i ∙ o.1) (front.1 ∙ ap (λ (l : List ℕ). length (coded_ratios l)) i ∙ ap length (sym o.0)))

      go : (x : Bool) → eqb (length t.ratios) n ≡ x → (y : Bool) → eqb t.used (length s) ≡ y → strict_ratios n s ≡ cond (both x y) (some t.ratios) none
      go true e true f = all (eqb-true (length t.ratios) n e) (eqb-true t.used (length s) f)
      go true e false f = other (λ p q. eqb-false t.used (length s) f q)
      go false e y f = other (λ p q. eqb-false (length t.ratios) n e p)
