-- Laws of a call's tests: the refusal that the first of them gives, by one test and by two lists of tests.
use mathlib.Core.Bool.{Bool, true, false, not, cond, false≢true}
use mathlib.Core.List.{List, [], ◌∷◌, ◌++◌, map, map-append}
use mathlib.Core.Logic.{◌⊎◌, inl, inr}
use mathlib.Core.Path.{◌≡◌, refl, sym, ap, ap₂, subst, ◌∙◌}
use Prim.Native.Nat.{ℕ, zero, suc, ◌+◌, ◌<◌}
use native.Mathlib.Nat.{add-zero}
use native.Mathlib.Omega.{arith}
use borrow.Author.Tests.{ltb-true, eqb-true, eq-eqb}
use lib.Dec.{ltb, eqb}
use Rattle.refusals.specs.declared.Refusal.{Refusal}
use Rattle.refusals.specs.Tests.{Test, test, refusal, no_refusal, first_of}
use Rattle.lists.specs.Among.{Among}
use Rattle.lists.proofs.Lists.{every, every_cons}

-- no test has the number of a success: of tests with literal numbers, by refl
abbrev pub numbered : List Test → Bool
numbered ts = every (λ t. ltb 0 t.number) ts

-- ---- one test

pub first_of_end : first_of [] ≡ no_refusal
unfolding first_of
first_of_end = refl

pub first_of_skip : (t : Test) (ts : List Test) → t.applies ≡ false → first_of (t ∷ ts) ≡ first_of ts
unfolding first_of
first_of_skip t ts e = rw e refl

pub first_of_here : (t : Test) (ts : List Test) → t.applies ≡ true → first_of (t ∷ ts) ≡ refusal t.number t.place
unfolding first_of
first_of_here t ts e = rw e refl

-- before tests that give the same
pub first_of_cong : (t : Test) (ss ts : List Test) → first_of ss ≡ first_of ts → first_of (t ∷ ss) ≡ first_of (t ∷ ts)
unfolding first_of
first_of_cong t ss ts e = ap (cond t.applies (refusal t.number t.place)) e

-- where nothing is refused, the first test does not apply, and the others refuse nothing
pub first_of_clear : (t : Test) (ts : List Test) → 0 < t.number → (first_of (t ∷ ts)).number ≡ 0 → (t.applies ≡ false) × ((first_of ts).number ≡ 0)
first_of_clear t ts n e = go t.applies refl
  where
    go : (b : Bool) → t.applies ≡ b → (t.applies ≡ false) × ((first_of ts).number ≡ 0)
    go true q = let r : (first_of (t ∷ ts)).number ≡ t.number = rw (first_of_here t ts q) refl in absurd (omega arith)
    go false q = (q, rw (first_of_skip t ts q) at e)

-- ---- a list of tests

parts : (t : Test) (ts : List Test) → numbered (t ∷ ts) ≡ true → (0 < t.number) × (numbered ts ≡ true)
parts t ts e = let h = every_cons (λ (t : Test). ltb 0 t.number) t ts e in (ltb-true 0 t.number h.0, h.1)

-- number 0 has place 0
pub first_of-none : (ts : List Test) → numbered ts ≡ true → (first_of ts).number ≡ 0 → first_of ts ≡ no_refusal
first_of-none [] n e = first_of_end
first_of-none (t ∷ ts) n e =
    let p = parts t ts n in
    let h = first_of_clear t ts p.0 e in
    first_of_skip t ts h.0 ∙ first_of-none ts p.1 h.1

-- the second list decides where the first refuses nothing
pub first_of-append-none : (ss ts : List Test) → numbered ss ≡ true → (first_of ss).number ≡ 0 → first_of (ss ++ ts) ≡ first_of ts
first_of-append-none [] ts n e = refl
first_of-append-none (s ∷ ss) ts n e =
    let p = parts s ss n in
    let h = first_of_clear s ss p.0 e in
    first_of_skip s (ss ++ ts) h.0 ∙ first_of-append-none ss ts p.1 h.1

-- the first list decides where it refuses
pub first_of-append-some : (ss ts : List Test) → ((first_of ss).number ≡ 0 → ⊥) → first_of (ss ++ ts) ≡ first_of ss
unfolding first_of
first_of-append-some [] ts e = absurd (e refl)
first_of-append-some (s ∷ ss) ts e = go s.applies refl (first_of-append-some ss ts)
  where
    go : (b : Bool) → s.applies ≡ b → (((first_of ss).number ≡ 0 → ⊥) → first_of (ss ++ ts) ≡ first_of ss) → first_of (s ∷ (ss ++ ts)) ≡ first_of (s ∷ ss)
    go true q f = first_of_here s (ss ++ ts) q ∙ sym (first_of_here s ss q)
    go false q f = first_of_skip s (ss ++ ts) q ∙ f (λ z. e (rw (first_of_skip s ss q) z)) ∙ sym (first_of_skip s ss q)

-- two second lists that give the same where the first refuses nothing
pub first_of-append_cong : (ss ts us : List Test) → numbered ss ≡ true → ((first_of ss).number ≡ 0 → first_of ts ≡ first_of us) → first_of (ss ++ ts) ≡ first_of (ss ++ us)
first_of-append_cong ss ts us n same = go (first_of ss).number refl
  where
    go : (x : ℕ) → (first_of ss).number ≡ x → first_of (ss ++ ts) ≡ first_of (ss ++ us)
    go zero q = first_of-append-none ss ts n q ∙ same q ∙ sym (first_of-append-none ss us n q)
    go (suc x) q =
        let d : ((first_of ss).number ≡ 0 → ⊥) = λ z. omega arith in
        first_of-append-some ss ts d ∙ sym (first_of-append-some ss us d)

-- both lists refuse nothing where together they refuse nothing
pub first_of-append_clear : (ss ts : List Test) → numbered ss ≡ true → (first_of (ss ++ ts)).number ≡ 0 → ((first_of ss).number ≡ 0) × ((first_of ts).number ≡ 0)
first_of-append_clear [] ts n e = (ap (λ (r : Refusal). r.number) first_of_end, e)
first_of-append_clear (s ∷ ss) ts n e =
    let p = parts s ss n in
    let h = first_of_clear s (ss ++ ts) p.0 e in
    let i = first_of-append_clear ss ts p.1 h.1 in
    (ap (λ (r : Refusal). r.number) (first_of_skip s ss h.0) ∙ i.0, i.1)

-- and no test of both has the number of a success where none of either has
pub numbered-append : (ss ts : List Test) → numbered ss ≡ true → numbered ts ≡ true → numbered (ss ++ ts) ≡ true
numbered-append [] ts m n = n
numbered-append (s ∷ ss) ts m n =
    let h = every_cons (λ (t : Test). ltb 0 t.number) s ss m in
    ap₂ (λ (a b : Bool). cond a b false) h.0 (numbered-append ss ts h.1 n)

-- ---- numbers that no test gives

-- no test with the number n applies: of tests with literal numbers, by refl
abbrev pub never : ℕ → List Test → Bool
never n ts = every (λ t. cond (eqb t.number n) (not t.applies) true) ts

pub first_of_never : (n : ℕ) → 0 < n → (ts : List Test) → never n ts ≡ true → (first_of ts).number ≡ n → ⊥
first_of_never n some [] w e = let z : (first_of []).number ≡ 0 = ap (λ (r : Refusal). r.number) first_of_end in omega arith
first_of_never n some (t ∷ ts) w e =
    let h = every_cons (λ (t : Test). cond (eqb t.number n) (not t.applies) true) t ts w in
    go t.applies refl h.0 (first_of_never n some ts h.1)
  where
    go : (b : Bool) → t.applies ≡ b → cond (eqb t.number n) (not t.applies) true ≡ true → ((first_of ts).number ≡ n → ⊥) → ⊥
    go true q h f =
        let own : t.number ≡ n = sym (ap (λ (r : Refusal). r.number) (first_of_here t ts q)) ∙ e in
        false≢true (sym (ap₂ (λ (a b : Bool). cond a (not b) true) (eq-eqb t.number n own) q) ∙ h)
    go false q h f = f (sym (ap (λ (r : Refusal). r.number) (first_of_skip t ts q)) ∙ e)

pub never_append : (n : ℕ) (ss ts : List Test) → never n ss ≡ true → never n ts ≡ true → never n (ss ++ ts) ≡ true
never_append n [] ts a b = b
never_append n (s ∷ ss) ts a b =
    let h = every_cons (λ (t : Test). cond (eqb t.number n) (not t.applies) true) s ss a in
    ap₂ (λ (x y : Bool). cond x y false) h.0 (never_append n ss ts h.1 b)

-- ---- numbers that tests give

-- every test's number is one of a list: of tests with literal numbers, by refl
abbrev pub is_one : ℕ → List ℕ → Bool
is_one n [] = false
is_one n (m ∷ l) = cond (eqb n m) true (is_one n l)

abbrev pub numbered_by : List ℕ → List Test → Bool
numbered_by ns ts = every (λ t. is_one t.number ns) ts

one_among : (n : ℕ) (l : List ℕ) → is_one n l ≡ true → Among n l
unfolding Among
one_among n [] e = absurd (false≢true e)
one_among n (m ∷ l) e = go (eqb n m) refl e (one_among n l)
  where
    go : (b : Bool) → eqb n m ≡ b → cond b true (is_one n l) ≡ true → (is_one n l ≡ true → Among n l) → (n ≡ m) ⊎ Among n l
    go true q h f = inl (eqb-true n m q)
    go false q h f = inr (f h)

pub first_of_among : (ns : List ℕ) (ts : List Test) → numbered_by ns ts ≡ true → Among (first_of ts).number (0 ∷ ns)
unfolding Among
first_of_among ns [] w = inl (ap (λ (r : Refusal). r.number) first_of_end)
first_of_among ns (t ∷ ts) w =
    let h = every_cons (λ (t : Test). is_one t.number ns) t ts w in
    go t.applies refl (one_among t.number ns h.0) (first_of_among ns ts h.1)
  where
    go : (b : Bool) → t.applies ≡ b → Among t.number ns → Among (first_of ts).number (0 ∷ ns) → Among (first_of (t ∷ ts)).number (0 ∷ ns)
    go true q h f = inr (subst (λ (n : ℕ). Among n ns) (sym (ap (λ (r : Refusal). r.number) (first_of_here t ts q))) h)
    go false q h f = subst (λ (n : ℕ). Among n (0 ∷ ns)) (sym (ap (λ (r : Refusal). r.number) (first_of_skip t ts q))) f

-- ---- places

-- a test whose place is d further on
abbrev pub further : ℕ → Test → Test
further d t = test t.applies t.number (t.place + d)

pub further_append : (d : ℕ) {xs ys : List Test} (ss ts : List Test) → xs ≡ map (further d) ss → ys ≡ map (further d) ts → xs ++ ys ≡ map (further d) (ss ++ ts)
further_append d ss ts e f = ap₂ (λ (x y : List Test). x ++ y) e f ∙ sym (map-append (further d) ss ts)

pub further_none : (ts : List Test) → map (further 0) ts ≡ ts
further_none [] = refl
further_none (t ∷ ts) = ap₂ (λ (p : ℕ) (l : List Test). test t.applies t.number p ∷ l) (add-zero t.place) (further_none ts)

-- the same number, and of a refusal a place d further on
abbrev pub Further : ℕ → Refusal → Refusal → Type 0
Further d f g = (g.number ≡ f.number) × ((f.number ≡ 0 → ⊥) → g ≡ refusal f.number (f.place + d))

pub first_of_further : (d : ℕ) (ts : List Test) → Further d (first_of ts) (first_of (map (further d) ts))
unfolding first_of
first_of_further d [] = (refl, λ z. absurd (z refl))
first_of_further d (t ∷ ts) = go t.applies (first_of_further d ts)
  where
    go : (b : Bool) → Further d (first_of ts) (first_of (map (further d) ts))
        → Further d (cond b (refusal t.number t.place) (first_of ts)) (cond b (refusal t.number (t.place + d)) (first_of (map (further d) ts)))
    go true h = (refl, λ z. refl)
    go false h = h
