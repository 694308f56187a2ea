-- Test 5 as the code asks it: each premise is a fact that a place of the code has at hand. Assumes nothing.
use mathlib.Core.Path.{◌≡◌, refl, sym, ap, ◌∙◌}
use mathlib.Core.Bool.{Bool, true, false, not, cond}
use mathlib.Core.List.{List, [], ◌∷◌}
use Prim.Native.Nat.{ℕ, suc, ◌+◌, ◌-◌, ◌^◌, ◌<◌, ◌≤◌}
use native.Mathlib.Omega.{arith}
use borrow.Author.Rules.{rules}
use borrow.Author.Tests.{lt-leb, le-leb, lt-ltb, le-ltb, eqb-true, ltb-true, leb-true, not-true, not-false}
use mir.Syntax.{w64}
use mir.Val.{Fits}
use lib.Dec.{eqb, leb, ltb}
use lib.ListN.{length, drop, length-drop}
use lib.IntN.{ℤ}
use Rattle.rules.specs.Forms.{Value}
use Rattle.rules.specs.Reading.{Verdict, ok, fault, ◌then◌, Got, ended, whole, limited, target, read_target}
use Rattle.rules.specs.Causes.{cause_number, over_length, left_over, well, value, cause_of}
use Rattle.rules.specs.Causes.{told as looked}
use Rattle.forms.proofs.Together.{value_well}
use Rattle.words.specs.Words.{tag_at}
use Rattle.words.proofs.Signed as signed
use Rattle.test_forms.specs.Ends.{within}
use Rattle.test_target.specs.Targets.{cause_at, count_cause, count_fits, fault_at, found, plain_at, valued, valued_from, further, in_line, whole_value, Numbers, numbers_of, told}
use Rattle.test_target.specs.declared.Fault.{Fault}
use Rattle.std.specs.Prelude.{Result, Ok, Err}
use Rattle.test_forms.proofs.Rows.{Along}
use Rattle.test_forms.proofs.Turns.{width_most, next_two, depth_pos, depth_less}
use Rattle.test_target.proofs.Values.{target_along, other, integer, deep, wrong}
use Rattle.test_target.proofs.Looks.{other_cause, integer_cut, deep_cause, count_cause_lem, bad, valued_bad, valued_end, valued_row}

-- ---- A count.

module _ (t n : ℕ) where
  pub count_most : count_fits t n ≡ true → n ≤ 64
  unfolding count_fits
  count_most = go (eqb t 1)
    where
      go : (b : Bool) → cond b (leb n 64) (within 2 n 4) ≡ true → n ≤ 64
      go true h = leb-true n 64 h
      go false h = let l = (width_most n h).1 in omega arith

-- ---- An integer that stands whole.

pub plain_words_lem : (s : List ℤ) (at : ℕ) → plain_at s at ≡ true → (tag_at s at ≡ 0) × (at + 1 < length s)
unfolding plain_at
plain_words_lem s at = go (eqb (tag_at s at) 0) refl (ltb (at + 1) (length s)) refl
  where
    go : (b : Bool) → eqb (tag_at s at) 0 ≡ b → (c : Bool) → ltb (at + 1) (length s) ≡ c → cond b c false ≡ true → (tag_at s at ≡ 0) × (at + 1 < length s)
    go true p true q h = (eqb-true (tag_at s at) 0 p, ltb-true (at + 1) (length s) q)
    go true p false q h = let z : ◌≡◌ {A = ℕ} 0 1 = cc in absurd (omega arith)
    go false p c q h = let z : ◌≡◌ {A = ℕ} 0 1 = cc in absurd (omega arith)

pub plain_next_2 : (s : List ℤ) (e : ℕ) (b : Bool) → b ≡ plain_at s e → b ≡ true → length s < 2 ^ 64 → Fits w64 (e + 2)
plain_next_2 s e b q w l = let x = (plain_words_lem s e (sym q ∙ w)).1 in record { fits = omega arith }

-- ---- Returns before the elements.

module _ (s : List ℤ) (at t d : ℕ) (e : t ≡ tag_at s at) where
  pub ret_other : 2 < t → (f : Fault) → numbers_of f ≡ fault_at s at 2 → Err (numbers_of f) ≡ valued_from s d at
  unfolding fault_at
  ret_other h f q = ap Err q ∙ sym (valued_bad s d at at (cause_at s at 2) (other s at t e d h) (other_cause s at t e d h))

  pub ret_integer : t ≡ 0 → at + 1 < length s → Ok (at + 2) ≡ valued_from s d at
  ret_integer h l = sym (valued_end s d at (at + 2) (integer s at t e d h ∙ rw (lt-ltb (at + 1) (length s) l)))

  pub ret_cut : t ≡ 0 → length s ≤ at + 1 → bad (at + 1) 5 ≡ valued_from s d at
  unfolding looked cause_number
  ret_cut h l = sym (valued_bad s d at (at + 1) 5 (integer s at t e d h ∙ rw (le-ltb (at + 1) (length s) l)) (ap looked (integer_cut s at t e d h l)))

  module _ (a : t ≤ 2) (b : t ≡ 0 → ⊥) where
    pub ret_deep : d ≡ 0 → bad at 4 ≡ valued_from s d at
    unfolding looked cause_number
    ret_deep z = sym (valued_bad s d at at 4 (deep s at t e d z (omega arith)) (ap looked (deep_cause s at t e d z (omega arith) a)))

    module _ (z : d ≡ 0 → ⊥) (n : ℕ) (q : n ≡ tag_at s (at + 1)) (c : Bool) (w : c ≡ count_fits t n) where
      pub ret_many : not c ≡ true → (u : ℕ) → u ≡ count_cause t → (f : Fault) → numbers_of f ≡ fault_at s (at + 1) u → Err (numbers_of f) ≡ valued_from s d at
      unfolding fault_at
      ret_many h u x f y =
          let k = sym w ∙ not-true c h in
          ap Err (rw x at y) ∙ sym (valued_bad s d at (at + 1) (cause_at s (at + 1) (count_cause t)) (wrong s at t e n q (omega arith) a d z k) (count_cause_lem s at t e n q d z (omega arith) a k))

      pub loop_in : not c ≡ false → valued_from s d at ≡ in_line (valued_from s (d - 1)) n (at + 2)
      loop_in h = valued_row s at t e n q (omega arith) a d z (sym w ∙ not-false c h)

-- ---- The elements: v is what those that are left are to give.

module _ (s : List ℤ) (d n i e : ℕ) (v : Result ℕ Numbers) (h : v ≡ in_line (valued_from s d) (n - i) e) where
  pub loop_out : n ≤ i → Ok e ≡ v
  unfolding in_line
  loop_out l = let z : n - i ≡ 0 = omega arith in sym (h ∙ rw z)

  module _ (l : i < n) where
    on : v ≡ further (valued_from s d e) (in_line (valued_from s d) (n - (i + 1)))
    unfolding in_line
    on = h ∙ (let z : n - i ≡ suc (n - (i + 1)) = omega arith in rw z)

    pub loop_turn : (r : Result ℕ Fault) → told r ≡ valued_from s d e → (x : ℕ) → r ≡ Ok x → v ≡ in_line (valued_from s d) (n - (i + 1)) x
    unfolding further
    loop_turn r q x w = on ∙ rw (← q, w)

    pub loop_plain : (b : Bool) → b ≡ plain_at s e → b ≡ true → v ≡ in_line (valued_from s d) (n - (i + 1)) (e + 2)
    loop_plain b q w = let x = plain_words_lem s e (sym q ∙ w) in loop_turn (Ok (e + 2)) (ret_integer s e (tag_at s e) d refl x.0 x.1) (e + 2) refl

    pub loop_bad : (r : Result ℕ Fault) → told r ≡ valued_from s d e → (f : Fault) → r ≡ Err f → Err (numbers_of f) ≡ v
    unfolding further
    loop_bad r q f w = sym (on ∙ rw (← q, w))

-- ---- Bounds.

pub next_1 : (s : List ℤ) (at t : ℕ) → t ≡ tag_at s at → t ≤ 2 → length s < 2 ^ 64 → Fits w64 (at + 1)
next_1 s at t e h l = let x = signed.within s at t e (omega arith) in record { fits = omega arith }

pub next_2 : (s : List ℤ) (at n t : ℕ) → n ≡ tag_at s (at + 1) → (c : Bool) → c ≡ count_fits t n → not c ≡ false → length s < 2 ^ 64 → Fits w64 (at + 2)
next_2 s at n t e c w h l = let k = count_most t n (sym w ∙ not-false c h) in next_two s at n e (omega arith) l

pub ruleset own_rules = (ret_other, ret_integer, ret_cut, ret_deep, ret_many, loop_in, loop_out, loop_turn, loop_plain, loop_bad, next_1, next_2, plain_next_2, depth_pos, depth_less, rules)

-- ---- The whole test.

read : (s : List ℤ) → Bool → Result (Unit {0}) Numbers
read s b = found (elim b as (λ _. Verdict Value) [ true ↦ whole (target 8) s | false ↦ fault 1024 ])
    (elim b as (λ _. ℕ) [ true ↦ looked (value 8 s) | false ↦ cause_number over_length ])

pub ret_long : (s : List ℤ) → 1024 < length s → Err (record { place = 1024; cause = 1 }) ≡ found (read_target s) (cause_of s)
unfolding read_target limited cause_of read found cause_number
ret_long s h = ap (read s) (sym (lt-leb (length s) 1024 h))

-- Where the value that was read, x, ends, and what stands after it.
whole_found : (s : List ℤ) (x : Verdict (Got Value)) → target 8 0 s ≡ x → whole_value s (valued x (value 8 s)) ≡ found (x then ended) (looked (value 8 s))
unfolding whole_value valued found ◌then◌ ended looked Along
whole_found s (fault i) e = refl
whole_found s (ok g) e = go g.rest (sym (target_along s 8 0 g e)) (value_well 8 0 s g e)
  where
    go : (us : List ℤ) → drop g.next s ≡ us → value 8 s ≡ well us → cond (ltb g.next (length s)) (Err (record { place = g.next; cause = cause_number left_over })) (Ok tt)
        ≡ found (elim us as (λ _. Verdict Value) [ [] ↦ ok g.it | w ∷ ws ↦ fault g.next ]) (looked (value 8 s))
    go [] p v = let l : length s ≤ g.next = omega (arith, simp length-drop at (ap length p)) in rw (le-ltb g.next (length s) l)
    go (w ∷ ws) p v = let l : g.next < length s = omega (arith, simp length-drop at (ap length p)) in rw (lt-ltb g.next (length s) l, v)

module _ (s : List ℤ) (h : length s ≤ 1024) where
  pub whole_is : (v : Result ℕ Numbers) → v ≡ valued_from s 8 0 → whole_value s v ≡ found (read_target s) (cause_of s)
  unfolding read_target limited cause_of read whole valued_from
  whole_is v q = rw q (whole_found s (target 8 0 s) refl) ∙ ap (read s) (sym (le-leb (length s) 1024 h))

  module _ (r : Result ℕ Fault) (q : told r ≡ valued_from s 8 0) where
    pub ret_left_over : (e : ℕ) → r ≡ Ok e → e < length s → Err (record { place = e; cause = 6 }) ≡ found (read_target s) (cause_of s)
    unfolding whole_value cause_number
    ret_left_over e w l = (let z = whole_is (told r) q in let z = rw (w, lt-ltb e (length s) l) at z in z)

    pub ret_all : (e : ℕ) → r ≡ Ok e → length s ≤ e → Ok tt ≡ found (read_target s) (cause_of s)
    unfolding whole_value
    ret_all e w l = (let z = whole_is (told r) q in let z = rw (w, le-ltb e (length s) l) at z in z)

    pub ret_bad : (f : Fault) → r ≡ Err f → Err (numbers_of f) ≡ found (read_target s) (cause_of s)
    unfolding whole_value
    ret_bad f w = (let z = whole_is (told r) q in let z = rw w at z in z)

pub ruleset whole_rules = (ret_long, ret_left_over, ret_all, ret_bad, rules)
