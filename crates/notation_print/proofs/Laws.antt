-- Printing, as the code asks. Assumes nothing.
use Rattle.std.proofs.Common.{◌≡◌, ℕ, zero, suc, ◌+◌, ◌/◌, ◌%◌, ◌<◌, ◌≤◌, Bool, true, false, List, [], ◌∷◌, ◌++◌, map, length, get_or, drop, drop-cons, drop_of_length-le, add-one, refl, sym, ap, ◌∙◌, arith, lt-ltb, le-ltb, ltb, Bor}
use Rattle.std.proofs.lemmas.List.{get_or-map, length-map}
use borrow.Author.Tests.{ltb-false}
use Rattle.notation_rules.specs.Letters.{last_digits, decimal}
use Rattle.notation_print.specs.Pages.{Page, letter, letters}
use Rattle.notation_print.specs.Inks.{marks, mark_of}

-- ---- Marks.
pub mark_at : (xs : List (Bor (List ℕ))) (kind : ℕ) (d : Bor (List ℕ)) → map (λ (x : Bor (List ℕ)). x.now) xs ≡ marks → (get_or xs (kind % 21) d).now ≡ mark_of kind
unfolding mark_of
mark_at xs kind d e =
    let l : length xs ≡ 21 = sym (length-map xs (λ (x : Bor (List ℕ)). x.now)) ∙ ap length e in
    sym (get_or-map (λ (x : Bor (List ℕ)). x.now) xs (kind % 21) d [] (omega arith)) ∙ ap (λ m. get_or m (kind % 21) []) e

-- ---- Several characters.
pub letters_append : (p : Page) (cs ds : List ℕ) → letters p (cs ++ ds) ≡ letters (letters p cs) ds
unfolding letters
letters_append p [] ds = refl
letters_append p (c ∷ cs) ds = letters_append (letter p c) cs ds

-- ---- Digits.
-- Those of a slice from index i on.
pub written_next : (p q r : Page) (cs : List ℕ) (i : ℕ) → letters p (drop i cs) ≡ r → i < length cs → q ≡ letters p (get_or cs i 0 ∷ []) → letters q (drop (i + 1) cs) ≡ r
unfolding letters
written_next p q r cs i e h f = rw (f, add-one i) (sym (ap (letters p) (drop-cons cs i 0 h)) ∙ e)

pub written_all : (p r : Page) (cs : List ℕ) (i : ℕ) → letters p (drop i cs) ≡ r → length cs ≤ i → p ≡ r
unfolding letters
written_all p r cs i e h = sym (ap (letters p) (drop_of_length-le cs {i = i} h)) ∙ e

-- ---- Digits.
digits_enough : (k j n : ℕ) (cs : List ℕ) → n ≤ k → n ≤ j → last_digits k n cs ≡ last_digits j n cs
unfolding last_digits
digits_enough zero zero n cs h i = refl
digits_enough zero (suc j) n cs h i = sym (ap (λ b. elim b as (λ _. List ℕ) [ true ↦ (48 + n) ∷ cs | false ↦ last_digits j (n / 10) ((48 + n % 10) ∷ cs) ]) (lt-ltb n 10 (omega arith)))
digits_enough (suc k) zero n cs h i = ap (λ b. elim b as (λ _. List ℕ) [ true ↦ (48 + n) ∷ cs | false ↦ last_digits k (n / 10) ((48 + n % 10) ∷ cs) ]) (lt-ltb n 10 (omega arith))
digits_enough (suc k) (suc j) n cs h i = go (ltb n 10) refl (λ g. digits_enough k j (n / 10) ((48 + n % 10) ∷ cs) (omega arith) (omega arith))
  where
    go : (b : Bool) → ltb n 10 ≡ b → (10 ≤ n → last_digits k (n / 10) ((48 + n % 10) ∷ cs) ≡ last_digits j (n / 10) ((48 + n % 10) ∷ cs))
        → ◌≡◌ {A = List ℕ} (elim b as (λ _. List ℕ) [ true ↦ (48 + n) ∷ cs | false ↦ last_digits k (n / 10) ((48 + n % 10) ∷ cs) ])
        (elim b as (λ _. List ℕ) [ true ↦ (48 + n) ∷ cs | false ↦ last_digits j (n / 10) ((48 + n % 10) ∷ cs) ])
    go true e f = refl
    go false e f = f (ltb-false n 10 e)

digits_behind : (k n : ℕ) (cs ds : List ℕ) → last_digits k n (cs ++ ds) ≡ last_digits k n cs ++ ds
unfolding last_digits
digits_behind zero n cs ds = refl
digits_behind (suc k) n cs ds = go (ltb n 10) (digits_behind k (n / 10) ((48 + n % 10) ∷ cs) ds)
  where
    go : (b : Bool) → last_digits k (n / 10) ((48 + n % 10) ∷ (cs ++ ds)) ≡ last_digits k (n / 10) ((48 + n % 10) ∷ cs) ++ ds
        → ◌≡◌ {A = List ℕ} (elim b as (λ _. List ℕ) [ true ↦ (48 + n) ∷ (cs ++ ds) | false ↦ last_digits k (n / 10) ((48 + n % 10) ∷ (cs ++ ds)) ])
        ((elim b as (λ _. List ℕ) [ true ↦ (48 + n) ∷ cs | false ↦ last_digits k (n / 10) ((48 + n % 10) ∷ cs) ]) ++ ds)
    go true e = refl
    go false e = e

decimal_one : (n : ℕ) → n < 10 → decimal n [] ≡ (48 + n) ∷ []
unfolding decimal last_digits
decimal_one zero h = refl
decimal_one (suc n) h = ap (λ b. elim b as (λ _. List ℕ) [ true ↦ (48 + suc n) ∷ [] | false ↦ last_digits n (suc n / 10) ((48 + suc n % 10) ∷ []) ]) (lt-ltb (suc n) 10 h)

decimal_more : (n : ℕ) → 10 ≤ n → decimal n [] ≡ decimal (n / 10) [] ++ ((48 + n % 10) ∷ [])
unfolding decimal last_digits
decimal_more zero h = absurd (omega arith)
decimal_more (suc n) h =
    ap (λ b. elim b as (λ _. List ℕ) [ true ↦ (48 + suc n) ∷ [] | false ↦ last_digits n (suc n / 10) ((48 + suc n % 10) ∷ []) ]) (le-ltb (suc n) 10 h)
    ∙ digits_enough n (suc n / 10) (suc n / 10) ((48 + suc n % 10) ∷ []) (omega arith) (omega arith)
    ∙ digits_behind (suc n / 10) (suc n / 10) [] ((48 + suc n % 10) ∷ [])

pub digits_one : (p : Page) (n : ℕ) → n < 10 → letters p ((48 + n) ∷ []) ≡ letters p (decimal n [])
digits_one p n h = rw (decimal_one n h)

pub digits_more : (p : Page) (n : ℕ) → 10 ≤ n → letters (letters p (decimal (n / 10) [])) ((48 + n % 10) ∷ []) ≡ letters p (decimal n [])
digits_more p n h = rw (decimal_more n h, letters_append p (decimal (n / 10) []) ((48 + n % 10) ∷ []))

pub ruleset digits_rules = (digits_one, digits_more)
