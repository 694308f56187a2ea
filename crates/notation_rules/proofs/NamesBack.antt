-- Laws of what specs/NamesBack.antt defines.
use Rattle.std.specs.Prelude.{ℕ, zero, suc, ◌+◌, ◌%◌, ◌≤◌, ◌<◌, ◌≡◌, refl, Bool, true, false, ◌&&◌, ◌||◌, List, [], ◌∷◌, length, eqb, leb, ltb, T, ℤ, pos, negsuc}
use Rattle.std.proofs.Common.{arith, sym, ap, ◌∙◌, subst, le→leb, eqb→eq}
use Rattle.std.proofs.Math.Option.{Option, none, some}
use Rattle.std.proofs.Math.Dec.{eqb_refl}
use Rattle.rules.specs.Forms.{Pattern, wildcard, variable, constant, value, nil, cons, join, tuple, both, either, never, Patterns, no_patterns, ◌▸ᵖ◌}
use Rattle.rules.specs.Numbers.{in_range}
use Rattle.notation_rules.specs.Tokens.{bound_twice, over_limit, Sign, consing, joining, anding, oring, underscore, hash, bang, plus, minus, comma, opening, closing, left, right}
use Rattle.notation_rules.specs.Tokens.{Raw, Token, mark, sign, binds, uses, number, wrong}
use Rattle.notation_rules.specs.Letters.{is_letter, same_word}
use Rattle.notation_rules.specs.LettersBack.{Lettered, Spelled, SpelledAll}
use Rattle.notation_rules.specs.Names.{find, bound_in, missing, resolve, called, call, calls}
use Rattle.notation_rules.specs.Patterns as P
use Rattle.notation_rules.specs.PatternsBack.{Fine, FineAll, test}
use Rattle.notation_rules.specs.NamesBack.{Event, Goes, Good, Numbered, event, events, events_all, events_of, good_mark, good_number, names, range_neg, range_pos}

names_length : (n : ℕ) → length (names n) ≡ n
unfolding names
names_length zero = refl
names_length (suc n) = ap suc (names_length n)

letter_of : (v : ℕ) → Lettered (called (pos v))
unfolding Lettered called is_letter
letter_of v = go (leb 97 (97 + (v + 23) % 26)) (leb (97 + (v + 23) % 26) 122) (leb 65 (97 + (v + 23) % 26) && leb (97 + (v + 23) % 26) 90) (le→leb 97 (97 + (v + 23) % 26) (omega arith)) (le→leb (97 + (v + 23) % 26) 122 (omega arith))
  where
    go : (a b c : Bool) → T a → T b → T (a && b || c)
    go true true c h i = tt
    go true false c h i = absurd i
    go false b c h i = absurd h

-- Two of the sixteen names are the same letter where their numbers are equal.
apart : (u v : ℕ) → u < 16 → v < 16 → same_word (called (pos u)) (called (pos v)) ≡ eqb u v
unfolding same_word called
apart u v h i = go (eqb (97 + (u + 23) % 26) (97 + (v + 23) % 26)) (eqb u v) (eqb→eq (97 + (u + 23) % 26) (97 + (v + 23) % 26)) (eqb→eq u v)
    (λ e. subst (λ m. T (eqb (97 + (u + 23) % 26) (97 + (m + 23) % 26))) e (eqb_refl (97 + (u + 23) % 26)))
    (λ e. subst (λ m. T (eqb u m)) e (eqb_refl u))
  where
    go : (a b : Bool) → (T a → 97 + (u + 23) % 26 ≡ 97 + (v + 23) % 26) → (T b → u ≡ v) → (u ≡ v → T a) → (u ≡ v → T b) → true && a ≡ b
    go true true f g k l = refl
    go false false f g k l = refl
    go true false f g k l = let e = f tt in absurd (l (omega arith))
    go false true f g k l = absurd (k (g tt))

find_old : (n v : ℕ) → v < n → n ≤ 16 → find (called (pos v)) (names n) ≡ some v
unfolding find names
find_old zero v h l = absurd (omega arith)
find_old (suc n) v h l = ap (λ b. elim b as (λ _. Option ℕ) [ true ↦ some (length (names n)) | false ↦ find (called (pos v)) (names n) ]) (apart n v (omega arith) (omega arith))
    ∙ go (eqb n v) (eqb→eq n v) (λ e. subst (λ m. T (eqb n m)) e (eqb_refl n)) (λ k. find_old n v k (omega arith))
  where
    go : (b : Bool) → (T b → n ≡ v) → (n ≡ v → T b) → (v < n → find (called (pos v)) (names n) ≡ some v)
        → ◌≡◌ {A = Option ℕ} (elim b as (λ _. Option ℕ) [ true ↦ some (length (names n)) | false ↦ find (called (pos v)) (names n) ]) (some v)
    go true f g i = ap some (names_length n ∙ f tt)
    go false f g i = i (omega arith)

find_new : (n m : ℕ) → n ≤ m → m < 16 → find (called (pos m)) (names n) ≡ none
unfolding find names
find_new zero m h l = refl
find_new (suc n) m h l = ap (λ b. elim b as (λ _. Option ℕ) [ true ↦ some (length (names n)) | false ↦ find (called (pos m)) (names n) ]) (apart n m (omega arith) l)
    ∙ go (eqb n m) (eqb→eq n m) (find_new n m (omega arith) l)
  where
    go : (b : Bool) → (T b → n ≡ m) → find (called (pos m)) (names n) ≡ none
        → ◌≡◌ {A = Option ℕ} (elim b as (λ _. Option ℕ) [ true ↦ some (length (names n)) | false ↦ find (called (pos m)) (names n) ]) none
    go true f i = let e = f tt in absurd (omega arith)
    go false f i = i

good_sign : (s : Sign) (n : ℕ) (ts : List Token) → Good n ts → Good n (sign s ∷ ts)
unfolding Good resolve calls call SpelledAll Spelled
good_sign s n ts g = (g.0, (tt, g.1), ap (λ us. sign s ∷ us) g.2)

good_use : (v n : ℕ) (ts : List Token) → v < n → Good n ts → Good n (uses (pos v) ∷ ts)
unfolding Good resolve calls call SpelledAll Spelled
good_use v n ts h g = (
  g.0,
  (letter_of v, g.1),
  ap (λ o. elim o as (λ _. List Token) [ none ↦ wrong (missing (bound_in (called (pos v)) (calls ts))) ∷ resolve (names n) (calls ts) | some u ↦ uses (pos u) ∷ resolve (names n) (calls ts) ]) (find_old n v h g.0)
      ∙ ap (λ us. uses (pos v) ∷ us) g.2,
)

good_bind : (n : ℕ) (ts : List Token) → n < 16 → Good (suc n) ts → Good n (binds (pos n) ∷ ts)
unfolding Good resolve calls call SpelledAll Spelled names
good_bind n ts h g = (
  omega arith,
  (letter_of n, g.1),
  ap (λ o. elim o as (λ _. List Token) [
    | none ↦ elim (ltb (length (names n)) 16) as (λ _. List Token) [ true ↦ binds (pos (length (names n))) ∷ resolve (called (pos n) ∷ names n) (calls ts) | false ↦ wrong over_limit ∷ resolve (names n) (calls ts) ]
    | some v ↦ wrong bound_twice ∷ resolve (names n) (calls ts)
  ]) (find_new n n (omega arith) h)
      ∙ ap {B = List Token} (λ k. elim (ltb k 16) as (λ _. List Token) [ true ↦ binds (pos k) ∷ resolve (called (pos n) ∷ names n) (calls ts) | false ↦ wrong over_limit ∷ resolve (names n) (calls ts) ]) (names_length n)
      ∙ test (λ us. us ≡ binds (pos n) ∷ ts) n 16 (λ l. ap (λ us. binds (pos n) ∷ us) g.2) (λ l. absurd (omega arith)),
)

good_constant : (c : ℤ) (n : ℕ) (ts : List Token) → T (in_range c) → Good n ts → Good n (P.write_constant c ts)
unfolding P.write_constant
good_constant (pos c) n ts h g = good_mark hash n _ (good_number c n ts (range_pos c h) g)
good_constant (negsuc c) n ts h g = good_mark hash n _ (good_mark minus n _ (good_number (suc c) n ts (range_neg c h) g))

good_value : (v : ℕ) (c : ℤ) (n : ℕ) (ts : List Token) → T (in_range c) → v < n → Good n ts → Good n (P.write_value (pos v) c ts)
unfolding P.write_value
good_value v (pos zero) n ts h l g = good_mark hash n _ (good_use v n ts l g)
good_value v (pos (suc c)) n ts h l g =
    good_mark hash n _ (good_mark opening n _ (good_use v n _ l (good_mark plus n _ (good_number (suc c) n _ (range_pos (suc c) h) (good_mark closing n ts g)))))
good_value v (negsuc c) n ts h l g =
    good_mark hash n _ (good_mark opening n _ (good_use v n _ l (good_mark minus n _ (good_number (suc c) n _ (range_neg c h) (good_mark closing n ts g)))))

good_wrap : (k l n : ℕ) (es : List Event) (w : List Token → List Token) (ts : List Token) → ((us : List Token) → Goes es us → Good n (w us)) → Goes es ts → Good n (P.wrap k l w ts)
unfolding P.wrap
good_wrap k l n es w ts f g = go (ltb k l)
  where
    go : (b : Bool) → Good n (elim b as (λ _. List Token) [ true ↦ mark opening ∷ w (mark closing ∷ ts) | false ↦ w ts ])
    go true = good_mark opening n _ (f _ (λ m l h. good_mark closing m ts (g m l h)))
    go false = f ts g

good_binary : (s : Sign) (n : ℕ) (p q : Pattern) (es : List Event) (v w : List Token → List Token)
    → ((us : List Token) → Goes (events q es) us → Good n (v us)) → ((m : ℕ) (us : List Token) → m ≤ 16 → Numbered m (events q es) → Goes es us → Good m (w us))
    → (us : List Token) → Goes es us → Good n (v (sign s ∷ w us))
good_binary s n p q es v w f g us k = f (sign s ∷ w us) (λ m l h. good_sign s m (w us) (g m us l h k))

mutual
  unfolding Fine FineAll events events_all Numbered P.write P.write_parts P.write_rest

  pub good : (p : Pattern) (l n : ℕ) (es : List Event) (ts : List Token) → n ≤ 16 → Fine p → Numbered n (events p es) → Goes es ts → Good n (P.write l p ts)
  good wildcard l n es ts b f h g = good_mark underscore n ts (g n b h)
  good nil l n es ts b f h g = good_mark left n _ (good_mark right n ts (g n b h))
  good (variable v) l n es ts b f h g = subst (λ u. Good n (binds u ∷ ts)) (sym h.0) (good_bind n ts h.1 (g (suc n) h.1 h.2))
  good (constant c) l n es ts b f h g = good_constant c n ts f (g n b h)
  good (value v c) l n es ts b f h g = subst (λ u. Good n (P.write_value u c ts)) (sym h.0.1) (good_value h.0.0 c n ts f h.0.2 (g n b h.1))
  good (cons p q) l n es ts b f h g = good_wrap 3 l n es (λ us. P.write 4 p (sign consing ∷ P.write 3 q us)) ts
      (good_binary consing n p q es (P.write 4 p) (P.write 3 q) (λ us k. good p 4 n (events q es) us b f.0 h k) (λ m us c i k. good q 3 m es us c f.1 i k)) g
  good (join p q) l n es ts b f h g = good_wrap 3 l n es (λ us. P.write 4 p (sign joining ∷ P.write 3 q us)) ts
      (good_binary joining n p q es (P.write 4 p) (P.write 3 q) (λ us k. good p 4 n (events q es) us b f.0 h k) (λ m us c i k. good q 3 m es us c f.1 i k)) g
  good (both p q) l n es ts b f h g = good_wrap 2 l n es (λ us. P.write 3 p (sign anding ∷ P.write 2 q us)) ts
      (good_binary anding n p q es (P.write 3 p) (P.write 2 q) (λ us k. good p 3 n (events q es) us b f.0 h k) (λ m us c i k. good q 2 m es us c f.1 i k)) g
  good (either p q) l n es ts b f h g = good_wrap 1 l n es (λ us. P.write 2 p (sign oring ∷ P.write 1 q us)) ts
      (good_binary oring n p q es (P.write 2 p) (P.write 1 q) (λ us k. good p 2 n (events q es) us b f.0 h k) (λ m us c i k. good q 1 m es us c f.1 i k)) g
  good (never p) l n es ts b f h g = good_wrap 4 l n es (λ us. mark bang ∷ P.write 4 p us) ts (λ us k. good_mark bang n _ (good p 4 n es us b f h k)) g
  good (tuple ps) l n es ts b f h g = good_mark opening n _ (good_parts ps n es ts b f.1 h g)

  good_parts : (ps : Patterns) (n : ℕ) (es : List Event) (ts : List Token) → n ≤ 16 → FineAll ps → Numbered n (events_all ps es) → Goes es ts → Good n (P.write_parts ps ts)
  good_parts no_patterns n es ts b f h g = good_mark closing n ts (g n b h)
  good_parts (p ▸ᵖ ps) n es ts b f h g = good p 1 n (events_all ps es) _ b f.0 h (λ m c i. good_rest ps m es ts c f.1 i g)

  good_rest : (ps : Patterns) (n : ℕ) (es : List Event) (ts : List Token) → n ≤ 16 → FineAll ps → Numbered n (events_all ps es) → Goes es ts → Good n (P.write_rest ps ts)
  good_rest no_patterns n es ts b f h g = good_mark closing n ts (g n b h)
  good_rest (p ▸ᵖ ps) n es ts b f h g = good_mark comma n _ (good p 1 n (events_all ps es) _ b f.0 h (λ m c i. good_rest ps m es ts c f.1 i g))

-- A name that is found has a number below how many there are.
Below : ℕ → Option ℕ → Type 0
Below n none = T true
Below n (some v) = v < n

find_below : (w : List ℕ) (es : List (List ℕ)) → Below (length es) (find w es)
unfolding find Below
find_below w [] = tt
find_below w (e ∷ es) = go (same_word e w) (find w es) (find_below w es)
  where
    go : (b : Bool) (o : Option ℕ) → Below (length es) o → Below (suc (length es)) (elim b as (λ _. Option ℕ) [ true ↦ some (length es) | false ↦ o ])
    go true o h = omega arith
    go false none h = tt
    go false (some v) h = omega arith

pub resolve_numbered : (es : List (List ℕ)) (rs : List Raw) → Numbered (length es) (events_of (resolve es rs))
unfolding resolve event events_of Numbered Below
resolve_numbered es [] = tt
resolve_numbered es (mark m ∷ rs) = resolve_numbered es rs
resolve_numbered es (sign s ∷ rs) = resolve_numbered es rs
resolve_numbered es (binds w ∷ rs) = go (find w es) (λ us. resolve_numbered us rs)
  where
    go : (o : Option ℕ) → ((us : List (List ℕ)) → Numbered (length us) (events_of (resolve us rs)))
        → Numbered (length es) (events_of (elim o as (λ _. List Token) [
          | none ↦ elim (ltb (length es) 16) as (λ _. List Token) [ true ↦ binds (pos (length es)) ∷ resolve (w ∷ es) rs | false ↦ wrong over_limit ∷ resolve es rs ]
          | some v ↦ wrong bound_twice ∷ resolve es rs
        ]))
    go none i = test (λ us. Numbered (length es) (events_of us)) (length es) 16 (λ l. (refl, l, i (w ∷ es))) (λ l. tt)
    go (some v) i = tt
resolve_numbered es (uses w ∷ rs) = go (find w es) (find_below w es) (resolve_numbered es rs)
  where
    go : (o : Option ℕ) → Below (length es) o → Numbered (length es) (events_of (resolve es rs))
        → Numbered (length es) (events_of (elim o as (λ _. List Token) [ none ↦ wrong (missing (bound_in w rs)) ∷ resolve es rs | some v ↦ uses (pos v) ∷ resolve es rs ]))
    go none b i = tt
    go (some v) b i = ((v, refl, b), i)
resolve_numbered es (number n ∷ rs) = resolve_numbered es rs
resolve_numbered es (wrong c ∷ rs) = tt
