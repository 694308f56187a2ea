-- What each act of the automaton does to what waits, and to the words.
use Rattle.std.specs.Prelude.{ℕ, suc, ◌+◌, ◌/◌, ◌%◌, ◌≤◌, ◌<◌, ◌≡◌, refl, Bool, cond, eqb, T}
use Rattle.std.proofs.Common.{arith, ◌∙◌}
use Rattle.std.proofs.Math.Numerals.{add-one}
use Rattle.std.proofs.Math.Path.{sym, ap, subst}
use Rattle.std.proofs.Math.Bool.{true, false}
use mathlib.Core.List.{List, [], ◌∷◌, ◌++◌, append_assoc}
use Rattle.std.proofs.Math.ListN.{length, length-append}
use Rattle.std.proofs.Math.IntN.{ℤ}
use mir.Syntax.{w32}
use mir.Val.{to_z}
use Rattle.notation_step.specs.Stepped.{inserted, Puts, puts, putting_some, bits_of, Pile, piled, pushed, start_of, View, view, next_place, tag_bits, mode_bits, tag_word, appended, signing}
use Rattle.notation_step.specs.declared.Stand.{Stand}
use Rattle.notation_step.specs.declared.Waiting.{Waiting}
use Rattle.notation_grammar.specs.Over.{over, put_between, put_behind, nothing_behind}
use Rattle.notation_grammar.specs.Waits.{Wait, wait, under, Held, held_more, held_taller, taller, taller_size}

-- Where the code stands, by the words so far.
abbrev pub stood : (place m p top start : ℕ) → List ℤ → Stand
stood place m p top start c = record { place = place; top = top; len = length c; start = start; matcher = m; pattern = p; cause = 0 }

-- The same, by what waits and the words of what was read last.
abbrev pub standing : (place m p : ℕ) → List ℤ → List Wait → List ℤ → (start : ℕ) → Stand
standing place m p base gs item start = stood place m p (length gs) start (under base gs ++ item)

-- A view of the code: at a place, over the words before, with what waits and with the words of what was read last, whose start is known where there is one.
pub record At (is : List ℤ) (n place m p : ℕ) (base : List ℤ) (gs : List Wait) (item : List ℤ) (begun : Bool) (v : View) : Type 0 where
  pub stack : List Waiting
  pub start : ℕ
  pub same : v ≡ view (standing place m p base gs item start) stack (over (under base gs ++ item) is)
  pub size : length stack ≡ 16384
  pub deep : length gs ≤ n
  pub held : Held n stack base gs
  pub starts : T begun → start ≡ length (under base gs)

module _ (is : List ℤ) (m p : ℕ) where
  -- From the words themselves.
  pub at : {n : ℕ} (place start : ℕ) (stack : List Waiting) (c base : List ℤ) (gs : List Wait) (item : List ℤ) (b : Bool) → c ≡ under base gs ++ item → length stack ≡ 16384 → length gs ≤ n
      → Held n stack base gs → (T b → start ≡ length (under base gs)) → At is n place m p base gs item b (view (stood place m p (length gs) start c) stack (over c is))
  at place start stack c base gs item b e s d h t =
      record { stack = stack; start = start; same = ap (λ x. view (stood place m p (length gs) start x) stack (over x is)) e; size = s; deep = d; held = h; starts = t }

-- ---- Words behind the others.
abbrev pub one : (some u : ℕ) → List ℤ
one some u = cond (eqb some 0) [] (to_z w32 u ∷ [])

putting : (c is : List ℤ) (some u : ℕ) → putting_some (over c is) (length c) some u ≡ puts (over (c ++ one some u) is) (length (c ++ one some u))
unfolding putting_some
putting c is some u = go (eqb some 0)
  where
    go : (t : Bool) → cond t (puts (over c is) (length c)) (puts (inserted (over c is) (length c) (length c) (to_z w32 u)) (length c + 1))
        ≡ puts (over (c ++ cond t [] (to_z w32 u ∷ [])) is) (length (c ++ cond t [] (to_z w32 u ∷ [])))
    go true = ap (λ x. puts (over x is) (length x)) (sym (nothing_behind c))
    go false = let e : length c + 1 ≡ length (c ++ (to_z w32 u ∷ [])) = omega (arith, length-append c (to_z w32 u ∷ [])) in
        ap (λ x. puts x (length c + 1)) (put_behind c is (to_z w32 u)) ∙ ap (puts (over (c ++ (to_z w32 u ∷ [])) is)) e

unfoldable pub new : (a value : ℕ) → List ℤ
unfolding bits_of
new a value = one (tag_bits a) (tag_word a) ++ (one (mode_bits a) (bits_of (mode_bits a) value) ++ one (a / 16384 % 2) 0)

module _ (stack : List Waiting) (c is : List ℤ) (place m p top start a value : ℕ) where
  appended_is : appended stack (over c is) (stood place m p top start c) a value
      ≡ (let q : Pile = pushed stack top (a / 32768 % 16) (length c) in view (stood (next_place a) m p q.top (start_of (stood place m p top start c) (tag_bits a)) (c ++ new a value)) q.stack (over (c ++ new a value) is))
  unfolding appended view new puts
  appended_is =
      let q : Pile = pushed stack top (a / 32768 % 16) (length c) in
      let x : List ℤ = one (tag_bits a) (tag_word a) in
      let y : List ℤ = one (mode_bits a) (bits_of (mode_bits a) value) in
      let z : List ℤ = one (a / 16384 % 2) 0 in
      let f : Puts → View = λ l. record { stand = record { place = next_place a; top = q.top; len = l.len; start = start_of (stood place m p top start c) (tag_bits a); matcher = m; pattern = p; cause = 0 }; stack = q.stack; words = l.words } in
      ap (λ n. f (putting_some (putting_some n.words n.len (mode_bits a) (bits_of (mode_bits a) value)).words (putting_some n.words n.len (mode_bits a) (bits_of (mode_bits a) value)).len (a / 16384 % 2) 0)) (putting c is (tag_bits a) (tag_word a))
      ∙ ap (λ n. f (putting_some n.words n.len (a / 16384 % 2) 0)) (putting (c ++ x) is (mode_bits a) (bits_of (mode_bits a) value))
      ∙ ap f (putting ((c ++ x) ++ y) is (a / 16384 % 2) 0)
      ∙ ap (λ w. f (puts (over w is) (length w))) (append_assoc (c ++ x) y z ∙ append_assoc c x (y ++ z))

-- How tight is what an action has wait.
abbrev pub tight : ℕ → ℕ
tight some = (some % 16 + 15) % 16

-- ---- The acts, from a view with the start s of what was read last.
module _ (is : List ℤ) (n : ℕ) (more : n < 16384) (stack : List Waiting) (size : length stack ≡ 16384) (base : List ℤ) (m p place : ℕ) where
  module _ (gs : List Wait) (deep : length gs ≤ n) (held : Held n stack base gs) where
    kept : Held (suc n) stack base gs
    kept = held_more n (suc n) stack base gs (omega arith) held

    -- Nothing but the place changes.
    pub moved : (next start : ℕ) (item : List ℤ) (b : Bool) → (T b → start ≡ length (under base gs)) → At is (suc n) next m p base gs item b (view (standing next m p base gs item start) stack (over (under base gs ++ item) is))
    moved next start item b t = at is m p next start stack (under base gs ++ item) base gs item b refl size (omega arith) kept t

    -- Words that begin something.
    pub begins : (a value start : ℕ) → eqb (tag_bits a) 0 ≡ false → a / 32768 % 16 ≡ 0
        → At is (suc n) (next_place a) m p base gs (new a value) true (appended stack (over (under base gs ++ []) is) (standing place m p base gs [] start) a value)
    unfolding pushed piled start_of
    begins a value start t q =
        subst (At is (suc n) (next_place a) m p base gs (new a value) true)
        (ap (λ b. view (stood (next_place a) m p (length gs) (cond b start (length (under base gs ++ []))) ((under base gs ++ []) ++ new a value)) stack (over ((under base gs ++ []) ++ new a value) is)) (sym t)
        ∙ ap (λ x. view (stood (next_place a) m p (pushed stack (length gs) x (length (under base gs ++ []))).top (start_of (standing place m p base gs [] start) (tag_bits a)) ((under base gs ++ []) ++ new a value)) (pushed stack (length gs) x (length (under base gs ++ []))).stack (over ((under base gs ++ []) ++ new a value) is)) (sym q)
        ∙ sym (appended_is stack (under base gs ++ []) is place m p (length gs) start a value))
        (at is m p (next_place a) (length (under base gs ++ [])) stack ((under base gs ++ []) ++ new a value) base gs (new a value) true (ap (λ c. c ++ new a value) (nothing_behind (under base gs))) size (omega arith) kept (λ x. ap length (nothing_behind (under base gs))))

    -- Words that go on with what was read last.
    pub goes_on_lem : (a value start : ℕ) (item : List ℤ) → eqb (tag_bits a) 0 ≡ true → a / 32768 % 16 ≡ 0 → start ≡ length (under base gs)
        → At is (suc n) (next_place a) m p base gs (item ++ new a value) true (appended stack (over (under base gs ++ item) is) (standing place m p base gs item start) a value)
    unfolding pushed piled start_of
    goes_on_lem a value start item t q s =
        subst (At is (suc n) (next_place a) m p base gs (item ++ new a value) true)
        (ap (λ b. view (stood (next_place a) m p (length gs) (cond b start (length (under base gs ++ item))) ((under base gs ++ item) ++ new a value)) stack (over ((under base gs ++ item) ++ new a value) is)) (sym t)
        ∙ ap (λ x. view (stood (next_place a) m p (pushed stack (length gs) x (length (under base gs ++ item))).top (start_of (standing place m p base gs item start) (tag_bits a)) ((under base gs ++ item) ++ new a value)) (pushed stack (length gs) x (length (under base gs ++ item))).stack (over ((under base gs ++ item) ++ new a value) is)) (sym q)
        ∙ sym (appended_is stack (under base gs ++ item) is place m p (length gs) start a value))
        (at is m p (next_place a) start stack ((under base gs ++ item) ++ new a value) base gs (item ++ new a value) true (append_assoc (under base gs) item (new a value)) size (omega arith) kept (λ x. s))

    -- One more waits, with these words.
    pushed_is : (some start : ℕ) → eqb some 0 ≡ false → start ≡ length (under base gs) → pushed stack (length gs) some start ≡ piled (taller stack (length gs) (tight some) (length (under base gs))) (suc (length gs))
    unfolding pushed
    pushed_is some start e s = rw (e, s, add-one (length gs))

    waits : (next k start : ℕ) (c ws : List ℤ) → c ≡ under base gs ++ ws
        → At is (suc n) next m p base (wait k 0 ws ∷ gs) [] false (view (stood next m p (suc (length gs)) start c) (taller stack (length gs) k (length (under base gs))) (over c is))
    unfolding under
    waits next k start c ws e =
        at is m p next start (taller stack (length gs) k (length (under base gs))) c base (wait k 0 ws ∷ gs) [] false (e ∙ sym (nothing_behind (under base gs ++ ws)))
        (taller_size stack (length gs) k (length (under base gs)) size) (omega arith) (held_taller (suc n) stack size base gs (omega arith) kept k ws) (λ x. absurd x)

    pub opens : (a value start : ℕ) → eqb (a / 32768 % 16) 0 ≡ false
        → At is (suc n) (next_place a) m p base (wait (tight (a / 32768 % 16)) 0 (new a value) ∷ gs) [] false (appended stack (over (under base gs ++ []) is) (standing place m p base gs [] start) a value)
    unfolding piled
    opens a value start q =
        subst (At is (suc n) (next_place a) m p base (wait (tight (a / 32768 % 16)) 0 (new a value) ∷ gs) [] false)
        (ap (λ x. view (stood (next_place a) m p x.top (start_of (standing place m p base gs [] start) (tag_bits a)) ((under base gs ++ []) ++ new a value)) x.stack (over ((under base gs ++ []) ++ new a value) is))
        (sym (pushed_is (a / 32768 % 16) (length (under base gs ++ [])) q (ap length (nothing_behind (under base gs)))))
        ∙ sym (appended_is stack (under base gs ++ []) is place m p (length gs) start a value))
        (waits (next_place a) (tight (a / 32768 % 16)) (start_of (standing place m p base gs [] start) (tag_bits a)) ((under base gs ++ []) ++ new a value) (new a value) (ap (λ c. c ++ new a value) (nothing_behind (under base gs))))

    -- A sign: its tag goes before its first part.
    pub signs : (a start : ℕ) (item : List ℤ) → eqb (a / 32768 % 16) 0 ≡ false → start ≡ length (under base gs)
        → At is (suc n) (next_place a) m p base (wait (tight (a / 32768 % 16)) 0 (to_z w32 (tag_word a) ∷ item) ∷ gs) [] false (signing stack (over (under base gs ++ item) is) (standing place m p base gs item start) a)
    unfolding signing piled view
    signs a start item q s =
        let w : ℤ = to_z w32 (tag_word a) in
        let e : length (under base gs ++ item) + 1 ≡ length (under base gs ++ (w ∷ item)) = omega (arith, length-append (under base gs) item, length-append (under base gs) (w ∷ item)) in
        subst (At is (suc n) (next_place a) m p base (wait (tight (a / 32768 % 16)) 0 (to_z w32 (tag_word a) ∷ item) ∷ gs) [] false)
        (ap (λ x. view (stood (next_place a) m p x.top start (under base gs ++ (w ∷ item))) x.stack (over (under base gs ++ (w ∷ item)) is)) (sym (pushed_is (a / 32768 % 16) start q s))
        ∙ ap (λ x. view (record { place = next_place a; top = (pushed stack (length gs) (a / 32768 % 16) start).top; len = x; start = start; matcher = m; pattern = p; cause = 0 }) (pushed stack (length gs) (a / 32768 % 16) start).stack (over (under base gs ++ (w ∷ item)) is)) (sym e)
        ∙ ap (λ x. view (record { place = next_place a; top = (pushed stack (length gs) (a / 32768 % 16) start).top; len = length (under base gs ++ item) + 1; start = start; matcher = m; pattern = p; cause = 0 }) (pushed stack (length gs) (a / 32768 % 16) start).stack x)
        (sym (ap (λ x. inserted (over (under base gs ++ item) is) (length (under base gs ++ item)) x w) s ∙ put_between (under base gs) item is w)))
        (waits (next_place a) (tight (a / 32768 % 16)) start (under base gs ++ (w ∷ item)) (w ∷ item) refl)

  -- The next part begins, behind the words so far.
  pub sections : (next start : ℕ) (item : List ℤ) → At is (suc n) next p (length (base ++ item)) (base ++ item) [] [] false (view (stood next p (length (base ++ item)) 0 start (base ++ item)) stack (over (base ++ item) is))
  unfolding under Held
  sections next start item = at is p (length (base ++ item)) next start stack (base ++ item) (base ++ item) [] [] false (sym (nothing_behind (base ++ item))) size (omega arith) tt (λ x. absurd x)
