-- Reading, as the code asks. Assumes nothing.
use Rattle.std.proofs.lemmas.Grind.{common_steps}
use Rattle.std.proofs.lemmas.List.{length-take}
use borrow.Author.Tests.{leb-true, leb-false}
use Rattle.std.proofs.Common.{◌≡◌, ℕ, ◌+◌, ◌-◌, ◌*◌, ◌<◌, ◌≤◌, List, [], ◌∷◌, length, get_or, take, refl, sym, ap, subst, ◌∙◌, arith, add-one, lt-ltb, le-ltb, eq-eqb, ne_eqb}
use Rattle.std.specs.Prelude.{zero, suc, Bool, true, false, cond, eqb, leb, min, replicate, ℤ, pos, Some, Result, Ok, Err}
use Rattle.std.specs.Cmp.Lexicographic.{pointwise}
use Rattle.notation_rules.specs.Letters.{same_word}
use Rattle.notation_scan.proofs.Laws.{same_is}
use Rattle.notation_read.specs.declared.Span.{Span}
use Rattle.notation_rules.specs.Places.{line, column_from, column}
use Rattle.notation_scan.specs.Scanned.{scanned}
use Rattle.notation_scan.specs.declared.Token.{Token}
use Rattle.notation_step.specs.Stepped.{nothing, first, view, stepped, end_of}
use Rattle.notation_step.specs.Bounds.{stepped_near}
use Rattle.notation_step.proofs.Laws.{stepped_kept}
use Rattle.notation_step.specs.declared.Stand.{Stand}
use Rattle.notation_step.specs.declared.Waiting.{Waiting}
use Rattle.notation_read.specs.Read.{numbered, name_of, found, bound_by, bound_later, resolved, adding, ran_to, Stopped, stopped, ended, going, taken, added, ran_from, no_names, ran, told, unreadable, judged, reading}
use Rattle.notation_read.specs.declared.Names.{Names}
use Rattle.notation_read.specs.declared.Named.{Named}
use Rattle.notation_read.specs.declared.Parts.{Parts}
use Rattle.notation_read.specs.declared.Fault.{Fault}
use Rattle.notation_read.specs.declared.Refusal.{Refusal}
use Rattle.notation_read.specs.declared.Refusal.TheVariants.{TooLong}

-- ---- Lines and columns: of the character behind one that is there, and of one past the end.
pub line_next : (cs : List ℕ) (i : ℕ) → i < length cs → line cs (suc i) ≡ cond (eqb (get_or cs i 0) 10) (suc (line cs i)) (line cs i)
unfolding line
line_next [] i h = absurd (omega arith)
line_next (c ∷ []) zero h = go (eqb c 10)
  where
    go : (b : Bool) → ◌≡◌ {A = ℕ} (elim b as (λ _. ℕ) [ true ↦ 2 | false ↦ 1 ]) (cond b 2 1)
    go true = refl
    go false = refl
line_next (c ∷ (d ∷ cs)) zero h = go (eqb c 10)
  where
    go : (b : Bool) → ◌≡◌ {A = ℕ} (elim b as (λ _. ℕ) [ true ↦ 2 | false ↦ 1 ]) (cond b 2 1)
    go true = refl
    go false = refl
line_next (c ∷ cs) (suc i) h = go (eqb c 10) (eqb (get_or cs i 0) 10) (line_next cs i (omega arith))
  where
    go : (b d : Bool) → line cs (suc i) ≡ cond d (suc (line cs i)) (line cs i)
        → ◌≡◌ {A = ℕ} (elim b as (λ _. ℕ) [ true ↦ suc (line cs (suc i)) | false ↦ line cs (suc i) ])
        (cond d (suc (elim b as (λ _. ℕ) [ true ↦ suc (line cs i) | false ↦ line cs i ])) (elim b as (λ _. ℕ) [ true ↦ suc (line cs i) | false ↦ line cs i ]))
    go true true e = ap suc e
    go true false e = ap suc e
    go false true e = e
    go false false e = e

-- Past the end of the text the place is the end's.
pub line_end : (cs : List ℕ) (i j : ℕ) → length cs ≤ i → i ≤ j → line cs j ≡ line cs i
unfolding line
line_end [] i j h k = refl
line_end (c ∷ cs) zero j h k = absurd (omega arith)
line_end (c ∷ cs) (suc i) zero h k = absurd (omega arith)
line_end (c ∷ cs) (suc i) (suc j) h k = ap (λ x. elim (eqb c 10) as (λ _. ℕ) [ true ↦ suc x | false ↦ x ]) (line_end cs i j (omega arith) (omega arith))

pub line_few : (cs : List ℕ) (i : ℕ) → line cs i ≤ i + 1
unfolding line
line_few [] i = omega arith
line_few (c ∷ cs) zero = omega arith
line_few (c ∷ cs) (suc i) = go (eqb c 10) (line_few cs i)
  where
    go : (b : Bool) → line cs i ≤ i + 1 → (elim b as (λ _. ℕ) [ true ↦ suc (line cs i) | false ↦ line cs i ]) ≤ suc i + 1
    go true e = omega arith
    go false e = omega arith

column_from_next : (n : ℕ) (cs : List ℕ) (i : ℕ) → i < length cs → column_from n cs (suc i) ≡ cond (eqb (get_or cs i 0) 10) 1 (suc (column_from n cs i))
unfolding column_from
column_from_next n [] i h = absurd (omega arith)
column_from_next n (c ∷ cs) zero h = go cs (eqb c 10)
  where
    go : (ds : List ℕ) (b : Bool) → ◌≡◌ {A = ℕ} (elim b as (λ _. ℕ) [ true ↦ column_from 1 ds 0 | false ↦ column_from (suc n) ds 0 ]) (cond b 1 (suc n))
    go [] true = refl
    go [] false = refl
    go (d ∷ ds) true = refl
    go (d ∷ ds) false = refl
column_from_next n (c ∷ cs) (suc i) h = go (eqb c 10) (column_from_next 1 cs i (omega arith)) (column_from_next (suc n) cs i (omega arith))
  where
    go : (b : Bool) → column_from 1 cs (suc i) ≡ cond (eqb (get_or cs i 0) 10) 1 (suc (column_from 1 cs i)) → column_from (suc n) cs (suc i) ≡ cond (eqb (get_or cs i 0) 10) 1 (suc (column_from (suc n) cs i))
        → ◌≡◌ {A = ℕ} (elim b as (λ _. ℕ) [ true ↦ column_from 1 cs (suc i) | false ↦ column_from (suc n) cs (suc i) ])
        (cond (eqb (get_or cs i 0) 10) 1 (suc (elim b as (λ _. ℕ) [ true ↦ column_from 1 cs i | false ↦ column_from (suc n) cs i ])))
    go true e f = e
    go false e f = f

pub column_next : (cs : List ℕ) (i : ℕ) → i < length cs → column cs (suc i) ≡ cond (eqb (get_or cs i 0) 10) 1 (suc (column cs i))
unfolding column
column_next = column_from_next 1

column_from_end : (n : ℕ) (cs : List ℕ) (i j : ℕ) → length cs ≤ i → i ≤ j → column_from n cs j ≡ column_from n cs i
unfolding column_from
column_from_end n [] i j h k = refl
column_from_end n (c ∷ cs) zero j h k = absurd (omega arith)
column_from_end n (c ∷ cs) (suc i) zero h k = absurd (omega arith)
column_from_end n (c ∷ cs) (suc i) (suc j) h k = go (eqb c 10) (column_from_end 1 cs i j (omega arith) (omega arith)) (column_from_end (suc n) cs i j (omega arith) (omega arith))
  where
    go : (b : Bool) → column_from 1 cs j ≡ column_from 1 cs i → column_from (suc n) cs j ≡ column_from (suc n) cs i
        → ◌≡◌ {A = ℕ} (elim b as (λ _. ℕ) [ true ↦ column_from 1 cs j | false ↦ column_from (suc n) cs j ]) (elim b as (λ _. ℕ) [ true ↦ column_from 1 cs i | false ↦ column_from (suc n) cs i ])
    go true e f = e
    go false e f = f

pub column_end : (cs : List ℕ) (i j : ℕ) → length cs ≤ i → i ≤ j → column cs j ≡ column cs i
unfolding column
column_end = column_from_end 1

column_from_few : (n : ℕ) (cs : List ℕ) (i : ℕ) → 1 ≤ n → column_from n cs i ≤ n + i
unfolding column_from
column_from_few n [] i h = omega arith
column_from_few n (c ∷ cs) zero h = omega arith
column_from_few n (c ∷ cs) (suc i) h = go (eqb c 10) (column_from_few 1 cs i (omega arith)) (column_from_few (suc n) cs i (omega arith))
  where
    go : (b : Bool) → column_from 1 cs i ≤ 1 + i → column_from (suc n) cs i ≤ suc n + i → (elim b as (λ _. ℕ) [ true ↦ column_from 1 cs i | false ↦ column_from (suc n) cs i ]) ≤ n + suc i
    go true e f = omega arith
    go false e f = omega arith

pub column_few : (cs : List ℕ) (i : ℕ) → column cs i ≤ i + 1
unfolding column
column_few cs i = let h = column_from_few 1 cs i (omega arith) in omega arith

-- The place of the first character, also where the text has none.
pub line_first : (cs : List ℕ) → 1 ≡ line cs 0
unfolding line
line_first [] = refl
line_first (c ∷ cs) = refl

pub column_first : (cs : List ℕ) → 1 ≡ column cs 0
unfolding column column_from
column_first [] = refl
column_first (c ∷ cs) = refl

-- As far as the part of the text before a character goes.
module _ (cs : List ℕ) (i m at : ℕ) (q : m ≡ min at (length cs)) where
  here : i < length (take m cs) → get_or (take m cs) i 0 ≡ get_or cs i 0
  here h = grind (arith, common_steps)

  pub line_more : (n : ℕ) → i < length (take m cs) → n ≡ line cs i → get_or (take m cs) i 0 ≡ 10 → n + 1 ≡ line cs (i + 1)
  line_more n h e f = let s : i < length cs = grind (arith, common_steps) in rw (add-one i, line_next cs i s, ← here h, f, e) (add-one (line cs i))

  pub line_still : (n : ℕ) → i < length (take m cs) → n ≡ line cs i → (get_or (take m cs) i 0 ≡ 10 → ⊥) → n ≡ line cs (i + 1)
  line_still n h e f = let s : i < length cs = grind (arith, common_steps) in rw (add-one i, line_next cs i s, ← here h, ne_eqb (get_or (take m cs) i 0) 10 f) e

  pub column_again : i < length (take m cs) → get_or (take m cs) i 0 ≡ 10 → 1 ≡ column cs (i + 1)
  column_again h f = let s : i < length cs = grind (arith, common_steps) in rw (add-one i, column_next cs i s, ← here h, f)

  pub column_more : (n : ℕ) → i < length (take m cs) → n ≡ column cs i → (get_or (take m cs) i 0 ≡ 10 → ⊥) → n + 1 ≡ column cs (i + 1)
  column_more n h e f = let s : i < length cs = grind (arith, common_steps) in rw (add-one i, column_next cs i s, ← here h, ne_eqb (get_or (take m cs) i 0) 10 f, e) (add-one (column cs i))

  -- Behind the part the character's place is that of its end.
  pub line_at_end : length (take m cs) ≤ i → i ≤ length (take m cs) → line cs i ≡ line cs at
  line_at_end h k = let n : length (take m cs) ≡ min m (length cs) = length-take m cs in go (leb at (length cs)) refl n
    where
      go : (b : Bool) → leb at (length cs) ≡ b → length (take m cs) ≡ min m (length cs) → line cs i ≡ line cs at
      go true e n = let l : at ≤ length cs = leb-true at (length cs) e in let z : i ≡ at = omega arith in ap (line cs) z
      go false e n = let l : length cs < at = leb-false at (length cs) e in sym (line_end cs i at (omega arith) (omega arith))

  pub column_at_end : length (take m cs) ≤ i → i ≤ length (take m cs) → column cs i ≡ column cs at
  column_at_end h k = let n : length (take m cs) ≡ min m (length cs) = length-take m cs in go (leb at (length cs)) refl n
    where
      go : (b : Bool) → leb at (length cs) ≡ b → length (take m cs) ≡ min m (length cs) → column cs i ≡ column cs at
      go true e n = let l : at ≤ length cs = leb-true at (length cs) e in let z : i ≡ at = omega arith in ap (column cs) z
      go false e n = let l : length cs < at = leb-false at (length cs) e in sym (column_end cs i at (omega arith) (omega arith))

pub ruleset place_rules = (line_first, column_first, line_more, line_still, column_again, column_more, line_at_end, column_at_end)

-- ---- Names.
pub find_next : (text : List ℕ) (spans : List Span) (k j : ℕ) (w name : List ℕ) → k ≡ suc j → name ≡ name_of text spans j → pointwise eqb name w ≡ false → found text spans k w ≡ found text spans j w
unfolding found
find_next text spans k j w name q e h =
    ap (λ x. found text spans x w) q ∙ ap (λ b. cond b (Some j) (found text spans j w)) (ap (λ x. same_word x w) (sym e) ∙ sym (same_is name w) ∙ h)

module _ (text w : List ℕ) (at n m : ℕ) (t : Token) (v : Bool) (h : bound_later text w n at ≡ v) (q : n ≡ suc m) (e : t ≡ scanned text at) where
  pub later_next : (t.kind ≡ 24 → ⊥) → bound_by text w t ≡ false → bound_later text w m t.to ≡ v
  unfolding bound_later
  later_next k b = sym one ∙ ap (λ x. bound_later text w x at) (sym q) ∙ h
    where
      one : bound_later text w (suc m) at ≡ bound_later text w m t.to
      one = rw (← e, ne_eqb t.kind 24 k, b)

-- ---- Token by token.
module _ (text : List ℕ) (stack : List Waiting) (words : List ℤ) (v : Stopped) (ns : Names) (s : Stand) (at n : ℕ) (h : ran_from text n at ns (view s stack words) ≡ v) where
  pub run_over : n ≡ 0 → stopped (ran_to s (end_of stack s) (length text)) words ≡ v
  unfolding ran_from ended view
  run_over q = ap (λ x. ran_from text x at ns (view s stack words)) (sym q) ∙ h

  pub run_end : (t : Token) → t ≡ scanned text at → t.kind ≡ 24 → stopped (ran_to s (end_of stack s) (length text)) words ≡ v
  unfolding ran_from ended view
  run_end t e k = sym (go n) ∙ h
    where
      go : (x : ℕ) → ran_from text x at ns (view s stack words) ≡ stopped (ran_to s (end_of stack s) (length text)) words
      go zero = refl
      go (suc x) = rw (← e, k)

  module _ (t : Token) (m : ℕ) (q : n ≡ suc m) (e : t ≡ scanned text at) (k : t.kind ≡ 24 → ⊥) (ns' : Names) (nd : Named) (s' : Stand) (stack' : List Waiting) (words' : List ℤ)
      (g : nd ≡ resolved text t ns) (a : ns' ≡ adding ns nd.kind t) (f : view s' stack' words' ≡ stepped stack words s nd.kind nd.value) where
    turn : ran_from text (suc m) at ns (view s stack words) ≡ going (ran_from text m t.to) t (added text t ns) (taken text t ns (view s stack words))
    unfolding ran_from
    turn =
        subst
        (λ (x : Token). ran_from text (suc m) at ns (view s stack words)
        ≡ cond (eqb x.kind 24) (ended text (view s stack words)) (going (ran_from text m x.to) x (added text x ns) (taken text x ns (view s stack words))))
        (sym e) refl
        ∙ ap (λ y. cond y (ended text (view s stack words)) (going (ran_from text m t.to) t (added text t ns) (taken text t ns (view s stack words)))) (ne_eqb t.kind 24 k)

    goes : going (ran_from text m t.to) t ns' (view s' stack' words') ≡ v
    unfolding added taken view
    goes =
        ap (λ x. going (ran_from text m t.to) t x (view s' stack' words')) a ∙ ap (going (ran_from text m t.to) t (adding ns nd.kind t)) f
        ∙ ap (λ x. going (ran_from text m t.to) t (adding ns x.kind t) (stepped stack words s x.kind x.value)) g
        ∙ sym turn ∙ ap (λ x. ran_from text x at ns (view s stack words)) (sym q) ∙ h

    pub run_refused : (s'.cause ≡ 0 → ⊥) → stopped (Err (record { cause = numbered s'.cause; at = t.from })) words' ≡ v
    unfolding going view
    run_refused c =
        ap (λ b. cond b (ran_from text m t.to ns' (view s' stack' words')) (stopped (Err (record { cause = numbered s'.cause; at = t.from })) words')) (sym (ne_eqb s'.cause 0 c)) ∙ goes

    pub run_next : s'.cause ≡ 0 → ran_from text m t.to ns' (view s' stack' words') ≡ v
    unfolding going view
    run_next c =
        ap (λ b. cond b (ran_from text m t.to ns' (view s' stack' words')) (stopped (Err (record { cause = numbered s'.cause; at = t.from })) words')) (sym (eq-eqb s'.cause 0 c)) ∙ goes

pub run_start : (text : List ℕ) (s : Stand) (stack : List Waiting) (words : List ℤ) (ns : Names) → s ≡ first → stack ≡ replicate 16384 nothing → ns ≡ no_names
    → ran_from text (length text - 0) 0 ns (view s stack words) ≡ ran text words
unfolding ran
run_start text s stack words ns d e f = let q : length text - 0 ≡ length text = omega arith in rw (q, d, e, f)

pub none_first : (s : Stand) → s ≡ first → (s.len ≤ 3 * 0) × (s.top ≤ 0)
unfolding first
none_first s e = rw e (omega arith, omega arith)

module _ (stack stack' : List Waiting) (ws ws' : List ℤ) (s s' : Stand) (kind value : ℕ) (e : view s' stack' ws' ≡ stepped stack ws s kind value) where
  pub run_len : s'.len ≤ s.len + 3
  unfolding view
  run_len = let q : s'.len ≡ (stepped stack ws s kind value).stand.len = ap (λ v. v.stand.len) e in let b = (stepped_near stack ws s kind value).len in omega arith

  pub run_top : s'.top ≤ s.top + 1
  unfolding view
  run_top = let q : s'.top ≡ (stepped stack ws s kind value).stand.top = ap (λ v. v.stand.top) e in let b = (stepped_near stack ws s kind value).top in omega arith

  pub run_kept : length ws' ≡ length ws
  unfolding view
  run_kept = ap (λ v. length v.words) e ∙ stepped_kept stack ws s kind value

-- ---- A rule, or a refusal.
pub rule_long : (text : List ℕ) (ws : List ℤ) → 16384 < length text → told (Err TooLong) ws ≡ reading text ws
unfolding reading
rule_long text ws h = rw (lt-ltb 16384 (length text) h)

module _ (text : List ℕ) (ws z : List ℤ) (e : Result Parts Fault) (h : length text ≤ 16384) (q : stopped e z ≡ ran text (pos 0 ∷ [])) where
  short : judged text ws e (ran text ws) ≡ reading text ws
  unfolding reading stopped
  short =
      ap (λ x. judged text ws x.ran (ran text ws)) q
      ∙ ap (λ y. cond y (told (Err TooLong) ws) (judged text ws (ran text (pos 0 ∷ [])).ran (ran text ws))) (sym (le-ltb 16384 (length text) h))

pub rule_refused : (text : List ℕ) (ws z : List ℤ) (f : Fault) (u : Refusal) → length text ≤ 16384 → stopped (Err f) z ≡ ran text (pos 0 ∷ []) → u ≡ unreadable text f → told (Err u) ws ≡ reading text ws
unfolding judged
rule_refused text ws z f u h q e = ap (λ x. told (Err x) ws) e ∙ short text ws z (Err f) h q

pub rule_read : (text : List ℕ) (ws z ns : List ℤ) (p : Parts) (r : Result Parts Fault) → length text ≤ 16384 → stopped (Ok p) z ≡ ran text (pos 0 ∷ []) → stopped r ns ≡ ran text ws → told (Ok p) ns ≡ reading text ws
unfolding judged stopped
rule_read text ws z ns p r h q e = ap (λ x. told (Ok p) x.words) e ∙ short text ws z (Ok p) h q
