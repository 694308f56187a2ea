-- The names that the code finds are those that the notation finds, and its tokens with variables for names are the notation's.
use Prim.Native.Nat.{ℕ, zero, suc, ◌+◌, ◌-◌, ◌≤◌, ◌<◌}
use Rattle.std.proofs.Common.{arith, add-one, ◌∙◌, length-drop, drop_of_length-le, get_or-set_same, get_or-set_other}
use Rattle.std.specs.Prelude.{◌≡◌, Bool, true, false, cond, ◌||◌, List, [], ◌∷◌, length, drop, set, eqb, ltb, ℤ, pos, None, Some}
use Rattle.std.specs.Prelude.{Option as Answer}
use Rattle.std.proofs.Math.Path.{refl, ap}
use Rattle.std.proofs.Math.Option.{Option, none, some}
use borrow.Author.Tests.{lt-ltb}
use Rattle.std.proofs.Math.Seq.{slice}
use Rattle.rules.specs.Limits.{variables_limit}
use Rattle.notation_rules.specs.Tokens.{bound_twice, over_limit, Raw, binds, uses, wrong}
use Rattle.notation_rules.specs.Tokens.{Token as Resolved}
use Rattle.notation_rules.specs.Letters.{same_word, full}
use Rattle.notation_rules.specs.Names.{find, bound_in, missing, resolve}
use Rattle.notation_rules.specs.Places.{◌from◌, spots, bare}
use Rattle.notation_scan.specs.Scanned.{whole_at, advanced, token, scan_from, nothing, scanned}
use Rattle.notation_scan.specs.declared.Begun.{Begun as Code}
use Rattle.notation_scan.specs.declared.Token.{Token}
use Rattle.notation_read.specs.Read.{nowhere, span_of, name_of, found, bound_by, bound_later}
use Rattle.notation_read.specs.declared.Span.{Span}
use Rattle.notation_same.specs.Chars.{token_of, All, pick}
use Rattle.notation_grammar.specs.Ranges.{in_text}
use Rattle.notation_same.specs.Scans.{Bytes, raw_of, spotted}
use Rattle.notation_same.proofs.Scans.{from_index}

-- The names of a table, the last one first.
unfoldable pub names_of : List ℕ → List Span → ℕ → List (List ℕ)
unfolding name_of
names_of text spans zero = []
names_of text spans (suc k) = name_of text spans k ∷ names_of text spans k

pub names_count : (text : List ℕ) (spans : List Span) (k : ℕ) → length (names_of text spans k) ≡ k
unfolding names_of
names_count text spans zero = refl
names_count text spans (suc k) = ap suc (names_count text spans k)

-- The library's option as that of the notation's definitions.
unfoldable pub less : Answer ℕ → Option ℕ
less None = none
less (Some k) = some k

pub found_same : (text : List ℕ) (spans : List Span) (w : List ℕ) (k : ℕ) → find w (names_of text spans k) ≡ less (found text spans k w)
unfolding find names_of found less
found_same text spans w zero = refl
found_same text spans w (suc k) = go (same_word (name_of text spans k) w) (names_count text spans k) (found_same text spans w k)
  where
    go : (b : Bool) → length (names_of text spans k) ≡ k → find w (names_of text spans k) ≡ less (found text spans k w)
        → ◌≡◌ {A = Option ℕ} (elim b as (λ _. Option ℕ) [ true ↦ some (length (names_of text spans k)) | false ↦ find w (names_of text spans k) ]) (less (cond b (Some k) (found text spans k w)))
    go true e i = ap some e
    go false e i = i

-- ---- A token by its number.
every : (P : ℕ → Type 0) → All P 0 34 → (k : ℕ) → k < 34 → P k
every P a k h = pick P 34 0 k a (omega arith) (omega arith)

pub bound_token : (value : ℕ) (b u w : List ℕ) (ts : List Raw) (k : ℕ) → k < 34 → bound_in w (token_of k value b u ∷ ts) ≡ cond (eqb k 21) (same_word b w || bound_in w ts) (bound_in w ts)
unfolding bound_in token_of All
bound_token value b u w ts = every (λ k. bound_in w (token_of k value b u ∷ ts) ≡ cond (eqb k 21) (same_word b w || bound_in w ts) (bound_in w ts))
    (refl, (refl, (refl, (refl, (refl, (refl, (refl, (refl, (refl, (refl, (refl, (refl, (refl, (refl, (refl, (refl, (refl, (refl, (refl, (refl, (refl, (refl, (refl, (refl, (refl, (refl, (refl, (refl, (refl, (refl, (refl, (refl, (refl, (refl, tt))))))))))))))))))))))))))))))))))

-- What a token becomes where names are variables, and the names from there on.
unfoldable pub binds_to : List (List ℕ) → List ℕ → Option ℕ → List Raw → List Resolved
unfolding resolve
binds_to es b none ts = elim (ltb (length es) variables_limit) [ true ↦ binds (pos (length es)) ∷ resolve (b ∷ es) ts | false ↦ wrong over_limit ∷ resolve es ts ]
binds_to es b (some v) ts = wrong bound_twice ∷ resolve es ts

unfoldable pub uses_to : List (List ℕ) → List ℕ → Option ℕ → List Raw → List Resolved
unfolding resolve bound_in missing
uses_to es u none ts = wrong (missing (bound_in u ts)) ∷ resolve es ts
uses_to es u (some v) ts = uses (pos v) ∷ resolve es ts

pub binds_to_lem : (es : List (List ℕ)) (b : List ℕ) (ts : List Raw) → resolve es (binds b ∷ ts) ≡ binds_to es b (find b es) ts
unfolding resolve binds_to
binds_to_lem es b ts = go (find b es)
  where
    go : (o : Option ℕ) → ◌≡◌ {A = List Resolved} (elim o as (λ _. List Resolved) [ none ↦ elim (ltb (length es) variables_limit) as (λ _. List Resolved) [ true ↦ binds (pos (length es)) ∷ resolve (b ∷ es) ts | false ↦ wrong over_limit ∷ resolve es ts ] | some v ↦ wrong bound_twice ∷ resolve es ts ]) (binds_to es b o ts)
    go none = refl
    go (some v) = refl

pub uses_to_lem : (es : List (List ℕ)) (u : List ℕ) (ts : List Raw) → resolve es (uses u ∷ ts) ≡ uses_to es u (find u es) ts
unfolding resolve uses_to
uses_to_lem es u ts = go (find u es)
  where
    go : (o : Option ℕ) → ◌≡◌ {A = List Resolved} (elim o as (λ _. List Resolved) [ none ↦ wrong (missing (bound_in u ts)) ∷ resolve es ts | some v ↦ uses (pos v) ∷ resolve es ts ]) (uses_to es u o ts)
    go none = refl
    go (some v) = refl

pub resolve_token : (es : List (List ℕ)) (value : ℕ) (b u : List ℕ) (z : ℤ) (ts : List Raw) (k : ℕ) → k < 34
    → resolve es (token_of k value b u ∷ ts) ≡ cond (eqb k 21) (binds_to es b (find b es) ts) (cond (eqb k 22) (uses_to es u (find u es) ts) (token_of k value z z ∷ resolve es ts))
unfolding resolve token_of All
resolve_token es value b u z ts =
    every (λ k. resolve es (token_of k value b u ∷ ts) ≡ cond (eqb k 21) (binds_to es b (find b es) ts) (cond (eqb k 22) (uses_to es u (find u es) ts) (token_of k value z z ∷ resolve es ts)))
    (refl, (refl, (refl, (refl, (refl, (refl, (refl, (refl, (refl, (refl, (refl, (refl, (refl, (refl, (refl, (refl, (refl, (refl, (refl, (refl, (refl, (binds_to_lem es b ts, (uses_to_lem es u ts, (refl, (refl, (refl, (refl, (refl, (refl, (refl, (refl, (refl, (refl, (refl, tt))))))))))))))))))))))))))))))))))

-- ---- Where a token of the code ends.
ends_within : (text cs : List ℕ) (b : Code) (i : ℕ) → i + length cs ≡ length text → (i ≤ (scan_from text b i cs).to) × ((scan_from text b i cs).to ≤ length text)
unfolding scan_from token
ends_within text [] b i l = (omega arith, omega arith)
ends_within text (c ∷ cs) b i l = go (whole_at b c) (ends_within text cs (advanced b c i (i + 1)) (i + 1) (omega arith))
  where
    go : (t : Bool) → (i + 1 ≤ (scan_from text (advanced b c i (i + 1)) (i + 1) cs).to) × ((scan_from text (advanced b c i (i + 1)) (i + 1) cs).to ≤ length text)
        → (i ≤ (cond t (token text b i) (scan_from text (advanced b c i (i + 1)) (i + 1) cs)).to) × ((cond t (token text b i) (scan_from text (advanced b c i (i + 1)) (i + 1) cs)).to ≤ length text)
    go true e = (omega arith, omega arith)
    go false e = let a = e.0 in (omega arith, e.1)

pub goes_on_lem : (text : List ℕ) (at : ℕ) → at ≤ length text → eqb (scanned text at).kind 24 ≡ false → (at < (scanned text at).to) × ((scanned text at).to ≤ length text)
unfolding scanned nothing scan_from
goes_on_lem text at h k = go (drop at text) refl k
  where
    go : (cs : List ℕ) → drop at text ≡ cs → eqb (scan_from text (nothing at) at cs).kind 24 ≡ false → (at < (scan_from text (nothing at) at cs).to) × ((scan_from text (nothing at) at cs).to ≤ length text)
    go [] d e = let z : ◌≡◌ {A = Bool} true false = e in let y : ◌≡◌ {A = ℕ} 0 1 = cc in absurd (omega arith)
    go (c ∷ cs) d e =
        let q : length (drop at text) ≡ length text - at = length-drop at text in
        let r : length (drop at text) ≡ suc (length cs) = ap length d in
        let p = ends_within text cs (advanced (nothing at) c at (at + 1)) (at + 1) (omega arith) in
        let a = p.0 in (omega arith, p.1)

-- ---- A name that is bound later.
either_way : (e p x : Bool) → cond e (p || x) x ≡ cond (cond e p false) true x
either_way true true x = refl
either_way true false x = refl
either_way false p x = refl

one_token : (text w : List ℕ) (t : Token) (ts : List Raw) (x : Bool) → t.kind < 34 → bound_in w ts ≡ x → bound_in w (raw_of text t ∷ ts) ≡ cond (bound_by text w t) true x
unfolding raw_of bound_by
one_token text w t ts x h e =
    bound_token t.value (slice t.name t.to text) (slice t.from t.to text) w ts t.kind h
    ∙ ap (λ y. cond (eqb t.kind 21) (same_word (slice t.name t.to text) w || y) y) e ∙ either_way (eqb t.kind 21) (same_word (slice t.name t.to text) w) x

pub later_same : (text : List ℕ) → Bytes text → (w : List ℕ) (left at : ℕ) → at ≤ length text → length text ≤ at + left
    → bound_in w (bare (spots (full []) 0 (drop at text))) ≡ bound_later text w left at
unfolding bound_later bound_in bare spots spotted
later_same text bytes w zero at h l = ap (λ cs. bound_in w (bare (spots (full []) 0 cs))) (drop_of_length-le text {i = at} (omega arith))
later_same text bytes w (suc left) at h l =
    ap (λ xs. bound_in w (bare xs)) (from_index text bytes 0 at h) ∙ go (eqb (scanned text at).kind 24) refl
    (λ k. later_same text bytes w left (scanned text at).to (goes_on_lem text at h k).1 (let a = (goes_on_lem text at h k).0 in omega arith))
  where
    go : (t : Bool) → eqb (scanned text at).kind 24 ≡ t → (eqb (scanned text at).kind 24 ≡ false → bound_in w (bare (spots (full []) 0 (drop (scanned text at).to text))) ≡ bound_later text w left (scanned text at).to)
        → bound_in w (bare (cond t [] (raw_of text (scanned text at) from (length text - (scanned text at).from) ∷ spots (full []) 0 (drop (scanned text at).to text))))
        ≡ cond t false (cond (bound_by text w (scanned text at)) true (bound_later text w left (scanned text at).to))
    go true e i = refl
    go false e i = one_token text w (scanned text at) (bare (spots (full []) 0 (drop (scanned text at).to text))) (bound_later text w left (scanned text at).to) (in_text text at h).0 (i e)

-- ---- One name more.
module _ (spans : List Span) (k : ℕ) (x : Span) (l : length spans ≡ 16) (h : k < 16) where
  put_here : span_of (set spans k x) k ≡ x
  unfolding span_of
  put_here = rw (lt-ltb k 16 h) (get_or-set_same spans k x nowhere (omega arith))

  put_there : (j : ℕ) → j < k → span_of (set spans k x) j ≡ span_of spans j
  unfolding span_of
  put_there j i = rw (lt-ltb j 16 (omega arith)) (get_or-set_other spans k j x nowhere (λ e. absurd (omega (arith, e))))

module _ (text : List ℕ) (spans : List Span) (k : ℕ) (x : Span) (l : length spans ≡ 16) (h : k < 16) where
  names_there : (j : ℕ) → j ≤ k → names_of text (set spans k x) j ≡ names_of text spans j
  unfolding names_of name_of
  names_there zero i = refl
  names_there (suc j) i = rw (put_there spans k x l h j (omega arith), names_there j (omega arith))

  pub names_more : names_of text (set spans k x) (k + 1) ≡ slice x.from x.to text ∷ names_of text spans k
  unfolding names_of name_of
  names_more =
      ap (names_of text (set spans k x)) (add-one k)
      ∙ ap (λ y. slice y.from y.to text ∷ names_of text (set spans k x) k) (put_here spans k x l h) ∙ ap (λ y. slice x.from x.to text ∷ y) (names_there k (omega arith))
