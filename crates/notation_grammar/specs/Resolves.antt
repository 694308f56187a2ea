-- The token that the code takes up, with a variable for a name, is the notation's, and so are the names from there on.
use Prim.Native.Nat.{ℕ, zero, suc, ◌+◌, ◌≤◌, ◌<◌}
use native.Mathlib.Omega.{arith}
use Rattle.std.proofs.Math.Path.{◌≡◌, refl, ap, subst}
use Rattle.std.proofs.Common.{sym, ◌∙◌, lt-ltb, ltb-true, length-set}
use Rattle.std.specs.Prelude.{Bool, length, drop, set, eqb, pos, None, Some}
use Rattle.std.specs.Prelude.{Option as Answer}
use Rattle.std.proofs.Math.Bool.{true, false, cond}
use mathlib.Core.List.{List, [], ◌∷◌}
use Rattle.std.proofs.lemmas.Bool.{eqb-false}
use Rattle.std.proofs.Math.Seq.{slice}
use Rattle.std.proofs.Math.Dec.{ltb}
use Rattle.notation_rules.specs.Tokens.{Raw, binds, uses, wrong, bound_twice, over_limit}
use Rattle.notation_rules.specs.Tokens.{Token as Resolved}
use Rattle.notation_rules.specs.Letters.{same_word, full}
use Rattle.notation_rules.specs.Names.{find, bound_in, missing, resolve}
use Rattle.notation_rules.specs.Places.{spots, bare}
use Rattle.notation_scan.specs.declared.Token.{Token}
use Rattle.notation_read.specs.Read.{name_of, found, bound_later, plain, binding_by, binding_of, using_by, using_of, resolved, adding}
use Rattle.notation_read.specs.declared.Span.{Span}
use Rattle.notation_read.specs.declared.Names.{Names}
use Rattle.notation_read.specs.declared.Named.{Named}
use Rattle.notation_same.specs.Chars.{token_of}
use Rattle.notation_same.specs.Scans.{Bytes, raw_of}
use Rattle.notation_grammar.specs.Steps.{tok, Small}
use Rattle.notation_grammar.specs.Names.{names_of, names_count, less, found_same, binds_to, uses_to, resolve_token, later_same, names_more}

-- The table of names has sixteen places.
pub record Named' (ns : Names) : Type 0 where
  pub spans : length ns.spans ≡ 16
  pub few : ns.count ≤ 16

abbrev pub names_in : List ℕ → Names → List (List ℕ)
names_in text ns = names_of text ns.spans ns.count

-- The code's token, and its names from there on, are the notation's: the tokens rs, with the tokens ts not resolved yet behind.
pub record Same (text : List ℕ) (ns : Names) (t : Token) (rs : List Resolved) (ts : List Raw) (n : Named) : Type 0 where
  pub is : rs ≡ tok n.kind n.value ∷ resolve (names_in text (adding ns n.kind t)) ts
  pub kind : n.kind < 34
  pub real : n.kind ≡ 24 → ⊥
  pub small : Small n.kind n.value
  pub named : Named' (adding ns n.kind t)

-- A variable that was found is one of those there are.
unfoldable Few : ℕ → Answer ℕ → Type 0
Few n None = Unit {0}
Few n (Some k) = k < n

found_few : (text : List ℕ) (spans : List Span) (w : List ℕ) (k n : ℕ) → k ≤ n → Few n (found text spans k w)
unfolding found Few
found_few text spans w zero n h = tt
found_few text spans w (suc k) n h = go (same_word (name_of text spans k) w) (found_few text spans w k n (omega arith))
  where
    go : (b : Bool) → Few n (found text spans k w) → Few n (cond b (Some k) (found text spans k w))
    go true i = omega arith
    go false i = i

module _ (text : List ℕ) (ns : Names) (g : Named' ns) (t : Token) (ts : List Raw) where
  abbrev es : List (List ℕ)
  es = names_in text ns

  abbrev longer : Names
  longer = record { spans = set ns.spans ns.count (record { from = t.name; to = t.to }); count = ns.count + 1 }

  -- No name more.
  none_more : (k : ℕ) → eqb k 21 ≡ false → adding ns k t ≡ ns
  unfolding adding
  none_more k e = ap (λ b. cond b (cond (ltb ns.count 16) longer ns) ns) e

  kept : (rs : List Resolved) (k value : ℕ) → rs ≡ tok k value ∷ resolve es ts → k < 34 → (k ≡ 24 → ⊥) → eqb k 21 ≡ false → (k ≡ 22 → value < 16) → Same text ns t rs ts (plain k value)
  unfolding Small
  kept rs k value e l r f s =
      let a = none_more k f in
      record { is = e ∙ ap (λ x. tok k value ∷ resolve (names_in text x) ts) (sym a); kind = l; real = r; small = ((λ q. absurd (eqb-false k 21 f q)), s); named = subst Named' (sym a) g }

  -- `$` and a name.
  module _ (l : ns.count < 16) where
    one_more : adding ns 21 t ≡ longer
    unfolding adding
    one_more = ap (λ b. cond b longer ns) (lt-ltb ns.count 16 l)

    longer_is : names_in text longer ≡ slice t.name t.to text ∷ es
    longer_is = names_more text ns.spans ns.count (record { from = t.name; to = t.to }) g.spans l

    longer_named : Named' longer
    longer_named = record { spans = length-set ns.spans ns.count (record { from = t.name; to = t.to }) ∙ g.spans; few = omega arith }

    new_name : Same text ns t (binds (pos (length es)) ∷ resolve (slice t.name t.to text ∷ es) ts) ts (plain 21 ns.count)
    unfolding Small token_of
    new_name =
        record {
          is = ap (λ x. binds (pos x) ∷ resolve (slice t.name t.to text ∷ es) ts) (names_count text ns.spans ns.count)
              ∙ ap (λ x. binds (pos ns.count) ∷ resolve x ts) (sym longer_is) ∙ ap (λ x. binds (pos ns.count) ∷ resolve (names_in text x) ts) (sym one_more);
          kind = omega arith;
          real = λ e. absurd (omega arith);
          small = ((λ e. l), λ e. l);
          named = subst Named' (sym one_more) longer_named;
        }

  binding_same : (f : Answer ℕ) → Same text ns t (binds_to es (slice t.name t.to text) (less f) ts) ts (binding_by ns.count f)
  unfolding binds_to less token_of binding_by
  binding_same None = go (ltb ns.count 16) (ltb (length es) 16) refl (ap (λ x. ltb x 16) (names_count text ns.spans ns.count))
    where
      go : (b c : Bool) → ltb ns.count 16 ≡ b → c ≡ ltb ns.count 16
          → Same text ns t (elim c as (λ _. List Resolved) [ true ↦ binds (pos (length es)) ∷ resolve (slice t.name t.to text ∷ es) ts | false ↦ wrong over_limit ∷ resolve es ts ]) ts
          (cond b (plain 21 ns.count) (plain 33 0))
      go true true e f = new_name (ltb-true ns.count 16 e)
      go true false e f = let z : ◌≡◌ {A = Bool} false true = f ∙ e in let y : ◌≡◌ {A = ℕ} 0 1 = cc in absurd (omega arith)
      go false true e f = let z : ◌≡◌ {A = Bool} true false = f ∙ e in let y : ◌≡◌ {A = ℕ} 0 1 = cc in absurd (omega arith)
      go false false e f = kept (wrong over_limit ∷ resolve es ts) 33 0 refl (omega arith) (λ e. absurd (omega arith)) refl (λ e. omega arith)
  binding_same (Some j) = kept (wrong bound_twice ∷ resolve es ts) 30 0 refl (omega arith) (λ e. absurd (omega arith)) refl (λ e. omega arith)

  -- A name by itself.
  using_same : (w : List ℕ) (later : Bool) (f : Answer ℕ) → bound_in w ts ≡ later → Few 16 f → Same text ns t (uses_to es w (less f) ts) ts (using_by later f)
  unfolding uses_to less missing token_of using_by Few
  using_same w later None e h = go later e
    where
      go : (b : Bool) → bound_in w ts ≡ b → Same text ns t (wrong (missing (bound_in w ts)) ∷ resolve es ts) ts (cond b (plain 31 0) (plain 29 0))
      go true e = kept (wrong (missing (bound_in w ts)) ∷ resolve es ts) 31 0 (ap (λ b. wrong (missing b) ∷ resolve es ts) e) (omega arith) (λ e. absurd (omega arith)) refl (λ e. omega arith)
      go false e = kept (wrong (missing (bound_in w ts)) ∷ resolve es ts) 29 0 (ap (λ b. wrong (missing b) ∷ resolve es ts) e) (omega arith) (λ e. absurd (omega arith)) refl (λ e. omega arith)
  using_same w later (Some j) e h = kept (uses (pos j) ∷ resolve es ts) 22 j refl (omega arith) (λ e. absurd (omega arith)) refl (λ e. h)

-- A token of the text, whatever it is.
pub resolves : (text : List ℕ) → Bytes text → (ns : Names) → Named' ns → (t : Token) → t.kind < 34 → (eqb t.kind 24 ≡ false) → t.to ≤ length text
    → Same text ns t (resolve (names_in text ns) (raw_of text t ∷ bare (spots (full []) 0 (drop t.to text)))) (bare (spots (full []) 0 (drop t.to text))) (resolved text t ns)
unfolding resolved binding_of using_of raw_of
resolves text bytes ns g t h e l =
    let ts : List Raw = bare (spots (full []) 0 (drop t.to text)) in
    let b : List ℕ = slice t.name t.to text in
    let u : List ℕ = slice t.from t.to text in
    let es : List (List ℕ) = names_in text ns in
    subst (λ rs. Same text ns t rs ts (resolved text t ns)) (sym (resolve_token es t.value b u (pos t.value) ts t.kind h))
    (go (eqb t.kind 21) (eqb t.kind 22) refl refl)
  where
    go : (x y : Bool) → eqb t.kind 21 ≡ x → eqb t.kind 22 ≡ y
        → Same text ns t (cond x (binds_to (names_in text ns) (slice t.name t.to text) (find (slice t.name t.to text) (names_in text ns)) (bare (spots (full []) 0 (drop t.to text))))
        (cond y (uses_to (names_in text ns) (slice t.from t.to text) (find (slice t.from t.to text) (names_in text ns)) (bare (spots (full []) 0 (drop t.to text))))
        (tok t.kind t.value ∷ resolve (names_in text ns) (bare (spots (full []) 0 (drop t.to text)))))) (bare (spots (full []) 0 (drop t.to text)))
        (cond x (binding_of text t ns) (cond y (using_of text t ns) (plain t.kind t.value)))
    go true y q r = subst (λ o. Same text ns t (binds_to (names_in text ns) (slice t.name t.to text) o (bare (spots (full []) 0 (drop t.to text)))) (bare (spots (full []) 0 (drop t.to text)))
        (binding_of text t ns)) (sym (found_same text ns.spans (slice t.name t.to text) ns.count))
        (binding_same text ns g t (bare (spots (full []) 0 (drop t.to text))) (found text ns.spans ns.count (slice t.name t.to text)))
    go false true q r = let v = found_few text ns.spans (slice t.from t.to text) ns.count 16 g.few in
        subst (λ o. Same text ns t (uses_to (names_in text ns) (slice t.from t.to text) o (bare (spots (full []) 0 (drop t.to text)))) (bare (spots (full []) 0 (drop t.to text)))
        (using_of text t ns)) (sym (found_same text ns.spans (slice t.from t.to text) ns.count))
        (using_same text ns g t (bare (spots (full []) 0 (drop t.to text))) (slice t.from t.to text) (bound_later text (slice t.from t.to text) (length text) t.to)
        (found text ns.spans ns.count (slice t.from t.to text)) (later_same text bytes (slice t.from t.to text) (length text) t.to l (omega arith)) v)
    go false false q r = kept text ns g t (bare (spots (full []) 0 (drop t.to text))) (tok t.kind t.value ∷ resolve (names_in text ns) (bare (spots (full []) 0 (drop t.to text)))) t.kind t.value refl h
        (eqb-false t.kind 24 e) q (λ z. absurd (eqb-false t.kind 22 r z))
