-- The code's run over a text is the notation's reading of its tokens.
use Prim.Native.Nat.{ℕ, zero, suc, ◌+◌, ◌-◌, ◌≤◌, ◌<◌}
use native.Mathlib.Omega.{arith}
use Rattle.std.specs.Prelude.{◌≡◌, Bool, drop, ltb, ℤ, pos, Ok, Err}
use Rattle.std.proofs.Math.Path.{refl, sym, ap, subst}
use Rattle.std.proofs.Common.{◌∙◌, eq-eqb, ne_eqb, drop_of_length-le}
use Rattle.std.proofs.Math.Bool.{true, false, cond}
use Rattle.std.proofs.Math.Option.{Option, none, some}
use mathlib.Core.List.{List, [], ◌∷◌, ◌++◌}
use Rattle.std.proofs.Math.ListN.{length, replicate, length-replicate}
use Rattle.std.proofs.Math.Dec.{eqb}
use Rattle.forms.specs.Written.{pattern_words}
use Rattle.notation_rules.specs.Tokens.{Cause, unknown_sign, misplaced, cut_short, bracket_open, unknown_name, bound_twice, used_before, out_of_range, over_limit, Outcome, done, refused, Raw, Token, mark, sign, binds, uses, number, wrong}
use Rattle.notation_rules.specs.Letters.{full, tokens}
use Rattle.notation_rules.specs.Names.{find, resolve}
use Rattle.notation_rules.specs.Places.{Spot, ◌from◌, put, spots, bare, left}
use Rattle.notation_rules.specs.Rules.{Rule, rule}
use Rattle.notation_scan.specs.Scanned.{scanned}
use Rattle.notation_scan.specs.declared.Token.{Token as Token'}
use Rattle.notation_step.specs.Stepped.{nothing, first, View, view}
use Rattle.notation_step.specs.declared.Waiting.{Waiting}
use Rattle.notation_read.specs.Read.{numbered, nowhere, no_names, resolved, ran_to, Stopped, stopped, ended, going, taken, added, ran_from, ran}
use Rattle.notation_read.specs.declared.Span.{Span}
use Rattle.notation_read.specs.declared.Names.{Names}
use Rattle.notation_read.specs.declared.Parts.{Parts}
use Rattle.notation_read.specs.declared.Fault.{Fault}
use Rattle.notation_same.specs.Scans.{Bytes, raw_of, spotted}
use Rattle.notation_same.proofs.Scans.{from_index}
use Rattle.notation_grammar.specs.Over.{over}
use Rattle.notation_grammar.specs.Waits.{under, Held}
use Rattle.notation_grammar.specs.One.{Mode, begins, Next, goes, stops, step_of, end_of, run_all}
use Rattle.notation_grammar.specs.Shapes.{cause_of, all, units_words, both_words, Stands, Follows}
use Rattle.notation_grammar.specs.Steps.{tok}
use Rattle.notation_grammar.proofs.Endings.{Finished, finished}
use Rattle.notation_grammar.proofs.Simulates.{simulates, no_cause}
use Rattle.notation_grammar.specs.Ranges.{in_text}
use Rattle.notation_grammar.specs.Names.{names_of, binds_to, uses_to, binds_to_lem, uses_to_lem, goes_on_lem}
use Rattle.notation_grammar.specs.Resolves.{Named', names_in, resolves}

-- A cause has a number.
pub some_cause : (c : Cause) → 0 < cause_of c
unfolding cause_of
some_cause unknown_sign = omega arith
some_cause misplaced = omega arith
some_cause cut_short = omega arith
some_cause bracket_open = omega arith
some_cause unknown_name = omega arith
some_cause bound_twice = omega arith
some_cause used_before = omega arith
some_cause out_of_range = omega arith
some_cause over_limit = omega arith

-- As many tokens as places.
bare_length : (xs : List Spot) → length (bare xs) ≡ length xs
unfolding bare
bare_length [] = refl
bare_length ((t from f) ∷ xs) = ap suc (bare_length xs)

resolve_length : (ts : List Raw) (es : List (List ℕ)) → length (resolve es ts) ≡ length ts
unfolding resolve binds_to uses_to
resolve_length [] es = refl
resolve_length (mark m ∷ ts) es = ap suc (resolve_length ts es)
resolve_length (sign s ∷ ts) es = ap suc (resolve_length ts es)
resolve_length (binds w ∷ ts) es = ap length (binds_to_lem es w ts) ∙ go (find w es) (λ us. resolve_length ts us)
  where
    which : (b : Bool) → ((us : List (List ℕ)) → length (resolve us ts) ≡ length ts)
        → length {A = Token} (elim b as (λ _. List Token) [ true ↦ binds (pos (length es)) ∷ resolve (w ∷ es) ts | false ↦ wrong over_limit ∷ resolve es ts ]) ≡ suc (length ts)
    which true i = ap suc (i (w ∷ es))
    which false i = ap suc (i es)

    go : (o : Option ℕ) → ((us : List (List ℕ)) → length (resolve us ts) ≡ length ts) → length (binds_to es w o ts) ≡ suc (length ts)
    go none i = which (ltb (length es) 16) i
    go (some v) i = ap suc (i es)
resolve_length (uses w ∷ ts) es = ap length (uses_to_lem es w ts) ∙ go (find w es) (resolve_length ts es)
  where
    go : (o : Option ℕ) → length (resolve es ts) ≡ length ts → length (uses_to es w o ts) ≡ suc (length ts)
    go none i = ap suc i
    go (some v) i = ap suc i
resolve_length (number n ∷ ts) es = ap suc (resolve_length ts es)
resolve_length (wrong c ∷ ts) es = ap suc (resolve_length ts es)

-- ---- What the code tells of what the notation read.
unfoldable pub rule_words : Rule → List ℤ
unfolding both_words pattern_words
rule_words (rule u m p) = both_words u m ++ pattern_words p

unfoldable pub rule_parts : Rule → Parts
unfolding units_words both_words pattern_words
rule_parts (rule u m p) = record { matcher = length (units_words u); pattern = length (both_words u m); end = length (both_words u m ++ pattern_words p) }

abbrev pub fault_of : (cause at : ℕ) → Fault
fault_of c at = record { cause = numbered c; at = at }

module _ (text : List ℕ) (lent : List ℤ) where
  unfoldable pub Tells : Outcome Rule → List Spot → Stopped → Type 0
  unfolding rule_words rule_parts cause_of over left stopped
  Tells (done r) xs s = s ≡ stopped (Ok (rule_parts r)) (over (rule_words r) lent)
  Tells (refused c q) xs s = (s.ran ≡ Err (fault_of (cause_of c) (length text - left q xs))) × (q ≤ length xs)

  -- The text ends.
  ends_here : (n : ℕ) (o : Outcome Rule) (v : View) → Finished lent n o v → Tells o [] (ended text v)
  unfolding Finished Tells ended ran_to rule_words rule_parts stopped left
  ends_here n (done (rule u m p)) v f =
      ap (λ x. stopped (cond (eqb x 0) (Ok (record { matcher = v.stand.matcher; pattern = v.stand.pattern; end = v.stand.len })) (Err (fault_of x (length text)))) v.words) f.0
      ∙ ap (λ x. stopped (Ok (record { matcher = x; pattern = v.stand.pattern; end = v.stand.len })) v.words) f.1
      ∙ ap (λ x. stopped (Ok (record { matcher = length (units_words u); pattern = x; end = v.stand.len })) v.words) f.2
      ∙ ap (λ x. stopped (Ok (record { matcher = length (units_words u); pattern = length (both_words u m); end = x })) v.words) f.3
      ∙ ap (λ x. stopped (Ok (record { matcher = length (units_words u); pattern = length (both_words u m); end = length (both_words u m ++ pattern_words p) })) x) f.4
  ends_here n (refused c r) v f =
      let z = f.1 in
      let parts : Parts = record { matcher = v.stand.matcher; pattern = v.stand.pattern; end = v.stand.len } in (
        ap (λ x. cond (eqb x 0) (Ok parts) (Err (fault_of x (length text)))) f.0
            ∙ ap (λ b. cond b (Ok parts) (Err (fault_of (cause_of c) (length text)))) (ne_eqb (cause_of c) 0 (λ e. let l = some_cause c in absurd (omega arith)))
            ∙ ap (λ x. Err (fault_of (cause_of c) x)) (let l : length text ≡ length text - 0 = omega arith in l),
        omega arith,
      )

  -- A token that is passed over changes no place behind it.
  further : (o : Outcome Rule) (t : Raw) (f : ℕ) (xs : List Spot) (s : Stopped) → Tells o xs s → Tells o (t from f ∷ xs) s
  unfolding Tells left
  further (done r) t f xs s h = h
  further (refused c q) t f xs s h = let b = h.1 in (
    h.0 ∙ ap (λ x. Err (fault_of (cause_of c) (length text - elim x as (λ _. ℕ) [ true ↦ f | false ↦ left q xs ]))) (sym (ne_eqb q (suc (length xs)) (λ e. absurd (omega arith)))),
    omega arith,
  )

  -- A token is taken up.
  passes : (n : ℕ) (t : Token') (f : ℕ) (raw : Raw) (xs : List Spot) (ts : List Token) (ns : Names) (k : Names → View → Stopped) (o : Next) (w : View) → length ts ≡ length xs → t.from ≤ length text
      → f ≡ length text - t.from → Follows lent n o w → ((y : Mode) → Stands lent n y w → Tells (run_all y ts) xs (k ns w))
      → Tells (elim o as (λ _. Outcome Rule) [ goes y ↦ run_all y ts | stops c ↦ refused c (suc (length ts)) ]) (raw from f ∷ xs) (going k t ns w)
  unfolding Follows Tells going stopped left
  passes n t f raw xs ts ns k (goes y) w l h e a i =
      subst (Tells (run_all y ts) (raw from f ∷ xs)) (sym (ap (λ b. cond b (k ns w) (stopped (Err (fault_of w.stand.cause t.from)) w.words)) (eq-eqb w.stand.cause 0 (no_cause lent n y w a))))
      (further (run_all y ts) raw f xs (k ns w) (i y a))
  passes n t f raw xs ts ns k (stops c) w l h e a i =
      subst (Tells (refused c (suc (length ts))) (raw from f ∷ xs))
      (sym (ap (λ b. cond b (k ns w) (stopped (Err (fault_of w.stand.cause t.from)) w.words)) (ne_eqb w.stand.cause 0 (λ z. let x = some_cause c in absurd (omega arith))))) (
        ap (λ x. Err (fault_of x t.from)) a
            ∙ ap (λ x. Err (fault_of (cause_of c) x))
            (sym (ap (λ b. length text - elim b as (λ _. ℕ) [ true ↦ f | false ↦ left (suc (length ts)) xs ]) (eq-eqb (suc (length ts)) (suc (length xs)) (ap suc l)) ∙ (let z : length text - f ≡ t.from = omega arith in z))),
        omega arith,
      )

  module _ (bytes : Bytes text) where
    reads : (more at n : ℕ) (ns : Names) (v : View) (x : Mode) → at ≤ length text → length text ≤ at + more → n + more ≤ 16384 → Named' ns → Stands lent n x v
        → Tells (run_all x (resolve (names_in text ns) (bare (spots (full []) 0 (drop at text))))) (spots (full []) 0 (drop at text)) (ran_from text more at ns v)
    unfolding ran_from run_all resolve bare spots tokens put spotted taken added
    reads zero at n ns v x h l b g s =
        subst (λ cs. Tells (run_all x (resolve (names_in text ns) (bare (spots (full []) 0 cs)))) (spots (full []) 0 cs) (ended text v)) (sym (drop_of_length-le text {i = at} (omega arith)))
        (ends_here n (end_of x) v (finished lent n x v s))
    reads (suc more) at n ns v x h l b g s =
        subst (λ xs. Tells (run_all x (resolve (names_in text ns) (bare xs))) xs (ran_from text (suc more) at ns v)) (sym (from_index text bytes 0 at h))
        (go (eqb (scanned text at).kind 24) refl
        (λ e y w q z. reads more (scanned text at).to (suc n) (added text (scanned text at) ns) w y (goes_on_lem text at h e).1 (let a = (goes_on_lem text at h e).0 in omega arith) (omega arith) q z))
      where
        go : (c : Bool) → eqb (scanned text at).kind 24 ≡ c
            → (eqb (scanned text at).kind 24 ≡ false → (y : Mode) (w : View) → Named' (added text (scanned text at) ns) → Stands lent (suc n) y w
            → Tells (run_all y (resolve (names_in text (added text (scanned text at) ns)) (bare (spots (full []) 0 (drop (scanned text at).to text))))) (spots (full []) 0 (drop (scanned text at).to text))
            (ran_from text more (scanned text at).to (added text (scanned text at) ns) w))
            → Tells (run_all x (resolve (names_in text ns) (bare (cond c [] (raw_of text (scanned text at) from (length text - (scanned text at).from) ∷ spots (full []) 0 (drop (scanned text at).to text))))))
            (cond c [] (raw_of text (scanned text at) from (length text - (scanned text at).from) ∷ spots (full []) 0 (drop (scanned text at).to text)))
            (cond c (ended text v) (going (ran_from text more (scanned text at).to) (scanned text at) (added text (scanned text at) ns) (taken text (scanned text at) ns v)))
        go true e i = ends_here n (end_of x) v (finished lent n x v s)
        go false e i =
            let t = scanned text at in
            let a = in_text text at h in
            let r = resolves text bytes ns g t a.0 e (goes_on_lem text at h e).1 in
            let xs : List Spot = spots (full []) 0 (drop t.to text) in
            let k = resolved text t ns in
            subst (λ rs. Tells (run_all x rs) (raw_of text t from (length text - t.from) ∷ xs) (going (ran_from text more t.to) t (added text t ns) (taken text t ns v))) (sym r.is)
            (passes (suc n) t (length text - t.from) (raw_of text t) xs (resolve (names_in text (added text t ns)) (bare xs)) (added text t ns) (ran_from text more t.to) (step_of x (tok k.kind k.value)) (taken text t ns v)
            (resolve_length (bare xs) (names_in text (added text t ns)) ∙ bare_length xs) a.1 refl (simulates lent n (omega arith) k.kind k.value r.kind r.real r.small x v s)
            (λ y z. i e y (taken text t ns v) r.named z))

  -- From the beginning.
  pub reads_all : Bytes text → length text ≤ 16384 → Tells (run_all begins (resolve [] (bare (spots (full []) 0 text)))) (spots (full []) 0 text) (ran text lent)
  unfolding ran first no_names view names_of Stands all under Held over
  reads_all bytes h =
      reads bytes (length text) 0 0 no_names (view first (replicate 16384 nothing) lent) begins (omega arith) (omega arith) (omega arith)
      (record { spans = length-replicate {A = Span} 16 nowhere; few = omega arith })
      (record { stack = replicate 16384 nothing; start = 0; same = refl; size = length-replicate {A = Waiting} 16384 nothing; deep = omega arith; held = tt; starts = λ x. absurd x })
