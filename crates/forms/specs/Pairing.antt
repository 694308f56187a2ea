-- Equality of values: symmetric and transitive under every matcher; and in multisets each element may be paired with the first equal one that is left,
-- so that what a program does is what the definition says.
use Rattle.std.specs.Prelude.{ℕ, ◌≡◌, Bool, true, ◌&&◌, ◌||◌, List, [], ◌∷◌, ℤ, pos, negsuc}
use Rattle.std.proofs.Math.Path.{refl, subst}
use Rattle.std.proofs.Common.{sym, ap, ◌∙◌, inl, inr, ⊎_elim, eqb→eq, suc-ne-zero}
use Rattle.std.proofs.Math.Bool.{false}
use Rattle.std.proofs.Math.Option.{Option, none, some}
use mathlib.Core.List.Memᴰ
use Rattle.std.proofs.Math.Dec.{T, eqb_refl}
use Rattle.rules.specs.Numbers.{same}
use Rattle.rules.specs.Forms.{Matcher, something, integer, list, multiset, tuple_of, Matchers, no_matchers, ◌▸ᵐ◌, Value, int, collection, tupled, Values, empty, ◌▸◌}
use Rattle.rules.specs.Equality.{Pick, picks, behind, any, in_order, paired_off, equal, equal_parts}
use Rattle.forms.specs.Tests.{and_split, and_join, or_left, or_right, bool_ext}
use Rattle.forms.specs.Lists.{Mem}
use Rattle.forms.specs.Paired.{Ins, Paired, Equiv, exchange, paired_symm, paired_tran}

-- ---- The test of the definition decides it.

any_true : (f : Pick → Bool) (ps : List Pick) → T (any f ps) → (p : Pick) × Mem p ps × T (f p)
unfolding any
any_true f [] t = absurd t
any_true f (p ∷ ps) t = go (f p) refl t (λ s. any_true f ps s)
  where
    go : (b : Bool) → f p ≡ b → T (b || any f ps) → (T (any f ps) → (q : Pick) × Mem q ps × T (f q)) → (q : Pick) × Mem q (p ∷ ps) × T (f q)
    go true e s rec = (p, Memᴰ.head refl, subst T (sym e) tt)
    go false e s rec = let r = rec s in (r.0, Memᴰ.tail r.1, r.2)

any_intro : (f : Pick → Bool) (ps : List Pick) (p : Pick) → Mem p ps → T (f p) → T (any f ps)
unfolding any
any_intro f [] p m t = absurd (Memᴰ.not-nil m)
any_intro f (q ∷ ps) p m t = ⊎_elim
    (λ e. or_left (f q) (any f ps) (subst (λ z. T (f z)) e t))
    (λ n. or_right (f q) (any f ps) (any_intro f ps p n t))
    (Memᴰ.cases_cons m)

pick_ins : (ws : Values) (p : Pick) → Mem p (picks ws) → Ins p.one p.others ws
unfolding picks behind
pick_ins empty p m = absurd (Memᴰ.not-nil m)
pick_ins (w ▸ ws) p m = ⊎_elim
    (λ e. inl (ap (λ (z : Pick). z.one) e, ap (λ (z : Pick). z.others) e))
    (λ n. let r = Memᴰ.of_map (behind w) (picks ws) n in
    inr (r.0.others, sym (ap (λ (z : Pick). z.others) r.2), subst (λ z. Ins z r.0.others ws) (ap (λ (z : Pick). z.one) r.2) (pick_ins ws r.0 r.1)))
    (Memᴰ.cases_cons m)

ins_pick : (ws : Values) (x : Value) (us : Values) → Ins x us ws → Mem (record { one = x; others = us }) (picks ws)
unfolding picks behind
ins_pick empty x us i = absurd i
ins_pick (w ▸ ws) x us (inl i) = Memᴰ.head (λ j. record { one = i.0 j; others = i.1 j })
ins_pick (w ▸ ws) x us (inr i) = Memᴰ.tail (Memᴰ.cast (λ j. record { one = x; others = i.1 j }) (Memᴰ.map (behind w) (ins_pick ws x i.0 i.2)))

pub paired_off_true : (E : Value → Value → Bool) (vs ws : Values) → T (paired_off E vs ws) → Paired E vs ws
unfolding paired_off
paired_off_true E empty empty t = tt
paired_off_true E empty (w ▸ ws) t = t
paired_off_true E (v ▸ vs) ws t =
    let r = any_true (λ p. E v p.one && paired_off E vs p.others) (picks ws) t in
    let s = and_split (E v r.0.one) (paired_off E vs r.0.others) r.2 in
    (r.0.one, r.0.others, s.0, pick_ins ws r.0 r.1, paired_off_true E vs r.0.others s.1)

pub true_paired_off : (E : Value → Value → Bool) (vs ws : Values) → Paired E vs ws → T (paired_off E vs ws)
unfolding paired_off
true_paired_off E empty empty p = tt
true_paired_off E empty (w ▸ ws) p = p
true_paired_off E (v ▸ vs) ws p = any_intro (λ q. E v q.one && paired_off E vs q.others) (picks ws) (record { one = p.0; others = p.1 })
    (ins_pick ws p.0 p.1 p.3) (and_join (E v p.0) (paired_off E vs p.1) p.2 (true_paired_off E vs p.1 p.4))

-- ---- The greedy pairing: each element with the first equal one that is left.

-- A value in front of what is left, if anything was found.
unfoldable pub add_front : Value → Option Values → Option Values
add_front w none = none
add_front w (some us) = some (w ▸ us)

unfoldable pub without_first : (Value → Bool) → Values → Option Values
unfolding add_front
without_first f empty = none
without_first f (w ▸ ws) = elim (f w) [ true ↦ some ws | false ↦ add_front w (without_first f ws) ]

unfoldable pub greedy : (Value → Value → Bool) → Values → Values → Bool
unfolding without_first
greedy E empty empty = true
greedy E empty (w ▸ ws) = false
greedy E (v ▸ vs) ws = elim (without_first (E v) ws) [ none ↦ false | some us ↦ greedy E vs us ]

-- The first element that passes, where there is one.
record First (f : Value → Bool) (ws : Values) : Type 0 where
  u : Value
  us : Values
  is : without_first f ws ≡ some us
  place : Ins u us ws
  passes : T (f u)

first : (f : Value → Bool) (ws : Values) (x : Value) (xs : Values) → Ins x xs ws → T (f x) → First f ws
unfolding without_first
first f empty x xs i t = absurd i
first f (w ▸ ws) x xs i t = go (f w) refl i (λ ys j. first f ws x ys j t)
  where
    go : (b : Bool) → f w ≡ b → Ins x xs (w ▸ ws) → ((ys : Values) → Ins x ys ws → First f ws) → First f (w ▸ ws)
    go true e i rec = record {
      u = w;
      us = ws;
      is = ap (λ b. elim b as (λ _. Option Values) [ true ↦ some ws | false ↦ add_front w (without_first f ws) ]) e;
      place = inl (refl, refl);
      passes = subst T (sym e) tt;
    }
    go false e (inl i) rec = absurd (subst T e (subst (λ z. T (f z)) i.0 t))
    go false e (inr i) rec = let r = rec i.0 i.2 in
        record {
          u = r.u;
          us = w ▸ r.us;
          is = ap (λ b. elim b as (λ _. Option Values) [ true ↦ some ws | false ↦ add_front w (without_first f ws) ]) e ∙ ap (add_front w) r.is;
          place = inr (r.us, refl, r.place);
          passes = r.passes;
        }

some_place : (f : Value → Bool) (ws us : Values) → without_first f ws ≡ some us → (u : Value) × Ins u us ws × T (f u)
unfolding without_first
some_place f empty us e = let z : ◌≡◌ {A = ℕ} 0 1 = cc in absurd (suc-ne-zero 0 (sym z))
some_place f (w ▸ ws) us e = go (f w) refl e (λ xs k. some_place f ws xs k)
  where
    front : (o : Option Values) → add_front w o ≡ some us → (xs : Values) × (o ≡ some xs) × (us ≡ w ▸ xs)
    front none e = let z : ◌≡◌ {A = ℕ} 0 1 = cc in absurd (suc-ne-zero 0 (sym z))
    front (some xs) e = (xs, refl, cc)

    go : (b : Bool) → f w ≡ b → elim b as (λ _. Option Values) [ true ↦ some ws | false ↦ add_front w (without_first f ws) ] ≡ some us
        → ((xs : Values) → without_first f ws ≡ some xs → (u : Value) × Ins u xs ws × T (f u)) → (u : Value) × Ins u us (w ▸ ws) × T (f u)
    go true q e rec = let z : us ≡ ws = cc in (w, inl (refl, z), subst T (sym q) tt)
    go false q e rec =
        let k = front (without_first f ws) e in let r = rec k.0 k.1 in
        (r.0, inr (k.0, k.2, r.1), r.2)

module _ (E : Value → Value → Bool) (eq : Equiv E) where
  greedy_paired : (vs ws : Values) → T (greedy E vs ws) → Paired E vs ws
  unfolding greedy
  greedy_paired empty empty t = tt
  greedy_paired empty (w ▸ ws) t = t
  greedy_paired (v ▸ vs) ws t = go (without_first (E v) ws) refl t (λ us s. greedy_paired vs us s)
    where
      go : (o : Option Values) → without_first (E v) ws ≡ o → T (elim o as (λ _. Bool) [ none ↦ false | some us ↦ greedy E vs us ])
          → ((us : Values) → T (greedy E vs us) → Paired E vs us) → Paired E (v ▸ vs) ws
      go none e t rec = absurd t
      go (some us) e t rec = let r = some_place (E v) ws us e in (r.0, us, r.2, r.1, rec us t)

  paired_greedy : (vs ws : Values) → Paired E vs ws → T (greedy E vs ws)
  unfolding greedy
  paired_greedy empty empty p = tt
  paired_greedy empty (w ▸ ws) p = p
  paired_greedy (v ▸ vs) ws p =
      let r = first (E v) ws p.0 p.1 p.3 p.2 in
      subst (λ o. T (elim o as (λ _. Bool) [ none ↦ false | some us ↦ greedy E vs us ])) (sym r.is)
      (paired_greedy vs r.us (exchange E eq vs p.0 r.u p.1 r.us ws p.4 p.3 r.place
      (eq.tran r.u v p.0 (eq.symm v r.u r.passes) p.2)))

  pub greedy_is : (vs ws : Values) → paired_off E vs ws ≡ greedy E vs ws
  greedy_is vs ws = bool_ext (paired_off E vs ws) (greedy E vs ws)
      (λ t. paired_greedy vs ws (paired_off_true E vs ws t)) (λ t. true_paired_off E vs ws (greedy_paired vs ws t))

-- ---- Equality under a matcher is symmetric and transitive.

pub same_eq : (x y : ℤ) → T (same x y) → x ≡ y
unfolding same
same_eq (pos a) (pos b) t = ap pos (eqb→eq a b t)
same_eq (pos a) (negsuc b) t = absurd t
same_eq (negsuc a) (pos b) t = absurd t
same_eq (negsuc a) (negsuc b) t = ap negsuc (eqb→eq a b t)

pub same_refl : (x : ℤ) → T (same x x)
unfolding same
same_refl (pos a) = eqb_refl a
same_refl (negsuc a) = eqb_refl a

in_order_symm : (E : Value → Value → Bool) → Equiv E → (vs ws : Values) → T (in_order E vs ws) → T (in_order E ws vs)
unfolding in_order
in_order_symm E eq empty empty t = tt
in_order_symm E eq empty (w ▸ ws) t = absurd t
in_order_symm E eq (v ▸ vs) empty t = absurd t
in_order_symm E eq (v ▸ vs) (w ▸ ws) t =
    let s = and_split (E v w) (in_order E vs ws) t in and_join (E w v) (in_order E ws vs) (eq.symm v w s.0) (in_order_symm E eq vs ws s.1)

in_order_tran : (E : Value → Value → Bool) → Equiv E → (us vs ws : Values) → T (in_order E us vs) → T (in_order E vs ws) → T (in_order E us ws)
unfolding in_order
in_order_tran E eq empty empty ws s t = t
in_order_tran E eq empty (v ▸ vs) ws s t = absurd s
in_order_tran E eq (u ▸ us) empty ws s t = absurd s
in_order_tran E eq (u ▸ us) (v ▸ vs) empty s t = t
in_order_tran E eq (u ▸ us) (v ▸ vs) (w ▸ ws) s t =
    let a = and_split (E u v) (in_order E us vs) s in let b = and_split (E v w) (in_order E vs ws) t in
    and_join (E u w) (in_order E us ws) (eq.tran u v w a.0 b.0) (in_order_tran E eq us vs ws a.1 b.1)

-- The equality that a matcher's own rests on: its elements', or its parts'.
abbrev Below : Matcher → Type 0
Below something = Unit {0}
Below integer = Unit {0}
Below (list m) = Equiv (equal m)
Below (multiset m) = Equiv (equal m)
Below (tuple_of ms) = Equiv (equal_parts ms)

equal_symm : (m : Matcher) (a b : Value) → Below m → T (equal m a b) → T (equal m b a)
unfolding equal
equal_symm something a b eq t = t
equal_symm integer (int x) (int y) eq t = subst (λ z. T (same z x)) (same_eq x y t) (same_refl x)
equal_symm integer (int x) (collection ws) eq t = absurd t
equal_symm integer (int x) (tupled ws) eq t = absurd t
equal_symm integer (collection vs) b eq t = absurd t
equal_symm integer (tupled vs) b eq t = absurd t
equal_symm (list m) (int x) b eq t = absurd t
equal_symm (list m) (collection vs) (int y) eq t = absurd t
equal_symm (list m) (collection vs) (collection ws) eq t = in_order_symm (equal m) eq vs ws t
equal_symm (list m) (collection vs) (tupled ws) eq t = absurd t
equal_symm (list m) (tupled vs) b eq t = absurd t
equal_symm (multiset m) (int x) b eq t = absurd t
equal_symm (multiset m) (collection vs) (int y) eq t = absurd t
equal_symm (multiset m) (collection vs) (collection ws) eq t = true_paired_off (equal m) ws vs (paired_symm (equal m) eq vs ws (paired_off_true (equal m) vs ws t))
equal_symm (multiset m) (collection vs) (tupled ws) eq t = absurd t
equal_symm (multiset m) (tupled vs) b eq t = absurd t
equal_symm (tuple_of ms) (int x) b eq t = absurd t
equal_symm (tuple_of ms) (collection vs) b eq t = absurd t
equal_symm (tuple_of ms) (tupled vs) (int y) eq t = absurd t
equal_symm (tuple_of ms) (tupled vs) (collection ws) eq t = absurd t
equal_symm (tuple_of ms) (tupled vs) (tupled ws) eq t = eq.symm vs ws t

equal_tran : (m : Matcher) (a b c : Value) → Below m → T (equal m a b) → T (equal m b c) → T (equal m a c)
unfolding equal
equal_tran something a b c eq s t = s
equal_tran integer (int x) (int y) c eq s t = subst (λ z. T (equal integer (int z) c)) (sym (same_eq x y s)) t
equal_tran integer (int x) (collection ws) c eq s t = absurd s
equal_tran integer (int x) (tupled ws) c eq s t = absurd s
equal_tran integer (collection vs) b c eq s t = absurd s
equal_tran integer (tupled vs) b c eq s t = absurd s
equal_tran (list m) (int x) b c eq s t = absurd s
equal_tran (list m) (collection us) (int y) c eq s t = absurd s
equal_tran (list m) (collection us) (collection vs) (int z) eq s t = t
equal_tran (list m) (collection us) (collection vs) (collection ws) eq s t = in_order_tran (equal m) eq us vs ws s t
equal_tran (list m) (collection us) (collection vs) (tupled ws) eq s t = t
equal_tran (list m) (collection us) (tupled vs) c eq s t = absurd s
equal_tran (list m) (tupled us) b c eq s t = absurd s
equal_tran (multiset m) (int x) b c eq s t = absurd s
equal_tran (multiset m) (collection us) (int y) c eq s t = absurd s
equal_tran (multiset m) (collection us) (collection vs) (int z) eq s t = t
equal_tran (multiset m) (collection us) (collection vs) (collection ws) eq s t =
    true_paired_off (equal m) us ws (paired_tran (equal m) eq us vs ws (paired_off_true (equal m) us vs s) (paired_off_true (equal m) vs ws t))
equal_tran (multiset m) (collection us) (collection vs) (tupled ws) eq s t = t
equal_tran (multiset m) (collection us) (tupled vs) c eq s t = absurd s
equal_tran (multiset m) (tupled us) b c eq s t = absurd s
equal_tran (tuple_of ms) (int x) b c eq s t = absurd s
equal_tran (tuple_of ms) (collection us) b c eq s t = absurd s
equal_tran (tuple_of ms) (tupled us) (int y) c eq s t = absurd s
equal_tran (tuple_of ms) (tupled us) (collection vs) c eq s t = absurd s
equal_tran (tuple_of ms) (tupled us) (tupled vs) (int z) eq s t = t
equal_tran (tuple_of ms) (tupled us) (tupled vs) (collection ws) eq s t = t
equal_tran (tuple_of ms) (tupled us) (tupled vs) (tupled ws) eq s t = eq.tran us vs ws s t

equal_by : (m : Matcher) → Below m → Equiv (equal m)
equal_by m eq = record { symm = λ a b t. equal_symm m a b eq t; tran = λ a b c s t. equal_tran m a b c eq s t }

-- Part by part.
parts_symm : (m : Matcher) (ms : Matchers) → Equiv (equal m) → Equiv (equal_parts ms) → (vs ws : Values)
    → T (equal_parts (m ▸ᵐ ms) vs ws) → T (equal_parts (m ▸ᵐ ms) ws vs)
unfolding equal_parts
parts_symm m ms eq all empty ws t = absurd t
parts_symm m ms eq all (v ▸ vs) empty t = absurd t
parts_symm m ms eq all (v ▸ vs) (w ▸ ws) t =
    let s = and_split (equal m v w) (equal_parts ms vs ws) t in and_join (equal m w v) (equal_parts ms ws vs) (eq.symm v w s.0) (all.symm vs ws s.1)

parts_tran : (m : Matcher) (ms : Matchers) → Equiv (equal m) → Equiv (equal_parts ms) → (us vs ws : Values)
    → T (equal_parts (m ▸ᵐ ms) us vs) → T (equal_parts (m ▸ᵐ ms) vs ws) → T (equal_parts (m ▸ᵐ ms) us ws)
unfolding equal_parts
parts_tran m ms eq all empty vs ws s t = absurd s
parts_tran m ms eq all (u ▸ us) empty ws s t = absurd s
parts_tran m ms eq all (u ▸ us) (v ▸ vs) empty s t = t
parts_tran m ms eq all (u ▸ us) (v ▸ vs) (w ▸ ws) s t =
    let a = and_split (equal m u v) (equal_parts ms us vs) s in let b = and_split (equal m v w) (equal_parts ms vs ws) t in
    and_join (equal m u w) (equal_parts ms us ws) (eq.tran u v w a.0 b.0) (all.tran us vs ws a.1 b.1)

no_parts : Equiv (equal_parts no_matchers)
unfolding equal_parts
no_parts = record { symm = symm; tran = tran }
  where
    symm : (vs ws : Values) → T (equal_parts no_matchers vs ws) → T (equal_parts no_matchers ws vs)
    symm empty empty t = tt
    symm empty (w ▸ ws) t = absurd t
    symm (v ▸ vs) ws t = absurd t

    tran : (us vs ws : Values) → T (equal_parts no_matchers us vs) → T (equal_parts no_matchers vs ws) → T (equal_parts no_matchers us ws)
    tran empty empty ws s t = t
    tran empty (v ▸ vs) ws s t = absurd s
    tran (u ▸ us) vs ws s t = absurd s

-- Both values of a tag 3, its variable's and its atom's, are compared under the one matcher at the tag, also where the variable stands under another
-- of the same shape: so this says that it does not matter which of the two stands on which side, and which of several equal elements is marked off.
-- It says nothing of the variable's own matcher: {1 2} and {2 1} are equal under a multiset and not under a list.
mutual
  pub equal_equiv : (m : Matcher) → Equiv (equal m)
  equal_equiv something = equal_by something tt
  equal_equiv integer = equal_by integer tt
  equal_equiv (list m) = equal_by (list m) (equal_equiv m)
  equal_equiv (multiset m) = equal_by (multiset m) (equal_equiv m)
  equal_equiv (tuple_of ms) = equal_by (tuple_of ms) (parts_equiv ms)

  pub parts_equiv : (ms : Matchers) → Equiv (equal_parts ms)
  parts_equiv no_matchers = no_parts
  parts_equiv (m ▸ᵐ ms) = record {
    symm = λ vs ws t. parts_symm m ms (equal_equiv m) (parts_equiv ms) vs ws t;
    tran = λ us vs ws s t. parts_tran m ms (equal_equiv m) (parts_equiv ms) us vs ws s t;
  }

-- Multisets are compared by pairing each element with the first equal one that is left.
pub multisets_greedy : (m : Matcher) (vs ws : Values) → equal (multiset m) (collection vs) (collection ws) ≡ greedy (equal m) vs ws
unfolding equal
multisets_greedy m vs ws = greedy_is (equal m) (equal_equiv m) vs ws
